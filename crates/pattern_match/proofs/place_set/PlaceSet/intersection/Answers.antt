use Rattle.pattern_match.proofs.Sets.{place_in_both}
use Rattle.pattern_match.proofs.place_set.PlaceSet.intersection.Goals as goal

pub returns : goal.returns
returns c = place_in_both c.args.self c.args.other
