use Rattle.pattern_match.proofs.Sets.{place_in_either}
use Rattle.pattern_match.proofs.place_set.PlaceSet.union.Goals as goal

pub returns : goal.returns
returns c = place_in_either c.args.self c.args.other
