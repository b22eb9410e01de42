use Rattle.waf_laws.proofs.WrittenLaws.{written_at_place}
use Rattle.waf_laws.proofs.written.written_at_places.Goals as goal

pub returns : goal.returns
returns c bundle written whole = written_at_place bundle whole written
