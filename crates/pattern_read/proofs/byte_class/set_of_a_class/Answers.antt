use Rattle.pattern_read.proofs.ClassLemmas.{class_bytes}
use Rattle.pattern_read.proofs.byte_class.set_of_a_class.Goals as goal

pub returns : goal.returns
returns c = class_bytes
