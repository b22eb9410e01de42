-- What serde_json says of texts and numbers, in the words of the readers.
use Rattle.std.proofs.Common.{◌≡◌, List, Some, Ok, ap, ℕ}
use Rattle.serde_json.specs.Data.{Data, null, boolean, number, string, array, object}
use Rattle.serde_json.specs.Find.{as_str}
use Rattle.waf_model.specs.Json.{text_at}

pub text_of : (d : Data) (path : List ℕ) (s : List ℕ) → Some s ≡ as_str d → text_at d path ≡ Ok s
text_of null path s e = cc
text_of (boolean b) path s e = cc
text_of (number n) path s e = cc
text_of (string t) path s e = ap Ok (let same : t ≡ s = cc in same)
text_of (array ds) path s e = cc
text_of (object ms) path s e = cc
