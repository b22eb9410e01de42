-- What bytes are read as, from what serde_json says of them.
use Rattle.std.proofs.Common.{◌≡◌, ◌≤◌, ℕ, zero, suc, List, length, take, Bool, true, false, eqb, if◌then◌else◌, Option, Some, None, IsUtf8, refl, subst, arith}
use Rattle.std.proofs.lemmas.Str.{utf8_valid_len-IsUtf8, IsUtf8-nil, IsUtf8-from_is_utf8}
use Rattle.std.proofs.lemmas.Bool.Decides.{Decides-eqb}
use Rattle.std.proofs.lemmas.List.{take_all}
use Rattle.std.specs.Str.Lossy.{utf8_valid_len, valid_len_up_to}
use Rattle.serde_json.specs.Data.{Data}
use Rattle.serde_json.specs.Read.{read}
use Rattle.waf_model.specs.Json.{parsed}

within : (b : Bool) (n m : ℕ) → m ≤ n → (if b then suc n else m) ≤ suc n
within true n m h = omega arith
within false n m h = omega arith

valid_len_le : (bytes : List ℕ) (n : ℕ) → valid_len_up_to bytes n ≤ n
valid_len_le bytes zero = omega arith
valid_len_le bytes (suc n) = within _ n _ (valid_len_le bytes n)

front_passes : (b : Bool) (n m : ℕ) → m ≤ n → (if b then suc n else m) ≡ suc n → b ≡ true
front_passes true n m h e = refl
front_passes false n m h e = absurd (omega arith)

front_is_utf8 : (bytes : List ℕ) (n : ℕ) → valid_len_up_to bytes n ≡ n → IsUtf8 (take n bytes)
front_is_utf8 bytes zero e = IsUtf8-nil
front_is_utf8 bytes (suc n) e = IsUtf8-from_is_utf8 (take (suc n) bytes) (front_passes _ n _ (valid_len_le bytes n) e)

-- bytes that are valid to their end are UTF-8
all_is_utf8 : (bytes : List ℕ) → utf8_valid_len bytes ≡ length bytes → IsUtf8 bytes
unfolding utf8_valid_len
all_is_utf8 bytes e = subst IsUtf8 (take_all (length bytes) bytes (omega arith)) (front_is_utf8 bytes (length bytes) e)

pub parsed_text : (bytes : List ℕ) (d : Data) → IsUtf8 bytes → read bytes ≡ Some d → Some d ≡ parsed bytes
parsed_text bytes d utf8 e = grind (arith, utf8_valid_len-IsUtf8)

if_none : (b : Bool) (r : Option Data) → (b ≡ true → r ≡ None) → None ≡ (if b then r else None)
if_none true r h = grind arith
if_none false r h = refl

pub parsed_none : (bytes : List ℕ) → (IsUtf8 bytes → read bytes ≡ None) → None ≡ parsed bytes
parsed_none bytes h = if_none (eqb (utf8_valid_len bytes) (length bytes)) (read bytes) (λ e. h (all_is_utf8 bytes ((Decides-eqb (utf8_valid_len bytes) (length bytes)).0 e)))
