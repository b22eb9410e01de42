-- A member that is left out, or has another value, holds floats as that value does.
use Rattle.std.proofs.Common.{◌≡◌, ℕ, List, [], ◌∷◌, String, Global, Bool, true, false, ◌||◌, if◌then◌else◌, Some, None, refl, ap}
use Rattle.std.specs.Map.{values_of}
use Rattle.std.specs.Str.{bytes_eq}
use Rattle.key_text.specs.Edited.{edited_has_float}
use Rattle.key_text.specs.Keys.{other_members, changed_members, without, with_value}
use Rattle.serde_json.specs.Data.{Data, null, boolean, number, string, array, object, Members, no_members, member}
use Rattle.serde_json.specs.Find.{as_object}
use Rattle.serde_json.specs.View.{view, members_view}
use Rattle.serde_json.specs.declared.value.Value.{Value}
use Rattle.serde_json.specs.Written.{has_float, members_have_float}

-- a value of the list holds a float
abbrev pub values_have_float : List Value → Bool
values_have_float [] = false
values_have_float (v ∷ vs) = has_float (view v) || values_have_float vs

pub values_of_members : (es : List (String Global × Value)) → values_have_float (values_of es) ≡ members_have_float (members_view es)
values_of_members [] = refl
values_of_members (e ∷ es) = ap (λ r. has_float (view e.1) || r) (values_of_members es)

left_out : (b : Bool) (k : List ℕ) (d : Data) (others : Members) (rest : Bool) → rest ≡ members_have_float others
    → ((if b then false else has_float d) || rest) ≡ members_have_float (if b then others else member k d others)
left_out true k d others rest e = e
left_out false k d others rest e = ap (λ r. has_float d || r) e

members_without : (name : List ℕ) (ms : Members) → edited_has_float false name ms ≡ members_have_float (other_members name ms)
members_without name no_members = refl
members_without name (member k d ms) = left_out (bytes_eq k name) k d (other_members name ms) _ (members_without name ms)

exchanged : (b : Bool) (k : List ℕ) (d value : Data) (changed : Members) (rest : Bool) → rest ≡ members_have_float changed
    → ((if b then has_float value else has_float d) || rest) ≡ members_have_float (if b then member k value changed else member k d changed)
exchanged true k d value changed rest e = ap (λ r. has_float value || r) e
exchanged false k d value changed rest e = ap (λ r. has_float d || r) e

members_with : (name : List ℕ) (value : Data) (ms : Members) → edited_has_float (has_float value) name ms ≡ members_have_float (changed_members name value ms)
members_with name value no_members = refl
members_with name value (member k d ms) = exchanged (bytes_eq k name) k d value (changed_members name value ms) _ (members_with name value ms)

pub object_without : (other : Bool) (name : List ℕ) (d : Data) (ms : Members) → Some ms ≡ as_object d → other ≡ false → edited_has_float other name ms ≡ has_float (without name d)
object_without other name null ms e is = cc
object_without other name (boolean b) ms e is = cc
object_without other name (number n) ms e is = cc
object_without other name (string s) ms e is = cc
object_without other name (array ds) ms e is = cc
object_without other name (object ns) ms e is = let same : ms ≡ ns = cc in rw (is, same) (members_without name ns)

pub object_with : (other : Bool) (name : List ℕ) (value d : Data) (ms : Members) → Some ms ≡ as_object d → other ≡ has_float value → edited_has_float other name ms ≡ has_float (with_value name value d)
object_with other name value null ms e is = cc
object_with other name value (boolean b) ms e is = cc
object_with other name value (number n) ms e is = cc
object_with other name value (string s) ms e is = cc
object_with other name value (array ds) ms e is = cc
object_with other name value (object ns) ms e is = let same : ms ≡ ns = cc in rw (is, same) (members_with name value ns)

pub others_without : (name : List ℕ) (d : Data) → None ≡ as_object d → without name d ≡ d
others_without name null e = refl
others_without name (boolean b) e = refl
others_without name (number n) e = refl
others_without name (string s) e = refl
others_without name (array ds) e = refl
others_without name (object ms) e = cc

pub others_with : (name : List ℕ) (value d : Data) → None ≡ as_object d → with_value name value d ≡ d
others_with name value null e = refl
others_with name value (boolean b) e = refl
others_with name value (number n) e = refl
others_with name value (string s) e = refl
others_with name value (array ds) e = refl
others_with name value (object ms) e = cc
