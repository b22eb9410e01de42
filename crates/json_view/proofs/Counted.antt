-- How many members of an object are there, by its values.
use Rattle.std.proofs.Common.{◌≡◌, ℕ, ◌+◌, List, [], ◌∷◌, if◌then◌else◌, Some, None, String, Global, refl, ap}
use Rattle.std.specs.Map.{values_of}
use Rattle.serde_json.specs.Data.{Data, null, boolean, number, string, array, object, Members}
use Rattle.serde_json.specs.Find.{as_object}
use Rattle.serde_json.specs.View.{view, members_view}
use Rattle.serde_json.specs.declared.value.Value.{Value}
use Rattle.waf_model.specs.Json.{is_null, member_count, present_members}

-- how many of the values are not null
abbrev pub present_values : List Value → ℕ
present_values [] = 0
present_values (v ∷ vs) = if is_null (view v) then present_values vs else present_values vs + 1

pub present_members_view : (es : List (String Global × Value)) → present_values (values_of es) ≡ present_members (members_view es)
present_members_view [] = refl
present_members_view (e ∷ es) = ap (λ n. if is_null (view e.1) then n else n + 1) (present_members_view es)

pub members_of_object : (d : Data) (ms : Members) → Some ms ≡ as_object d → present_members ms ≡ member_count d
members_of_object null ms e = cc
members_of_object (boolean b) ms e = cc
members_of_object (number n) ms e = cc
members_of_object (string s) ms e = cc
members_of_object (array ds) ms e = cc
members_of_object (object ns) ms e = let same : ms ≡ ns = cc in ap present_members same

pub members_of_others : (d : Data) → None ≡ as_object d → 0 ≡ member_count d
members_of_others null e = refl
members_of_others (boolean b) e = refl
members_of_others (number n) e = refl
members_of_others (string s) e = refl
members_of_others (array ds) e = refl
members_of_others (object ns) e = cc
