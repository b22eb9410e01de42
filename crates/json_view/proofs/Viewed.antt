-- What serde_json says of a value's kind, in the words of the readers.
use Rattle.std.proofs.Common.{◌≡◌, List, [], ◌∷◌, map, is_some, Some, Ok, refl, ap, ◌∙◌, sym, ℕ}
use Rattle.serde_json.specs.Data.{Data, null, boolean, number, string, array, object}
use Rattle.serde_json.specs.Find.{as_null, as_array, as_object}
use Rattle.serde_json.specs.View.{view, items_view}
use Rattle.serde_json.specs.declared.value.Value.{Value}
use Rattle.waf_model.specs.Json.{is_null, is_object, list_at, elements}

pub is_null_view : (d : Data) → is_some (as_null d) ≡ is_null d
is_null_view null = refl
is_null_view (boolean b) = refl
is_null_view (number n) = refl
is_null_view (string s) = refl
is_null_view (array ds) = refl
is_null_view (object ms) = refl

pub is_object_view : (d : Data) → is_some (as_object d) ≡ is_object d
is_object_view null = refl
is_object_view (boolean b) = refl
is_object_view (number n) = refl
is_object_view (string s) = refl
is_object_view (array ds) = refl
is_object_view (object ms) = refl

-- the elements of a list of values are their views
pub elements_of_views : (vs : List Value) → elements (items_view vs) ≡ map view vs
elements_of_views [] = refl
elements_of_views (v ∷ vs) = ap (λ ds. view v ∷ ds) (elements_of_views vs)

pub list_of : (d : Data) (path : List ℕ) (vs : List Value) → Some (items_view vs) ≡ as_array d → list_at d path ≡ Ok (map view vs)
list_of null path vs e = cc
list_of (boolean b) path vs e = cc
list_of (number n) path vs e = cc
list_of (string s) path vs e = cc
list_of (array ds) path vs e = let same : items_view vs ≡ ds = cc in ap Ok (ap elements (sym same) ∙ elements_of_views vs)
list_of (object ms) path vs e = cc
