-- A sink that took a front of a text takes more of it.
use Rattle.std.proofs.Common.{ℕ, List, ◌++◌, Option, Some, None, sym, ap, ◌∙◌, append_assoc}
use Rattle.std.specs.Option.{option_map}
use Rattle.waf_base.specs.Taken.{Appends}
use Rattle.wafreview_run.specs.Fronts.{TookBefore}

-- one piece after another
pub appended : (a b c : Option (List ℕ)) (x y : List ℕ) → Appends a b x → Appends b c y → Appends a c (x ++ y)
appended None b c x y first second = second ∙ ap (λ (o : Option (List ℕ)). option_map (λ (t : List ℕ). t ++ y) o) first
appended (Some t) b c x y first second = second ∙ ap (λ (o : Option (List ℕ)). option_map (λ (u : List ℕ). u ++ y) o) first ∙ ap (λ (u : List ℕ). Some u) (append_assoc t x y)

-- what stands before the rest was taken, and then what stands before the rest of that
pub took_more : (a b c : Option (List ℕ)) (text rest left : List ℕ) → TookBefore a b text rest → TookBefore b c rest left → TookBefore a c text left
took_more a b c text rest left first second = (
  first.0 ++ second.0,
  first.1 ∙ ap (λ (r : List ℕ). first.0 ++ r) second.1 ∙ sym (append_assoc first.0 second.0 left),
  appended a b c first.0 second.0 first.2 second.2,
)
