-- The namespaces that are given, and those that are made, are namespaces.
use Rattle.std.proofs.Common.{◌≡◌, ℕ, List, ◌++◌, ◌==◌, codes, Bool, true, false, ◌&&◌, length, take, drop, ◌-◌, refl}
use Rattle.std.proofs.lemmas.Bool.Decides.{Decides-eqb}
use Rattle.std.proofs.lemmas.Slice.Eq.{starts_is, ends_is}
use Rattle.std.specs.List.{ends_with, starts_with}
use Rattle.waf_model.specs.WebAcl.{IsNamespace}
use Rattle.acl_json.specs.Namespaces.{is_namespace, namespace_of}

both_true : (a b : Bool) → (a && b) ≡ true → (a ≡ true) × (b ≡ true)
both_true true b e = (refl, e)
both_true false b e = absurd (cc)

pub given_is : (text : List ℕ) → is_namespace text ≡ true → IsNamespace text
given_is text e =
    let tests = both_true (starts_with ◌==◌ text (codes "awswaf:")) (ends_with ◌==◌ text (codes ":")) e in (
      (drop 7 text, (starts_is Decides-eqb text (codes "awswaf:") (starts_with ◌==◌ text (codes "awswaf:")) refl).0 tests.0),
      (take (length text - 1) text, (ends_is Decides-eqb text (codes ":") (ends_with ◌==◌ text (codes ":")) refl).0 tests.1),
    )

pub made_is : (kind account name : List ℕ) → IsNamespace (namespace_of kind account name)
made_is kind account name = ((account ++ kind ++ name ++ codes ":", refl), (codes "awswaf:" ++ account ++ kind ++ name, refl))
