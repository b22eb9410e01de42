-- Which labels the key of a label match means (AWS WAF Developer Guide, "Label match rule statement"; what is said of
-- keys is this project's own).
use Rattle.std.specs.Prelude.{◌≡◌, ℕ, List, [], ◌∷◌, ◌++◌, codes, Bool, ◌==◌, Any, if◌then◌else◌}
use Rattle.std.specs.List.{ends_with, starts_with}
use Rattle.std.specs.Str.{bytes_eq}
use Rattle.waf_model.specs.declared.matching.LabelScope.{LabelScope}
use Rattle.waf_model.specs.declared.matching.LabelScope.TheVariants as scopes

-- a key that begins `awswaf:` is taken as it is, any other behind the namespace of its web ACL or group
abbrev pub full_key : List ℕ → List ℕ → List ℕ
full_key key namespace = if starts_with ◌==◌ key (codes "awswaf:") then key else namespace ++ key

-- with a `:` behind it, unless it ends so
abbrev pub ended : List ℕ → List ℕ
ended key = if ends_with ◌==◌ key (codes ":") then key else key ++ 58 ∷ []

-- under LABEL the label is the key; under NAMESPACE the key, ended by `:`, is a prefix of it
abbrev pub label_holds : LabelScope → List ℕ → List ℕ → List ℕ → Bool
label_holds scopes.Label key namespace label = bytes_eq label (full_key key namespace)
label_holds scopes.Namespace key namespace label = starts_with ◌==◌ label (ended (full_key key namespace))

-- the label is one of these
abbrev pub IsAmong : List (List ℕ) → List ℕ → Type 0
IsAmong labels label = Any (λ one. label ≡ one) labels
