-- Reading goes on with the value of a member, at the member's path.
use Rattle.std.proofs.Common.{◌≡◌, ℕ, List, Result, Ok, refl, ap, sym, ◌∙◌}
use Rattle.serde_json.specs.Data.{Data}
use Rattle.waf_model.specs.Gives.{◌>>=◌}
use Rattle.waf_model.specs.Json.{member_at, member_path}
use Rattle.waf_model.specs.declared.read_fault.ReadFault.{ReadFault}

-- what is read of a member that is there
pub on_member : {A : Type 0} (read : Data → List ℕ → Result A ReadFault) (d found : Data) (name path at : List ℕ) → member_at d name path ≡ Ok found → at ≡ member_path path name
    → (member_at d name path >>= λ value. read value (member_path path name)) ≡ read found at
on_member read d found name path at gave is = ap (λ r. r >>= λ value. read value (member_path path name)) gave ∙ ap (read found) (sym is)

-- what is read of any value that was found
pub on_value : {A B : Type 0} (read : B → List ℕ → Result A ReadFault) (r : Result B ReadFault) (found : B) (p at : List ℕ) → r ≡ Ok found → at ≡ p
    → (r >>= λ value. read value p) ≡ read found at
on_value read r found p at gave is = ap (λ r. r >>= λ value. read value p) gave ∙ ap (read found) (sym is)
