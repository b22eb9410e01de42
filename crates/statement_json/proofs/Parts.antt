-- A loop over the statements of a list that has read a part of them.
use Rattle.std.proofs.Common.{◌≡◌, ℕ, ◌+◌, List, [], ◌∷◌, ◌++◌, append-nil, append_assoc, Result, Ok, Err, refl, ap, sym, ◌∙◌}
use Rattle.serde_json.specs.Data.{Data}
use Rattle.waf_model.specs.Gives.{◌>>=◌}
use Rattle.waf_model.specs.Json.{index_path}
use Rattle.waf_model.specs.declared.read_fault.ReadFault.{ReadFault}
use Rattle.waf_model.specs.declared.statement.Statement.{Statement}
use Rattle.statement_json.specs.Statements.{Reading, parts_from}

-- what was read in front of what is to be read
abbrev pub in_front : List Statement → Result (List Statement × ℕ) ReadFault → Result (List Statement × ℕ) ReadFault
in_front done more = more >>= λ rest. Ok (done ++ rest.0, rest.1)

-- the statements before `index` were read as `done`, `seen` were read then, and `rest` is left
abbrev pub Behind : Reading → List Statement → ℕ → List Data → ℕ → List Data → List ℕ → ℕ → Type 0
Behind inner done index rest seen all path first = parts_from inner 0 all path first ≡ in_front done (parts_from inner index rest path seen)

nothing_in_front : (more : Result (List Statement × ℕ) ReadFault) → more ≡ in_front [] more
nothing_in_front (Ok rest) = refl
nothing_in_front (Err fault) = refl

one_more_in_front : (done : List Statement) (one : Statement) (more : Result (List Statement × ℕ) ReadFault)
    → in_front done (more >>= λ rest. Ok (one ∷ rest.0, rest.1)) ≡ in_front (done ++ one ∷ []) more
one_more_in_front done one (Ok rest) = ap (λ statements. Ok (statements, rest.1)) (sym (append_assoc done (one ∷ []) rest.0))
one_more_in_front done one (Err fault) = refl

pub behind_none : (inner : Reading) (all : List Data) (path : List ℕ) (seen : ℕ) → Behind inner [] 0 all seen all path seen
behind_none inner all path seen = nothing_in_front (parts_from inner 0 all path seen)

pub behind_more : (inner : Reading) (done : List Statement) (index : ℕ) (d : Data) (rest all : List Data) (path at : List ℕ) (seen now first : ℕ) (one : Statement)
    → Behind inner done index (d ∷ rest) seen all path first → at ≡ index_path path index → inner d at seen ≡ Ok (one, now) → Behind inner (done ++ one ∷ []) (index + 1) rest now all path first
behind_more inner done index d rest all path at seen now first one behind is gave =
    let here : inner d (index_path path index) seen ≡ Ok (one, now) = ap (λ p. inner d p seen) (sym is) ∙ gave in
    behind ∙ ap (λ r. in_front done (r >>= λ one. parts_from inner (index + 1) rest path one.1 >>= λ more. Ok (one.0 ∷ more.0, more.1))) here
    ∙ one_more_in_front done one (parts_from inner (index + 1) rest path now)

pub behind_fault : (inner : Reading) (done : List Statement) (index : ℕ) (d : Data) (rest all : List Data) (path at : List ℕ) (seen first : ℕ) (fault : ReadFault)
    → Behind inner done index (d ∷ rest) seen all path first → at ≡ index_path path index → inner d at seen ≡ Err fault → parts_from inner 0 all path first ≡ Err fault
behind_fault inner done index d rest all path at seen first fault behind is gave =
    let here : inner d (index_path path index) seen ≡ Err fault = ap (λ p. inner d p seen) (sym is) ∙ gave in
    behind ∙ ap (λ r. in_front done (r >>= λ one. parts_from inner (index + 1) rest path one.1 >>= λ more. Ok (one.0 ∷ more.0, more.1))) here

pub behind_all : (inner : Reading) (done : List Statement) (index : ℕ) (all : List Data) (path : List ℕ) (seen first : ℕ)
    → Behind inner done index [] seen all path first → parts_from inner 0 all path first ≡ Ok (done, seen)
behind_all inner done index all path seen first behind = behind ∙ ap (λ statements. Ok (statements, seen)) (append-nil done)
