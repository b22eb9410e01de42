-- A loop over the rule groups of a list that has read a part of them.
use Rattle.std.proofs.Common.{◌≡◌, ℕ, ◌+◌, List, [], ◌∷◌, ◌++◌, append-nil, append_assoc, Result, Ok, Err, refl, ap, sym, ◌∙◌}
use Rattle.serde_json.specs.Data.{Data}
use Rattle.statement_json.specs.declared.encoding.Encoding.{Encoding}
use Rattle.waf_model.specs.Gives.{◌>>=◌}
use Rattle.waf_model.specs.Json.{index_path}
use Rattle.waf_model.specs.declared.group.Group.{Group}
use Rattle.waf_model.specs.declared.read_fault.ReadFault.{ReadFault}
use Rattle.waf_model.specs.declared.sets.RegexSet.{RegexSet}
use Rattle.set_json.specs.Lists.{group_at, groups_from}

-- what was read in front of what is to be read
abbrev pub in_front : List Group → Result (List Group × ℕ) ReadFault → Result (List Group × ℕ) ReadFault
in_front done more = more >>= λ rest. Ok (done ++ rest.0, rest.1)

-- the groups before `index` were read as `done`, `seen` statements were read then, and `rest` is left
abbrev pub Behind : List RegexSet → Encoding → List Group → ℕ → List Data → ℕ → List Data → List ℕ → ℕ → Type 0
Behind sets encoding done index rest seen all path first =
    groups_from sets encoding 0 all path first ≡ in_front done (groups_from sets encoding index rest path seen)

nothing_in_front : (more : Result (List Group × ℕ) ReadFault) → more ≡ in_front [] more
nothing_in_front (Ok rest) = refl
nothing_in_front (Err fault) = refl

one_more_in_front : (done : List Group) (one : Group) (more : Result (List Group × ℕ) ReadFault)
    → in_front done (more >>= λ rest. Ok (one ∷ rest.0, rest.1)) ≡ in_front (done ++ one ∷ []) more
one_more_in_front done one (Ok rest) = ap (λ groups. Ok (groups, rest.1)) (sym (append_assoc done (one ∷ []) rest.0))
one_more_in_front done one (Err fault) = refl

pub behind_none : (sets : List RegexSet) (encoding : Encoding) (all : List Data) (path : List ℕ) (seen : ℕ) → Behind sets encoding [] 0 all seen all path seen
behind_none sets encoding all path seen = nothing_in_front (groups_from sets encoding 0 all path seen)

pub behind_more : (sets : List RegexSet) (encoding : Encoding) (done : List Group) (index : ℕ) (d : Data) (rest all : List Data) (path at : List ℕ) (seen now first : ℕ) (one : Group)
    → Behind sets encoding done index (d ∷ rest) seen all path first → at ≡ index_path path index → group_at sets encoding d at seen ≡ Ok (one, now)
    → Behind sets encoding (done ++ one ∷ []) (index + 1) rest now all path first
behind_more sets encoding done index d rest all path at seen now first one behind is gave =
    let here : group_at sets encoding d (index_path path index) seen ≡ Ok (one, now) = ap (λ p. group_at sets encoding d p seen) (sym is) ∙ gave in
    behind ∙ ap (λ r. in_front done (r >>= λ one. groups_from sets encoding (index + 1) rest path one.1 >>= λ more. Ok (one.0 ∷ more.0, more.1))) here
    ∙ one_more_in_front done one (groups_from sets encoding (index + 1) rest path now)

pub behind_fault : (sets : List RegexSet) (encoding : Encoding) (done : List Group) (index : ℕ) (d : Data) (rest all : List Data) (path at : List ℕ) (seen first : ℕ) (fault : ReadFault)
    → Behind sets encoding done index (d ∷ rest) seen all path first → at ≡ index_path path index → group_at sets encoding d at seen ≡ Err fault
    → groups_from sets encoding 0 all path first ≡ Err fault
behind_fault sets encoding done index d rest all path at seen first fault behind is gave =
    let here : group_at sets encoding d (index_path path index) seen ≡ Err fault = ap (λ p. group_at sets encoding d p seen) (sym is) ∙ gave in
    behind ∙ ap (λ r. in_front done (r >>= λ one. groups_from sets encoding (index + 1) rest path one.1 >>= λ more. Ok (one.0 ∷ more.0, more.1))) here

pub behind_all : (sets : List RegexSet) (encoding : Encoding) (done : List Group) (index : ℕ) (all : List Data) (path : List ℕ) (seen first : ℕ)
    → Behind sets encoding done index [] seen all path first → groups_from sets encoding 0 all path first ≡ Ok (done, seen)
behind_all sets encoding done index all path seen first behind = behind ∙ ap (λ groups. Ok (groups, seen)) (append-nil done)
