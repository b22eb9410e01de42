-- A loop over a list that has read a part of it: done so far, in front of what is read of the rest, is what is read of
-- the whole.
use Rattle.std.proofs.Common.{◌≡◌, ℕ, ◌+◌, ◌<◌, ◌≤◌, List, [], ◌∷◌, ◌++◌, map, length, drop, get_or, append-nil, append_assoc, add-one, drop-cons, Result, Ok, Err, refl, ap, sym, ◌∙◌}
use Rattle.std.proofs.lemmas.List.{drop_all}
use Rattle.serde_json.specs.Data.{Data}
use Rattle.serde_json.specs.View.{view}
use Rattle.serde_json.specs.declared.value.Value.{Value}
use Rattle.json_view.specs.Words.{each_from}
use Rattle.waf_model.specs.Gives.{◌>>=◌}
use Rattle.waf_model.specs.Json.{index_path}
use Rattle.waf_model.specs.declared.read_fault.ReadFault.{ReadFault}

-- what was read in front of what is to be read
abbrev pub in_front : {A : Type 0} → List A → Result (List A) ReadFault → Result (List A) ReadFault
in_front done more = more >>= λ rest. Ok (done ++ rest)

-- the elements before `index` were read as `done`, and `rest` is left
abbrev pub Behind : {A : Type 0} → (Data → List ℕ → Result A ReadFault) → List A → ℕ → List Data → List Data → List ℕ → Type 0
Behind read done index rest all path = each_from read 0 all path ≡ in_front done (each_from read index rest path)

nothing_in_front : {A : Type 0} (more : Result (List A) ReadFault) → more ≡ in_front [] more
nothing_in_front (Ok rest) = refl
nothing_in_front (Err fault) = refl

one_more_in_front : {A : Type 0} (done : List A) (one : A) (more : Result (List A) ReadFault)
    → in_front done (more >>= λ rest. Ok (one ∷ rest)) ≡ in_front (done ++ one ∷ []) more
one_more_in_front done one (Ok rest) = ap Ok (sym (append_assoc done (one ∷ []) rest))
one_more_in_front done one (Err fault) = refl

pub behind_none : {A : Type 0} (read : Data → List ℕ → Result A ReadFault) (all : List Data) (path : List ℕ) → Behind read [] 0 all all path
behind_none read all path = nothing_in_front (each_from read 0 all path)

pub behind_more : {A : Type 0} (read : Data → List ℕ → Result A ReadFault) (done : List A) (index : ℕ) (d : Data) (rest all : List Data) (path at : List ℕ) (one : A)
    → Behind read done index (d ∷ rest) all path → at ≡ index_path path index → read d at ≡ Ok one → Behind read (done ++ one ∷ []) (index + 1) rest all path
behind_more read done index d rest all path at one behind is gave =
    let here : read d (index_path path index) ≡ Ok one = ap (read d) (sym is) ∙ gave in
    behind ∙ ap (λ r. in_front done (r >>= λ first. each_from read (index + 1) rest path >>= λ more. Ok (first ∷ more))) here ∙ one_more_in_front done one (each_from read (index + 1) rest path)

pub behind_fault : {A : Type 0} (read : Data → List ℕ → Result A ReadFault) (done : List A) (index : ℕ) (d : Data) (rest all : List Data) (path at : List ℕ) (fault : ReadFault)
    → Behind read done index (d ∷ rest) all path → at ≡ index_path path index → read d at ≡ Err fault → each_from read 0 all path ≡ Err fault
behind_fault read done index d rest all path at fault behind is gave =
    let here : read d (index_path path index) ≡ Err fault = ap (read d) (sym is) ∙ gave in
    behind ∙ ap (λ r. in_front done (r >>= λ first. each_from read (index + 1) rest path >>= λ more. Ok (first ∷ more))) here

pub behind_all : {A : Type 0} (read : Data → List ℕ → Result A ReadFault) (done : List A) (index : ℕ) (all : List Data) (path : List ℕ)
    → Behind read done index [] all path → each_from read 0 all path ≡ Ok done
behind_all read done index all path behind = behind ∙ ap Ok (append-nil done)

-- the next value of a list of values
pub view_at : (vs : List Value) (i : ℕ) (v : Value) → i < length vs → v ≡ get_or vs i v → map view (drop i vs) ≡ view v ∷ map view (drop (i + 1) vs)
view_at vs i v within is = rw (add-one, drop-cons vs i v, ← is)

-- nothing is left behind the last value
pub none_left : (vs : List Value) (i : ℕ) → length vs ≤ i → map view (drop i vs) ≡ []
none_left vs i past = rw drop_all
