-- Answers that are read are lawful.
use Rattle.std.proofs.Common.{◌≡◌, ℕ, ◌+◌, List, [], ◌∷◌, codes, Bool, true, false, ◌&&◌, ◌==◌, All, IfOk, IsTrue, Option, Some, None, Result, Ok, Err, if◌then◌else◌, refl}
use Rattle.std.proofs.lemmas.List.Elements.{All-nil, All-cons}
use Rattle.std.specs.List.{list_all, starts_with}
use Rattle.serde_json.specs.Data.{Data}
use Rattle.answer_book.specs.AnswersReading.{answers_at, answers_of, answers_reading, group_answer_at, groups_at, is_managed_label, label_at, labels_at, statements_at, tokens_at, verdict_at}
use Rattle.json_view.specs.Words.{each_from, ensured, optional_list_at, text_member_at}
use Rattle.waf_model.specs.Alike.{IsLawful}
use Rattle.waf_model.specs.Gives.{◌>>=◌}
use Rattle.waf_model.specs.Json.{index_path, member_path, parsed, text_at}
use Rattle.waf_model.specs.Letters.{is_label_byte}
use Rattle.waf_model.specs.declared.answers.Answers.{Answers}
use Rattle.waf_model.specs.declared.answers.GroupAnswer.{GroupAnswer}
use Rattle.waf_model.specs.declared.read_fault.ReadFault.{ReadFault}
use Rattle.waf_model.specs.declared.read_fault.ReadFault.TheVariants as faults

-- what holds of all that is read on holds of what is read
onward : {A B : Type 0} (P : B → Type 0) (r : Result A ReadFault) (next : A → Result B ReadFault) → ((a : A) → IfOk (next a) P) → IfOk (r >>= next) P
onward P (Ok a) next holds = holds a
onward P (Err fault) next holds = tt

onward_with : {A B : Type 0} (Q : A → Type 0) (P : B → Type 0) (r : Result A ReadFault) (next : A → Result B ReadFault) → IfOk r Q → ((a : A) → Q a → IfOk (next a) P) → IfOk (r >>= next) P
onward_with Q P (Ok a) next first holds = holds a first
onward_with Q P (Err fault) next first holds = tt

-- what holds of each element that is read holds of the list
each_keeps : {A : Type 0} (P : A → Type 0) (read : Data → List ℕ → Result A ReadFault) → ((d : Data) (path : List ℕ) → IfOk (read d path) P)
    → (index : ℕ) (all : List Data) (path : List ℕ) → IfOk (each_from read index all path) (All P)
each_keeps P read keeps index [] path = All-nil P
each_keeps P read keeps index (d ∷ ds) path =
    onward_with P (All P) (read d (index_path path index)) _ (keeps d (index_path path index)) (λ one good.
    onward_with (All P) (All P) (each_from read (index + 1) ds path) _ (each_keeps P read keeps (index + 1) ds path) (λ rest others. All-cons P one rest good others))

-- the label begins so
abbrev IsManaged : List ℕ → Type 0
IsManaged label = IsTrue (starts_with ◌==◌ label (codes "awswaf:managed:"))

begins : (first second : Bool) → (first && second) ≡ true → first ≡ true
begins true second both = refl
begins false second both = both

managed : (text : List ℕ) (b : Bool) (fault : ReadFault) → is_managed_label text ≡ b → IfOk (ensured b fault >>= λ labelled. Ok text) IsManaged
managed text true fault is = begins (starts_with ◌==◌ text (codes "awswaf:managed:")) (list_all is_label_byte text) is
managed text false fault is = tt

label_managed : (d : Data) (path : List ℕ) → IfOk (label_at d path) IsManaged
unfolding label_at
label_managed d path = onward IsManaged (text_at d path) _ (λ text. managed text (is_managed_label text) (faults.Name path) refl)

labels_managed : (d : Data) (path : List ℕ) → IfOk (labels_at d path) (All IsManaged)
unfolding labels_at
labels_managed d path =
    onward (All IsManaged) (optional_list_at d (codes "Labels") path) _ (λ all. each_keeps IsManaged label_at label_managed 0 all (member_path path (codes "Labels")))

-- the labels of the answer begin so
abbrev HasManaged : GroupAnswer → Type 0
HasManaged group = All IsManaged group.labels

group_managed : (d : Data) (path : List ℕ) → IfOk (group_answer_at d path) HasManaged
unfolding group_answer_at
group_managed d path =
    onward HasManaged (text_member_at d (codes "Key") path) _ (λ key.
    onward HasManaged (verdict_at d path) _ (λ verdict.
    onward_with (All IsManaged) HasManaged (labels_at d path) _ (labels_managed d path) (λ labels good. good)))

groups_managed : (d : Data) (path : List ℕ) → IfOk (groups_at d path) (All HasManaged)
unfolding groups_at
groups_managed d path =
    onward (All HasManaged) (optional_list_at d (codes "Groups") path) _ (λ all. each_keeps HasManaged group_answer_at group_managed 0 all (member_path path (codes "Groups")))

lawful_at : (d : Data) (path : List ℕ) → IfOk (answers_at d path) IsLawful
unfolding answers_at
lawful_at d path =
    onward IsLawful (statements_at d path) _ (λ statements.
    onward_with (All HasManaged) IsLawful (groups_at d path) _ (groups_managed d path) (λ groups good.
    onward IsLawful (tokens_at d path) _ (λ tokens. good)))

lawful_of : (value : Option Data) → IfOk (answers_of value) IsLawful
lawful_of None = tt
lawful_of (Some d) = lawful_at d (codes "$")

pub lawful : (bytes : List ℕ) → IfOk (answers_reading bytes) IsLawful
unfolding answers_reading
lawful bytes = lawful_of (parsed bytes)
