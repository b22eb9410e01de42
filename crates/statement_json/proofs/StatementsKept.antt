-- What is read as a statement is sound and limited, and what was counted on is the number of its statements.
use Rattle.std.proofs.Common.{◌≡◌, ℕ, zero, suc, ◌+◌, List, [], ◌∷◌, map, sum, Bool, true, false, ◌&&◌, ◌==◌, nat_lt, if◌then◌else◌, codes, IfOk, IsTrue, Option, Some, None, Result, Ok, Err, refl, ap₂, ◌∙◌, arith}
use Rattle.std.proofs.lemmas.List.Sums.{sum_by-cons}
use Rattle.std.specs.List.{list_all}
use Rattle.serde_json.specs.Data.{Data}
use Rattle.json_view.specs.Words.{ensured, list_member_at, object_at}
use Rattle.waf_model.specs.Cost.{is_limited, limits_step}
use Rattle.waf_model.specs.Gives.{◌>>=◌}
use Rattle.waf_model.specs.Json.{index_path, member_at, member_count, member_path}
use Rattle.waf_model.specs.SoundStatement.{is_sound_statement, sound_step}
use Rattle.waf_model.specs.StatementCount.{count_step, statement_count}
use Rattle.waf_model.specs.declared.read_fault.ReadFault.{ReadFault}
use Rattle.waf_model.specs.declared.read_fault.ReadFault.TheVariants as faults
use Rattle.waf_model.specs.declared.sets.RegexSet.{RegexSet}
use Rattle.waf_model.specs.declared.statement.Statement.{Statement}
use Rattle.waf_model.specs.declared.statement.Statement.TheVariants as statements
use Rattle.statement_json.specs.Kinds.{is_top_kind, kind_of, member_of}
use Rattle.statement_json.specs.Matches.{opaque}
use Rattle.statement_json.specs.Statements.{Reading, leaf, most_statements, of_inner_kind, of_kind, of_some_kind, opened, part_at, parts_at, parts_from, statement_within}
use Rattle.statement_json.specs.declared.encoding.Encoding.{Encoding}
use Rattle.statement_json.specs.declared.statement_kind.StatementKind.{StatementKind}
use Rattle.statement_json.specs.declared.statement_kind.StatementKind.TheVariants as kinds
use Rattle.statement_json.proofs.Folded.{folded-And, folded-Not, folded-Or}
use Rattle.statement_json.proofs.LeavesKept.{IsOne, leaf_kept, opaque_one}
use Rattle.statement_json.proofs.Onward.{onward, onward_with}

-- A statement was read, and those of it were counted on from `seen`, but for so many that were counted before.
pub record IsKept (before seen : ℕ) (read : Statement × ℕ) : Type 0 where
  pub sound : IsTrue (is_sound_statement read.0)
  pub limited : IsTrue (is_limited read.0)
  pub counted : seen + statement_count read.0 ≡ before + read.1

-- the same of a list
pub record AreKept (seen : ℕ) (read : List Statement × ℕ) : Type 0 where
  pub sound : IsTrue (list_all (λ sound. sound) (map is_sound_statement read.0))
  pub limited : IsTrue (list_all (λ limited. limited) (map is_limited read.0))
  pub counted : seen + sum (map statement_count read.0) ≡ read.1

-- all that is read so is kept to
abbrev pub Keeps : Reading → Type 0
Keeps inner = (d : Data) (path : List ℕ) (seen : ℕ) → IfOk (inner d path seen) (IsKept 0 seen)

-- ---- parts

one_more_kept : (seen : ℕ) (one : Statement × ℕ) (rest : List Statement × ℕ) → IsKept 0 seen one → AreKept one.1 rest → AreKept seen (one.0 ∷ rest.0, rest.1)
one_more_kept seen one rest first others =
    let counts : sum (map statement_count (one.0 ∷ rest.0)) ≡ statement_count one.0 + sum (map statement_count rest.0) = sum_by-cons (λ n. n) (statement_count one.0) (map statement_count rest.0) in
    let counted_first = first.counted in
    let counted_others = others.counted in
    record {
      sound = ap₂ (λ a b. a && b) first.sound others.sound;
      limited = ap₂ (λ a b. a && b) first.limited others.limited;
      counted = omega (arith, counts, counted_first, counted_others);
    }

parts_from_kept : (inner : Reading) → Keeps inner → (index : ℕ) (all : List Data) (path : List ℕ) (seen : ℕ) → IfOk (parts_from inner index all path seen) (AreKept seen)
parts_from_kept inner keeps index [] path seen = record { sound = refl; limited = refl; counted = omega arith }
parts_from_kept inner keeps index (d ∷ ds) path seen =
    onward_with (IsKept 0 seen) (AreKept seen) (inner d (index_path path index) seen) _ (keeps d (index_path path index) seen) (λ one first.
    onward_with (AreKept one.1) (AreKept seen) (parts_from inner (index + 1) ds path one.1) _ (parts_from_kept inner keeps (index + 1) ds path one.1) (λ rest others.
    one_more_kept seen one rest first others))

parts_kept : (inner : Reading) → Keeps inner → (d : Data) (path : List ℕ) (seen : ℕ) → IfOk (parts_at inner d path seen) (AreKept seen)
parts_kept inner keeps d path seen =
    onward (AreKept seen) (list_member_at d (codes "Statements") path) _ (λ all. parts_from_kept inner keeps 0 all (member_path path (codes "Statements")) seen)

part_kept : (inner : Reading) → Keeps inner → (d : Data) (path : List ℕ) (seen : ℕ) → IfOk (part_at inner d path seen) (IsKept 0 seen)
part_kept inner keeps d path seen =
    onward (IsKept 0 seen) (member_at d (codes "Statement") path) _ (λ found. keeps found (member_path path (codes "Statement")) seen)

-- ---- kinds

and_kept : (seen : ℕ) (parts : List Statement × ℕ) → AreKept seen parts → IsKept 1 seen (statements.And parts.0, parts.1)
and_kept seen parts kept =
    let counted = kept.counted in
    let counts : statement_count (statements.And parts.0) ≡ 1 + sum (map statement_count parts.0) = folded-And count_step parts.0 in
    record { sound = folded-And sound_step parts.0 ∙ kept.sound; limited = folded-And limits_step parts.0 ∙ kept.limited; counted = omega (arith, counts, counted) }

or_kept : (seen : ℕ) (parts : List Statement × ℕ) → AreKept seen parts → IsKept 1 seen (statements.Or parts.0, parts.1)
or_kept seen parts kept =
    let counted = kept.counted in
    let counts : statement_count (statements.Or parts.0) ≡ 1 + sum (map statement_count parts.0) = folded-Or count_step parts.0 in
    record { sound = folded-Or sound_step parts.0 ∙ kept.sound; limited = folded-Or limits_step parts.0 ∙ kept.limited; counted = omega (arith, counts, counted) }

not_kept : (seen : ℕ) (part : Statement × ℕ) → IsKept 0 seen part → IsKept 1 seen (statements.Not part.0, part.1)
not_kept seen part kept =
    let counted = kept.counted in
    let counts : statement_count (statements.Not part.0) ≡ 1 + statement_count part.0 = folded-Not count_step part.0 in
    record { sound = folded-Not sound_step part.0 ∙ kept.sound; limited = folded-Not limits_step part.0 ∙ kept.limited; counted = omega (arith, counts, counted) }

one_kept : (seen : ℕ) (statement : Statement) → IsOne statement → IsKept 1 seen (statement, seen)
one_kept seen statement kept = let one = kept.one in record { sound = kept.sound; limited = kept.limited; counted = omega (arith, one) }

leaf_read : (sets : List RegexSet) (encoding : Encoding) (kind : StatementKind) (d found : Data) (path at : List ℕ) (seen : ℕ)
    → IfOk (leaf sets encoding kind d found path at >>= λ statement. Ok (statement, seen)) (IsKept 1 seen)
leaf_read sets encoding kind d found path at seen =
    onward_with IsOne (IsKept 1 seen) (leaf sets encoding kind d found path at) (λ statement. Ok (statement, seen)) (leaf_kept sets encoding kind d found path at) (one_kept seen)

of_kind_kept : (inner : Reading) → Keeps inner → (sets : List RegexSet) (encoding : Encoding) (kind : StatementKind) (d found : Data) (path at : List ℕ) (seen : ℕ)
    → IfOk (of_kind inner sets encoding kind d found path at seen) (IsKept 1 seen)
of_kind_kept inner keeps sets encoding kinds.And d found path at seen = onward_with (AreKept seen) (IsKept 1 seen) (parts_at inner found at seen) _ (parts_kept inner keeps found at seen) (and_kept seen)
of_kind_kept inner keeps sets encoding kinds.Or d found path at seen = onward_with (AreKept seen) (IsKept 1 seen) (parts_at inner found at seen) _ (parts_kept inner keeps found at seen) (or_kept seen)
of_kind_kept inner keeps sets encoding kinds.Not d found path at seen = onward_with (IsKept 0 seen) (IsKept 1 seen) (part_at inner found at seen) _ (part_kept inner keeps found at seen) (not_kept seen)
of_kind_kept inner keeps sets encoding kind d found path at seen = leaf_read sets encoding kind d found path at seen

inner_kind_kept : (inner : Reading) → Keeps inner → (sets : List RegexSet) (encoding : Encoding) (kind : StatementKind) (d : Data) (path : List ℕ) (seen : ℕ)
    → IfOk (of_inner_kind inner sets encoding kind d path seen) (IsKept 1 seen)
inner_kind_kept inner keeps sets encoding kind d path seen = from (is_top_kind kind) _ (onward (IsKept 1 seen) (member_at d (member_of kind) path) (λ found. of_kind inner sets encoding kind d found path (member_path path (member_of kind)) seen) (λ found.
    of_kind_kept inner keeps sets encoding kind d found path (member_path path (member_of kind)) seen))
  where
    from : (top : Bool) (r : Result (Statement × ℕ) ReadFault) → IfOk r (IsKept 1 seen) → IfOk (if top then Err (faults.Nested path) else r) (IsKept 1 seen)
    from true r kept = tt
    from false r kept = kept

pub some_kind_kept : (inner : Reading) → Keeps inner → (sets : List RegexSet) (encoding : Encoding) (kind : Option StatementKind) (d : Data) (path : List ℕ) (seen : ℕ)
    → IfOk (of_some_kind inner sets encoding kind d path seen) (IsKept 1 seen)
some_kind_kept inner keeps sets encoding None d path seen = onward_with IsOne (IsKept 1 seen) (opaque d None None path) _ (opaque_one d None None path refl) (one_kept seen)
some_kind_kept inner keeps sets encoding (Some kind) d path seen = inner_kind_kept inner keeps sets encoding kind d path seen

-- ---- statements

pub opened_counts : (d : Data) (path : List ℕ) (seen : ℕ) → IfOk (opened d path seen) (λ now. now ≡ seen + 1)
opened_counts d path seen =
    onward (λ now. now ≡ seen + 1) (object_at d path) _ (λ object.
    onward (λ now. now ≡ seen + 1) (ensured (member_count d == 1) (faults.OneStatement path)) _ (λ one.
    onward (λ now. now ≡ seen + 1) (ensured (nat_lt seen most_statements) (faults.Limit path most_statements)) _ (λ fits. refl)))

counted_in : (seen now : ℕ) (read : Statement × ℕ) → now ≡ seen + 1 → IsKept 1 now read → IsKept 0 seen read
counted_in seen now read is kept = let counted = kept.counted in record { sound = kept.sound; limited = kept.limited; counted = omega (arith, counted, is) }

all_counted_in : (seen now : ℕ) (r : Result (Statement × ℕ) ReadFault) → now ≡ seen + 1 → IfOk r (IsKept 1 now) → IfOk r (IsKept 0 seen)
all_counted_in seen now (Ok read) is kept = counted_in seen now read is kept
all_counted_in seen now (Err fault) is kept = tt

pub statement_kept : (levels : ℕ) (sets : List RegexSet) (encoding : Encoding) → Keeps (statement_within levels sets encoding)
unfolding statement_within
statement_kept zero sets encoding d path seen = tt
statement_kept (suc levels) sets encoding d path seen =
    onward_with (λ now. now ≡ seen + 1) (IsKept 0 seen) (opened d path seen) _ (opened_counts d path seen) (λ now is.
    all_counted_in seen now (of_some_kind (statement_within levels sets encoding) sets encoding (kind_of d) d path now) is
    (some_kind_kept (statement_within levels sets encoding) (statement_kept levels sets encoding) sets encoding (kind_of d) d path now))
