-- What is read at the top of a rule is sound and limited, and what was counted on is the number of its statements.
use Rattle.std.proofs.Common.{◌≡◌, ℕ, ◌+◌, List, [], codes, true, IfOk, IsTrue, Option, Some, None, option_map, unwrap_or, Result, Ok, refl, ◌∙◌, arith}
use Rattle.std.proofs.lemmas.Result.{IfOk-at_ok, IfOk-weaker}
use Rattle.std.specs.Option.{option_map_or}
use Rattle.serde_json.specs.Data.{Data}
use Rattle.waf_model.specs.Cost.{is_limited, limits_step}
use Rattle.waf_model.specs.Gives.{◌>>=◌, Gives}
use Rattle.waf_model.specs.Json.{member_at, member_path, optional_at}
use Rattle.waf_model.specs.SoundStatement.{is_sound_statement, sound_step}
use Rattle.waf_model.specs.StatementCount.{count_step, statement_count}
use Rattle.waf_model.specs.declared.read_fault.ReadFault.{ReadFault}
use Rattle.waf_model.specs.declared.read_fault.ReadFault.TheVariants as faults
use Rattle.waf_model.specs.declared.rule.ManagedUse.{ManagedUse}
use Rattle.waf_model.specs.declared.sets.RegexSet.{RegexSet}
use Rattle.waf_model.specs.declared.statement.Statement.{Statement}
use Rattle.waf_model.specs.declared.statement.Statement.TheVariants as statements
use Rattle.statement_json.specs.Soundness.{is_limited_top, is_sound_top, top_count}
use Rattle.statement_json.specs.Statements.{Reading, opened, statement_within}
use Rattle.statement_json.specs.Tops.{custom_keys_at, group_use_at, managed_at, managed_key_of, managed_name_at, managed_of, optional_part, part_levels, rate_at, rate_key_of, rate_of, rate_parts_at, rule_kind, scope_down_at, top_kind}
use Rattle.statement_json.specs.declared.encoding.Encoding.{Encoding}
use Rattle.statement_json.specs.declared.rate.RateParts.{RateParts}
use Rattle.statement_json.specs.declared.statement_kind.StatementKind.{StatementKind}
use Rattle.statement_json.specs.declared.statement_kind.StatementKind.TheVariants as kinds
use Rattle.statement_json.specs.declared.top.TopStatement.{TopStatement}
use Rattle.statement_json.specs.declared.top.TopStatement.TheVariants as tops
use Rattle.statement_json.proofs.Folded.{folded-Rate-None, folded-Rate-Some}
use Rattle.statement_json.proofs.Onward.{of_returned, onward, onward_with}
use Rattle.statement_json.proofs.StatementsKept.{IsKept, Keeps, opened_counts, some_kind_kept, statement_kept}

-- A part that may be absent was read, and those of it were counted on from `seen`.
record PartIsKept (seen : ℕ) (read : Option Statement × ℕ) : Type 0 where
  sound : IsTrue (option_map_or is_sound_statement read.0 true)
  limited : IsTrue (option_map_or is_limited read.0 true)
  counted : seen + unwrap_or (option_map statement_count read.0) 0 ≡ read.1

-- What stands at the top of a rule was read, and those of it were counted on from `seen`, but for one that was counted before.
pub record TopIsKept (seen : ℕ) (read : TopStatement × ℕ) : Type 0 where
  pub sound : IsTrue (is_sound_top read.0)
  pub limited : IsTrue (is_limited_top read.0)
  pub counted : seen + top_count read.0 ≡ 1 + read.1

-- ---- parts

some_part_kept : (seen : ℕ) (part : Statement × ℕ) → IsKept 0 seen part → PartIsKept seen (Some part.0, part.1)
some_part_kept seen part kept = let counted = kept.counted in record { sound = kept.sound; limited = kept.limited; counted = omega (arith, counted) }

optional_part_kept : (inner : Reading) → Keeps inner → (found : Option Data) (path : List ℕ) (seen : ℕ) → IfOk (optional_part inner found path seen) (PartIsKept seen)
optional_part_kept inner keeps None path seen = record { sound = refl; limited = refl; counted = omega arith }
optional_part_kept inner keeps (Some found) path seen = onward_with (IsKept 0 seen) (PartIsKept seen) (inner found path seen) _ (keeps found path seen) (some_part_kept seen)

scope_down_kept : (inner : Reading) → Keeps inner → (d : Data) (path : List ℕ) (seen : ℕ) → IfOk (scope_down_at inner d path seen) (PartIsKept seen)
scope_down_kept inner keeps d path seen =
    onward (PartIsKept seen) (optional_at d (codes "ScopeDownStatement") path) _ (λ found. optional_part_kept inner keeps found (member_path path (codes "ScopeDownStatement")) seen)

-- ---- rate-based statements

rate_is_kept : (seen : ℕ) (key : List ℕ) (custom_keys : ℕ) (part : Option Statement) (after : ℕ) → PartIsKept seen (part, after) → IsKept 1 seen (statements.Rate key custom_keys part, after)
rate_is_kept seen key custom_keys None after kept =
    let counted = kept.counted in
    let counts : statement_count (statements.Rate key custom_keys None) ≡ 1 = folded-Rate-None count_step key custom_keys in
    record { sound = folded-Rate-None sound_step key custom_keys; limited = folded-Rate-None limits_step key custom_keys; counted = omega (arith, counts, counted) }
rate_is_kept seen key custom_keys (Some part) after kept =
    let counted = kept.counted in
    let counts : statement_count (statements.Rate key custom_keys (Some part)) ≡ 1 + statement_count part = folded-Rate-Some count_step key custom_keys part in
    record {
      sound = folded-Rate-Some sound_step key custom_keys part ∙ kept.sound;
      limited = folded-Rate-Some limits_step key custom_keys part ∙ kept.limited;
      counted = omega (arith, counts, counted);
    }

-- the part of what a rate-based statement has besides its key
abbrev RateIsKept : ℕ → RateParts × ℕ → Type 0
RateIsKept seen read = PartIsKept seen (read.0.scope_down, read.1)

rate_parts_kept : (inner : Reading) → Keeps inner → (d : Data) (path : List ℕ) (seen : ℕ) → IfOk (rate_parts_at inner d path seen) (RateIsKept seen)
rate_parts_kept inner keeps d path seen =
    onward (RateIsKept seen) (custom_keys_at d path) _ (λ custom_keys.
    onward_with (PartIsKept seen) (RateIsKept seen) (scope_down_at inner d path seen) _ (scope_down_kept inner keeps d path seen) (λ part kept. kept))

rate_value_kept : (inner : Reading) → Keeps inner → (group rule : List ℕ) (d : Data) (seen : ℕ) (found : Data) (path at : List ℕ) → IfOk (rate_of inner group rule d seen found path at) (IsKept 1 seen)
rate_value_kept inner keeps group rule d seen found path at =
    onward_with (RateIsKept seen) (IsKept 1 seen) (rate_parts_at inner found at seen) _ (rate_parts_kept inner keeps found at seen) (λ parts kept.
    onward (IsKept 1 seen) (rate_key_of group rule d found path) _ (λ key. rate_is_kept seen key parts.0.custom_keys parts.0.scope_down parts.1 kept))

rate_kept : (inner : Reading) → Keeps inner → (group rule : List ℕ) (d : Data) (path : List ℕ) (seen : ℕ) → IfOk (rate_at inner group rule d path seen) (IsKept 1 seen)
rate_kept inner keeps group rule d path seen =
    onward (IsKept 1 seen) (member_at d (codes "RateBasedStatement") path) _ (λ found. rate_value_kept inner keeps group rule d seen found path (member_path path (codes "RateBasedStatement")))

-- ---- managed rule groups

-- what a managed rule group is scoped down to
abbrev ManagedIsKept : ℕ → ManagedUse × ℕ → Type 0
ManagedIsKept seen read = PartIsKept seen (read.0.scope_down, read.1)

managed_value_kept : (inner : Reading) → Keeps inner → (d : Data) (seen : ℕ) (found : Data) (path at : List ℕ) → IfOk (managed_of inner d seen found path at) (ManagedIsKept seen)
managed_value_kept inner keeps d seen found path at =
    onward (ManagedIsKept seen) (managed_name_at found at) _ (λ named.
    onward_with (PartIsKept seen) (ManagedIsKept seen) (scope_down_at inner found at seen) _ (scope_down_kept inner keeps found at seen) (λ part kept.
    onward (ManagedIsKept seen) (managed_key_of d found path) _ (λ key. kept)))

managed_kept : (inner : Reading) → Keeps inner → (d : Data) (path : List ℕ) (seen : ℕ) → IfOk (managed_at inner d path seen) (ManagedIsKept seen)
managed_kept inner keeps d path seen =
    onward (ManagedIsKept seen) (member_at d (codes "ManagedRuleGroupStatement") path) _ (λ found. managed_value_kept inner keeps d seen found path (member_path path (codes "ManagedRuleGroupStatement")))

-- ---- the top of a rule

kind_kept : (inner : Reading) → Keeps inner → (sets : List RegexSet) (encoding : Encoding) (group rule : List ℕ) (kind : Option StatementKind) (d : Data) (path : List ℕ) (seen : ℕ)
    → IfOk (rule_kind inner sets encoding group rule kind d path seen) (IsKept 1 seen)
kind_kept inner keeps sets encoding group rule (Some kinds.RateBased) d path seen = rate_kept inner keeps group rule d path seen
kind_kept inner keeps sets encoding group rule kind d path seen = some_kind_kept inner keeps sets encoding kind d path seen

plain_kept : (seen : ℕ) (statement : Statement × ℕ) → IsKept 1 seen statement → TopIsKept seen (tops.Plain statement.0, statement.1)
plain_kept seen statement kept = record { sound = kept.sound; limited = kept.limited; counted = kept.counted }

managed_top_kept : (seen : ℕ) (managed : ManagedUse × ℕ) → ManagedIsKept seen managed → TopIsKept seen (tops.Managed managed.0, managed.1)
managed_top_kept seen managed kept = let counted = kept.counted in record { sound = kept.sound; limited = kept.limited; counted = omega (arith, counted) }

plain_top_kept : (inner : Reading) → Keeps inner → (sets : List RegexSet) (encoding : Encoding) (rule : List ℕ) (kind : Option StatementKind) (d : Data) (path : List ℕ) (seen : ℕ)
    → IfOk (rule_kind inner sets encoding [] rule kind d path seen >>= λ statement. Ok (tops.Plain statement.0, statement.1)) (TopIsKept seen)
plain_top_kept inner keeps sets encoding rule kind d path seen =
    onward_with (IsKept 1 seen) (TopIsKept seen) (rule_kind inner sets encoding [] rule kind d path seen) _ (kind_kept inner keeps sets encoding [] rule kind d path seen) (plain_kept seen)

any_top_kept : (inner : Reading) → Keeps inner → (sets : List RegexSet) (encoding : Encoding) (rule : List ℕ) (kind : Option StatementKind) (d : Data) (path : List ℕ) (seen : ℕ)
    → IfOk (top_kind inner sets encoding rule kind d path seen) (TopIsKept seen)
any_top_kept inner keeps sets encoding rule (Some kinds.RuleGroupReference) d path seen =
    onward (TopIsKept seen) (group_use_at d path) _ (λ group. record { sound = refl; limited = refl; counted = omega arith })
any_top_kept inner keeps sets encoding rule (Some kinds.ManagedRuleGroup) d path seen =
    onward_with (ManagedIsKept seen) (TopIsKept seen) (managed_at inner d path seen) _ (managed_kept inner keeps d path seen) (managed_top_kept seen)
any_top_kept inner keeps sets encoding rule kind d path seen = plain_top_kept inner keeps sets encoding rule kind d path seen

-- a statement of that kind at the top of a rule
pub rule_kind_kept : (sets : List RegexSet) (encoding : Encoding) (group rule : List ℕ) (kind : Option StatementKind) (d : Data) (path : List ℕ) (seen : ℕ)
    → IfOk (rule_kind (statement_within part_levels sets encoding) sets encoding group rule kind d path seen) (IsKept 1 seen)
rule_kind_kept sets encoding = kind_kept (statement_within part_levels sets encoding) (statement_kept part_levels sets encoding) sets encoding

-- what stands at the top of a rule of a web ACL, of that kind
pub top_kind_kept : (sets : List RegexSet) (encoding : Encoding) (rule : List ℕ) (kind : Option StatementKind) (d : Data) (path : List ℕ) (seen : ℕ)
    → IfOk (top_kind (statement_within part_levels sets encoding) sets encoding rule kind d path seen) (TopIsKept seen)
top_kind_kept sets encoding = any_top_kept (statement_within part_levels sets encoding) (statement_kept part_levels sets encoding) sets encoding

-- ---- what was returned

-- the statement at the top of a rule, counted from before it was opened
pub record RuleReturned (before after : ℕ) (statement : Statement) : Type 0 where
  pub sound : IsTrue (is_sound_statement statement)
  pub limited : IsTrue (is_limited statement)
  pub counted : before + statement_count statement ≡ after

rule_counted_in : (before now after : ℕ) (statement : Statement) → now ≡ before + 1 → IsKept 1 now (statement, after) → RuleReturned before after statement
rule_counted_in before now after statement is kept = let counted = kept.counted in record { sound = kept.sound; limited = kept.limited; counted = omega (arith, counted, is) }

pub rule_returned : (sets : List RegexSet) (encoding : Encoding) (group rule : List ℕ) (kind : Option StatementKind) (d : Data) (path : List ℕ) (before now after : ℕ) (result : Result Statement ReadFault)
    → opened d path before ≡ Ok now → Gives faults.Memory (λ statement. (statement, after)) result (rule_kind (statement_within part_levels sets encoding) sets encoding group rule kind d path now)
    → IfOk result (RuleReturned before after)
rule_returned sets encoding group rule kind d path before now after result is gave =
    let one : now ≡ before + 1 = IfOk-at_ok (λ now. now ≡ before + 1) is (opened_counts d path before) in
    IfOk-weaker result _ _ (λ statement kept. rule_counted_in before now after statement one kept)
    (of_returned faults.Memory (λ statement. (statement, after)) (IsKept 1 now) result (rule_kind (statement_within part_levels sets encoding) sets encoding group rule kind d path now) gave
    (rule_kind_kept sets encoding group rule kind d path now))

-- the same in a web ACL
pub record TopReturned (before after : ℕ) (top : TopStatement) : Type 0 where
  pub sound : IsTrue (is_sound_top top)
  pub limited : IsTrue (is_limited_top top)
  pub counted : before + top_count top ≡ after

top_counted_in : (before now after : ℕ) (top : TopStatement) → now ≡ before + 1 → TopIsKept now (top, after) → TopReturned before after top
top_counted_in before now after top is kept = let counted = kept.counted in record { sound = kept.sound; limited = kept.limited; counted = omega (arith, counted, is) }

pub top_returned : (sets : List RegexSet) (encoding : Encoding) (rule : List ℕ) (kind : Option StatementKind) (d : Data) (path : List ℕ) (before now after : ℕ) (result : Result TopStatement ReadFault)
    → opened d path before ≡ Ok now → Gives faults.Memory (λ top. (top, after)) result (top_kind (statement_within part_levels sets encoding) sets encoding rule kind d path now)
    → IfOk result (TopReturned before after)
top_returned sets encoding rule kind d path before now after result is gave =
    let one : now ≡ before + 1 = IfOk-at_ok (λ now. now ≡ before + 1) is (opened_counts d path before) in
    IfOk-weaker result _ _ (λ top kept. top_counted_in before now after top one kept)
    (of_returned faults.Memory (λ top. (top, after)) (TopIsKept now) result (top_kind (statement_within part_levels sets encoding) sets encoding rule kind d path now) gave
    (top_kind_kept sets encoding rule kind d path now))
