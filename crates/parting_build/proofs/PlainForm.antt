-- What `plain_form` tests is the form in words.
use Rattle.std.proofs.Common.{◌≡◌, ℕ, zero, suc, ◌≤◌, ◌↔◌, ◌&&◌, List, [], ◌∷◌, length, codes, get_or, nat_eq, nat_lt, Bool, true, false, if◌then◌else◌, Option, Some, None, slice_get, refl, subst, arith}
use Rattle.std.specs.List.{All, list_all}
use Rattle.std.proofs.lemmas.Bool.{false≢true}
use Rattle.std.proofs.lemmas.Bool.Decides.{nat_tests}
use Rattle.std.proofs.lemmas.List.Elements.{All-head, All-tail}
use Rattle.std.proofs.lemmas.Option.{slice_get_within, get_or_from_slice_get, slice_get-get_or}
use Rattle.waf_model.specs.declared.action.Action.{Action}
use Rattle.waf_model.specs.declared.action.Action.TheVariants as actions
use Rattle.waf_model.specs.declared.bundle.Bundle.{Bundle}
use Rattle.waf_model.specs.declared.field.Field.{Field}
use Rattle.waf_model.specs.declared.field.Field.TheVariants.{UriPath}
use Rattle.waf_model.specs.declared.matching.Position.{Position}
use Rattle.waf_model.specs.declared.matching.Position.TheVariants.{Exactly}
use Rattle.waf_model.specs.declared.rule.Top.{Top}
use Rattle.waf_model.specs.declared.rule.Top.TheVariants.{Plain}
use Rattle.waf_model.specs.declared.rule.TopRule.{TopRule}
use Rattle.waf_model.specs.declared.statement.Statement.{Statement}
use Rattle.waf_model.specs.declared.statement.Statement.TheVariants.{ByteMatch}
use Rattle.waf_model.specs.declared.transform.Transform.{Transform}
use Rattle.waf_model.specs.declared.transform.Transform.TheVariants.{KeepAll}
use Rattle.parting_build.specs.FirstInFile.{first_in_file, path_of_rule}
use Rattle.parting_build.specs.Plain.{IsPathMatch, IsAllowOrBlock, IsPathRule, HasPathRules, is_path_match, allows_or_blocks, is_path_rule, most_rules, plain_form_of, unplain_rule}
use Rattle.parting_build.specs.WholePath.{is_whole_path, keeps_all}
use Rattle.parting_build.proofs.FirstInFile.{none_at, none_first}

both_true : (a b : Bool) → (a && b) ≡ true → (a ≡ true) × (b ≡ true)
both_true true b is = (refl, is)
both_true false b is = absurd (false≢true is)

-- ---- the test of a statement

keep_more : (t : Transform) (ts : List Transform) → t ≡ KeepAll → All (λ u. u ≡ KeepAll) ts → All (λ u. u ≡ KeepAll) (t ∷ ts)
keep_more t ts first rest zero u within = first
keep_more t ts first rest (suc i) u within = rest i u (omega arith)

all_keep : (ts : List Transform) → list_all keeps_all ts ≡ true → All (λ t. t ≡ KeepAll) ts
all_keep [] is = λ i t within. absurd (omega arith)
all_keep (KeepAll ∷ ts) is = keep_more KeepAll ts refl (all_keep ts is)
all_keep (t ∷ ts) is = absurd (false≢true is)

keep_all : (ts : List Transform) → All (λ t. t ≡ KeepAll) ts → list_all keeps_all ts ≡ true
keep_all [] all = refl
keep_all (t ∷ ts) all =
    let first : t ≡ KeepAll = All-head (λ u. u ≡ KeepAll) t ts all in
    rw first (keep_all ts (All-tail (λ u. u ≡ KeepAll) t ts all))

pub whole_path_from : (search : List ℕ) (field : Field) (ts : List Transform) (position : Position) → IsPathMatch (ByteMatch search field ts position) → is_whole_path field ts position ≡ true
whole_path_from wanted field ts position is = rw (is.0, is.1) (keep_all ts is.2)

whole_path_is : (search : List ℕ) (field : Field) (ts : List Transform) (position : Position) → is_whole_path field ts position ≡ true → IsPathMatch (ByteMatch search field ts position)
whole_path_is wanted UriPath ts Exactly is = (refl, refl, all_keep ts is)
whole_path_is wanted field ts position is = absurd (cc)

match_is : (statement : Statement) → is_path_match statement ≡ true → IsPathMatch statement
match_is (ByteMatch wanted field ts position) is = whole_path_is wanted field ts position is
match_is statement is = absurd (cc)

match_from : (statement : Statement) → IsPathMatch statement → is_path_match statement ≡ true
match_from (ByteMatch wanted field ts position) is = whole_path_from wanted field ts position is
match_from statement is = absurd is

-- ---- the test of a rule

action_is : (action : Action) → allows_or_blocks action ≡ true → IsAllowOrBlock action
action_is actions.Allow is = tt
action_is (actions.Block code) is = tt
action_is action is = absurd (cc)

action_from : (action : Action) → IsAllowOrBlock action → allows_or_blocks action ≡ true
action_from actions.Allow is = refl
action_from (actions.Block code) is = refl
action_from action is = absurd is

no_labels_is : (labels : List (List ℕ)) → nat_eq (length labels) 0 ≡ true → labels ≡ []
no_labels_is [] is = refl
no_labels_is (label ∷ labels) is =
    let none : length (label ∷ labels) ≡ 0 = grind (arith, nat_tests) in
    absurd (omega arith)

all_three : (a b c : Bool) → a ≡ true → b ≡ true → c ≡ true → (a && (b && c)) ≡ true
all_three a b c first second third = rw (first, second, third)

rule_is : (body : Top) → is_path_rule body ≡ true → IsPathRule body
rule_is (Plain rule) is =
    let parts = both_true (is_path_match rule.statement) _ is in
    let rest = both_true (allows_or_blocks rule.action) _ parts.1 in
    (match_is rule.statement parts.0, action_is rule.action rest.0, no_labels_is rule.labels rest.1)
rule_is body is = absurd (cc)

rule_from : (body : Top) → IsPathRule body → is_path_rule body ≡ true
rule_from (Plain rule) is = all_three _ _ _ (match_from rule.statement is.0) (action_from rule.action is.1) (rw is.2)
rule_from body is = absurd is

-- ---- the test of a web ACL

few : (rules : List TopRule) (rest : Option (List ℕ)) (test : Bool) → nat_lt most_rules (length rules) ≡ test → (if test then Some (codes "$.WebACL.Rules") else rest) ≡ None
    → (length rules ≤ most_rules) × (rest ≡ None)
few rules rest true is none = absurd (cc)
few rules rest false is none = (grind (arith, nat_tests), none)

unplain_none : (test : Bool) (path : List ℕ) → (if test then None else Some path) ≡ None → test ≡ true
unplain_none true path is = refl
unplain_none false path is = cc

-- each rule of such a web ACL passes the test
passes_at : (bundle : Bundle) (i : ℕ) (rule : TopRule) → plain_form_of bundle ≡ None → slice_get bundle.acl.rules i ≡ Some rule → is_path_rule rule.body ≡ true
passes_at bundle i rule is stands =
    let none = few bundle.acl.rules (first_in_file unplain_rule bundle.acl.rules) (nat_lt most_rules (length bundle.acl.rules)) refl is in
    unplain_none (is_path_rule rule.body) (path_of_rule rule.place) (none_at unplain_rule bundle.acl.rules i rule none.1 stands)

pub has_few_rules : (bundle : Bundle) → plain_form_of bundle ≡ None → length bundle.acl.rules ≤ most_rules
has_few_rules bundle is = (few bundle.acl.rules (first_in_file unplain_rule bundle.acl.rules) (nat_lt most_rules (length bundle.acl.rules)) refl is).0

pub has_path_rules : (bundle : Bundle) → plain_form_of bundle ≡ None → HasPathRules bundle
has_path_rules bundle is i rule within =
    rule_is (get_or bundle.acl.rules i rule).body (passes_at bundle i (get_or bundle.acl.rules i rule) is (slice_get-get_or bundle.acl.rules i rule within))

plain_from : (bundle : Bundle) → HasPathRules bundle → length bundle.acl.rules ≤ most_rules → plain_form_of bundle ≡ None
plain_from bundle rules few_rules =
    let no : nat_lt most_rules (length bundle.acl.rules) ≡ false = grind (arith, nat_tests) in
    rw no (none_first unplain_rule bundle.acl.rules (λ i rule stands.
    let is : is_path_rule rule.body ≡ true = rule_from rule.body (subst (λ (t : TopRule). IsPathRule t.body) (get_or_from_slice_get bundle.acl.rules i rule rule stands) (rules i rule (slice_get_within bundle.acl.rules i rule stands))) in
    rw is))

-- the test is the form in words
pub plain_form_is : (bundle : Bundle) → (plain_form_of bundle ≡ None) ↔ (HasPathRules bundle × (length bundle.acl.rules ≤ most_rules))
plain_form_is bundle = (λ is. (has_path_rules bundle is, has_few_rules bundle is), λ is. plain_from bundle is.0 is.1)
