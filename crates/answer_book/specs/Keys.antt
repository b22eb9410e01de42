-- Which questions a bundle leaves to answers from outside, by their keys (this project's own): the statements whose truth
-- is an answer, the managed rule groups, and the tokens that are asked for.
use Rattle.std.specs.Prelude.{ℕ, ◌↔◌, List, [], ◌∷◌, Contains, fold, unwrap_or}
use Rattle.std.specs.BTreeSet.{insert_key}
use Rattle.std.specs.Cmp.Lexicographic.{slice_cmp}
use Rattle.std.specs.List.{flat_map}
use Rattle.std.specs.List.Sorted.{IsStrictlySortedBy}
use Rattle.std.specs.Option.{option_map_or}
use Rattle.std.specs.Ordering.{match_ordering, nat_cmp}
use Rattle.std.specs.declared.cmp.Ordering.{Ordering}
use Rattle.std.specs.declared.cmp.Ordering.TheVariants.{Less, Greater}
use Rattle.waf_model.specs.EffectiveActions.{effective_action}
use Rattle.waf_model.specs.References.{group_of}
use Rattle.waf_model.specs.declared.action.Action.{Action}
use Rattle.waf_model.specs.declared.action.Action.TheVariants as actions
use Rattle.waf_model.specs.declared.answers.TokenKey.{TokenKey}
use Rattle.waf_model.specs.declared.answers.TokenKind.{TokenKind}
use Rattle.waf_model.specs.declared.answers.TokenKind.TheVariants as kinds
use Rattle.waf_model.specs.declared.bundle.Bundle.{Bundle}
use Rattle.waf_model.specs.declared.rule.Rule.{Rule}
use Rattle.waf_model.specs.declared.rule.Top.{Top}
use Rattle.waf_model.specs.declared.rule.Top.TheVariants as tops
use Rattle.waf_model.specs.declared.statement.Statement.{Statement}
use Rattle.waf_model.specs.declared.statement.Statement.TheOpen.{Statement-F}
use Rattle.waf_model.specs.declared.statement.Statement.TheFolds.{fold-Statement}
use Rattle.waf_model.specs.declared.web_acl.Acl.{Acl}

-- ---- statements

-- the key of an opaque or rate-based statement, with the keys of each part in its place
abbrev pub keys_step : Statement-F (List (List ℕ)) → List (List ℕ)
keys_step (Statement-F.And parts) = flat_map (λ part. part) parts
keys_step (Statement-F.Or parts) = flat_map (λ part. part) parts
keys_step (Statement-F.Not part) = part
keys_step (Statement-F.Rate key custom_keys scope_down) = key ∷ unwrap_or scope_down []
keys_step (Statement-F.Opaque key cost arn) = key ∷ []
keys_step other = []

-- the keys of a statement and its parts
abbrev pub keys_in : Statement → List (List ℕ)
keys_in = fold-Statement (List (List ℕ)) keys_step

-- those of a rule of the web ACL, with the rules of the group that it refers to
abbrev pub statement_keys_of_top : Bundle → Top → List (List ℕ)
statement_keys_of_top bundle (tops.Plain rule) = keys_in rule.statement
statement_keys_of_top bundle (tops.Group use_of) = option_map_or (λ group. flat_map (λ rule. keys_in rule.statement) group.rules) (group_of bundle.groups use_of.arn) []
statement_keys_of_top bundle (tops.Managed use_of) = option_map_or keys_in use_of.scope_down []

-- those of the web ACL and of the groups that it refers to
abbrev pub statement_keys : Bundle → List (List ℕ)
statement_keys bundle = flat_map (λ top. statement_keys_of_top bundle top.body) bundle.acl.rules

-- ---- managed rule groups

-- the key of a managed rule group
abbrev pub group_keys_of_top : Top → List (List ℕ)
group_keys_of_top (tops.Plain rule) = []
group_keys_of_top (tops.Group use_of) = []
group_keys_of_top (tops.Managed use_of) = use_of.key ∷ []

-- those of the web ACL
abbrev pub group_keys : Bundle → List (List ℕ)
group_keys bundle = flat_map (λ top. group_keys_of_top top.body) bundle.acl.rules

-- ---- tokens

-- the token that a rule with that action asks for, if it does; the web ACL's time where the rule has none of its own
abbrev pub token_keys_of : Acl → Action → Rule → List TokenKey
token_keys_of acl actions.Captcha rule = record { kind = kinds.Captcha; immunity = unwrap_or rule.captcha acl.captcha } ∷ []
token_keys_of acl actions.Challenge rule = record { kind = kinds.Challenge; immunity = unwrap_or rule.challenge acl.challenge } ∷ []
token_keys_of acl other rule = []

-- both tokens that a managed rule group may ask for
abbrev pub managed_token_keys : Acl → List TokenKey
managed_token_keys acl = record { kind = kinds.Captcha; immunity = acl.captcha } ∷ record { kind = kinds.Challenge; immunity = acl.challenge } ∷ []

-- those of a rule of the web ACL, with the rules of the group that it refers to, by their effective actions
abbrev pub token_keys_of_top : Bundle → Top → List TokenKey
token_keys_of_top bundle (tops.Plain rule) = token_keys_of bundle.acl rule.action rule
token_keys_of_top bundle (tops.Group use_of) =
    option_map_or (λ group. flat_map (λ rule. token_keys_of bundle.acl (effective_action use_of rule) rule) group.rules) (group_of bundle.groups use_of.arn) []
token_keys_of_top bundle (tops.Managed use_of) = managed_token_keys bundle.acl

-- those of the web ACL
abbrev pub token_keys : Bundle → List TokenKey
token_keys bundle = flat_map (λ top. token_keys_of_top bundle top.body) bundle.acl.rules

-- ---- each once, in order

-- texts ascend by bytes
abbrev pub text_order : List ℕ → List ℕ → Ordering
text_order = slice_cmp nat_cmp

-- the place of a kind: a CAPTCHA before a challenge
abbrev pub kind_place : TokenKind → ℕ
kind_place kinds.Captcha = 0
kind_place kinds.Challenge = 1

-- tokens ascend by kind, and those of one kind by time
abbrev pub token_order : TokenKey → TokenKey → Ordering
token_order a b = match_ordering (nat_cmp (kind_place a.kind) (kind_place b.kind)) Less (nat_cmp a.immunity b.immunity) Greater

-- the keys with more of them put in their places, each once
abbrev pub put_all : {K : Type 0} → (K → K → Ordering) → List K → List K → List K
put_all order keys more = fold (insert_key order) keys more

-- the keys are all of these and no others, each once, ascending by that order
pub record Ascend {K : Type 0} (order : K → K → Ordering) (all keys : List K) : Type 0 where
  pub ascending : IsStrictlySortedBy order keys
  pub members : (key : K) → Contains keys key ↔ Contains all key
