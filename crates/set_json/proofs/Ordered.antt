-- The patterns of each pattern set that is read are ordered.
use Rattle.std.proofs.Common.{◌≡◌, ℕ, ◌+◌, List, [], ◌∷◌, codes, filter_map, true, ◌&&◌, Option, Some, None, MatchOption, Result, Ok, Err, All, refl, ap, subst, ◌∙◌}
use Rattle.std.proofs.lemmas.List.Elements.{All-nil, All-cons}
use Rattle.std.specs.List.{cons_option, list_all}
use Rattle.serde_json.specs.Data.{Data}
use Rattle.json_view.specs.Words.{each_from, optional_list_at}
use Rattle.pattern_read.proofs.OrderLemmas.{spells_ordered}
use Rattle.pattern_read.proofs.SpelledLemmas.{pinned}
use Rattle.pattern_read.specs.Spelled.{pattern_spelled}
use Rattle.statement_json.specs.Matches.{arn_at}
use Rattle.waf_model.specs.Gives.{◌>>=◌}
use Rattle.waf_model.specs.Json.{index_path, member_path}
use Rattle.waf_model.specs.PatternGrammar.{Spells}
use Rattle.waf_model.specs.PatternOrder.{is_ordered}
use Rattle.waf_model.specs.declared.pattern.Pattern.{Pattern}
use Rattle.waf_model.specs.declared.read_fault.ReadFault.{ReadFault}
use Rattle.waf_model.specs.declared.sets.RegexSet.{RegexSet}
use Rattle.set_json.specs.Lists.{regex_set_at, regex_sets_at, unwrapped, wrapped}
use Rattle.set_json.specs.Sets.{regex_set_of, set_of_texts, texts_at}
use Rattle.set_json.specs.Whole.{IsOrderedSet}

spelled_ordered : (texts : List (List ℕ)) → list_all is_ordered (filter_map pattern_spelled texts) ≡ true
spelled_ordered [] = refl
spelled_ordered (text ∷ texts) = from (spelled_ordered texts) (pattern_spelled text) (pinned text) where
  from : list_all is_ordered (filter_map pattern_spelled texts) ≡ true → (found : Option Pattern) → MatchOption found ((pattern : Pattern) → Spells text pattern → ⊥) (Spells text)
      → list_all is_ordered (cons_option found (filter_map pattern_spelled texts)) ≡ true
  from rest None law = rest
  from rest (Some pattern) law = ap (λ b. b && list_all is_ordered (filter_map pattern_spelled texts)) (spells_ordered text pattern law) ∙ rest

set_ordered : (d : Data) (path : List ℕ) (set : RegexSet) → regex_set_of d path ≡ Ok set → IsOrderedSet set
unfolding regex_set_of
set_ordered d path set is = from (arn_at d path) (texts_at d path) is where
  from : (arn : Result (List ℕ) ReadFault) (texts : Result (List (List ℕ)) ReadFault) → (arn >>= λ arn. texts >>= λ texts. Ok (set_of_texts arn texts)) ≡ Ok set → IsOrderedSet set
  from (Ok arn) (Ok texts) gave = let same : set_of_texts arn texts ≡ set = cc in subst IsOrderedSet same (spelled_ordered texts)
  from (Ok arn) (Err e) gave = absurd (cc)
  from (Err e) texts gave = absurd (cc)

wrapped_ordered : (d : Data) (path : List ℕ) (set : RegexSet) → regex_set_at d path ≡ Ok set → IsOrderedSet set
unfolding regex_set_at
wrapped_ordered d path set is = from (wrapped (codes "RegexPatternSet") d) is where
  from : (found : Option Data) → unwrapped regex_set_of found (member_path path (codes "RegexPatternSet")) d path ≡ Ok set → IsOrderedSet set
  from None gave = set_ordered d path set gave
  from (Some found) gave = set_ordered found (member_path path (codes "RegexPatternSet")) set gave

-- what holds of each element that is read holds of all
each_keeps : {A : Type 0} (P : A → Type 0) (read : Data → List ℕ → Result A ReadFault) → ((d : Data) (path : List ℕ) (one : A) → read d path ≡ Ok one → P one)
    → (index : ℕ) (ds : List Data) (path : List ℕ) (all : List A) → each_from read index ds path ≡ Ok all → All P all
each_keeps P read keeps index [] path all is = let same : [] ≡ all = cc in subst (All P) same (All-nil P)
each_keeps {A} P read keeps index (d ∷ ds) path all is =
    from (read d (index_path path index)) (each_from read (index + 1) ds path) (keeps d (index_path path index)) (each_keeps P read keeps (index + 1) ds path) is where
      from : (one : Result A ReadFault) (rest : Result (List A) ReadFault) → ((found : A) → one ≡ Ok found → P found) → ((found : List A) → rest ≡ Ok found → All P found)
          → (one >>= λ one. rest >>= λ rest. Ok (one ∷ rest)) ≡ Ok all → All P all
      from (Ok one) (Ok rest) first others gave = let same : one ∷ rest ≡ all = cc in subst (All P) same (All-cons P one rest (first one refl) (others rest refl))
      from (Ok one) (Err e) first others gave = absurd (cc)
      from (Err e) rest first others gave = absurd (cc)

pub sets_ordered : (d : Data) (path : List ℕ) (sets : List RegexSet) → regex_sets_at d path ≡ Ok sets → All IsOrderedSet sets
unfolding regex_sets_at
sets_ordered d path sets is = from (optional_list_at d (codes "RegexPatternSets") path) is where
  from : (found : Result (List Data) ReadFault) → (found >>= λ all. each_from regex_set_at 0 all (member_path path (codes "RegexPatternSets"))) ≡ Ok sets → All IsOrderedSet sets
  from (Ok all) gave = each_keeps IsOrderedSet regex_set_at wrapped_ordered 0 all (member_path path (codes "RegexPatternSets")) sets gave
  from (Err e) gave = absurd (cc)
