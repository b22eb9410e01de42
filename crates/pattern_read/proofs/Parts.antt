-- The group that something written leads to has its alternatives and its places.
use Rattle.std.proofs.Common.{◌≡◌, ℕ, zero, suc, ◌+◌, ◌*◌, ◌≤◌, inl, inr, List, [], ◌∷◌, ◌++◌, map, refl, sym, ap, ◌∙◌, arith}
use Rattle.std.proofs.lemmas.Bool.{cases_lt}
use Rattle.std.proofs.Math.Nat.{mul-suc}
use Rattle.std.proofs.lemmas.List.{append_assoc, append-nil}
use Rattle.waf_model.specs.PatternGrammar.{Count, once, times, Written, nothing, anchored, one_of, group, barred, repeated, sequence, choice, item_first, alternatives, pattern_of, factor_of, places}
use Rattle.waf_model.specs.declared.pattern.Pattern.{Pattern, Set, Repeat}
use Rattle.pattern_read.specs.Machine as machine
use Rattle.pattern_read.specs.Machine.{capped, settled, fresh, closed}
use Rattle.pattern_read.specs.declared.group.Group.{Group}
use Rattle.pattern_read.proofs.Completeness.{after, after_count}

-- items in front of the first alternative
abbrev pub prepend : List Pattern → List (List Pattern) → List (List Pattern)
prepend items [] = items ∷ []
prepend items (first ∷ others) = (items ++ first) ∷ others

prepend-more : (items : List Pattern) (item : Pattern) (parts : List (List Pattern)) →
    prepend (items ++ item ∷ []) parts ≡ prepend items (item_first item parts)
prepend-more items item [] = refl
prepend-more items item (first ∷ others) = ap (λ (x : List Pattern). x ∷ others) (append_assoc items (item ∷ []) first)

prepend-begin : (item : Pattern) (parts : List (List Pattern)) → prepend [] (item_first item parts) ≡ item_first item parts
prepend-begin item [] = refl
prepend-begin item (first ∷ others) = refl

prepend-nil : (w : Written) → prepend [] (alternatives w) ≡ alternatives w
prepend-nil nothing = refl
prepend-nil (anchored pattern rest) = prepend-begin pattern (alternatives rest)
prepend-nil (one_of bytes counted rest) = prepend-begin (repeated (Set bytes) counted) (alternatives rest)
prepend-nil (group inner counted rest) = prepend-begin (repeated (choice (map sequence (alternatives inner))) counted) (alternatives rest)
prepend-nil (barred rest) = refl

-- the alternatives of a group that is settled, with these to come
abbrev pub joined : Group → List (List Pattern) → List Pattern
joined g parts = g.done ++ map sequence (prepend g.items parts)

item_joined : (done : List Pattern) (items : List Pattern) (item : Pattern) (parts : List (List Pattern)) →
    done ++ map sequence (prepend (items ++ item ∷ []) parts) ≡ done ++ map sequence (prepend items (item_first item parts))
item_joined done items item parts = ap (λ (x : List (List Pattern)). done ++ map sequence x) (prepend-more items item parts)

counted_joined : (g : Group) (pattern : Pattern) (n : ℕ) (c : Count) (parts : List (List Pattern)) →
    joined (settled (after_count g pattern n c)) parts ≡ joined (settled g) (item_first (repeated pattern c) parts)
counted_joined g pattern n once parts = item_joined (settled g).done (settled g).items pattern parts
counted_joined g pattern n (times least most factor) parts =
    item_joined (settled g).done (settled g).items (Repeat pattern least most) parts

-- what closes has the pattern that is written
closed_from : (w : Written) → joined (settled (after fresh w)) ([] ∷ []) ≡ joined (settled fresh) (alternatives w) →
    (closed (after fresh w)).pattern ≡ pattern_of w
closed_from w is =
    ap (λ (x : List Pattern). choice ((settled (after fresh w)).done ++ sequence x ∷ [])) (sym (append-nil (settled (after fresh w)).items))
    ∙ ap choice is
    ∙ ap (λ (x : List (List Pattern)). choice (map sequence x)) (prepend-nil w)

pub after_joined : (w : Written) (g : Group) → joined (settled (after g w)) ([] ∷ []) ≡ joined (settled g) (alternatives w)
after_joined nothing g = refl
after_joined (anchored pattern rest) g =
    after_joined rest (machine.anchored g pattern) ∙ item_joined (settled g).done (settled g).items pattern (alternatives rest)
after_joined (one_of bytes counted rest) g =
    after_joined rest (after_count g (Set bytes) 1 counted) ∙ counted_joined g (Set bytes) 1 counted (alternatives rest)
after_joined (group inner counted rest) g =
    after_joined rest (after_count g (closed (after fresh inner)).pattern (closed (after fresh inner)).places counted)
    ∙ counted_joined g (closed (after fresh inner)).pattern (closed (after fresh inner)).places counted (alternatives rest)
    ∙ ap (λ (x : Pattern). joined (settled g) (item_first (repeated x counted) (alternatives rest)))
    (closed_from inner (after_joined inner fresh))
after_joined (barred rest) g =
    after_joined rest (machine.barred g)
    ∙ ap (λ (x : List (List Pattern)). ((settled g).done ++ sequence (settled g).items ∷ []) ++ map sequence x) (prepend-nil rest)
    ∙ append_assoc (settled g).done (sequence (settled g).items ∷ []) (map sequence (alternatives rest))
    ∙ ap (λ (x : List Pattern). (settled g).done ++ sequence x ∷ map sequence (alternatives rest)) (sym (append-nil (settled g).items))

pub closed_pattern : (w : Written) → (closed (after fresh w)).pattern ≡ pattern_of w
closed_pattern w = closed_from w (after_joined w fresh)

grows : (n k : ℕ) → n ≤ n * suc k
grows n k = let more = mul-suc n k in omega (arith, more)

-- numbers that are one up to the cap have products that are
capped_times : (a b f : ℕ) → capped a ≡ capped b → capped (a * f) ≡ capped (b * f)
capped_times a b zero same = omega arith
capped_times a b (suc f) same = elim (cases_lt a 4294967295) [
  | inl below ↦ let equal : a ≡ b = omega arith in ap (λ (x : ℕ). capped (x * suc f)) equal
  | inr above ↦
      let other : 4294967295 ≤ b = omega arith in
      let one : a ≤ a * suc f = grows a f in
      let two : b ≤ b * suc f = grows b f in
      let x : 4294967295 ≤ a * suc f = omega arith in
      let y : 4294967295 ≤ b * suc f = omega arith in
      omega arith
]

counted_places : (g : Group) (pattern : Pattern) (n m : ℕ) (c : Count) (r : ℕ) → capped n ≡ capped m →
    capped ((settled (after_count g pattern n c)).places + r) ≡ capped ((settled g).places + (m * factor_of c + r))
counted_places g pattern n m once r same = omega arith
counted_places g pattern n m (times least most factor) r same =
    let scaled : capped (n * factor) ≡ capped (m * factor) = capped_times n m factor same in omega arith

pub after_places : (w : Written) (g : Group) → capped (settled (after g w)).places ≡ capped ((settled g).places + places w)
after_places nothing g = omega arith
after_places (anchored pattern rest) g = let more = after_places rest (machine.anchored g pattern) in omega (arith, more)
after_places (one_of bytes counted rest) g =
    let more = after_places rest (after_count g (Set bytes) 1 counted) in
    let here = counted_places g (Set bytes) 1 1 counted (places rest) refl in
    omega (arith, more, here)
after_places (group inner counted rest) g =
    let inside = after_places inner fresh in
    let n : ℕ = (closed (after fresh inner)).places in
    let same : capped n ≡ capped (places inner) = omega (arith, inside) in
    let more = after_places rest (after_count g (closed (after fresh inner)).pattern n counted) in
    let here = counted_places g (closed (after fresh inner)).pattern n (places inner) counted (places rest) same in
    omega (arith, more, here)
after_places (barred rest) g = let more = after_places rest (machine.barred g) in omega (arith, more)
