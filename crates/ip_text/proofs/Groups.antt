-- Groups with `:` between: what this project says of a text is what the grammar of std says of one without a dot.
use Rattle.std.proofs.Common.{◌≡◌, ◌≢◌, ℕ, ◌≤◌, ◌⊎◌, Bool, true, false, cond, List, [], ◌∷◌, ◌++◌, length, map, Option, Some, None, option_map, refl, sym, ap, ◌∙◌, subst, arith, inl, inr, append_assoc, append-nil, eqb, leb, le-leb, lt-ltb, ne_eqb, eq-eqb, true≢false}
use Rattle.std.proofs.lemmas.Bool.{cases_eq, leb-true, ltb-true}
use Rattle.std.proofs.lemmas.List.Folds.{list_any-append}
use Rattle.std.proofs.lemmas.Option.{none-some}
use Rattle.std.specs.Char.{digit_value, is_digit}
use Rattle.std.specs.List.{list_any, list_all}
use Rattle.std.specs.Net.Grammar.{IsDotted, IsGroup, IsGroupsAfter, IsGroups}
use Rattle.std.specs.Prelude.{◌||◌, ◌&&◌, decimal}
use Rattle.std.specs.Str.Parse.{AllDigits, digits_value}
use Rattle.waf_model.specs.AddressText.{group_of, every, groups_of}
use Rattle.waf_model.specs.Pieces.{cut}

-- the text has such a byte
abbrev pub has : ℕ → List ℕ → Bool
has b text = list_any (λ c. eqb c b) text

pub or_false : (a b : Bool) → (a || b) ≡ false → (a ≡ false) × (b ≡ false)
or_false true b e = absurd (true≢false e)
or_false false b e = (refl, e)

pub has_left : (b : ℕ) (front back : List ℕ) → has b (front ++ back) ≡ false → has b front ≡ false
has_left b front back h = (or_false _ _ (sym (list_any-append (λ c. eqb c b) front back) ∙ h)).0

pub has_right : (b : ℕ) (front back : List ℕ) → has b (front ++ back) ≡ false → has b back ≡ false
has_right b front back h = (or_false _ _ (sym (list_any-append (λ c. eqb c b) front back) ∙ h)).1

pub has_neither : (b : ℕ) (front back : List ℕ) → has b front ≡ false → has b back ≡ false → has b (front ++ back) ≡ false
has_neither b front back h k = list_any-append (λ c. eqb c b) front back ∙ rw (h, k) refl

-- digits have no byte that is none
pub digits_without : (b : ℕ) → 16 ≤ digit_value b → (text : List ℕ) → AllDigits 16 text → has b text ≡ false
digits_without b none [] all = refl
digits_without b none (c ∷ text) all =
    let other : c ≢ b = λ same. let e : digit_value c ≡ digit_value b = ap (λ x. digit_value x) same in omega (arith, all.0) in
    rw (ne_eqb c b other) (digits_without b none text all.1)

-- the parts of a passed test
pub and_true : (a b : Bool) → (a && b) ≡ true → (a ≡ true) × (b ≡ true)
and_true true b e = (refl, e)
and_true false b e = absurd (true≢false (sym e))

pub chosen : {A : Type 0} (test : Bool) (n s : A) → cond test (Some n) None ≡ Some s → (test ≡ true) × (n ≡ s)
chosen true n s e = (refl, cc)
chosen false n s e = absurd (none-some s e)

all_digits : (text : List ℕ) → list_all (λ b. is_digit b 16) text ≡ true → AllDigits 16 text
all_digits [] e = tt
all_digits (c ∷ text) e =
    let (first, rest) = and_true (is_digit c 16) (list_all (λ b. is_digit b 16) text) e in
    (ltb-true (digit_value c) 16 first, all_digits text rest)

digits_all : (text : List ℕ) → AllDigits 16 text → list_all (λ b. is_digit b 16) text ≡ true
digits_all [] all = refl
digits_all (c ∷ text) all = rw (lt-ltb (digit_value c) 16 all.0) (digits_all text all.1)

pub group_from : (text : List ℕ) (s : ℕ) → IsGroup text s → group_of text ≡ Some s
unfolding group_of
group_from text s h =
    rw (le-leb 1 (length text) (omega (arith, h.0.0.0)), le-leb (length text) 4 h.1, digits_all text h.0.0.1) (ap (λ n. Some n) h.0.1)

pub group_is : (text : List ℕ) (s : ℕ) → group_of text ≡ Some s → IsGroup text s
unfolding group_of
group_is text s e =
    let (test, value) = chosen (leb 1 (length text) && leb (length text) 4 && list_all (λ b. is_digit b 16) text) (digits_value 16 text) s e in
    let (lengths, digits) = and_true (leb 1 (length text) && leb (length text) 4) (list_all (λ b. is_digit b 16) text) test in
    let (least, most) = and_true (leb 1 (length text)) (leb (length text) 4) lengths in
    (((omega (arith, leb-true 1 (length text) least), all_digits text digits), value), leb-true (length text) 4 most)

-- a text that is cut
cut_alone : (text : List ℕ) → has 58 text ≡ false → cut 58 text ≡ text ∷ []
cut_alone [] h = refl
cut_alone (c ∷ text) h =
    let (first, rest) = or_false (eqb c 58) (has 58 text) h in
    rw (first, cut_alone text rest) refl

cut_before : (front back : List ℕ) → has 58 front ≡ false → cut 58 (front ++ 58 ∷ back) ≡ front ∷ cut 58 back
cut_before [] back h = refl
cut_before (c ∷ front) back h =
    let (first, rest) = or_false (eqb c 58) (has 58 front) h in
    rw (first, cut_before front back rest) refl

-- the first piece, and the others
record CutAt (text : List ℕ) : Type 0 where
  first : List ℕ
  others : List (List ℕ)
  is : cut 58 text ≡ first ∷ others
  how : ((text ≡ first) × (others ≡ [])) ⊎ ((rest : List ℕ) × (text ≡ first ++ 58 ∷ rest) × (others ≡ cut 58 rest))

cut_at : (text : List ℕ) → CutAt text
cut_at [] = record { first = []; others = []; is = refl; how = inl (refl, refl) }
cut_at (c ∷ text) =
    elim (cases_eq c 58) [
      | inl colon ↦ record { first = []; others = cut 58 text; is = rw (eq-eqb c 58 colon) refl; how = inr (text, ap (λ b. b ∷ text) colon, refl) }
      | inr other ↦
          let at = cut_at text in
          record {
            first = c ∷ at.first;
            others = at.others;
            is = rw (ne_eqb c 58 other, at.is) refl;
            how = elim at.how [
              | inl whole ↦ inl (ap (λ t. c ∷ t) whole.0, whole.1)
              | inr before ↦ inr (before.0, ap (λ t. c ∷ t) before.1, before.2)
            ];
          }
    ]

-- the parts of what every one is
mapped : (o : Option (List ℕ)) (n : ℕ) (all : List ℕ) → option_map (λ ns. n ∷ ns) o ≡ Some all → (ns : List ℕ) × (o ≡ Some ns) × (all ≡ n ∷ ns)
mapped None n all e = absurd (none-some all e)
mapped (Some ns) n all e = (ns, refl, cc)

every_first : (o : Option ℕ) (os : List (Option ℕ)) (all : List ℕ) → every (o ∷ os) ≡ Some all → (n : ℕ) × (ns : List ℕ) × (o ≡ Some n) × (every os ≡ Some ns) × (all ≡ n ∷ ns)
every_first None os all e = absurd (none-some all e)
every_first (Some n) os all e =
    let (ns, rest, are) = mapped (every os) n all e in
    (n, ns, refl, rest, are)

some_is : (xs ys : List ℕ) → Some xs ≡ Some ys → xs ≡ ys
some_is xs ys e = cc

-- the groups between colons
abbrev pub between : List ℕ → Option (List ℕ)
between text = every (map group_of (cut 58 text))

dotted_has_dot : (text octets : List ℕ) → IsDotted text octets → has 46 text ≡ false → ⊥
dotted_has_dot text octets h none =
    let rest = decimal h.b ++ 46 ∷ (decimal h.c ++ 46 ∷ decimal h.d) in
    let shown : text ≡ decimal h.a ++ 46 ∷ rest = h.spelled ∙ simp append_assoc in
    true≢false (has_right 46 (decimal h.a) (46 ∷ rest) (subst (λ (t : List ℕ). has 46 t ≡ false) shown none))

pub between_from : (ipv4 : Bool) (s : ℕ) (groups lead text : List ℕ) → IsGroupsAfter ipv4 lead text (s ∷ groups) → has 46 text ≡ false
    → (rest : List ℕ) × (text ≡ lead ++ rest) × (between rest ≡ Some (s ∷ groups))
between_from ipv4 s [] lead text (inl h) no_dot =
    let (group, rest, shown, is_group, none) = h in
    let no_colon = digits_without 58 (omega arith) group is_group.0.0.1 in
    (group, shown ∙ rw (none, append-nil) refl, rw (cut_alone group no_colon, group_from group s is_group) refl)
between_from ipv4 s (t ∷ groups) lead text (inl h) no_dot =
    let (group, rest, shown, is_group, more) = h in
    let no_colon = digits_without 58 (omega arith) group is_group.0.0.1 in
    let without = has_right 46 (lead ++ group) rest (subst (λ (x : List ℕ). has 46 x ≡ false) shown no_dot) in
    let (later, follows, are) = between_from ipv4 t groups (58 ∷ []) rest more without in
    (group ++ 58 ∷ later, shown ∙ ap (λ x. lead ++ group ++ x) follows ∙ append_assoc lead group (58 ∷ later), rw (cut_before group later no_colon, group_from group s is_group, are) refl)
between_from ipv4 s groups lead text (inr h) no_dot =
    let (last, octets, allowed, shown, dotted, value) = h in
    absurd (dotted_has_dot last octets dotted (has_right 46 lead last (subst (λ (x : List ℕ). has 46 x ≡ false) shown no_dot)))

pub between_is : (ipv4 : Bool) (groups lead text : List ℕ) → between text ≡ Some groups → IsGroupsAfter ipv4 lead (lead ++ text) groups
between_is ipv4 [] lead text e =
    let at = cut_at text in
    let (n, ns, first, others, are) = every_first (group_of at.first) (map group_of at.others) [] (rw at.is at e) in
    cc
between_is ipv4 (s ∷ groups) lead text e =
    let at = cut_at text in
    let (n, ns, first, others, are) = every_first (group_of at.first) (map group_of at.others) (s ∷ groups) (rw at.is at e) in
    let is_group : IsGroup at.first s = group_is at.first s (first ∙ cc) in
    let rest_are : every (map group_of at.others) ≡ Some groups = others ∙ cc in
    elim at.how [
      | inl whole ↦
          let none : [] ≡ groups = some_is [] groups (rw whole.1 at rest_are) in
          inl (
            at.first,
            [],
            ap (λ t. lead ++ t) whole.0 ∙ sym (append-nil (lead ++ at.first)),
            is_group,
            subst (λ (g : List ℕ). IsGroupsAfter ipv4 (58 ∷ []) [] g) none refl,
          )
      | inr before ↦
          let (rest, shown, are_cut) = before in
          inl (
            at.first,
            58 ∷ rest,
            ap (λ t. lead ++ t) shown ∙ sym (append_assoc lead at.first (58 ∷ rest)),
            is_group,
            between_is ipv4 groups (58 ∷ []) rest (rw (← are_cut) rest_are),
          )
    ]

-- the groups of a text, of which the empty one has none
pub groups_from_between : (text groups : List ℕ) → between text ≡ Some groups → groups_of text ≡ Some groups
unfolding groups_of group_of
groups_from_between [] groups e = absurd (none-some groups e)
groups_from_between (c ∷ text) groups e = e

pub groups_from : (ipv4 : Bool) (groups text : List ℕ) → IsGroups ipv4 text groups → has 46 text ≡ false → groups_of text ≡ Some groups
groups_from ipv4 [] text h no_dot = rw h (unfold groups_of in refl)
groups_from ipv4 (s ∷ groups) text h no_dot =
    let (rest, shown, are) = between_from ipv4 s groups [] text h no_dot in
    rw shown (groups_from_between rest (s ∷ groups) are)

pub groups_are : (ipv4 : Bool) (groups text : List ℕ) → groups_of text ≡ Some groups → IsGroups ipv4 text groups
unfolding groups_of
groups_are ipv4 groups [] e = let none : groups ≡ [] = cc in rw none refl
groups_are ipv4 groups (c ∷ text) e = between_is ipv4 groups [] (c ∷ text) e

-- groups without an IPv4 address have no dot
pub no_dot_after : (groups lead text : List ℕ) → has 46 lead ≡ false → IsGroupsAfter false lead text groups → has 46 text ≡ false
no_dot_after [] lead text no_dot h = rw h refl
no_dot_after (s ∷ groups) lead text no_dot (inl h) =
    let (group, rest, shown, is_group, more) = h in
    let front = has_neither 46 lead group no_dot (digits_without 46 (omega arith) group is_group.0.0.1) in
    rw shown (has_neither 46 (lead ++ group) rest front (no_dot_after groups (58 ∷ []) rest refl more))
no_dot_after (s ∷ groups) lead text no_dot (inr h) = absurd (true≢false (sym h.2))
