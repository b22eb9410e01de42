-- Facts on the edges of one state.
use Rattle.std.proofs.Common.{◌≡◌, ℕ, zero, suc, ◌+◌, ◌<◌, ◌≤◌, true, false, cond, leb, eqb, List, [], ◌∷◌, ◌++◌, ◌⊎◌, length, drop, get_or, refl, sym, ap, ◌∙◌, subst, inl, inr, arith}
use Rattle.std.specs.List.{All, AllWithin}
use Rattle.std.proofs.lemmas.Bool.{le-leb, lt-leb, cases_lt, cases_eq, cases_Bool, eqb-false, eq-eqb, ne_eqb, cond_both}
use Rattle.std.proofs.lemmas.List.{append_assoc, append-nil, drop_more, drop_all}
use Rattle.std.proofs.lemmas.List.Elements.{All-head, All-tail, All-cons, All-push, All-weaker}
use Rattle.byte_automata.specs.declared.edge.Edge.{Edge}
use Rattle.byte_automata.specs.Row.{target_after, target, CoversFrom, CoversBytes, IsEdgeOf, IsJoined, renamed, joined}

-- where the edges lead within n states, so does the state that a byte leads to
pub target_after-within : (n before : ℕ) (edges : List Edge) (byte : ℕ) → before < n → All (λ e. e.to < n) edges → target_after before edges byte < n
target_after-within n before [] byte b a = b
target_after-within n before (e ∷ es) byte b a =
    cond_both (leb byte e.last) e.to (target_after e.to es byte) (λ x. x < n) (λ _. All-head (λ e. e.to < n) e es a) (λ _. target_after-within n e.to es byte (All-head (λ e. e.to < n) e es a) (All-tail (λ e. e.to < n) e es a))

pub target-within : (n : ℕ) (edges : List Edge) (byte : ℕ) → CoversBytes edges → All (λ e. e.to < n) edges → target edges byte < n
target-within n [] byte c a = absurd (omega (arith, c))
target-within n (e ∷ es) byte c a =
    cond_both (leb byte e.last) e.to (target_after e.to es byte) (λ x. x < n) (λ _. All-head (λ e. e.to < n) e es a) (λ _. target_after-within n e.to es byte (All-head (λ e. e.to < n) e es a) (All-tail (λ e. e.to < n) e es a))

-- within the first run, and past it
pub target_after-first : (before : ℕ) (e : Edge) (es : List Edge) (byte : ℕ) → byte ≤ e.last → target_after before (e ∷ es) byte ≡ e.to
target_after-first before e es byte h = ap (λ b. cond b e.to (target_after e.to es byte)) (le-leb byte e.last h)

pub target_after-past : (before : ℕ) (e : Edge) (es : List Edge) (byte : ℕ) → e.last < byte → target_after before (e ∷ es) byte ≡ target_after e.to es byte
target_after-past before e es byte h = ap (λ b. cond b e.to (target_after e.to es byte)) (lt-leb byte e.last h)

-- the last byte of edges that cover the bytes is 255
pub covers-bounds : (low : ℕ) (e : Edge) (es : List Edge) → CoversFrom low (e ∷ es) → e.last ≤ 255
covers-bounds low e [] c = omega (arith, c.1)
covers-bounds low e (x ∷ xs) c = omega (arith, c.1.0, covers-bounds (e.last + 1) x xs c.1)

-- bytes above 255 lead where 255 leads
pub target_after-above : (before low : ℕ) (edges : List Edge) (byte : ℕ) → CoversFrom low edges → 255 ≤ byte → target_after before edges byte ≡ target_after before edges 255
target_after-above before low [] byte c h = refl
target_after-above before low (e ∷ []) byte c h =
    cond_both (leb byte e.last) e.to e.to (λ x. x ≡ target_after before (e ∷ []) 255) (λ _. sym (target_after-first before e [] 255 (omega (arith, c.1)))) (λ _. sym (target_after-first before e [] 255 (omega (arith, c.1))))
target_after-above before low (e ∷ x ∷ xs) byte c h =
    let b : e.last < 255 = omega (arith, covers-bounds (e.last + 1) x xs c.1, c.1.0) in
    target_after-past before e (x ∷ xs) byte (omega (arith, h, b)) ∙ target_after-above e.to (e.last + 1) (x ∷ xs) byte c.1 h ∙ sym (target_after-past before e (x ∷ xs) 255 b)

edge_same : (p q : Edge) → p.last ≡ q.last → p.to ≡ q.to → p ≡ q
edge_same p q e f = λ i. record { last = e i; to = f i }

-- where each byte leads to one state, so does the first run
heads : (before after low : ℕ) (x y : Edge) (xs ys : List Edge) → low ≤ 255 → CoversFrom low (x ∷ xs) → CoversFrom low (y ∷ ys)
    → ((byte : ℕ) → low ≤ byte → byte ≤ 255 → target_after before (x ∷ xs) byte ≡ target_after after (y ∷ ys) byte) → x.to ≡ y.to
heads before after low x y xs ys l c d same = sym (target_after-first before x xs low c.0) ∙ same low (omega arith) l ∙ target_after-first after y ys low d.0

-- past the end of one run, the other can't still lead there
apart : (low before after : ℕ) (p q r : Edge) (ps qs : List Edge) → p.last < q.last → q.last ≤ 255 → low ≤ p.last → p.last + 1 ≤ r.last → p.to ≡ q.to → (p.to ≡ r.to → ⊥)
    → ((byte : ℕ) → low ≤ byte → byte ≤ 255 → target_after before (p ∷ r ∷ ps) byte ≡ target_after after (q ∷ qs) byte) → ⊥
apart low before after p q r ps qs l1 l2 l3 l4 e n same =
    n (e ∙ sym (sym (target_after-past before p (r ∷ ps) (p.last + 1) (omega arith) ∙ target_after-first p.to r ps (p.last + 1) l4) ∙ same (p.last + 1) (omega arith) (omega arith) ∙ target_after-first after q qs (p.last + 1) (omega arith)))

-- two joined rows that lead each byte to one state are equal
pub joined_rows-equal : (before after low : ℕ) (xs ys : List Edge) → low ≤ 255 → CoversFrom low xs → CoversFrom low ys → IsJoined xs → IsJoined ys
    → ((byte : ℕ) → low ≤ byte → byte ≤ 255 → target_after before xs byte ≡ target_after after ys byte) → xs ≡ ys
joined_rows-equal before after low [] ys l c d j k same = absurd (omega (arith, c))
joined_rows-equal before after low (x ∷ xs) [] l c d j k same = absurd (omega (arith, d))
joined_rows-equal before after low (x ∷ []) (y ∷ []) l c d j k same =
    ap (λ e. e ∷ []) (edge_same x y (omega (arith, c.1, d.1)) (heads before after low x y [] [] l c d same))
joined_rows-equal before after low (x ∷ []) (y ∷ v ∷ vs) l c d j k same =
    absurd (apart low after before y x v vs [] (omega (arith, c.1, d.1.0, covers-bounds (y.last + 1) v vs d.1)) (omega (arith, c.1)) d.0 d.1.0 (sym (heads before after low x y [] (v ∷ vs) l c d same)) k.0 (λ byte p q. sym (same byte p q)))
joined_rows-equal before after low (x ∷ u ∷ us) (y ∷ []) l c d j k same =
    absurd (apart low before after x y u us [] (omega (arith, d.1, c.1.0, covers-bounds (x.last + 1) u us c.1)) (omega (arith, d.1)) c.0 c.1.0 (heads before after low x y (u ∷ us) [] l c d same) j.0 same)
joined_rows-equal before after low (x ∷ u ∷ us) (y ∷ v ∷ vs) l c d j k same =
    let to : x.to ≡ y.to = heads before after low x y (u ∷ us) (v ∷ vs) l c d same in
    elim (cases_lt x.last y.last) [
      | inl lt ↦ absurd (apart low before after x y u us (v ∷ vs) lt (covers-bounds low y (v ∷ vs) d) c.0 c.1.0 to j.0 same)
      | inr ge ↦
          elim (cases_lt y.last x.last) [
            | inl lt ↦ absurd (apart low after before y x v vs (u ∷ us) lt (covers-bounds low x (u ∷ us) c) d.0 d.1.0 (sym to) k.0 (λ byte p q. sym (same byte p q)))
            | inr le ↦
                let e : x.last ≡ y.last = omega (arith, ge, le) in
                let rest : u ∷ us ≡ v ∷ vs = joined_rows-equal x.to y.to (x.last + 1) (u ∷ us) (v ∷ vs) (omega (arith, c.1.0, covers-bounds (x.last + 1) u us c.1)) c.1 (subst (λ n. CoversFrom (n + 1) (v ∷ vs)) (sym e) d.1) j.1 k.1
                (λ byte p q. sym (target_after-past before x (u ∷ us) byte (omega (arith, p))) ∙ same byte (omega (arith, p, c.0)) q ∙ target_after-past after y (v ∷ vs) byte (omega (arith, p, e))) in
                λ i. edge_same x y e to i ∷ rest i
          ]
    ]

pub length-renamed : (name : ℕ → ℕ) (es : List Edge) → length (renamed name es) ≡ length es
length-renamed name [] = refl
length-renamed name (e ∷ es) = ap suc (length-renamed name es)

-- renamed edges lead where the names of the targets say
pub target_after-renamed : (name : ℕ → ℕ) (before : ℕ) (es : List Edge) (byte : ℕ) → target_after (name before) (renamed name es) byte ≡ name (target_after before es byte)
target_after-renamed name before [] byte = refl
target_after-renamed name before (e ∷ es) byte =
    elim (leb byte e.last) as (λ b. cond b (name e.to) (target_after (name e.to) (renamed name es) byte) ≡ name (cond b e.to (target_after e.to es byte))) [
      | true ↦ refl
      | false ↦ target_after-renamed name e.to es byte
    ]

pub covers-renamed : (name : ℕ → ℕ) (low : ℕ) (es : List Edge) → CoversFrom low es → CoversFrom low (renamed name es)
covers-renamed name low [] c = c
covers-renamed name low (e ∷ es) c = (c.0, covers-renamed name (e.last + 1) es c.1)

pub targets-renamed : (name : ℕ → ℕ) (n m : ℕ) (es : List Edge) → ((s : ℕ) → s < n → name s < m) → All (λ e. e.to < n) es → All (λ e. e.to < m) (renamed name es)
targets-renamed name n m [] h a = λ k d l. absurd (omega (arith, l))
targets-renamed name n m (e ∷ es) h a =
    All-cons (λ e. e.to < m) _ (renamed name es) (h e.to (All-head (λ e. e.to < n) e es a)) (targets-renamed name n m es h (All-tail (λ e. e.to < n) e es a))

-- joined edges are as many as there are where the row isn't empty, and lead where the edges led
pub target_after-joined : (before low : ℕ) (es : List Edge) (byte : ℕ) → CoversFrom low es → target_after before (joined es) byte ≡ target_after before es byte
target_after-joined before low [] byte c = refl
target_after-joined before low (e ∷ []) byte c = refl
target_after-joined before low (e ∷ x ∷ xs) byte c =
    elim (cases_eq e.to x.to) [
      | inl same ↦
          ap (λ b. target_after before (cond b (joined (x ∷ xs)) (e ∷ joined (x ∷ xs))) byte) (eq-eqb e.to x.to same) ∙ target_after-joined before (e.last + 1) (x ∷ xs) byte c.1
          ∙ elim (cases_lt e.last byte) [
            | inl past ↦ sym (target_after-past before e (x ∷ xs) byte past)
            | inr first ↦ target_after-first before x xs byte (omega (arith, c.1.0, first)) ∙ sym same ∙ sym (target_after-first before e (x ∷ xs) byte first)
          ]
      | inr differ ↦
          ap (λ b. target_after before (cond b (joined (x ∷ xs)) (e ∷ joined (x ∷ xs))) byte) (ne_eqb e.to x.to differ)
          ∙ ap (λ t. cond (leb byte e.last) e.to t) (target_after-joined e.to (e.last + 1) (x ∷ xs) byte c.1)
    ]

pub covers-joined : (low : ℕ) (es : List Edge) → CoversFrom low es → CoversFrom low (joined es)
covers-joined low [] c = c
covers-joined low (e ∷ []) c = c
covers-joined low (e ∷ x ∷ xs) c =
    cond_both (eqb e.to x.to) (joined (x ∷ xs)) (e ∷ joined (x ∷ xs)) (CoversFrom low) (λ _. lower low (e.last + 1) (joined (x ∷ xs)) (omega (arith, c.0)) (covers-joined (e.last + 1) (x ∷ xs) c.1) (some x xs)) (λ _. (c.0, covers-joined (e.last + 1) (x ∷ xs) c.1))
  where
    some : (x : Edge) (xs : List Edge) → joined (x ∷ xs) ≡ [] → ⊥
    some x [] e = cc
    some x (y ∷ ys) e = elim (cases_Bool (eqb x.to y.to)) [
      | inl t ↦ some y ys (sym (ap (λ b. cond b (joined (y ∷ ys)) (x ∷ joined (y ∷ ys))) t) ∙ e)
      | inr f ↦ (let g : x ∷ joined (y ∷ ys) ≡ [] = sym (ap (λ b. cond b (joined (y ∷ ys)) (x ∷ joined (y ∷ ys))) f) ∙ e in cc)
    ]

    lower : (low high : ℕ) (es : List Edge) → low ≤ high → CoversFrom high es → (es ≡ [] → ⊥) → CoversFrom low es
    lower low high [] l c n = absurd (n refl)
    lower low high (e ∷ es) l c n = (omega (arith, l, c.0), c.1)

pub targets-joined : (n : ℕ) (es : List Edge) → All (λ e. e.to < n) es → All (λ e. e.to < n) (joined es)
targets-joined n [] a = a
targets-joined n (e ∷ []) a = a
targets-joined n (e ∷ x ∷ xs) a =
    let rest = targets-joined n (x ∷ xs) (All-tail (λ e. e.to < n) e (x ∷ xs) a) in
    cond_both (eqb e.to x.to) (joined (x ∷ xs)) (e ∷ joined (x ∷ xs)) (All (λ e. e.to < n)) (λ _. rest) (λ _. All-cons (λ e. e.to < n) e (joined (x ∷ xs)) (All-head (λ e. e.to < n) e (x ∷ xs) a) rest)

-- the first of the joined edges leads where the first edge led
LeadsTo : ℕ → List Edge → Type 0
LeadsTo to [] = Unit {0}
LeadsTo to (e ∷ es) = to ≡ e.to

joined-head : (x : Edge) (xs : List Edge) → LeadsTo x.to (joined (x ∷ xs))
unfolding LeadsTo
joined-head x [] = refl
joined-head x (y ∷ ys) =
    elim (cases_eq x.to y.to) [
      | inl same ↦ subst (λ b. LeadsTo x.to (cond b (joined (y ∷ ys)) (x ∷ joined (y ∷ ys)))) (sym (eq-eqb x.to y.to same)) (subst (λ t. LeadsTo t (joined (y ∷ ys))) (sym same) (joined-head y ys))
      | inr differ ↦ subst (λ b. LeadsTo x.to (cond b (joined (y ∷ ys)) (x ∷ joined (y ∷ ys)))) (sym (ne_eqb x.to y.to differ)) refl
    ]

IsJoined-cons : (e : Edge) (to : ℕ) (es : List Edge) → (e.to ≡ to → ⊥) → LeadsTo to es → IsJoined es → IsJoined (e ∷ es)
unfolding LeadsTo
IsJoined-cons e to [] n l j = tt
IsJoined-cons e to (x ∷ xs) n l j = (λ same. n (same ∙ sym l), j)

pub IsJoined-joined : (es : List Edge) → IsJoined (joined es)
IsJoined-joined [] = tt
IsJoined-joined (e ∷ []) = tt
IsJoined-joined (e ∷ x ∷ xs) =
    cond_both (eqb e.to x.to) (joined (x ∷ xs)) (e ∷ joined (x ∷ xs)) IsJoined (λ _. IsJoined-joined (x ∷ xs)) (λ differ. IsJoined-cons e x.to (joined (x ∷ xs)) (eqb-false e.to x.to differ) (joined-head x xs) (IsJoined-joined (x ∷ xs)))

-- A row in the making: whatever edges follow from `low` on, it covers the bytes, and each byte below `low` leads where
-- the relation says.
pub record RowUpTo (Leads : ℕ → ℕ → Type 0) (row : List Edge) (low : ℕ) : Type 0 where
  pub covers : (rest : List Edge) → CoversFrom low rest → CoversBytes (row ++ rest)
  pub below : All (λ e. e.last < low) row
  pub leads : (byte : ℕ) → byte < low → (rest : List Edge) → Leads byte (target (row ++ rest) byte)

pub upto-none : (Leads : ℕ → ℕ → Type 0) → RowUpTo Leads [] 0
upto-none Leads = record {
  covers = λ rest c. c;
  below = λ k d l. absurd (omega (arith, l));
  leads = λ byte l rest. absurd (omega (arith, l));
}

pub upto-weaker : (Leads Leads' : ℕ → ℕ → Type 0) (row : List Edge) (low : ℕ) → ((byte to : ℕ) → Leads byte to → Leads' byte to) → RowUpTo Leads row low → RowUpTo Leads' row low
upto-weaker Leads Leads' row low f r = record { covers = r.covers; below = r.below; leads = λ byte l rest. f byte _ (r.leads byte l rest) }

-- edges whose bytes are all below are passed over
passed : (before low : ℕ) (row : List Edge) (e : Edge) (rest : List Edge) (byte : ℕ) → All (λ e. e.last < low) row → low ≤ byte → byte ≤ e.last → target_after before (row ++ e ∷ rest) byte ≡ e.to
passed before low [] e rest byte a l h = target_after-first before e rest byte h
passed before low (x ∷ xs) e rest byte a l h =
    target_after-past before x (xs ++ e ∷ rest) byte (omega (arith, l, All-head (λ e. e.last < low) x xs a)) ∙ passed x.to low xs e rest byte (All-tail (λ e. e.last < low) x xs a) l h

pub upto-push : (Leads : ℕ → ℕ → Type 0) (row : List Edge) (low : ℕ) (e : Edge) → low ≤ e.last → ((byte : ℕ) → low ≤ byte → byte ≤ e.last → Leads byte e.to) → RowUpTo Leads row low → RowUpTo Leads (row ++ e ∷ []) (e.last + 1)
upto-push Leads row low e l here r = record {
  covers = λ rest c. subst CoversBytes (sym (append_assoc row (e ∷ []) rest)) (r.covers (e ∷ rest) (l, c));
  below = All-push (λ x. x.last < e.last + 1) row e (All-weaker (λ x. x.last < low) (λ x. x.last < e.last + 1) (λ x h. omega (arith, h, l)) row r.below) (omega arith);
  leads = λ byte h rest. subst (λ t. Leads byte (target t byte)) (sym (append_assoc row (e ∷ []) rest)) (by byte h rest);
}
  where
    by : (byte : ℕ) → byte < e.last + 1 → (rest : List Edge) → Leads byte (target (row ++ e ∷ rest) byte)
    by byte h rest =
        elim (cases_lt byte low) [
          | inl lt ↦ r.leads byte lt (e ∷ rest)
          | inr ge ↦ subst (Leads byte) (sym (passed 0 low row e rest byte r.below ge (omega (arith, h)))) (here byte ge (omega (arith, h)))
        ]

pub upto-all : (Leads : ℕ → ℕ → Type 0) (row : List Edge) → RowUpTo Leads row 256 → CoversBytes row × ((byte : ℕ) → byte < 256 → Leads byte (target row byte))
upto-all Leads row r = (subst CoversBytes (append-nil row) (r.covers [] refl), λ byte h. subst (λ t. Leads byte (target t byte)) (append-nil row) (r.leads byte h []))

-- What is left of a row from a place on covers the bytes from `low` on, and leads them where the row does.
pub record Rest (row : List Edge) (place low : ℕ) : Type 0 where
  pub before : ℕ
  pub covers : CoversFrom low (drop place row)
  pub leads : (byte : ℕ) → low ≤ byte → target row byte ≡ target_after before (drop place row) byte

pub rest-all : (row : List Edge) → CoversBytes row → Rest row 0 0
rest-all row c = record { before = 0; covers = c; leads = λ byte l. refl }

pub rest-here : (row : List Edge) (place low : ℕ) (x : Edge) → place < length row → x ≡ get_or row place x → Rest row place low → (low ≤ x.last) × ((byte : ℕ) → low ≤ byte → byte ≤ x.last → target row byte ≡ x.to)
rest-here row place low x l e r =
    let split : drop place row ≡ x ∷ drop (place + 1) row = drop_more row place x l ∙ ap (λ y. y ∷ drop (place + 1) row) (sym e) in
    let c = subst (CoversFrom low) split r.covers in
    (c.0, λ byte p q. r.leads byte p ∙ ap (λ t. target_after r.before t byte) split ∙ target_after-first r.before x (drop (place + 1) row) byte q)

pub rest-bounds : (row : List Edge) (place low : ℕ) → place < length row → Rest row place low → low ≤ 255
rest-bounds row place low l r =
    let x = get_or row place (record { last = 0; to = 0 }) in
    let c = subst (CoversFrom low) (drop_more row place (record { last = 0; to = 0 }) l) r.covers in
    omega (arith, c.0, covers-bounds low x (drop (place + 1) row) c)

-- the rest after the bytes up to `last`: of the next place on where they are the whole run
pub rest-more : (row : List Edge) (place place' low last : ℕ) (x : Edge) → place < length row → x ≡ get_or row place x → Rest row place low
    → low ≤ last → ((x.last ≡ last) × (place' ≡ place + 1)) ⊎ ((last < x.last) × (place' ≡ place)) → Rest row place' (last + 1)
rest-more row place place' low last x l e r h m =
    let split : drop place row ≡ x ∷ drop (place + 1) row = drop_more row place x l ∙ ap (λ y. y ∷ drop (place + 1) row) (sym e) in
    let c = subst (CoversFrom low) split r.covers in
    let led : (byte : ℕ) → low ≤ byte → target row byte ≡ target_after r.before (x ∷ drop (place + 1) row) byte = λ byte p. r.leads byte p ∙ ap (λ t. target_after r.before t byte) split in
    elim m [
      | inl w ↦ subst (λ p. Rest row p (last + 1)) (sym w.1) (record {
        before = x.to;
        covers = subst (λ n. CoversFrom (n + 1) (drop (place + 1) row)) w.0 c.1;
        leads = λ byte p. led byte (omega (arith, p, h)) ∙ target_after-past r.before x (drop (place + 1) row) byte (omega (arith, p, w.0));
      })
      | inr w ↦ subst (λ p. Rest row p (last + 1)) (sym w.1) (record {
        before = r.before;
        covers = subst (CoversFrom (last + 1)) (sym split) (omega (arith, w.0), c.1);
        leads = λ byte p. r.leads byte (omega (arith, p, h));
      })
    ]

-- one edge more of the renamed and joined edges, which is left out where the next leads to the same state
pub joined-skip : (name : ℕ → ℕ) (row edges : List Edge) (i : ℕ) (x y : Edge) → i < length edges → x ≡ get_or edges i x → y ≡ get_or edges (i + 1) y → row ++ joined (renamed name (drop i edges)) ≡ joined (renamed name edges)
    → i + 1 < length edges → name y.to ≡ name x.to → row ++ joined (renamed name (drop (i + 1) edges)) ≡ joined (renamed name edges)
joined-skip name row edges i x y l is_x is_y e more same =
    let split : drop i edges ≡ x ∷ drop (i + 1) edges = drop_more edges i x l ∙ ap (λ t. t ∷ drop (i + 1) edges) (sym is_x) in
    let split' : drop (i + 1) edges ≡ y ∷ drop (i + 1 + 1) edges = drop_more edges (i + 1) y more ∙ ap (λ t. t ∷ drop (i + 1 + 1) edges) (sym is_y) in
    let rest = renamed name (y ∷ drop (i + 1 + 1) edges) in
    let skipped : joined (renamed name (drop i edges)) ≡ joined (renamed name (drop (i + 1) edges)) =
    ap (λ t. joined (renamed name t)) (split ∙ ap (λ t. x ∷ t) split') ∙ ap (λ b. cond b (joined rest) ((record { last = x.last; to = name x.to }) ∷ joined rest)) (eq-eqb (name x.to) (name y.to) (sym same)) ∙ sym (ap (λ t. joined (renamed name t)) split') in
    ap (λ t. row ++ t) (sym skipped) ∙ e

pub joined-push : (name : ℕ → ℕ) (row edges : List Edge) (i : ℕ) (x y : Edge) → i < length edges → x ≡ get_or edges i x → (i + 1 < length edges → (y ≡ get_or edges (i + 1) y) × (name y.to ≡ name x.to → ⊥)) → row ++ joined (renamed name (drop i edges)) ≡ joined (renamed name edges)
    → (row ++ (record { last = x.last; to = name x.to }) ∷ []) ++ joined (renamed name (drop (i + 1) edges)) ≡ joined (renamed name edges)
joined-push name row edges i x y l is_x differ e =
    append_assoc row _ (joined (renamed name (drop (i + 1) edges))) ∙ ap (λ t. row ++ t) (sym pushed) ∙ e
  where
    split : drop i edges ≡ x ∷ drop (i + 1) edges
    split = drop_more edges i x l ∙ ap (λ t. t ∷ drop (i + 1) edges) (sym is_x)

    pushed : joined (renamed name (drop i edges)) ≡ (record { last = x.last; to = name x.to }) ∷ joined (renamed name (drop (i + 1) edges))
    pushed =
        elim (cases_lt (i + 1) (length edges)) [
          | inl more ↦
              let split' : drop (i + 1) edges ≡ y ∷ drop (i + 1 + 1) edges = drop_more edges (i + 1) y more ∙ ap (λ t. t ∷ drop (i + 1 + 1) edges) (sym (differ more).0) in
              let rest = renamed name (y ∷ drop (i + 1 + 1) edges) in
              ap (λ t. joined (renamed name t)) (split ∙ ap (λ t. x ∷ t) split') ∙ ap (λ b. cond b (joined rest) ((record { last = x.last; to = name x.to }) ∷ joined rest)) (ne_eqb (name x.to) (name y.to) (λ s. (differ more).1 (sym s)))
              ∙ ap (λ t. (record { last = x.last; to = name x.to }) ∷ joined (renamed name t)) (sym split')
          | inr less ↦
              let none : drop (i + 1) edges ≡ [] = drop_all (i + 1) edges less in
              ap (λ t. joined (renamed name t)) (split ∙ ap (λ t. x ∷ t) none) ∙ ap (λ t. (record { last = x.last; to = name x.to }) ∷ joined (renamed name t)) (sym none)
        ]

-- a renamed and joined row leads each byte to the name of where the row leads it
pub target-renamed : (name : ℕ → ℕ) (edges : List Edge) (byte : ℕ) → CoversBytes edges → target (joined (renamed name edges)) byte ≡ name (target edges byte)
target-renamed name [] byte c = absurd (omega (arith, c))
target-renamed name (e ∷ es) byte c =
    target_after-joined 0 0 (renamed name (e ∷ es)) byte (covers-renamed name 0 (e ∷ es) c) ∙ target_after-renamed name 0 (e ∷ es) byte

-- the last bytes of edges rise
pub last-rises : (low : ℕ) (edges : List Edge) → CoversFrom low edges → (i j : ℕ) (d : Edge) → i ≤ j → j < length edges → (get_or edges i d).last ≤ (get_or edges j d).last
last-rises low [] c i j d l m = absurd (omega (arith, m))
last-rises low (e ∷ es) c zero zero d l m = omega arith
last-rises low (e ∷ []) c zero (suc j) d l m = absurd (omega (arith, m))
last-rises low (e ∷ x ∷ xs) c zero (suc j) d l m = omega (arith, c.1.0, last-rises (e.last + 1) (x ∷ xs) c.1 0 j d (omega arith) (omega (arith, m)))
last-rises low (e ∷ es) c (suc i) zero d l m = absurd (omega (arith, l))
last-rises low (e ∷ es) c (suc i) (suc j) d l m = last-rises (e.last + 1) es c.1 i j d (omega (arith, l)) (omega (arith, m))

-- some edge of those that cover the bytes goes up to a byte
some-edge : (low : ℕ) (edges : List Edge) (byte place : ℕ) → low ≤ 255 → byte ≤ 255 → CoversFrom low edges → AllWithin (λ e. e.last < byte) edges 0 place → place ≤ length edges → place < length edges
some-edge low [] byte place l b c a p = absurd (omega (arith, l, c))
some-edge low (e ∷ es) byte zero l b c a p = omega arith
some-edge low (e ∷ []) byte (suc place) l b c a p = absurd (omega (arith, c.1, b, a 0 e (omega arith) (omega arith)))
some-edge low (e ∷ x ∷ xs) byte (suc place) l b c a p =
    let m : e.last + 1 ≤ 255 = omega (arith, c.1.0, covers-bounds (e.last + 1) x xs c.1) in
    omega (arith, some-edge (e.last + 1) (x ∷ xs) byte place m b c.1 (λ k d lo hi. a (suc k) d (omega arith) (omega (arith, hi))) (omega (arith, p)))

pub edge-found : (edges : List Edge) (byte place : ℕ) → byte ≤ 255 → CoversBytes edges → place ≤ length edges → AllWithin (λ e. e.last < byte) edges 0 place → AllWithin (λ e. byte ≤ e.last) edges place (length edges) → IsEdgeOf edges byte place
edge-found edges byte place b c p below above = (some-edge 0 edges byte place (omega arith) b c below p, below, above)

target-found : (before : ℕ) (edges : List Edge) (byte place : ℕ) (d : Edge) → place < length edges → AllWithin (λ e. e.last < byte) edges 0 place → byte ≤ (get_or edges place d).last → target_after before edges byte ≡ (get_or edges place d).to
target-found before [] byte place d l a h = absurd (omega (arith, l))
target-found before (e ∷ es) byte zero d l a h = target_after-first before e es byte h
target-found before (e ∷ es) byte (suc place) d l a h =
    target_after-past before e es byte (a 0 d (omega arith) (omega arith)) ∙ target-found e.to es byte place d (omega (arith, l)) (λ k d' lo hi. a (suc k) d' (omega arith) (omega (arith, hi))) h

-- the byte leads along its edge
pub target-at : (edges : List Edge) (byte place : ℕ) (d : Edge) → IsEdgeOf edges byte place → target edges byte ≡ (get_or edges place d).to
target-at edges byte place d is = target-found 0 edges byte place d is.0 is.1 (is.2 place d (omega arith) is.0)

-- and so does each byte from it up to the edge's last
pub target-run : (edges : List Edge) (byte place : ℕ) (d : Edge) → IsEdgeOf edges byte place → (other : ℕ) → byte ≤ other → other ≤ (get_or edges place d).last → target edges other ≡ target edges byte
target-run edges byte place d is other l m =
    target-found 0 edges other place d is.0 (λ k d' lo hi. omega (arith, is.1 k d' lo hi, l)) m ∙ sym (target-at edges byte place d is)
