-- A text without a dot is an IPv6 address by the grammar of std just where it is eight groups by this project's.
use Rattle.std.proofs.Common.{◌≡◌, ℕ, ◌+◌, ◌-◌, true, false, List, [], ◌∷◌, ◌++◌, length, replicate, Option, Some, None, refl, sym, ap, ◌∙◌, subst, arith, inl, inr, append_assoc, eqb, ltb, lt-ltb, eq-eqb}
use Rattle.std.proofs.lemmas.Bool.{eqb-true, ltb-true}
use Rattle.std.proofs.lemmas.Option.{none-some}
use Rattle.std.specs.Net.Grammar.{IsColonHex}
use Rattle.std.specs.Prelude.{option_and_then}
use Rattle.waf_model.specs.AddressText.{groups_of, around_double_colon, eight_around, eight_groups_of, all_eight, filled}
use Rattle.ip_text.proofs.DoubleColon.{around_found, around_front, around_is, groups_have_none}
use Rattle.ip_text.proofs.Groups.{has, has_left, has_right, has_neither, chosen, groups_from, groups_are, no_dot_after}

pub eight_from : (text segments : List ℕ) → IsColonHex text segments → has 46 text ≡ false → eight_groups_of text ≡ Some segments
unfolding eight_groups_of
eight_from text segments (inl h) no_dot =
    let are = groups_from true segments text h.0 no_dot in
    let none = around_front text (groups_have_none segments text (groups_are false segments text are)) in
    rw (none, are, eq-eqb (length segments) 8 h.1) refl
eight_from text segments (inr h) no_dot =
    let shown : text ≡ h.head_text ++ 58 ∷ 58 ∷ h.tail_text = h.spelled ∙ append_assoc h.head_text (58 ∷ 58 ∷ []) h.tail_text in
    let without = subst (λ (t : List ℕ). has 46 t ≡ false) shown no_dot in
    let around = around_found h.head_text h.tail_text (groups_have_none h.head h.head_text h.head_groups) in
    let head_are = groups_from false h.head h.head_text h.head_groups (has_left 46 h.head_text (58 ∷ 58 ∷ h.tail_text) without) in
    let tail_are = groups_from true h.tail h.tail_text h.tail_groups (has_right 46 h.head_text (58 ∷ 58 ∷ h.tail_text) without) in
    let missing : 8 - (length h.head + length h.tail) ≡ 8 - length h.head - length h.tail = omega arith in
    rw (shown, around, head_are, tail_are, lt-ltb (length h.head + length h.tail) 8 h.room, missing) (ap (λ x. Some x) (sym h.value))

bound : {A B : Type 0} (o : Option A) (next : A → Option B) (b : B) → option_and_then next o ≡ Some b → (a : A) × (o ≡ Some a) × (next a ≡ Some b)
bound None next b e = absurd (none-some b e)
bound (Some a) next b e = (a, refl, e)

-- an IPv6 address, and no dot
abbrev pub IsUndotted : List ℕ → List ℕ → Type 0
IsUndotted text segments = IsColonHex text segments × (has 46 text ≡ false)

eight_are_at : (text segments : List ℕ) (o : Option (List ℕ × List ℕ)) → around_double_colon text ≡ o → eight_around text o ≡ Some segments → IsUndotted text segments
eight_are_at text segments None is e =
    let (groups, are, all) = bound (groups_of text) all_eight segments e in
    let (test, same) = chosen (eqb (length groups) 8) groups segments all in
    subst (λ (g : List ℕ). IsUndotted text g) same
    (inl (groups_are true groups text are, eqb-true (length groups) 8 test), no_dot_after groups [] text refl (groups_are false groups text are))
eight_are_at text segments (Some parts) is e =
    let (head, head_are, after_head) = bound (groups_of parts.0) (λ head. option_and_then (λ tail. filled head tail) (groups_of parts.1)) segments e in
    let (tail, tail_are, both) = bound (groups_of parts.1) (λ tail. filled head tail) segments after_head in
    let (test, same) = chosen (ltb (length head + length tail) 8) (head ++ replicate (8 - (length head + length tail)) 0 ++ tail) segments both in
    let missing : 8 - (length head + length tail) ≡ 8 - length head - length tail = omega arith in
    let shown = around_is text parts is in
    let head_without = no_dot_after head [] parts.0 refl (groups_are false head parts.0 head_are) in
    let tail_without = no_dot_after tail [] parts.1 refl (groups_are false tail parts.1 tail_are) in (
      inr (record {
        head_text = parts.0;
        tail_text = parts.1;
        head = head;
        tail = tail;
        spelled = shown ∙ sym (append_assoc parts.0 (58 ∷ 58 ∷ []) parts.1);
        head_groups = groups_are false head parts.0 head_are;
        tail_groups = groups_are true tail parts.1 tail_are;
        room = ltb-true (length head + length tail) 8 test;
        value = sym same ∙ ap (λ n. head ++ replicate n 0 ++ tail) missing;
      }),
      rw shown (has_neither 46 parts.0 (58 ∷ 58 ∷ parts.1) head_without tail_without),
    )

pub eight_are : (text segments : List ℕ) → eight_groups_of text ≡ Some segments → IsUndotted text segments
unfolding eight_groups_of
eight_are text segments e = eight_are_at text segments (around_double_colon text) refl e

none_at : (text : List ℕ) (o : Option (List ℕ)) → eight_groups_of text ≡ o → ((segments : List ℕ) → IsUndotted text segments → ⊥) → None ≡ eight_groups_of text
none_at text None is not = sym is
none_at text (Some segments) is not = absurd (not segments (eight_are text segments is))

pub eight_none : (text : List ℕ) → ((segments : List ℕ) → IsUndotted text segments → ⊥) → None ≡ eight_groups_of text
eight_none text not = none_at text (eight_groups_of text) refl not
