-- Only equal automata have one key.
use Rattle.std.proofs.Common.{◌≡◌, ℕ, ◌+◌, ◌≤◌, Bool, true, false, List, [], ◌∷◌, ◌++◌, length, get_or, drop, refl, ap, arith}
use Rattle.std.specs.List.{flat_map}
use Rattle.byte_automata.specs.declared.edge.Edge.{Edge}
use Rattle.byte_automata.specs.declared.state.State.{State}
use Rattle.byte_automata.specs.Automaton.{Automaton}
use Rattle.byte_automata.specs.Key.{bit, edge_numbers, state_numbers, flattened}
use Rattle.byte_automata.specs.Row.{CoversFrom}

-- edges that cover the bytes from `low` on are at most as many as these
pub covers-few : (low : ℕ) (es : List Edge) → CoversFrom low es → low + length es ≤ 256
covers-few low [] c = omega (arith, c)
covers-few low (e ∷ es) c = omega (arith, c.0, covers-few (e.last + 1) es c.1)

head-same : (x y : ℕ) (xs ys : List ℕ) → x ∷ xs ≡ y ∷ ys → x ≡ y
head-same x y xs ys e = ap (λ l. get_or l 0 0) e

tail-same : (x y : ℕ) (xs ys : List ℕ) → x ∷ xs ≡ y ∷ ys → xs ≡ ys
tail-same x y xs ys e = ap (λ l. drop 1 l) e

bit-same : (a b : Bool) → bit a ≡ bit b → a ≡ b
bit-same true true e = refl
bit-same true false e = absurd (omega (arith, e))
bit-same false true e = absurd (omega (arith, e))
bit-same false false e = refl

-- edges as many as others, with the same numbers in front, are those
edges-same : (xs ys : List Edge) (us vs : List ℕ) → length xs ≡ length ys → edge_numbers xs ++ us ≡ edge_numbers ys ++ vs → (xs ≡ ys) × (us ≡ vs)
edges-same [] [] us vs l e = (refl, e)
edges-same [] (y ∷ ys) us vs l e = absurd (omega (arith, l))
edges-same (x ∷ xs) [] us vs l e = absurd (omega (arith, l))
edges-same (x ∷ xs) (y ∷ ys) us vs l e =
    let first = head-same x.last y.last _ _ e in
    let behind = tail-same x.last y.last _ _ e in
    let second = head-same x.to y.to _ _ behind in
    let rest = edges-same xs ys us vs (omega (arith, l)) (tail-same x.to y.to _ _ behind) in
    (λ i. (record { last = first i; to = second i }) ∷ rest.0 i, rest.1)

states-same : (ss ts : List State) → flat_map state_numbers ss ≡ flat_map state_numbers ts → ss ≡ ts
states-same [] [] e = refl
states-same [] (t ∷ ts) e = absurd (let l = ap length e in omega (arith, l))
states-same (s ∷ ss) [] e = absurd (let l = ap length e in omega (arith, l))
states-same (s ∷ ss) (t ∷ ts) e =
    let first = bit-same s.accepting t.accepting (head-same (bit s.accepting) (bit t.accepting) _ _ e) in
    let behind = tail-same (bit s.accepting) (bit t.accepting) _ _ e in
    let rest = edges-same s.edges t.edges (flat_map state_numbers ss) (flat_map state_numbers ts) (head-same (length s.edges) (length t.edges) _ _ behind) (tail-same (length s.edges) (length t.edges) _ _ behind) in
    let more = states-same ss ts rest.1 in
    λ i. (record { accepting = first i; edges = rest.0 i }) ∷ more i

pub flattened-same : (a b : Automaton) → flattened a ≡ flattened b → a ≡ b
flattened-same a b e =
    let first = head-same a.start b.start _ _ e in
    let rest = states-same a.states b.states (tail-same a.start b.start _ _ e) in
    λ i. record { start = first i; states = rest i }
