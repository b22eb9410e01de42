-- What a list keeps as it grows.
use Rattle.std.proofs.Common.{ℕ, List, [], ◌++◌, sym, ap, ◌∙◌, arith}
use Rattle.std.proofs.lemmas.List.{append_assoc, append-nil, length-append, get_or_append_left}
use Rattle.std.proofs.lemmas.List.Elements.{All-weaker, All-append}
use Rattle.byte_automata.specs.Grows.{Grows}
use Rattle.byte_automata.specs.Numbers.{HasNumber}

pub number-kept : {A : Type 0} (items more : List A) (item : A) (number : ℕ) → HasNumber items item number → HasNumber (items ++ more) item number
number-kept items more item number h = (omega (arith, h.0, length-append items more), λ d. get_or_append_left items more d number h.0 ∙ h.1 d)

pub grows-twice : {A : Type 0} (Has : A → Type 0) (xs ys zs : List A) → Grows Has xs ys → Grows Has ys zs → Grows Has xs zs
grows-twice Has xs ys zs g h = (g.0 ++ h.0, h.1 ∙ ap (λ l. l ++ h.0) g.1 ∙ append_assoc xs g.0 h.0, All-append Has g.0 h.0 g.2 h.2)

pub grows-weaker : {A : Type 0} (Has Has' : A → Type 0) (xs ys : List A) → ((x : A) → Has x → Has' x) → Grows Has xs ys → Grows Has' xs ys
grows-weaker Has Has' xs ys f g = (g.0, g.1, All-weaker Has Has' f g.0 g.2)

pub grows-none : {A : Type 0} (Has : A → Type 0) (xs : List A) → Grows Has xs xs
grows-none Has xs = ([], sym (append-nil xs), λ k d l. absurd (omega (arith, l)))
