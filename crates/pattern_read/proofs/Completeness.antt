-- What is written leads the reader to its group.
use Rattle.std.proofs.Common.{◌≡◌, ℕ, ◌+◌, ◌*◌, ◌<◌, ◌≤◌, List, [], ◌∷◌, ◌++◌, length, Bool, nat_lt, cond, Option, Some, None, refl, ap, ◌∙◌, arith}
use Rattle.std.proofs.lemmas.Bool.{lt-ltb}
use Rattle.std.proofs.lemmas.List.{length-append}
use Rattle.waf_model.specs.PatternGrammar.{Count, once, times, Written, nothing, anchored, one_of, group, barred, count_pieces, pieces, depth}
use Rattle.waf_model.specs.PatternPieces.{Piece, closes}
use Rattle.waf_model.specs.declared.pattern.Pattern.{Pattern, Set, Repeat}
use Rattle.pattern_read.specs.Machine as machine
use Rattle.pattern_read.specs.declared.group.Atom.{Atom}
use Rattle.pattern_read.specs.declared.group.Group.{Group}
use Rattle.pattern_read.specs.declared.state.State.{State}
use Rattle.pattern_read.proofs.Splits.{split_last-append}

abbrev pub after_count : Group → Pattern → ℕ → Count → Group
after_count g pattern places once = machine.with_atom g pattern places
after_count g pattern places (times least most factor) = record {
  done = (machine.settled g).done;
  items = (machine.settled g).items ++ Repeat pattern least most ∷ [];
  places = machine.capped ((machine.settled g).places + machine.capped (places * factor));
  last = None;
}

-- the group once something was read
abbrev pub after : Group → Written → Group
after g nothing = g
after g (anchored pattern rest) = after (machine.anchored g pattern) rest
after g (one_of bytes counted rest) = after (after_count g (Set bytes) 1 counted) rest
after g (group inner counted rest) =
    after (after_count g (machine.closed (after machine.fresh inner)).pattern (machine.closed (after machine.fresh inner)).places counted) rest
after g (barred rest) = after (machine.barred g) rest

counts : (outer : List Group) (g : Group) (pattern : Pattern) (places : ℕ) (counted : Count) (more : List Piece) →
    machine.run_from (count_pieces counted more) (Some (record { outer = outer; group = machine.with_atom g pattern places })) ≡
    machine.run_from more (Some (record { outer = outer; group = after_count g pattern places counted }))
counts outer g pattern places once more = refl
counts outer g pattern places (times least most factor) more = refl

abbrev pub opened : List Group → Group → State
opened outer g = record { outer = outer ++ g ∷ []; group = machine.fresh }

pub may_open : (outer : List Group) (g : Group) → length outer < 100 →
    cond (nat_lt (length outer) 100) (Some (opened outer g)) None ≡ Some (opened outer g)
may_open outer g below = ap (λ (b : Bool). cond b (Some (opened outer g)) None) (lt-ltb (length outer) 100 below)

pub runs : (w : Written) (outer : List Group) (g : Group) (more : List Piece) → length outer + depth w ≤ 100 →
    machine.run_from (pieces w more) (Some (record { outer = outer; group = g })) ≡
    machine.run_from more (Some (record { outer = outer; group = after g w }))
runs nothing outer g more shallow = refl
runs (anchored pattern rest) outer g more shallow = runs rest outer (machine.anchored g pattern) more shallow
runs (one_of bytes counted rest) outer g more shallow =
    counts outer g (Set bytes) 1 counted (pieces rest more) ∙ runs rest outer (after_count g (Set bytes) 1 counted) more shallow
runs (group inner counted rest) outer g more shallow =
    let longer : length (outer ++ g ∷ []) ≡ length outer + 1 = length-append outer (g ∷ []) in
    let behind : List Piece = count_pieces counted (pieces rest more) in
    let closed : Atom = machine.closed (after machine.fresh inner) in
    ap (machine.run_from (pieces inner (closes ∷ behind))) (may_open outer g (omega arith))
    ∙ runs inner (outer ++ g ∷ []) machine.fresh (closes ∷ behind) (omega arith)
    ∙ ap (λ (o : Option (List Group × Group)). machine.run_from behind (machine.closed_into closed o)) (split_last-append outer g)
    ∙ counts outer g closed.pattern closed.places counted (pieces rest more)
    ∙ runs rest outer (after_count g closed.pattern closed.places counted) more (omega arith)
runs (barred rest) outer g more shallow = runs rest outer (machine.barred g) more shallow
