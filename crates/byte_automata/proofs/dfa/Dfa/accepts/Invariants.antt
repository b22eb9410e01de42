use Rattle.std.proofs.Common.{◌≡◌, ◌<◌, drop, length}
use Rattle.byte_automata.specs.Automaton.{ends}
use Rattle.byte_automata.proofs.dfa.Dfa.accepts.Given as goal

abbrev pub invariant-loop-byte : goal.invariant-loop-byte
invariant-loop-byte l = (l.state < length l.self.states) × (ends l.self l.state (drop l.byte-index l.text) ≡ ends l.self l.self.start l.text)
