use Rattle.std.proofs.Common.{◌≡◌, ℕ, ◌<◌, ◌||◌, true}
use Rattle.parting_build.specs.Named.{names}
use Rattle.parting_build.proofs.Unnamed.{path_of}
use Rattle.parting_build.proofs.named.unnamed_path.Given as goal

-- the path has as many letters as there were turns, and every shorter one is named
abbrev pub invariant-loop : goal.invariant-loop
invariant-loop l = record {
  here : l.path ≡ path_of l.counter;
  shorter : (k : ℕ) → k < l.counter → (names l.old (path_of k) || names l.new (path_of k)) ≡ true;
}
