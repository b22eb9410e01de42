use Rattle.std.proofs.Common.{sym, ◌∙◌}
use Rattle.text_transform.proofs.Filling.{wrote}
use Rattle.text_transform.proofs.PairLemmas.{pair_behind}
use Rattle.text_transform.proofs.hex_digits.push_pairs.Goals as goal

pub loop-byte-preserved : goal.loop-byte-preserved
loop-byte-preserved c = record {
  written = rw c.in_ok-push.ensures.items
      (wrote c.loop-byte.bytes.items _ _ _ _ c.loop-byte.invariant.written c.in-Some.ensures.bytes);
  behind = pair_behind c.loop-byte.rest.now c.in-Some.behind.now c.in-Some.byte c.in-Some.ensures ∙ c.loop-byte.invariant.behind;
  pairs = sym c.in-Some.ensures.pairs ∙ c.loop-byte.invariant.pairs;
}
