use Rattle.std.proofs.Common.{◌≡◌, Ok, length}
use Rattle.std.proofs.lemmas.Iterator.{items_from_collect}
use Rattle.std.proofs.lemmas.Iterator.Adapters.{YieldsList-from_skip, YieldsList-from_vec}
use Rattle.std.specs.Vec.Iter.{into_iter_items, into_iter_len}
use Rattle.wafreview.proofs.words.behind_name.Goals as goal

pub returns-in-Ok-clause-words : goal.returns-in-Ok-clause-words
returns-in-Ok-clause-words c =
    let same : into_iter_items c.skip.result.iter ≡ into_iter_items c.args.all = cc in
    let count : into_iter_len c.skip.result.iter ≡ length (into_iter_items c.args.all) = cc in
    items_from_collect {E = Unit {0}} (Ok c.in-Ok.words) c.in-Ok.ensures.ran (YieldsList-from_skip 1 (YieldsList-from_vec {s = c.skip.result.iter} (into_iter_items c.args.all) same count) c.skip.ensures.count)
