use Rattle.std.proofs.Common.{◌≡◌, ℕ, List, IfOk, subst, rules, tests}
use Rattle.std.specs.List.{slice_split}
use Rattle.std.specs.Prelude.{◌==◌}
use Rattle.std.proofs.lemmas.Iterator.Consumers.{map_from_collect}
use Rattle.std.proofs.lemmas.Iterator.Splits.{YieldsList-from_slice_split}
use Rattle.request_parts.specs.PieceViews.{texts}
use Rattle.request_parts.proofs.Cutting.{cut_is}
use Rattle.match_eval.proofs.forwarded_value.cut_at_comma.Goals as goal

pub returns : goal.returns
returns c =
    let pieces : IfOk c.collect.result (λ v. texts v.items ≡ slice_split (λ b. b == 44) c.args.value.now) =
    map_from_collect _ c.collect.ensures.ran
    (YieldsList-from_slice_split _ _ c.args.value.now c.split.ensures.rest c.split.ensures.done c.split.ensures.closure (λ x r q k. search (rules, tests))) in
    subst (λ (parts : List (List ℕ)). IfOk c.collect.result (λ v. texts v.items ≡ parts)) (cut_is 44 c.args.value.now) pieces
