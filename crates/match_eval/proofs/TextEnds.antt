-- What is left of a text without the last of it.
use Rattle.std.proofs.Common.{◌≡◌, ℕ, ◌-◌, ◌++◌, List, length, take, drop, sym, ap, ◌∙◌}
use Rattle.std.proofs.Math.Seq.{take-append_seam}
use Rattle.std.proofs.lemmas.List.{length-drop, length-reverse, reverse-append, reverse-reverse, take-append-drop}
use Rattle.std.specs.Prelude.{reverse}

-- a text without its last bytes is, turned round, the turned text without its first ones
pub back_is : (text : List ℕ) (n : ℕ) → take (length text - n) text ≡ reverse (drop n (reverse text))
back_is text n =
    let turned = reverse text in
    let kept = reverse (drop n turned) in
    let whole : text ≡ kept ++ reverse (take n turned) =
    sym (reverse-reverse text) ∙ ap reverse (sym (take-append-drop n turned)) ∙ reverse-append (take n turned) (drop n turned) in
    let size : length text - n ≡ length kept =
    sym (length-reverse (drop n turned) ∙ length-drop n turned ∙ ap (λ k. k - n) (length-reverse text)) in
    ap (λ k. take k text) size ∙ ap (take (length kept)) whole ∙ take-append_seam kept (reverse (take n turned))
