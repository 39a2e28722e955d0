use Rattle.std.proofs.Common.{◌≡◌, ℕ, ◌++◌, ◌-◌, min, List, length, take, drop, replicate, Option, None, sym, ap, ◌∙◌, arith}
use Rattle.std.proofs.lemmas.List.{take_all, length-drop}
use Rattle.vhdl_values.specs.declared.kinds.Counted.{Counted}
use Rattle.vhdl_values.specs.Shifts.{leftmost, counted_of}
use Rattle.rtl_looks.specs.declared.hubs.Look.{Look}
use Rattle.rtl_looks.proofs.Shifting.{least, sign_is}
use Rattle.rtl_looks.proofs.values.counted_looks.Goals as goal

-- `others` is one less than the fewer of both
pub returns-in_ok-extend_from_slice-in-ResizeSigned : goal.returns-in_ok-extend_from_slice-in-ResizeSigned
returns-in_ok-extend_from_slice-in-ResizeSigned c =
    let looks = c.args.looks.now in
    let others = c.saturating_sub-others.result in
    let most : others ≡ min c.args.count (length looks) - 1 = omega (arith, c.saturating_sub-others.ensures, c.min.ensures ∙ least c.args.count (length looks)) in
    let long = length-drop (length looks - others) looks in
    let rest : take (length looks - (length looks - others)) (drop (length looks - others) looks) ≡ drop (length looks - others) looks = take_all _ _ (omega arith) in
    c.in_ok-extend_from_slice-in-ResizeSigned.ensures.items
    ∙ (ap (λ (xs : List (Option Look)). c.in_ok-resized-in-ResizeSigned.resized.items ++ xs) rest
    ∙ (ap (λ (xs : List (Option Look)). xs ++ drop (length looks - others) looks) c.in_ok-resized-in-ResizeSigned.ensures
    ∙ (ap (λ (n : ℕ). replicate n c.at.result ++ drop (length looks - others) looks) c.saturating_sub-in-ResizeSigned.ensures
    ∙ (ap (λ (sign : Option Look). replicate (c.args.count - others) sign ++ drop (length looks - others) looks) (c.at.ensures ∙ sign_is looks)
    ∙ (ap (λ (n : ℕ). replicate (c.args.count - n) (leftmost None looks) ++ drop (length looks - n) looks) most
    ∙ sym (ap (λ (o : Counted). counted_of None o c.args.count looks) c.in-ResizeSigned.is))))))
