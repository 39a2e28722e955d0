use Rattle.std.proofs.Common.{◌≡◌, ℕ, List, [], ◌∷◌, ◌++◌, ◌<◌, length, ap, sym, ◌∙◌, take, get_or, arith}
use Rattle.std.proofs.lemmas.List.{take_all, take_more}
use Rattle.std.proofs.lemmas.Option.{get_or_from_slice_get, slice_get_within}
use Rattle.rtl_calm_nets.proofs.entries.starting_codes.Goals as goal

pub loop-number-preserved : goal.loop-number-preserved
loop-number-preserved c =
    let starts = c.args.net.now.starts in
    let i = c.loop-number.number in
    let there : i < length starts = slice_get_within starts i c.start.result c.start.ensures in
    let at : get_or starts i 0 ≡ c.start.result = get_or_from_slice_get starts i c.start.result 0 c.start.ensures in
    c.in_ok-push.ensures.items ∙ ap (λ (xs : List ℕ). xs ++ c.start.result ∷ []) c.loop-number.invariant
    ∙ sym (take_more starts i 0 there ∙ ap (λ (x : ℕ). take i starts ++ x ∷ []) at)

pub returns : goal.returns
returns c =
    let many = c.nets-nets.ensures.elaborated.in_range.each_starts in
    c.loop-number.invariant ∙ take_all c.loop-number.number c.args.net.now.starts (omega (arith, many, c.nets-nets.ensures.count, c.loop-number-test.false))
