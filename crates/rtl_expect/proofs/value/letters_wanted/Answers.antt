use Rattle.std.proofs.Common.{◌<◌, length, sym, ap, ◌∙◌, arith}
use Rattle.rtl_expect.proofs.Wanting.{behind_all, unequal, no_letter}
use Rattle.rtl_expect.proofs.value.letters_wanted.Goals as goal

pub returns-then-nets-text : goal.returns-then-nets-text
returns-then-nets-text c = unequal c.args.nets.now c.args.text.now c.if-nets-text.true

pub returns-in_default : goal.returns-in_default
returns-in_default c =
    let here : c.loop-place.place < length c.args.text.now = omega (arith, c.loop-place-test.true, c.if-nets-text.false) in
    sym (c.loop-place.invariant ∙ ap (behind_all c.loop-place.wanted.items)
    (no_letter c.args.nets.now c.args.text.now c.loop-place.place _ c.loop-place-test.true here (sym c.code_wanted_of.ensures ∙ c.in_default.is)))
