use Rattle.std.proofs.Common.{◌≡◌, Bool, true, false, not, refl, sym, ap, ◌∙◌}
use Rattle.vhdl_values.specs.Scalar.{code_of}
use Rattle.rtl_stim.proofs.races.changes.Goals as goal

on : (b : Bool) → not b ≡ true → b ≡ false
on true h = sym h
on false h = refl

off : (b : Bool) → not b ≡ false → b ≡ true
off true h = refl
off false h = sym h

pub returns-then-before-now-clause-changed : goal.returns-then-before-now-clause-changed
returns-then-before-now-clause-changed c =
    let before = c.code-before.ensures.code ∙ ap code_of c.value.ensures in
    let now = c.code-now.ensures.code ∙ ap code_of c.value-2.ensures in
    λ yes. (c.is_clock.ensures.none (on c.is_clock.result yes), λ same. c.if-before-now.true (before ∙ same ∙ sym now))

pub returns-then-before-now-clause-unchanged : goal.returns-then-before-now-clause-unchanged
returns-then-before-now-clause-unchanged c = λ no changed. let clock = c.is_clock.ensures.clock (off c.is_clock.result no) in changed.0 clock.0 clock.1

pub returns-else-before-now-clause-unchanged : goal.returns-else-before-now-clause-unchanged
returns-else-before-now-clause-unchanged c =
    let before = c.code-before.ensures.code ∙ ap code_of c.value.ensures in
    let now = c.code-now.ensures.code ∙ ap code_of c.value-2.ensures in
    λ no changed. changed.1 (sym before ∙ c.if-before-now.false ∙ now)
