use Rattle.std.proofs.Common.{List, subst, arith}
use Rattle.std.specs.Prelude.{All}
use Rattle.std.proofs.lemmas.List.{take_all}
use Rattle.std.proofs.lemmas.List.Elements.{All-map, All-more}
use Rattle.rtl_stim_lines.specs.declared.inputs.Element.{Element}
use Rattle.rtl_stim.specs.Quiet.{IsNoClock}
use Rattle.rtl_stim.proofs.races.are_clocks.Goals as goal

pub loop-element-preserved : goal.loop-element-preserved
loop-element-preserved c =
    All-more (λ (e : Element). IsNoClock c.args.clocks.now e.net → ⊥) c.args.elements.now c.loop-element.element-index _ c.loop-element-test.true c.loop-element.invariant
    (λ none. let clock = c.is_clock.ensures.clock c.if-not-is_clock.false in none clock.0 clock.1)

pub returns : goal.returns
returns c = λ yes.
    All-map (λ n. IsNoClock c.args.clocks.now n → ⊥) (λ (e : Element). e.net) c.args.elements.now
    (subst (λ (es : List Element). All (λ (e : Element). IsNoClock c.args.clocks.now e.net → ⊥) es)
    (take_all c.loop-element.element-index c.args.elements.now (omega (arith, c.loop-element-test.false))) c.loop-element.invariant)
