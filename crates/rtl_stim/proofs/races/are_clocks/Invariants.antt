use Rattle.std.proofs.Common.{take}
use Rattle.std.specs.Prelude.{All}
use Rattle.rtl_stim_lines.specs.declared.inputs.Element.{Element}
use Rattle.rtl_stim.specs.Quiet.{IsNoClock}
use Rattle.rtl_stim.proofs.races.are_clocks.Given as goal

abbrev pub invariant-loop-element : goal.invariant-loop-element
invariant-loop-element l = All (λ (e : Element). IsNoClock l.clocks e.net → ⊥) (take l.element-index l.elements)
