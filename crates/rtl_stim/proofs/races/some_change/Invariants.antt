use Rattle.std.proofs.Common.{take}
use Rattle.std.specs.Prelude.{All}
use Rattle.rtl_stim_lines.specs.declared.inputs.Element.{Element}
use Rattle.rtl_stim.specs.Quiet.{IsChangedAt}
use Rattle.rtl_stim.proofs.races.some_change.Given as goal

-- none of the elements so far changes
abbrev pub invariant-loop-element : goal.invariant-loop-element
invariant-loop-element l = All (λ (e : Element). IsChangedAt l.stimulus l.clocks l.time e.net → ⊥) (take l.element-index l.elements)
