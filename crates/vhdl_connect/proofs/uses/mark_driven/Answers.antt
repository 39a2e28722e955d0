use Rattle.std.proofs.Common.{◌++◌, take, ap, refl}
use Rattle.vhdl_connect_processes.proofs.Lists.{take_whole}
use Rattle.vhdl_connect.proofs.Marking.{driven_next, uses_whole}
use Rattle.vhdl_connect.proofs.uses.mark_driven.Goals as goal

pub loop-element-preserved : goal.loop-element-preserved
loop-element-preserved c = λ driven read h.
    driven_next driven read c.args.elements.now c.loop-element.element-index _ 0 c.add_source.new.uses c.loop-element-test.true refl
    (c.add_source.ensures (driven ++ take c.loop-element.element-index c.args.elements.now) read (c.loop-element.invariant driven read h))

pub returns : goal.returns
returns c = λ driven read h. uses_whole _ read (driven ++ c.args.elements.now) read c.loop-element.uses (ap (λ es. driven ++ es) (take_whole _ _ c.loop-element-test.false)) refl (c.loop-element.invariant driven read h)
