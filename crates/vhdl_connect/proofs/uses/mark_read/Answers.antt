use Rattle.std.proofs.Common.{◌++◌, take, ap, refl}
use Rattle.vhdl_connect_processes.proofs.Lists.{take_whole}
use Rattle.vhdl_connect.proofs.Marking.{read_next, uses_whole}
use Rattle.vhdl_connect.proofs.uses.mark_read.Goals as goal

pub loop-element-preserved : goal.loop-element-preserved
loop-element-preserved c = λ driven read h.
    read_next driven read c.args.elements.now c.loop-element.element-index _ 0 c.set_read.new.uses c.loop-element-test.true refl
    (c.set_read.ensures driven (read ++ take c.loop-element.element-index c.args.elements.now) (c.loop-element.invariant driven read h))

pub returns : goal.returns
returns c = λ driven read h. uses_whole driven _ driven (read ++ c.args.elements.now) c.loop-element.uses refl (ap (λ es. read ++ es) (take_whole _ _ c.loop-element-test.false)) (c.loop-element.invariant driven read h)
