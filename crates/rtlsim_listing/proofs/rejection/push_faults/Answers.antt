use Rattle.std.proofs.Common.{subst, ◌∙◌}
use Rattle.std.specs.Prelude.{flat_map}
use Rattle.byte_streams.specs.Written.{Goes}
use Rattle.rtlsim_listing.specs.CheckText.{fault_line}
use Rattle.rtlsim_listing.proofs.Printing.{none, refused, part_of_text, next_text}
use Rattle.rtlsim_listing.proofs.rejection.push_faults.Goals as goal

pub returns-in_err-line : goal.returns-in_err-line
returns-in_err-line g c =
    let text = fault_line c.args.net.now in
    refused c.from_residual.result _ _ _ (flat_map text c.args.faults.now) c.from_residual.ensures.1
    (part_of_text _ _ _ text c.args.faults.now c.loop-fault.fault-index c.fault-item.result c.loop-fault-test.true c.loop-fault.invariant (none _ _))

pub loop-fault-preserved : goal.loop-fault-preserved
loop-fault-preserved g c =
    let gone = subst (Goes (g.W.Sink.state c.loop-fault.out) (g.W.Sink.state c.push_text.new.sink)) (c.deref.ensures.value ∙ c.in_ok-line.ensures) c.push_text.ensures in
    next_text _ _ _ (fault_line c.args.net.now) c.args.faults.now c.loop-fault.fault-index c.fault-item.result c.loop-fault-test.true c.loop-fault.invariant
    (rw (← c.fault-item.is) gone)
