use Rattle.std.proofs.Common.{refl, sym, ◌∙◌}
use Rattle.rtlsim_listing.proofs.Printing.{beginning}
use Rattle.rtlsim_command_faults.proofs.Told.{named_part, named_whole}
use Rattle.rtlsim_command_faults.proofs.lines.tell_fault.Goals as goal

pub returns-in-Ok : goal.returns-in-Ok
returns-in-Ok g c =
    named_whole c.args.telling.now c.args.net.now c.args.fault.now _ (g.E.Sink.state c.args.err.now) _ _ (sym c.is_of_names.ensures ∙ c.if-is_of_names.true)
    c.in-Ok.ensures.printed c.status.ensures

pub returns-in-Err : goal.returns-in-Err
returns-in-Err g c =
    named_part c.args.telling.now c.args.net.now c.args.fault.now _ _ _ _ c.in-Err.ensures.named
    (beginning _ _ _ c.requires.intact c.in-Err.ensures.printed) c.push_memory.ensures refl
