use Rattle.std.proofs.Common.{sym, ap, ◌∙◌}
use Rattle.rtlsim_listing.proofs.Numbered.{there, missing}
use Rattle.rtlsim_notes.specs.Notes.{look_start}
use Rattle.rtlsim_notes.proofs.circles.look_start.Goals as goal

pub returns-in-Some : goal.returns-in-Some
returns-in-Some c =
    let x = c.in-Some.process.now in
    let found = c.in-Some.ensures.lookup.3 in
    c.start_in.ensures ∙ sym (ap look_start (there c.processes.result.now c.args.net.now.processes c.args.process x c.processes.ensures found.0 (found.1 x)))

pub returns-in-None : goal.returns-in-None
returns-in-None c = sym (ap look_start (missing c.processes.result.now c.args.net.now.processes c.args.process c.processes.ensures c.in-None.ensures.lookup.0))
