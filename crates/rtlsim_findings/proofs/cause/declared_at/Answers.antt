use Rattle.std.proofs.Common.{sym, ap}
use Rattle.rtlsim_findings.specs.Causes.{declared_at}
use Rattle.rtlsim_listing.proofs.Numbered.{there, missing}
use Rattle.rtlsim_findings.proofs.cause.declared_at.Goals as goal

pub returns-in-Some : goal.returns-in-Some
returns-in-Some c =
    let x = c.in-Some.process.now in
    let found = c.in-Some.ensures.lookup.3 in
    sym (ap declared_at (there c.processes.result.now c.args.net.now.processes c.args.process x c.processes.ensures found.0 (found.1 x)))

pub returns-in-None : goal.returns-in-None
returns-in-None c = sym (ap declared_at (missing c.processes.result.now c.args.net.now.processes c.args.process c.processes.ensures c.in-None.ensures.lookup.0))
