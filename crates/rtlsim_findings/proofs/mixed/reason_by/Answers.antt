use Rattle.std.proofs.Common.{subst}
use Rattle.rtlsim_findings.specs.steps.Walked.{IfMade}
use Rattle.rtlsim_findings.proofs.mixed.reason_by.Goals as goal

pub reason_of-requires : goal.reason_of-requires
reason_of-requires c = subst (IfMade c.args.net.now) c.in-Some.is c.requires
