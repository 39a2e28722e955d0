use Rattle.std.proofs.Common.{sym, ap, ◌∙◌}
use Rattle.std.proofs.lemmas.Result.{on_err_weaker}
use Rattle.rtlsim_command_faults.proofs.Told.{fault_takes, report_takes}
use Rattle.rtlsim_command_faults.proofs.explaining.explain_stimulus.Goals as goal

pub returns-clause-printed : goal.returns-clause-printed
returns-clause-printed g c = rw (← c.stim_report.ensures, c.in-Some.is) c.explain_stim.ensures.printed

pub returns-clause-named : goal.returns-clause-named
returns-clause-named g c =
    on_err_weaker _ (λ takes. fault_takes c.args.site.now.telling.now.explains c.args.fault (ap report_takes (sym c.stim_report.ensures ∙ c.in-Some.is) ∙ takes)) c.explain_stim.ensures.memory
