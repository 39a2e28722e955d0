use Rattle.rtlsim_commands.specs.Listed.{form_text}
use Rattle.rtlsim_commands.proofs.Listed.{checks_fault}
use Rattle.rtlsim_commands.proofs.printing.CheckNetCommand.on_net.Goals as goal

pub returns-clause-faults : goal.returns-clause-faults
returns-clause-faults g c = checks_fault _ tt tt (form_text c.args.self.now.form) c.args.site.net.now c.check_net.result _ _ c.check_net.ensures
