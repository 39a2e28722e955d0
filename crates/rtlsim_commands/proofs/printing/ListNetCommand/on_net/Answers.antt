use Rattle.rtlsim_commands.proofs.Listed.{lists_fault}
use Rattle.rtlsim_commands.proofs.printing.ListNetCommand.on_net.Goals as goal

pub returns-clause-faults : goal.returns-clause-faults
returns-clause-faults g c = lists_fault _ tt tt c.args.site.net.now c.list_net.result _ _ c.list_net.ensures
