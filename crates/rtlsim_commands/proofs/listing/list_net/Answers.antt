use Rattle.rtlsim_commands.proofs.Listed.{writes_all, writes_part}
use Rattle.rtlsim_commands.proofs.listing.list_net.Goals as goal

pub returns-in_err-show_net : goal.returns-in_err-show_net
returns-in_err-show_net g c = writes_part _ _ _ _ c.from_residual.ensures.1 c.requires.intact c.in_err-show_net.ensures

pub returns : goal.returns
returns g c = writes_all _ c.went_out.result _ _ c.requires.intact c.in_ok-show_net.ensures c.went_out.ensures.whole c.went_out.ensures.failed
