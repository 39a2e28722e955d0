use Rattle.std.proofs.Common.{inl}
use Rattle.rtlsim_commands.proofs.Sights.{seeing_does}
use Rattle.rtlsim_commands.proofs.Refused.{net_of_plain, opens_refused, refused_told}
use Rattle.rtlsim_commands.proofs.Unsettled.{answer_told}
use Rattle.rtlsim_commands.proofs.opening.on_source.Goals as goal

pub returns-in_err-net-clause-does : goal.returns-in_err-net-clause-does
returns-in_err-net-clause-does g c =
    opens_refused (g.C.Command.does c.args.command.now) _ _ _ _ _ _ c.plain.ensures c.from_residual.ensures.1 c.in_err-net.ensures.refused

pub returns-in_err-net-clause-told : goal.returns-in_err-net-clause-told
returns-in_err-net-clause-told g c = refused_told _ _ _ _ _ c.plain.ensures c.from_residual.ensures.1 c.in_err-net.ensures.told

pub returns-clause-does : goal.returns-clause-does
returns-clause-does g c =
    let start = c.args.command.now in
    inl (_, net_of_plain _ _ _ _ c.plain.ensures c.in_ok-net.ensures.net, seeing_does (g.C.Command.sight start) (g.C.Command.does start) _ _ c.on_net.result _ _ c.on_net.ensures.does)

pub returns-clause-told : goal.returns-clause-told
returns-clause-told g c = answer_told (g.C.Command.sight c.args.command.now) _ _ c.on_net.result _ c.on_net.ensures.faults
