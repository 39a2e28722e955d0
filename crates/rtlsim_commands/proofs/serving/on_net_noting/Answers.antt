use Rattle.std.proofs.Common.{rules}
use Rattle.rtlsim_commands.proofs.Sights.{of_net_so, seeing_so}
use Rattle.rtlsim_commands.proofs.serving.on_net_noting.Goals as goal

pub returns-clause-does : goal.returns-clause-does
returns-clause-does g c =
    let start = c.args.command.now in
    seeing_so (g.C.Command.sight start) (g.C.Command.does start) _ _ c.args.net.now c.on_net-answer.result _ _ (λ stands told. let held = told.1 in let same = told.0 in search rules) c.on_net-answer.ensures.does

pub returns-clause-faults : goal.returns-clause-faults
returns-clause-faults g c =
    of_net_so (g.C.Command.sight c.args.command.now) c.args.net.now _ _ c.on_net-answer.result (λ stands before now at told. told.1) c.on_net-answer.ensures.faults
