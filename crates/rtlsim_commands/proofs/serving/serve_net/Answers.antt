use Rattle.rtlsim_commands.proofs.Told.{serves_net}
use Rattle.vhdl_front_rules.specs.Asking.{asked_view}
use Rattle.rtlsim_commands.proofs.serving.serve_net.Goals as goal

pub returns : goal.returns
returns g c =
    let work = c.on_net_noting-answer in
    serves_net _ _ _ (g.C.Command.sight c.args.command.now) c.args.telling.now (asked_view c.args.asked) _ _ c.args.site.net.now work.result.0 work.result.1.items c.deref.result.now
    c.requires.net work.ensures.does c.deref.ensures.0 work.ensures.faults c.tell_answer-said.result _ c.tell_answer-said.ensures c.tell_freed.ensures c.ended_by_writes.ensures
