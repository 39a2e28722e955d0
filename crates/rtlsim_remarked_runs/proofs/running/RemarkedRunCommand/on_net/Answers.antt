use Rattle.std.proofs.Common.{List, rules, ap, ◌∙◌}
use Rattle.rtl_lost_integers.specs.Lost.{IntegerView, first_lost}
use Rattle.rtlsim_commands.proofs.Sights.{of_net_so, seeing_does, seeing_of, seeing_sees}
use Rattle.rtlsim_remarked_runs.proofs.Runs.{remarks_so, same_fault}
use Rattle.rtlsim_remarked_runs.specs.Remarking.{Remarking}
use Rattle.rtlsim_remarked_runs.proofs.running.RemarkedRunCommand.on_net.Goals as goal

pub returns-clause-does : goal.returns-clause-does
returns-clause-does g c =
    let run = c.args.self.now.run in
    let telling = c.args.self.now.telling.now in
    let sight = g.R.Command.sight run in
    let runs = g.R.Command.does run in
    let net = c.args.site.net.now in
    let work = c.on_net-answer in
    let read = c.in_ok-integers.ensures.watched in
    seeing_of sight (Remarking sight runs telling) _ net _ _ _
    (remarks_so sight runs telling net _ _ _ _ _ (λ stands told. let held = told.2 in let same = told.0 in search rules)
    (λ stands told. c.lost.ensures ∙ (told.1 read.1).lost ∙ ap (λ (is : List IntegerView). first_lost is stands) read.0) work.result _ c.with_remark.ensures
    (seeing_does sight runs _ net work.result _ _ work.ensures.does) (seeing_sees sight runs _ net work.result _ _ work.ensures.does))

pub returns-clause-faults : goal.returns-clause-faults
returns-clause-faults g c =
    let work = c.on_net-answer in
    same_fault c.args.self.now.telling.now c.args.site.net.now _ _ work.result _ c.with_remark.ensures
    (of_net_so (g.R.Command.sight c.args.self.now.run) c.args.site.net.now _ _ work.result (λ stands before now at told. let held = told.1 in let same = told.0 in search rules) work.ensures.faults)
