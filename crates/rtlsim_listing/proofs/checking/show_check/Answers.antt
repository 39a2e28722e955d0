use Rattle.std.proofs.Common.{if◌then◌else◌, subst, sym}
use Rattle.rtl_check.specs.declared.judging.Judgement.{Judgement}
use Rattle.rtlsim_listing.specs.CheckText as spec
use Rattle.rtlsim_listing.specs.CheckText.{check_text, report_text}
use Rattle.rtlsim_listing.specs.DotText.{dot_text, graph_text}
use Rattle.rtlsim_listing.specs.Printing.{Prints}
use Rattle.rtlsim_listing.proofs.checking.show_check.Goals as goal

pub returns-in-ByProcesses : goal.returns-in-ByProcesses
returns-in-ByProcesses g c =
    let net = c.args.net.now in
    let before = g.W.Sink.state c.args.out.now in
    let after = g.W.Sink.state c.show_accepted.new.out in
    let shown = subst (λ (s : spec.Shown). Prints c.show_accepted.result before after (if c.args.draws then graph_text net s.levels else report_text net s))
    c.of_processes.ensures c.show_accepted.ensures in
    subst (λ (j : Judgement). Prints c.show_accepted.result before after (if c.args.draws then dot_text net j else check_text net j))
    (sym c.in-ByProcesses.is) shown

pub returns-in-ByNets : goal.returns-in-ByNets
returns-in-ByNets g c =
    let net = c.args.net.now in
    let before = g.W.Sink.state c.args.out.now in
    let after = g.W.Sink.state c.show_accepted-in-ByNets.new.out in
    let shown = subst (λ (s : spec.Shown). Prints c.show_accepted-in-ByNets.result before after (if c.args.draws then graph_text net s.levels else report_text net s))
    c.of_nets.ensures c.show_accepted-in-ByNets.ensures in
    subst (λ (j : Judgement). Prints c.show_accepted-in-ByNets.result before after (if c.args.draws then dot_text net j else check_text net j))
    (sym c.in-ByNets.is) shown
