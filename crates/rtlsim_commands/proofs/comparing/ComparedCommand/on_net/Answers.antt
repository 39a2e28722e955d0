use Rattle.std.proofs.Common.{rules}
use Rattle.rtl_expect.specs.Watching.{expected_by}
use Rattle.rtlsim_commands.specs.Sights.{Seen}
use Rattle.rtlsim_commands.proofs.Expected.{comparing_some, compared_so}
use Rattle.rtlsim_commands.proofs.Sights.{compared_fault, of_net_so, seeing_does, seeing_sees, seen_so}
use Rattle.vhdl_literals.specs.Declarations.{positions_in}
use Rattle.vhdl_slips.specs.Words.{read_of}
use Rattle.rtlsim_commands.proofs.comparing.ComparedCommand.on_net.Goals as goal

pub returns-clause-does : goal.returns-clause-does
returns-clause-does g c =
    let run = c.args.self.now.run in
    let sight = g.R.Command.sight run in
    let runs = g.R.Command.does run in
    let net = c.args.site.net.now in
    let read = c.in_ok-expected.ensures in
    let start = expected_by c.in_ok-expected.expected in
    let work = c.on_net-answer in
    let source = read_of c.args.self.now.source in
    comparing_some _ sight runs source c.args.self.now.expected c.in-Some.expected _ net _ _ _ c.in-Some.is
    (compared_so runs (Seen sight) (positions_in source) net c.in-Some.expected.now _ _ start read.0 (λ f does. g.met.R.Run.unexpecting run net f _ _ does) (seen_so sight net) work.result c.differences.result _ _ _
    c.unless_differs.ensures (seeing_does sight runs _ net work.result _ _ work.ensures.does) (seeing_sees sight runs _ net work.result _ _ work.ensures.does)
    (λ stands told. c.differences.ensures start stands (told.1 read.1 read.2)) (λ stands told. let held = told.2 in let same = told.0 in search rules))

pub returns-clause-faults : goal.returns-clause-faults
returns-clause-faults g c =
    let work = c.on_net-answer in
    compared_fault _ work.result c.differences.result _ (λ d. tt) c.unless_differs.ensures
    (of_net_so (g.R.Command.sight c.args.self.now.run) c.args.site.net.now _ _ work.result (λ stands before now at told. let held = told.1 in let same = told.0 in search rules) work.ensures.faults)
