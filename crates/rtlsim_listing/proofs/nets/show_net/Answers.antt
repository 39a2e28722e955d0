use Rattle.std.proofs.Common.{length, rules, ◌++◌}
use Rattle.byte_streams.specs.Written.{Goes}
use Rattle.byte_streams.proofs.Writing.{Goes-append}
use Rattle.rtlsim_listing.specs.NetText.{lines, net_line, process_line, counts_text, net_text}
use Rattle.rtlsim_listing.proofs.Printing.{refused, behind, longer, then}
use Rattle.rtlsim_listing.proofs.nets.show_net.Goals as goal

pub returns-in_err-push_nets : goal.returns-in_err-push_nets
returns-in_err-push_nets g c =
    let net = c.args.net.now in
    let counts : Goes (g.W.Sink.state c.args.out.now) (g.W.Sink.state c.push_counts.new.out) (counts_text (length net.types) (length net.processes)) = search rules in
    refused c.from_residual.result _ _ _ (net_text net) c.from_residual.ensures.1
    (longer _ _ (counts_text (length net.types) (length net.processes) ++ lines (net_line net) (length net.types)) (lines (process_line net) (length net.processes))
    (behind _ _ _ (counts_text (length net.types) (length net.processes)) (lines (net_line net) (length net.types)) counts c.in_err-push_nets.ensures))

pub returns : goal.returns
returns g c =
    let net = c.args.net.now in
    let counts : Goes (g.W.Sink.state c.args.out.now) (g.W.Sink.state c.push_counts.new.out) (counts_text (length net.types) (length net.processes)) = search rules in
    then c.push_processes.result _ _ _ (counts_text (length net.types) (length net.processes) ++ lines (net_line net) (length net.types)) (lines (process_line net) (length net.processes))
    (Goes-append _ _ _ _ _ counts c.in_ok-push_nets.ensures) c.push_processes.ensures
