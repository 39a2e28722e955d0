use Rattle.std.proofs.Common.{◌++◌, codes, length, subst}
use Rattle.byte_streams.specs.Written.{Goes}
use Rattle.byte_streams.proofs.Writing.{Goes-append}
use Rattle.rtlsim_listing.specs.CheckText.{greatest_level}
use Rattle.rtlsim_listing.specs.DotText.{columns_text, process_lines, graph_text}
use Rattle.rtlsim_listing.specs.NetText.{lines}
use Rattle.rtlsim_listing.proofs.Printing.{refused, behind, longer}
use Rattle.rtlsim_listing.proofs.graph.push_graph.Goals as goal

pub returns-in_err-push_processes : goal.returns-in_err-push_processes
returns-in_err-push_processes g c =
    let state = g.W.Sink.state in
    let net = c.args.net.now in
    let levels = c.args.levels.now in
    let columns = columns_text (greatest_level levels) in
    let rows = lines (process_lines net levels) (length levels) in
    let head = subst (λ k. Goes (state c.args.out.now) (state c.push_columns.new.out) (columns_text k)) c.greatest_level.ensures c.push_columns.ensures in
    refused c.from_residual.result _ _ _ (graph_text net levels) c.from_residual.ensures.1
    (longer _ _ (columns ++ rows) (codes "}\n") (behind _ _ _ columns rows head c.in_err-push_processes.ensures))

pub returns : goal.returns
returns g c =
    let state = g.W.Sink.state in
    let net = c.args.net.now in
    let levels = c.args.levels.now in
    let head = subst (λ k. Goes (state c.args.out.now) (state c.push_columns.new.out) (columns_text k)) c.greatest_level.ensures c.push_columns.ensures in
    Goes-append _ _ _ _ _ (Goes-append _ _ _ _ _ head c.in_ok-push_processes.ensures) c.push_text.ensures
