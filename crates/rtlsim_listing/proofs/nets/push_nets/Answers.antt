use Rattle.std.proofs.Common.{◌+◌, length, rules, arith}
use Rattle.rtlsim_listing.specs.NetText.{lines, net_line}
use Rattle.rtlsim_listing.proofs.Printing.{refused, part_of_line, next_line}
use Rattle.rtlsim_listing.proofs.nets.push_nets.Goals as goal

pub returns-in_err-push_net : goal.returns-in_err-push_net
returns-in_err-push_net g c =
    refused c.from_residual.result _ _ _ (lines (net_line c.args.net.now) (length c.args.net.now.types)) c.from_residual.ensures.1
    (part_of_line _ _ _ (net_line c.args.net.now) c.loop-number.number (length c.args.net.now.types) (search (rules, arith)) c.loop-number.invariant c.in_err-push_net.ensures)

pub loop-number-preserved : goal.loop-number-preserved
loop-number-preserved g c =
    next_line _ _ _ (net_line c.args.net.now) c.loop-number.number (c.loop-number.number + 1) (omega arith) c.loop-number.invariant c.in_ok-push_net.ensures
