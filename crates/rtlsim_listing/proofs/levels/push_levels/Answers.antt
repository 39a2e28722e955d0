use Rattle.std.proofs.Common.{◌+◌, length, rules, arith}
use Rattle.rtlsim_listing.specs.NetText.{lines}
use Rattle.rtlsim_listing.specs.CheckText.{level_line, shown_view}
use Rattle.rtlsim_listing.proofs.Printing.{refused, part_of_line, next_line}
use Rattle.rtlsim_listing.proofs.levels.push_levels.Goals as goal

pub returns-in_err-push_level : goal.returns-in_err-push_level
returns-in_err-push_level g c =
    let shown = shown_view c.args.shown.now in
    let line = level_line c.args.net.now shown in
    refused c.from_residual.result _ _ _ (lines line (length shown.levels)) c.from_residual.ensures.1
    (part_of_line _ _ _ line c.loop-number.number (length shown.levels) (search (rules, arith)) c.loop-number.invariant c.in_err-push_level.ensures)

pub loop-number-preserved : goal.loop-number-preserved
loop-number-preserved g c =
    next_line _ _ _ (level_line c.args.net.now (shown_view c.args.shown.now)) c.loop-number.number (c.loop-number.number + 1) (omega arith)
    c.loop-number.invariant c.in_ok-push_level.ensures
