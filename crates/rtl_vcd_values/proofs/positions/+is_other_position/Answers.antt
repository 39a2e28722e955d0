use Rattle.std.proofs.Common.{arith, ap, ◌∙◌, not}
use Rattle.rtl_net_groups.proofs.Lanes.{are_others}
use Rattle.rtl_vcd_values.proofs.Binaries.{others_at_last, others_before_last}
use Rattle.rtl_vcd_values.proofs.positions.+is_other_position.Goals as goal

pub returns-then-before-now : goal.returns-then-before-now
returns-then-before-now t c =
    are_others _ _ (λ e. c.if-before-now.true (others_at_last c.args.digits c.args.before c.args.now (omega (arith, c.if-digits-eq0.false)) e))

pub returns : goal.returns
returns t c =
    c.is_other_position.ensures
    ∙ ap not (others_before_last c.args.digits c.args.before c.args.now (omega (arith, c.if-digits-eq0.false)) c.if-before-now.false)
