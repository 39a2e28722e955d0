use Rattle.std.proofs.Common.{sym, ◌∙◌, arith}
use Rattle.rtl_net_groups.proofs.Lanes.{differ_tells}
use Rattle.rtl_net_groups.proofs.comparing.are_different.Goals as goal

pub returns : goal.returns
returns g c = differ_tells c.args.before c.args.after (c.requires.before ∙ sym c.requires.after) (omega (arith, c.requires.before, c.requires.most))
