use Rattle.std.proofs.Common.{◌∙◌}
use Rattle.vhdl_names_further.proofs.Blanks.{begun_none, begun_some}
use Rattle.vhdl_names_further.proofs.taking.take_begun.Goals as goal

pub returns-in-Some : goal.returns-in-Some
returns-in-Some c = c.blank_out.ensures ∙ begun_some c.args.here.now c.args.left.now c.in-Some.extent c.in-Some.ensures

pub returns-in_default : goal.returns-in_default
returns-in_default c = begun_none c.args.here.now c.args.left.now c.in_default.ensures
