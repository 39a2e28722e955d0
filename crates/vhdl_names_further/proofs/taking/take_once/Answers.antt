use Rattle.std.proofs.Common.{sym, ap, ◌∙◌}
use Rattle.vhdl_names_further.proofs.Blanks.{begun_twice}
use Rattle.vhdl_names_further.specs.Once.{without_begun}
use Rattle.vhdl_names_further.proofs.taking.take_once.Goals as goal

pub returns-clause-out : goal.returns-clause-out
returns-clause-out c = λ out.
    ap (without_begun c.args.here.now) c.take_begun.ensures ∙ begun_twice c.args.here.now c.args.left.now ∙ sym c.take_begun.ensures
