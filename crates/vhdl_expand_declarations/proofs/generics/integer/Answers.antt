use Rattle.vhdl_names_trees.specs.views.Integers.{subtype_view}
use Rattle.vhdl_expand_bodies.specs.Sites.{site_view}
use Rattle.vhdl_expand_declarations.proofs.Told.{same_at}
use Rattle.vhdl_expand_declarations.proofs.Valued.{no_integer_given}
use Rattle.vhdl_expand_declarations.proofs.generics.integer.Goals as goal

pub returns-in_default : goal.returns-in_default
returns-in_default c = λ _.
    same_at c.at.ensures (no_integer_given (site_view c.args.from.now) (site_view c.args.own.now) c.args.at (subtype_view c.args.subtype.now) c.args.value.now c.in_default.not-Integer)
