use Rattle.vhdl_expand_bodies.specs.Sites.{site_view}
use Rattle.vhdl_expand_declarations.proofs.Told.{same_at}
use Rattle.vhdl_expand_declarations.proofs.Valued.{no_truth_given}
use Rattle.vhdl_expand_declarations.proofs.generics.truth.Goals as goal

pub returns-in_default : goal.returns-in_default
returns-in_default c = λ own _. same_at c.at.ensures (no_truth_given (site_view c.args.from.now) own c.args.at c.args.value.now c.in_default.not-Truth)
