use Rattle.std.proofs.Common.{ap}
use Rattle.vhdl_names_units.specs.declared.answers.Given.{Given}
use Rattle.vhdl_names_units.specs.views.Answers.{given_view}
use Rattle.vhdl_expand_rules.specs.Prefixes.{given_names}
use Rattle.vhdl_expand_processes.proofs.Gathering.{adds_along}
use Rattle.vhdl_expand_processes.proofs.names.of_given.Goals as goal

pub returns-in-Single : goal.returns-in-Single
returns-in-Single c =
    adds_along c.args.found.now c.of_value.new.found _ _ (ap (λ (x : Given). given_names (given_view x)) c.in-Single.is) (rw c.deref.ensures at c.of_value.ensures)

pub returns-in-Filled : goal.returns-in-Filled
returns-in-Filled c =
    adds_along c.args.found.now c.of_vector.new.found _ _ (ap (λ (x : Given). given_names (given_view x)) c.in-Filled.is) (rw c.deref-in-Filled.ensures at c.of_vector.ensures)
