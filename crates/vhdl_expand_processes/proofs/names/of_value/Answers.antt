use Rattle.std.proofs.Common.{ap}
use Rattle.vhdl_names_trees.specs.declared.vector.Value.{Value}
use Rattle.vhdl_names_trees.specs.views.Vectors.{value_view}
use Rattle.vhdl_expand_rules.specs.Prefixes.{value_names}
use Rattle.vhdl_expand_processes.proofs.Gathering.{adds_along}
use Rattle.vhdl_expand_processes.proofs.names.of_value.Goals as goal

pub returns-in-Elements : goal.returns-in-Elements
returns-in-Elements c =
    adds_along c.args.found.now c.of_vector.new.found _ _ (ap (λ (x : Value). value_names (value_view x)) c.in-Elements.is) c.of_vector.ensures

pub returns-in-StateOf : goal.returns-in-StateOf
returns-in-StateOf c =
    adds_along c.args.found.now c.add_whole.new.self _ _ (ap (λ (x : Value). value_names (value_view x)) c.in-StateOf.is) c.add_whole.ensures

pub returns-in-Computed : goal.returns-in-Computed
returns-in-Computed c =
    adds_along c.args.found.now c.of_computed.new.found _ _ (ap (λ (x : Value). value_names (value_view x)) c.in-Computed.is) c.of_computed.ensures
