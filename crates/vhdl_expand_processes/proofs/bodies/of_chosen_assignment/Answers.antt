use Rattle.std.proofs.Common.{ap}
use Rattle.vhdl_names_trees.specs.views.Vectors.{chosen_view, signal_view}
use Rattle.vhdl_names_units.specs.views.Answers.{given_view}
use Rattle.vhdl_expand_rules.specs.Prefixes.{chosen_assignment_names}
use Rattle.vhdl_expand_processes.proofs.Gathering.{adds_along, adds_both}
use Rattle.vhdl_expand_processes.proofs.bodies.of_chosen_assignment.Goals as goal

pub returns-in-Read : goal.returns-in-Read
returns-in-Read c =
    adds_both c.args.found.now c.of_chosen.new.found c.of_given.new.found _ _ _
    (ap (λ w. chosen_assignment_names w (signal_view c.args.signal) (chosen_view c.args.part.now) (given_view c.args.value.now)) c.in-Read.is) c.of_chosen.ensures c.of_given.ensures

pub returns-in-Assigned : goal.returns-in-Assigned
returns-in-Assigned c =
    adds_along c.args.found.now c.add_whole.new.self _ _
    (ap (λ w. chosen_assignment_names w (signal_view c.args.signal) (chosen_view c.args.part.now) (given_view c.args.value.now)) c.in-Assigned.is) c.add_whole.ensures
