use Rattle.std.proofs.Common.{ap}
use Rattle.vhdl_names_rules.specs.units.Statements as s
use Rattle.vhdl_names_trees.specs.views.Vectors.{place_view}
use Rattle.vhdl_names_units.specs.views.Answers.{given_view}
use Rattle.vhdl_expand_rules.specs.Prefixes.{statement_names}
use Rattle.vhdl_expand_processes.proofs.Gathering.{adds_along}
use Rattle.vhdl_expand_processes.proofs.bodies.of_assignment.Goals as goal

pub returns-in-Read : goal.returns-in-Read
returns-in-Read c =
    adds_along c.args.found.now c.of_given.new.found _ _ (ap (λ w. statement_names w (s.assign (place_view c.args.target.now) (given_view c.args.value.now))) c.in-Read.is) c.of_given.ensures

pub returns-in-Assigned : goal.returns-in-Assigned
returns-in-Assigned c =
    adds_along c.args.found.now c.add_place.new.self _ _ (ap (λ w. statement_names w (s.assign (place_view c.args.target.now) (given_view c.args.value.now))) c.in-Assigned.is) c.add_place.ensures
