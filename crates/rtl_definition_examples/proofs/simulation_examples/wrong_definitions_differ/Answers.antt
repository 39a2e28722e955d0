use Rattle.rtl_definition_examples.proofs.SimulationMistakes.{order_would_count, activity_would_go_on, bound_would_break, levels_would_miss, register_would_fall_back, register_would_run_ahead, race_would_pass}
use Rattle.rtl_definition_examples.proofs.simulation_examples.wrong_definitions_differ.Goals as goal

pub returns-clause-order : goal.returns-clause-order
returns-clause-order c = order_would_count

pub returns-clause-activity : goal.returns-clause-activity
returns-clause-activity c = activity_would_go_on

pub returns-clause-bound : goal.returns-clause-bound
returns-clause-bound c = bound_would_break

pub returns-clause-levels : goal.returns-clause-levels
returns-clause-levels c = levels_would_miss

pub returns-clause-fall_back : goal.returns-clause-fall_back
returns-clause-fall_back c = register_would_fall_back

pub returns-clause-run_ahead : goal.returns-clause-run_ahead
returns-clause-run_ahead c = register_would_run_ahead

pub returns-clause-race : goal.returns-clause-race
returns-clause-race c = race_would_pass
