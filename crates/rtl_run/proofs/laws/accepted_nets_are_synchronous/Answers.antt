use Rattle.rtl_run.proofs.Theorem.{is_synchronous}
use Rattle.rtl_run.proofs.laws.accepted_nets_are_synchronous.Goals as goal

pub returns : goal.returns
returns c = is_synchronous c.nets_meet_the_laws.ensures c.simulates_the_machine.ensures c.has_one_solution.ensures
