use Rattle.std.proofs.Common.{ap, ◌∙◌}
use Rattle.rtl_stim_lines.specs.Times.{all_nets}
use Rattle.rtl_run.proofs.admission.without_race.Goals as goal

pub first_race-requires-clause-inputs : goal.first_race-requires-clause-inputs
first_race-requires-clause-inputs c = ap all_nets c.requires.inputs ∙ c.requires.ports.elements
