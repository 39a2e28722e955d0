use Rattle.rtl_definition_examples.proofs.Counter.{counter_counts}
use Rattle.rtl_definition_examples.proofs.body_examples.counter_counts.Goals as goal

pub returns : goal.returns
returns c = counter_counts
