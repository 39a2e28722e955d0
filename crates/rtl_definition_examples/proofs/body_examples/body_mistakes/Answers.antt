use Rattle.rtl_definition_examples.proofs.BodyMistakes.{latch_would_pass, default_would_stay, test_would_be_rising}
use Rattle.rtl_definition_examples.proofs.body_examples.body_mistakes.Goals as goal

pub returns-clause-latch : goal.returns-clause-latch
returns-clause-latch c = latch_would_pass

pub returns-clause-default : goal.returns-clause-default
returns-clause-default c = default_would_stay

pub returns-clause-rising : goal.returns-clause-rising
returns-clause-rising c = test_would_be_rising
