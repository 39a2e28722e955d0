use Rattle.rtl_definition_examples.proofs.Nets.{edge_would_win, reset_would_be_left_out, reset_would_read}
use Rattle.rtl_definition_examples.proofs.simulation_examples.reset_mistakes.Goals as goal

pub returns-clause-edge : goal.returns-clause-edge
returns-clause-edge c = edge_would_win

pub returns-clause-start : goal.returns-clause-start
returns-clause-start c = reset_would_be_left_out

pub returns-clause-reads : goal.returns-clause-reads
returns-clause-reads c = reset_would_read
