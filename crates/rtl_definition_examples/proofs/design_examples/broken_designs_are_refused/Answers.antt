use Rattle.rtl_definition_examples.proofs.designs.Refusals.{integers, tops, lengths, first_rules, turns_within, actuals, sources, variables_told}
use Rattle.rtl_definition_examples.proofs.design_examples.broken_designs_are_refused.Goals as goal

pub returns-clause-integers : goal.returns-clause-integers
returns-clause-integers c = integers

pub returns-clause-tops : goal.returns-clause-tops
returns-clause-tops c = tops

pub returns-clause-lengths : goal.returns-clause-lengths
returns-clause-lengths c = lengths

pub returns-clause-order : goal.returns-clause-order
returns-clause-order c = first_rules

pub returns-clause-turns : goal.returns-clause-turns
returns-clause-turns c = turns_within

pub returns-clause-actuals : goal.returns-clause-actuals
returns-clause-actuals c = actuals

pub returns-clause-sources : goal.returns-clause-sources
returns-clause-sources c = sources

pub returns-clause-variables : goal.returns-clause-variables
returns-clause-variables c = variables_told
