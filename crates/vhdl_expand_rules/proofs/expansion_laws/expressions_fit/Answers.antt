use Rattle.vhdl_expand_rules.proofs.laws.Names.{each-name-fits}
use Rattle.vhdl_expand_rules.proofs.laws.Tests.{each-value-fits, each-test-fits}
use Rattle.vhdl_expand_rules.proofs.laws.Vectors.{each-vector-fits}
use Rattle.vhdl_expand_rules.proofs.expansion_laws.expressions_fit.Goals as goal

pub returns-clause-names : goal.returns-clause-names
returns-clause-names c = each-name-fits

pub returns-clause-vectors : goal.returns-clause-vectors
returns-clause-vectors c = each-vector-fits

pub returns-clause-values : goal.returns-clause-values
returns-clause-values c = each-value-fits

pub returns-clause-tests : goal.returns-clause-tests
returns-clause-tests c = each-test-fits
