use Rattle.std.proofs.Common.{ap}
use Rattle.vhdl_names_rules.proofs.Passing.{passed_on}
use Rattle.vhdl_names_statements.proofs.steps.Conditional.{is_there}
use Rattle.vhdl_names_statements.proofs.conditional.is_target.Goals as goal

pub returns-in_err-_target-clause-given : goal.returns-in_err-_target-clause-given
returns-in_err-_target-clause-given c =
    passed_on _ _ c.in_err-_target.field-0.0 _ c.from_residual.result c.from_residual.ensures.1 (λ e p. p) (λ n. ap is_there (c.in_err-_target.ensures.given n))

pub returns-clause-given : goal.returns-clause-given
returns-clause-given c = ap is_there c.in_ok-_target.ensures.given
