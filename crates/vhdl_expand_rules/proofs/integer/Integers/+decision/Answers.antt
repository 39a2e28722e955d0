use Rattle.std.proofs.Common.{◌≡◌, Err, rules, arith}
use Rattle.std.proofs.lemmas.Grind.{common_steps}
use Rattle.vhdl_names_trees.specs.views.Tests.{static_test_view}
use Rattle.vhdl_expand_rules.specs.Elab.{fault_told}
use Rattle.vhdl_expand_rules.specs.Integers as definition
use Rattle.vhdl_expand_rules.specs.views.Integers.{integers_view}
use Rattle.vhdl_expand_rules.specs.views.Decisions.{all_decided}
use Rattle.vhdl_expand_rules.proofs.Chains.{computes_err}
use Rattle.vhdl_expand_rules.proofs.Decided.{computes_along, chain-value, chain-err}
use Rattle.vhdl_expand_rules.proofs.integer.Integers.+decision.Goals as goal

pub decision-returns-in_err-first-in-Chain : goal.decision-returns-in_err-first-in-Chain
decision-returns-in_err-first-in-Chain t c =
    let refused : definition.decision (integers_view c.args.self.now) (static_test_view c.args.test.now) ≡ Err (fault_told c.in_err-first-in-Chain.field-0.0) =
    chain-err (integers_view c.args.self.now) c.args.test.now c.in-Chain.start c.in-Chain.links _ _ c.in-Chain.is c.deref-in-Chain.ensures c.in_err-first-in-Chain.ensures in
    computes_err _ c.in_err-first-in-Chain.field-0.0 _ c.from_residual-in_err-first-in-Chain.result c.from_residual-in_err-first-in-Chain.ensures.1 (λ e p. p) refused

pub decision-returns-in_ok-first-in-Chain : goal.decision-returns-in_ok-first-in-Chain
decision-returns-in_ok-first-in-Chain t c =
    computes_along _ (all_decided (integers_view c.args.self.now) c.in_ok-first-in-Chain.first c.deref-in-Chain-2.result.now) _
    (chain-value (integers_view c.args.self.now) c.args.test.now c.in-Chain.start c.in-Chain.links _ _ _ c.in-Chain.is c.deref-in-Chain.ensures c.deref-in-Chain-2.ensures.value c.in_ok-first-in-Chain.ensures)
    (first_of (search rules, grind (arith, common_steps)))
