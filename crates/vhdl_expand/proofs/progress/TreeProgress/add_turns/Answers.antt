use Rattle.std.proofs.Common.{[], ◌∷◌}
use Rattle.vhdl_expand_tree.specs.Views.{parts_of, budget_view}
use Rattle.vhdl_expand.specs.Making.{progress_view}
use Rattle.vhdl_expand.proofs.Among.{first_among}
use Rattle.vhdl_expand.proofs.Making as making
use Rattle.vhdl_expand.proofs.Passing.{passed_told}
use Rattle.vhdl_expand.proofs.Spending.{told_where}
use Rattle.vhdl_expand.proofs.progress.TreeProgress.add_turns.Goals as goal

pub returns : goal.returns
returns c =
    making.turns_added c.args.at (parts_of c.args.self.now.parts.items) c.args.self.now.turns c.args.count (budget_view c.args.self.now.left) (budget_view c.charge_turns.new.self) c.in_ok-charge_turns.ensures.spent

pub returns-in_err-charge_turns : goal.returns-in_err-charge_turns
returns-in_err-charge_turns c =
    let fault = c.in_err-charge_turns.field-0.0 in
    let there = told_where (c.args.at ∷ []) c.args.at fault c.in_err-charge_turns.ensures.fault (first_among c.args.at []) in
    passed_told _ _ fault _ c.from_residual.result c.from_residual.ensures.1 (λ e p. p)
    (λ _. making.turns_refused c.args.at (progress_view c.args.self.now) c.args.count c.in_err-charge_turns.ensures.spent (λ _. there))
