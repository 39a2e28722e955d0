use Rattle.std.proofs.Common.{Some, None, sym, ap, ◌∙◌}
use Rattle.vhdl_expand_operands.specs.declared.placed.Placed.{Placed}
use Rattle.vhdl_expand_operands.specs.Placings.{placed_view}
use Rattle.vhdl_expand_operands.proofs.Composing.{value_in, value_seen}
use Rattle.vhdl_expand_operands.proofs.placed.element_of.Goals as goal

pub returns-in_default : goal.returns-in_default
returns-in_default c = sym (value_seen c.args.placed.now c.args.number None c.in_default.ensures.lookup)

pub returns-in-Next : goal.returns-in-Next
returns-in-Next c =
    sym (value_seen c.args.placed.now c.args.number (Some c.in-Some.item) c.in-Some.ensures.lookup ∙ ap (λ (p : Placed). value_in (placed_view p)) c.in-Next.is)

pub returns-in-Chosen : goal.returns-in-Chosen
returns-in-Chosen c =
    sym (value_seen c.args.placed.now c.args.number (Some c.in-Some.item) c.in-Some.ensures.lookup ∙ ap (λ (p : Placed). value_in (placed_view p)) c.in-Chosen.is)

pub returns-in-Others : goal.returns-in-Others
returns-in-Others c =
    sym (value_seen c.args.placed.now c.args.number (Some c.in-Some.item) c.in-Some.ensures.lookup ∙ ap (λ (p : Placed). value_in (placed_view p)) c.in-Others.is)
