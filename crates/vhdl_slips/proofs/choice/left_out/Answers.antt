use Rattle.std.proofs.Common.{ℕ, List, Some, sym, ap, ◌∙◌}
use Rattle.vhdl_slips.specs.Choices.{choices_in}
use Rattle.vhdl_slips.proofs.Choices.{left_here, left_more}
use Rattle.vhdl_slips.proofs.choice.left_out.Goals as goal

pub returns-then-is_left_out : goal.returns-then-is_left_out
returns-then-is_left_out c =
    ap (λ (text : List ℕ). Some text) c.text_of.ensures
    ∙ sym (left_here c.args.text.now (choices_in c.args.choices) c.args.literals.text.now _ c.loop-left.left.now c.in-len1-up.len_at_least
    (sym c.is_left_out.ensures ∙ c.if-is_left_out.true))
    ∙ c.loop-left.invariant

pub loop-left-preserved : goal.loop-left-preserved
loop-left-preserved c =
    left_more c.args.text.now (choices_in c.args.choices) c.args.literals.text.now _ c.loop-left.left.now c.in-len1-up.len_at_least
    (sym c.is_left_out.ensures ∙ c.if-is_left_out.false)
    ∙ c.loop-left.invariant
