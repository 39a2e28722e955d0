use Rattle.std.proofs.Common.{ap, sym, ◌∙◌}
use Rattle.vhdl_slips.specs.Choices.{missing_of, type_of}
use Rattle.vhdl_slips.specs.Words.{read_of}
use Rattle.vhdl_slips.proofs.Choices.{missing_found, missing_none}
use Rattle.vhdl_slips.proofs.choice.missing.Goals as goal

pub returns-then-are_literals : goal.returns-then-are_literals
returns-then-are_literals c =
    c.left_out.ensures ∙ missing_found (read_of c.args.before) c.args.statement.text.now _ _ _ (read_of c.type_of-literals.result) c.in_ok-choice.ensures.value
    (c.type_of-literals.ensures ∙ ap (type_of (read_of c.args.before)) c.text_of.ensures) (sym c.are_literals.ensures ∙ c.if-are_literals.true)
    ∙ ap (missing_of (read_of c.args.before) c.args.statement.text.now) c.whole-choices.ensures.choices

pub returns-else-are_literals : goal.returns-else-are_literals
returns-else-are_literals c =
    missing_none (read_of c.args.before) c.args.statement.text.now _ _ _ (read_of c.type_of-literals.result) c.in_ok-choice.ensures.value
    (c.type_of-literals.ensures ∙ ap (type_of (read_of c.args.before)) c.text_of.ensures) (sym c.are_literals.ensures ∙ c.if-are_literals.false)
    ∙ ap (missing_of (read_of c.args.before) c.args.statement.text.now) c.whole-choices.ensures.choices
