use Rattle.std.proofs.Common.{ap, sym, ◌∙◌, true≢false}
use Rattle.vhdl_tree.specs.View as view
use Rattle.vhdl_names_rules.specs.problems.Files as broken
use Rattle.vhdl_names.specs.Views.{is_hidden}
use Rattle.vhdl_names.proofs.Finding.{found_ok, found_at}
use Rattle.vhdl_names.proofs.Hiding.{hidden_there, told_there, none_there}
use Rattle.vhdl_names.proofs.architectures.up_to_hidden.Goals as goal

pub returns-in-Ok-clause-told : goal.returns-in-Ok-clause-told
returns-in-Ok-clause-told c = λ b h.
    ap (broken.up_to_hidden (is_hidden c.args.given.now) (view.architecture_view c.args.tree.now)) (found_ok b c.args.read _ c.in-Ok.is h)

pub returns-then-is_of_hidden-clause-told : goal.returns-then-is_of_hidden-clause-told
returns-then-is_of_hidden-clause-told c = λ b h.
    hidden_there c.args.given.now (view.architecture_view c.args.tree.now) b c.in-Err.fault (sym c.is_of_hidden.ensures ∙ c.if-is_of_hidden.true) (found_at b c.args.read c.in-Err.fault c.in-Err.is h)

pub returns-else-is_of_hidden-clause-told : goal.returns-else-is_of_hidden-clause-told
returns-else-is_of_hidden-clause-told c = λ b h.
    told_there c.args.given.now (view.architecture_view c.args.tree.now) b c.in-Err.fault (sym c.is_of_hidden.ensures ∙ c.if-is_of_hidden.false) (found_at b c.args.read c.in-Err.fault c.in-Err.is h)

pub returns-then-is_of_hidden-clause-given : goal.returns-then-is_of_hidden-clause-given
returns-then-is_of_hidden-clause-given c = λ none o h.
    absurd (true≢false (sym c.if-is_of_hidden.true ∙ c.is_of_hidden.ensures ∙ none_there c.args.given.now (view.architecture_view c.args.tree.now) none c.in-Err.fault))
