use Rattle.std.proofs.Common.{not, ap, sym, ◌∙◌}
use Rattle.vhdl_tree.specs.Tree as t
use Rattle.vhdl_tree.specs.View as view
use Rattle.vhdl_names_rules.specs.declared.fault.NameProblem.TheVariants.{Undeclared, SecondArchitecture}
use Rattle.vhdl_names_rules.specs.Visibility.{is_among}
use Rattle.vhdl_names_rules.specs.problems.Broken.{unless}
use Rattle.vhdl_names_rules.proofs.Telling.{told_left, told_right, told_on, told_unless, unless_kept}
use Rattle.vhdl_names.specs.Views.{outline_view}
use Rattle.vhdl_names.specs.Breaking.{one_unit}
use Rattle.vhdl_names.specs.steps.Outlines.{names_of}
use Rattle.vhdl_names.proofs.Finding.{tells_at}
use Rattle.vhdl_names.proofs.outline.add_architecture.Goals as goal

pub returns-then-not-has_name-clause-told : goal.returns-then-not-has_name-clause-told
returns-then-not-has_name-clause-told c =
    let o = outline_view c.args.outline.now in
    let n = c.args.tree.now.entity.text.items in
    let at = c.args.tree.now.entity.at in
    told_left (unless Undeclared at (is_among n o.entities)) (unless SecondArchitecture at (not (is_among n (names_of o.architectures)))) c.at.result
    (told_unless Undeclared at (is_among n o.entities) c.at.result (λ _. ap (λ m. is_among m o.entities) (sym c.deref.ensures.value) ∙ sym c.has_name.ensures ∙ c.if-not-has_name.true)
    (tells_at Undeclared at c.at.result c.at.ensures))

pub returns-clause-told : goal.returns-clause-told
returns-clause-told c =
    let o = outline_view c.args.outline.now in
    let a = view.architecture_view c.args.tree.now in
    let second = unless SecondArchitecture a.entity.at (not (is_among a.entity.text (names_of o.architectures))) in
    told_on second (one_unit o (t.architecture a)) c.add_described.result
    (λ f w. told_right (unless Undeclared a.entity.at (is_among a.entity.text o.entities)) second f
    (unless_kept Undeclared a.entity.at (is_among a.entity.text o.entities) (ap (λ m. is_among m o.entities) (sym c.deref.ensures.value) ∙ sym c.has_name.ensures ∙ c.if-not-has_name.false)) w) c.add_described.ensures.told
