use Rattle.std.proofs.Common.{◌≡◌, ap, sym, ◌∙◌}
use Rattle.vhdl_tree.specs.View as tree
use Rattle.vhdl_names_rules.specs.units.Units as u
use Rattle.vhdl_names_rules.specs.Declarations.{if_ranged}
use Rattle.vhdl_names_trees.specs.views.Integers.{subtype_view}
use Rattle.vhdl_names_rules.specs.views.Ranges.{base_view}
use Rattle.vhdl_names_sight.specs.Views.{entry_of}
use Rattle.vhdl_names_declarations.specs.Subtyping as typed
use Rattle.vhdl_names_declarations.proofs.Subtypings.{integers_given}
use Rattle.vhdl_names_declarations.proofs.subtypes.integers.Goals as goal
use Rattle.vhdl_names_declarations.proofs.subtypes.integers.Goals.{in-Some, in-None}

pub returns-clause-given : goal.returns-clause-given
returns-clause-given c = λ n.
    let d = tree.subtype_declaration_view c.args.declaration.now in
    let x = subtype_view c.in_ok-numbers.numbers in
    let ranged = if_ranged (λ y. u.integer_subtype d.name.at x) in
    let analysed : typed.analysed_view c.match-direction.analysed ≡ ranged c.numbers_direction-direction.result = elim c.match-direction.branch [
      | in-Some w ↦ ap typed.analysed_view w.analysed-is ∙ sym (ap ranged w.in-Some.is)
      | in-None w ↦ ap typed.analysed_view w.analysed-is ∙ sym (ap ranged w.in-None.is)
    ] in
    integers_given c.args.sight.now (base_view c.args.base) d (entry_of n c.args.mark.now) x _ c.in_ok-numbers.ensures.given c.in_ok-copied.ensures (c.numbers_direction-direction.ensures n) c.is_global.ensures analysed
