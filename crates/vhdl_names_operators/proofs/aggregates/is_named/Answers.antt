use Rattle.std.proofs.Common.{ℕ, ◌==◌, not, sym, ap, ◌∙◌}
use Rattle.vhdl_names_trees.specs.declared.typed.TypedElement.{out-TypedElement}
use Rattle.vhdl_names_operators.proofs.Arranging.{first_named, none_named}
use Rattle.vhdl_names_operators.proofs.aggregates.is_named.Goals as goal

pub returns-in-Some : goal.returns-in-Some
returns-in-Some c =
    let x = c.in-Some.first.now in
    ap not (c.is_empty.ensures ∙ ap (λ (n : ℕ). n == 0) (out-TypedElement x).choices.ok.0) ∙ first_named c.args.elements.now x (sym c.in-Some.ensures.value)

pub returns-in-None : goal.returns-in-None
returns-in-None c = none_named c.args.elements.now (sym c.in-None.ensures.value)
