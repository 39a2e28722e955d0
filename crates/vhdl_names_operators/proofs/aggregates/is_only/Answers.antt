use Rattle.std.proofs.Common.{ℕ, ◌==◌, vec_len, sym, ap, ◌∙◌, arith}
use Rattle.vhdl_names_trees.specs.declared.typed.TypedElement.{TypedElement, out-TypedElement}
use Rattle.vhdl_names_operators.proofs.Arranging.{one_only, not_only}
use Rattle.vhdl_names_operators.proofs.aggregates.is_only.Goals as goal

pub returns-then-elements-ne1 : goal.returns-then-elements-ne1
returns-then-elements-ne1 c = not_only c.args.elements.now (λ one. omega (arith, one, c.if-elements-ne1.true))

pub returns : goal.returns
returns c =
    let x = c.index-elements-0.result in
    ap (λ (n : ℕ). n == 1) (c.len.ensures ∙ ap (λ (y : TypedElement). vec_len (out-TypedElement y).choices) (sym c.index-elements-0.is) ∙ (out-TypedElement x).choices.ok.0)
    ∙ one_only c.args.elements.now x (omega (arith, c.if-elements-ne1.false)) c.index-elements-0.is
