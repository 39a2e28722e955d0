use Rattle.std.proofs.Common.{◌≡◌, ℕ, ◌==◌, map, vec_len, sym, ap, ◌∙◌, arith}
use Rattle.vhdl_tree.specs.declared.expression.Element.{Element}
use Rattle.vhdl_tree.specs.Tree.{is_lone, elements_of}
use Rattle.vhdl_tree.specs.View.{element_view}
use Rattle.vhdl_tree.proofs.Roles.{alone, no_lone, lone_by_choices}
use Rattle.vhdl_tree.proofs.values.is_lone.Goals as goal

pub returns-then-elements-ne1 : goal.returns-then-elements-ne1
returns-then-elements-ne1 c = no_lone c.args.elements.now (λ one. omega (arith, one, c.if-elements-ne1.true))

pub returns : goal.returns
returns c =
    let x = c.index-elements-0.result in
    let a = alone c.args.elements.now x (omega (arith, c.if-elements-ne1.false)) c.index-elements-0.is in
    c.is_empty.ensures ∙ ap (λ (y : Element). vec_len y.choices == 0) (sym c.index-elements-0.is) ∙ ap (λ (n : ℕ). n == 0) x.choices.ok.0 ∙ lone_by_choices x
    ∙ ap (λ xs. is_lone (elements_of (map element_view xs))) (sym a)
