use Rattle.std.proofs.Common.{◌≡◌, false, map, vec_len, sym, ap, subst, arith}
use Rattle.vhdl_tree.specs.declared.expression.Element.{Element}
use Rattle.vhdl_tree.specs.Tree.{is_fill, elements_of}
use Rattle.vhdl_tree.specs.View.{element_view}
use Rattle.vhdl_tree.proofs.Roles.{alone, no_fill, no_choice_fills}
use Rattle.vhdl_tree.proofs.values.is_fill.Goals as goal
use Rattle.vhdl_tree.proofs.values.is_fill.Goals.{then-elements-ne1-via-then-elements-ne1, then-elements-ne1-via-else-elements-ne1+then-len-ne1}

pub returns-then-elements-ne1 : goal.returns-then-elements-ne1
returns-then-elements-ne1 c =
    elim c.then-elements-ne1.branch [
      | then-elements-ne1-via-then-elements-ne1 w ↦ no_fill c.args.elements.now (λ one. omega (arith, one, w.if-elements-ne1.true))
      | then-elements-ne1-via-else-elements-ne1+then-len-ne1 w ↦
          let x = w.index-elements-0.result in
          let a = alone c.args.elements.now x (omega (arith, w.if-elements-ne1.false)) w.index-elements-0.is in
          subst (λ xs. false ≡ is_fill (elements_of (map element_view xs))) (sym a) (no_choice_fills x (λ one. omega (arith, one, ap (λ (y : Element). vec_len y.choices) w.index-elements-0.is, x.choices.ok.0, w.len.ensures, w.if-len-ne1.true)))
    ]
