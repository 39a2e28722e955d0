use Rattle.std.proofs.Common.{refl, sym, ap, ◌∙◌}
use Rattle.rtl_model.specs.bodies.Body as bodies
use Rattle.rtl_net.specs.declared.body.Expr.{Expr}
use Rattle.rtl_net.specs.Indices.{numbers}
use Rattle.rtl_net.specs.Bodies.{expr_view}
use Rattle.vhdl_expand_rules.specs.SameExpr.{same_expr}
use Rattle.vhdl_expand_same.proofs.Comparing.{chain_alone, chain_apart}
use Rattle.vhdl_expand_same.proofs.same_parts.+same_variable.Goals as goal

pub returns-then-is_empty : goal.returns-then-is_empty
returns-then-is_empty t c =
    let i = c.in-Chain in
    let e = bodies.variable (numbers c.args.elements.now) in
    c.same_variable.ensures ∙ ap (λ (x : Expr). same_expr e (expr_view x)) c.deref.ensures
    ∙ chain_alone e c.args.right.now i.first i.rest i.is (sym c.is_empty.ensures ∙ c.if-is_empty.true)

pub returns-else-is_empty : goal.returns-else-is_empty
returns-else-is_empty t c =
    let i = c.in-Chain in
    c.if-is_empty.false
    ∙ chain_apart (bodies.variable (numbers c.args.elements.now)) c.args.right.now i.first i.rest i.is (λ o x y. refl) (sym c.is_empty.ensures ∙ c.if-is_empty.false)
