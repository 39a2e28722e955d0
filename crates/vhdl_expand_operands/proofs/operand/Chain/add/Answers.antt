use Rattle.std.proofs.Common.{sym, ap, ◌∙◌, subst}
use Rattle.rtl_model.specs.bodies.Fits.{IsWidth, width, operated_width}
use Rattle.rtl_net.specs.Bodies.{expr_view, operator_view, links_of}
use Rattle.vhdl_expand_operands.specs.Sized.{IsSized}
use Rattle.vhdl_expand_operands.proofs.Links.{links_push, operands_alike, operated_gives}
use Rattle.vhdl_expand_operands.proofs.operand.Chain.add.Goals as goal

pub invariant_of-self-2 : goal.invariant_of-self-2
invariant_of-self-2 c =
    let s = c.args.self.now in
    let op = operator_view c.args.operator in
    let left = links_of (expr_view s.first.value) s.rest.items in
    let right = expr_view c.args.right.expr in
    let is = links_push (expr_view s.first.value) s.rest.items c.push.new.self.items _ c.in_ok-push.ensures.items in
    let long = ap (λ m. operated_width op m (width right)) s.counted ∙ ap (λ n. operated_width op s.width.len n) c.args.right.counted ∙ sym c.in_ok-width.ensures.width in
    record {
      counted = ap width is ∙ long;
      sized = subst IsSized (sym is) (
        subst IsWidth (sym long) c.in_ok-width.width.is_vector,
        s.sized,
        c.args.right.sized,
        operands_alike c.args.at op (width left) (width right) s.width.len c.args.right.width.len s.counted c.args.right.counted c.in_ok-width.ensures.given,
      );
    }

pub returns : goal.returns
returns c =
    let s = c.args.self.now in
    operated_gives c.args.at (operator_view c.args.operator) (links_of (expr_view s.first.value) s.rest.items) (expr_view c.args.right.expr) _ _ _
    s.counted c.args.right.counted c.in_ok-width.ensures.given
    (links_push (expr_view s.first.value) s.rest.items c.push.new.self.items _ c.in_ok-push.ensures.items)
