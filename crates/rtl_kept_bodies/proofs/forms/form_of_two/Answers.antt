use Rattle.std.proofs.Common.{sym, ap, cond, ◌∙◌, ◌&&◌, Bool, true, false, refl, ◌≡◌}
use Rattle.rtl_net.specs.Bodies.{statement_view}
use Rattle.rtl_model.specs.bodies.Body.{Stmt, step, done}
use Rattle.rtl_kept_bodies.specs.declared.forms.Form.TheVariants.{ResetBehind, Other}
use Rattle.rtl_kept_bodies.specs.Steps.{is_if_of, form_of}
use Rattle.rtl_kept_bodies.proofs.Shapes.{form_of_two}
use Rattle.rtl_kept_bodies.proofs.forms.form_of_two.Goals as goal

by_ifs : (s r : Stmt) (a b : Bool) → is_if_of 1 s ≡ a → is_if_of 1 r ≡ b → cond (a && b) ResetBehind Other ≡ form_of (step s (step r done))
by_ifs s r a b h k = sym (form_of_two s r ∙ ap (λ (x : Bool). cond (x && is_if_of 1 r) ResetBehind Other) h ∙ ap (λ (x : Bool). cond (a && x) ResetBehind Other) k)

pub returns-then-not-is_if_of : goal.returns-then-not-is_if_of
returns-then-not-is_if_of c =
    let r = statement_view c.args.second.now in
    by_ifs (statement_view c.args.first.now) r false (is_if_of 1 r) (sym c.is_if_of.ensures ∙ c.if-not-is_if_of.true) refl

pub returns-then-not-is_if_of-2 : goal.returns-then-not-is_if_of-2
returns-then-not-is_if_of-2 c =
    by_ifs (statement_view c.args.first.now) (statement_view c.args.second.now) true false
    (sym c.is_if_of.ensures ∙ c.if-not-is_if_of.false) (sym c.is_if_of-2.ensures ∙ c.if-not-is_if_of-2.true)

pub returns : goal.returns
returns c =
    by_ifs (statement_view c.args.first.now) (statement_view c.args.second.now) true true
    (sym c.is_if_of.ensures ∙ c.if-not-is_if_of.false) (sym c.is_if_of-2.ensures ∙ c.if-not-is_if_of-2.false)
