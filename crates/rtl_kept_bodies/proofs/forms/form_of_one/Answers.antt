use Rattle.std.proofs.Common.{sym, ap, cond, ◌∙◌, Bool}
use Rattle.rtl_net.specs.Bodies.{statement_view}
use Rattle.rtl_kept_bodies.specs.declared.forms.Form.TheVariants.{Alone, ResetFirst, Other}
use Rattle.rtl_kept_bodies.specs.Steps.{is_if_of}
use Rattle.rtl_kept_bodies.proofs.Shapes.{form_of_one}
use Rattle.rtl_kept_bodies.proofs.forms.form_of_one.Goals as goal

pub returns-then-is_if_of : goal.returns-then-is_if_of
returns-then-is_if_of c =
    let s = statement_view c.args.statement.now in
    sym (form_of_one s ∙ ap (λ (b : Bool). cond b Alone (cond (is_if_of 2 s) ResetFirst Other)) (sym c.is_if_of.ensures ∙ c.if-is_if_of.true))

pub returns-then-is_if_of-2 : goal.returns-then-is_if_of-2
returns-then-is_if_of-2 c =
    let s = statement_view c.args.statement.now in
    sym (form_of_one s ∙ ap (λ (b : Bool). cond b Alone (cond (is_if_of 2 s) ResetFirst Other)) (sym c.is_if_of.ensures ∙ c.if-is_if_of.false)
    ∙ ap (λ (b : Bool). cond b ResetFirst Other) (sym c.is_if_of-2.ensures ∙ c.if-is_if_of-2.true))

pub returns : goal.returns
returns c =
    let s = statement_view c.args.statement.now in
    sym (form_of_one s ∙ ap (λ (b : Bool). cond b Alone (cond (is_if_of 2 s) ResetFirst Other)) (sym c.is_if_of.ensures ∙ c.if-is_if_of.false)
    ∙ ap (λ (b : Bool). cond b ResetFirst Other) (sym c.is_if_of-2.ensures ∙ c.if-is_if_of-2.false))
