use Rattle.std.proofs.Common.{◌≡◌, ℕ, Bool, true, false, ◌||◌, Option, None, refl, ap, sym, ◌∙◌, subst}
use Rattle.std.specs.Prelude.{IfOk, is_some, if◌then◌else◌}
use Rattle.rtl_net.specs.declared.process.Process.{Process}
use Rattle.rtl_net.specs.declared.body.Statement.{Statement}
use Rattle.rtl_body_facts.specs.Reading.{is_in}
use Rattle.rtl_mixed_reasons.specs.declared.reason.Reason.{Reason}
use Rattle.rtl_mixed_reasons.specs.Reasons.{edge_if, is_apart, unlike_reset, reset_behind, told_behind}
use Rattle.rtl_mixed_reasons.proofs.resets.told_behind.Goals as goal

-- of a wide netlist, by whether the statement has an edge, or is apart
wide-is : (wide : Bool) (p : Process) (edge : ℕ → Bool) (x : Statement) (has apart : Bool) → wide ≡ true → is_some (edge_if 0 x) ≡ has → is_apart p edge x ≡ apart
    → (if has || apart then None else unlike_reset x) ≡ told_behind wide p edge x
wide-is wide p edge x has apart w e a = sym (λ j. if w j then (if e j || a j then None else unlike_reset x) else reset_behind p edge x)

-- an edge alone says it
edge-is : (wide : Bool) (p : Process) (edge : ℕ → Bool) (x : Statement) → wide ≡ true → is_some (edge_if 0 x) ≡ true → None ≡ told_behind wide p edge x
edge-is wide p edge x w e = wide-is wide p edge x true (is_apart p edge x) w e refl

pub returns-then-not-wide : goal.returns-then-not-wide
returns-then-not-wide c =
    subst (λ (wide : Bool). IfOk c.reset_if.result (λ (reason : Option Reason). reason ≡ told_behind wide c.args.process.now (λ n. is_in n c.args.edge.now) c.args.statement.now)) (sym c.if-not-wide.true) c.reset_if.ensures

pub returns-then-is_some : goal.returns-then-is_some
returns-then-is_some c =
    edge-is c.args.wide c.args.process.now (λ n. is_in n c.args.edge.now) c.args.statement.now c.if-not-wide.false (ap is_some (sym c.edge_if.ensures) ∙ (sym c.is_some.ensures ∙ c.if-is_some.true))

pub returns-then-branch : goal.returns-then-branch
returns-then-branch c =
    wide-is c.args.wide c.args.process.now (λ n. is_in n c.args.edge.now) c.args.statement.now false true c.if-not-wide.false (ap is_some (sym c.edge_if.ensures) ∙ (sym c.is_some.ensures ∙ c.if-is_some.false))
    (sym c.in_ok-is_apart.ensures ∙ c.if-branch.true)

pub returns : goal.returns
returns c =
    c.unlike_reset.ensures
    ∙ wide-is c.args.wide c.args.process.now (λ n. is_in n c.args.edge.now) c.args.statement.now false false c.if-not-wide.false (ap is_some (sym c.edge_if.ensures) ∙ (sym c.is_some.ensures ∙ c.if-is_some.false))
    (sym c.in_ok-is_apart.ensures ∙ c.if-branch.false)
