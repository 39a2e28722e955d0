use Rattle.std.proofs.Common.{◌≡◌, List, map, sym, ap, ◌∙◌}
use Rattle.std.specs.Prelude.{if◌then◌else◌}
use Rattle.std.proofs.lemmas.Result.{IfOk-weaker}
use Rattle.vhdl_names_rules.specs.Registers.{has_register, registered, body_written}
use Rattle.vhdl_names_units.specs.declared.sequential.Statement.{Statement}
use Rattle.vhdl_names_units.specs.views.Sequential.{body_view, statement_view, statements_of}
use Rattle.vhdl_names_registers.specs.Tied.{tied}
use Rattle.vhdl_names_registers.proofs.Tying.{registered_is}
use Rattle.vhdl_names_registers.proofs.registers.body_written.Goals as goal

pub returns-then-not-has_register : goal.returns-then-not-has_register
returns-then-not-has_register c =
    let xs = body_view c.args.list in
    sym (ap (λ b. if b then registered xs else xs)
    (ap (λ (ys : List Statement). has_register (statements_of (map statement_view ys))) (sym c.deref.ensures.value) ∙ (sym c.has_register.ensures ∙ c.if-not-has_register.true)))

pub returns : goal.returns
returns c =
    let xs = body_view c.args.list in
    let is : body_written xs ≡ registered xs =
    ap (λ b. if b then registered xs else xs)
    (ap (λ (ys : List Statement). has_register (statements_of (map statement_view ys))) (sym c.deref.ensures.value) ∙ (sym c.has_register.ensures ∙ c.if-not-has_register.false)) in
    IfOk-weaker c.tied.result _ _ (λ v e. e ∙ (ap tied c.in_ok-list.ensures ∙ sym (is ∙ registered_is xs))) c.tied.ensures
