use Rattle.std.proofs.Common.{◌+◌, ◌||◌, drop, map, sym, ap, ◌∙◌}
use Rattle.std.proofs.lemmas.List.{drop_all}
use Rattle.vhdl_names_rules.specs.Registers.{has_register}
use Rattle.vhdl_names_units.specs.views.Sequential.{statement_view, statements_of}
use Rattle.vhdl_names_registers.proofs.Branches.{register_at}
use Rattle.vhdl_names_registers.proofs.registers.has_register.Goals as goal

pub returns-then-is_register : goal.returns-then-is_register
returns-then-is_register c =
    let l = c.loop-statement in
    let rest = has_register (statements_of (map statement_view (drop (l.statement-index + 1) c.args.list.now))) in
    sym (l.invariant
    ∙ (register_at c.args.list.now l.statement-index c.statement-item.result c.loop-statement-test.true c.statement-item.is
    ∙ ap (λ b. b || rest) (sym c.is_register.ensures ∙ c.if-is_register.true)))

pub loop-statement-preserved : goal.loop-statement-preserved
loop-statement-preserved c =
    let l = c.loop-statement in
    let rest = has_register (statements_of (map statement_view (drop (l.statement-index + 1) c.args.list.now))) in
    l.invariant
    ∙ (register_at c.args.list.now l.statement-index c.statement-item.result c.loop-statement-test.true c.statement-item.is
    ∙ ap (λ b. b || rest) (sym c.is_register.ensures ∙ c.if-is_register.false))

pub returns : goal.returns
returns c =
    let l = c.loop-statement in
    sym (l.invariant ∙ ap (λ xs. has_register (statements_of (map statement_view xs))) (drop_all l.statement-index c.args.list.now c.loop-statement-test.false))
