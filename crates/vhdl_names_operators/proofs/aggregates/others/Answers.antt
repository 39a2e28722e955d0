use Rattle.vhdl_names_rules.specs.declared.fault.NameProblem.TheVariants.{WrongKind, TypeMismatch}
use Rattle.vhdl_names_rules.proofs.Telling.{both_kept, unless_kept}
use Rattle.vhdl_names_operators.proofs.Arranging.{not_holds, not_fails, tells_only, tells_first, tells_second}
use Rattle.vhdl_names_operators.proofs.aggregates.others.Goals as goal

pub returns-then-not-is_last-clause-told : goal.returns-then-not-is_last-clause-told
returns-then-not-is_last-clause-told c = tells_first WrongKind c.args.at c.args.is_last _ _ c.if-not-is_last.true c.at.ensures

pub returns-then-not-form-clause-told : goal.returns-then-not-form-clause-told
returns-then-not-form-clause-told c =
    tells_second WrongKind c.args.at c.args.is_last _ _ c.if-not-is_last.false
    (tells_only TypeMismatch c.args.at c.args.form.is_ranged _ (not_holds _ c.if-not-form.true) c.at-then-not-form.ensures)

pub returns-else-not-form-clause-kept : goal.returns-else-not-form-clause-kept
returns-else-not-form-clause-kept c =
    both_kept _ _ (unless_kept WrongKind c.args.at c.args.is_last c.if-not-is_last.false)
    (unless_kept TypeMismatch c.args.at c.args.form.is_ranged (not_fails _ c.if-not-form.false))
