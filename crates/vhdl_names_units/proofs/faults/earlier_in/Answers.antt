use Rattle.std.proofs.Common.{sym, subst}
use Rattle.vhdl_names_rules.specs.problems.Broken as broken
use Rattle.vhdl_names_rules.specs.problems.Broken.{Tells}
use Rattle.vhdl_names_units.proofs.Told.{answer_taken, answer_refused}
use Rattle.vhdl_names_units.proofs.faults.earlier_in.Goals as goal
use Rattle.vhdl_names_units.proofs.faults.earlier_in.Goals.{in-Ok, in-Err}

pub returns-clause-told : goal.returns-clause-told
returns-clause-told g c = λ a b h e o.
    elim c.match-answer.branch [
      | in-Ok w ↦ subst (Tells (broken.earlier a b)) (sym w.result-is) (answer_taken a b c.args.fault c.args.answer w.in-Ok.field-0 w.in-Ok.is h o)
      | in-Err w ↦ subst (Tells (broken.earlier a b)) (sym w.result-is) (w.earlier.ensures.told a b h (answer_refused b w.in-Err.other c.args.answer w.in-Err.is e))
    ]
