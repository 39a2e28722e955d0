use Rattle.std.proofs.Common.{None, sym}
use Rattle.vhdl_names_sight.specs.Views.{meaning_view, entry_of}
use Rattle.vhdl_names_rules.specs.problems.Subtypes.{mark_problem, is_marked}
use Rattle.vhdl_names_values.proofs.BreakingValues.{unmarked_alone, misfit}
use Rattle.vhdl_names_values.proofs.subtypes.marked.Goals as goal

pub returns-in-Some-clause-given : goal.returns-in-Some-clause-given
returns-in-Some-clause-given c = λ n. sym (c.in-Some.ensures n)

pub returns-in-None-clause-given : goal.returns-in-None-clause-given
returns-in-None-clause-given c = λ n w. sym (c.in-None.ensures n)

pub returns-in-None-clause-told : goal.returns-in-None-clause-told
returns-in-None-clause-told c =
    λ n. misfit (mark_problem (meaning_view c.args.entry.now.meaning)) c.mark_problem.result (is_marked (entry_of n c.args.entry.now) None) c.args.at _
    (unmarked_alone (entry_of n c.args.entry.now) (sym (c.in-None.ensures n))) c.mark_problem.ensures c.at.ensures
