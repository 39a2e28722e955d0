use Rattle.std.proofs.Common.{◌+◌, drop}
use Rattle.rtl_model.specs.bodies.Effect.{effect}
use Rattle.rtl_model.specs.bodies.Fits.{Fits}
use Rattle.rtl_model.specs.bodies.Variables.{variables_after}
use Rattle.rtl_net.specs.Bodies.{statements_of}
use Rattle.rtl_drives.specs.Outcomes.{Outcome}
use Rattle.rtl_eval.specs.Running.{seen_by, IsReady, Does}
use Rattle.rtl_eval.proofs.StatementWeights.{weight, weight_of, branches_weight, otherwise_weight, alternatives_weight}
use Rattle.rtl_eval.proofs.statements.+statement.Given as goal

-- what is left does, from here, what the whole does from the start
abbrev pub invariant-run_all-loop-statement : goal.invariant-run_all-loop-statement
invariant-run_all-loop-statement l = record {
  ready : IsReady l.nets l.out (λ scope. Fits scope (statements_of (drop l.statement-index l.statements)));
  leads : (last : Outcome)
      → Does (effect (seen_by l.nets l.out) (statements_of (drop l.statement-index l.statements))) (variables_after (seen_by l.nets l.out) (statements_of (drop l.statement-index l.statements))) l.out last
      → Does (effect (seen_by l.nets l.initial.out) (statements_of l.statements)) (variables_after (seen_by l.nets l.initial.out) (statements_of l.statements)) l.initial.out last;
}

abbrev pub decreases-run_all : goal.decreases-run_all
decreases-run_all l = weight_of l.statements.now

abbrev pub decreases-run : goal.decreases-run
decreases-run l = weight l.statement.now

abbrev pub decreases-run_if : goal.decreases-run_if
decreases-run_if l = 1 + (branches_weight l.branches.now + otherwise_weight l.otherwise.now)

abbrev pub decreases-run_case : goal.decreases-run_case
decreases-run_case l = 1 + (alternatives_weight l.alternatives.now + weight_of l.others.now)
