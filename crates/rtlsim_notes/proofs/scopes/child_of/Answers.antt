use Rattle.std.proofs.Common.{map, sym, ◌∙◌, arith}
use Rattle.std.proofs.lemmas.Bool.{ne_eqb}
use Rattle.rtl_net.specs.Nets.{scope_view}
use Rattle.rtlsim_notes.proofs.Ups.{child_up}
use Rattle.rtlsim_notes.proofs.scopes.child_of.Goals as goal

pub loop-steps-preserved : goal.loop-steps-preserved
loop-steps-preserved c =
    child_up (map scope_view c.args.scopes.now) c.loop-steps.here c.in_ok-parent.parent (sym c.parent_of.ensures ∙ c.in_ok-parent.was) c.args.owner c.loop-steps.steps
    (omega (arith, c.loop-steps-test.true)) (ne_eqb _ _ c.if-parent-owner.false)
    ∙ c.loop-steps.invariant
