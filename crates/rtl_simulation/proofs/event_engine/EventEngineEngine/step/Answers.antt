use Rattle.std.proofs.Common.{ℕ, suc, List, length, ap, subst, sym, ◌∙◌}
use Rattle.std.specs.Prelude.{slice_index}
use Rattle.rtl_net.specs.Core.{core}
use Rattle.rtl_net.specs.Nets.{NetlistView}
use Rattle.rtl_net_groups.proofs.Touching.{touches_then}
use Rattle.rtl_stim.specs.Stimuli.{inputs_at}
use Rattle.rtl_simulation.specs.Engines.{KernelSettled}
use Rattle.rtl_simulation.proofs.Events.{before, begun, inputs_alone, quiet, ready, settles, stuck}
use Rattle.rtl_simulation.proofs.Moments.{most_more}
use Rattle.rtl_simulation.proofs.Results.{fails_with}
use Rattle.rtl_simulation.proofs.event_engine.EventEngineEngine.step.Goals as goal

pub apply-requires : goal.apply-requires
apply-requires g c =
    let A = c.requires.2 in
    let F = c.requires.3 in
    record { inputs = inputs_alone _ _ _ _ _ _ _ _ A F; ready = A.of.ready; quiet = quiet _ _ _ _ _ _ _ _ A F }

pub mark_changed-requires : goal.mark_changed-requires
mark_changed-requires g c =
    let A = c.requires.2 in
    c.forget.ensures.nets ∙ A.of.nets ∙ ap (λ (n : NetlistView). length n.types) (sym (c.apply.ensures.net ∙ A.of.net))

pub settle-requires : goal.settle-requires
settle-requires g c =
    let A = c.requires.2 in
    let F = c.requires.3 in
    record {
      ready = ready _ _ _ _ _ _ _ _ A F c.apply.new.self.state c.apply.ensures.ran;
      nets = c.mark_changed.ensures.nets_stay ∙ c.forget.ensures.nets ∙ A.of.nets ∙ ap (λ (n : NetlistView). length n.types) (sym (c.apply.ensures.net ∙ A.of.net));
    }

pub returns-in_err-deltas-clause-steps : goal.returns-in_err-deltas-clause-steps
returns-in_err-deltas-clause-steps g c r m A F =
    fails_with _ _ c.from_residual.result c.in_err-deltas.field-0.0 c.from_residual.ensures.1
    (stuck r (suc m) c.apply.new.self (c.apply.ensures.net ∙ A.of.net) (begun _ _ _ _ _ _ _ _ A F c.apply.new.self.state c.apply.ensures.ran) c.args.self.now.limit A.of.limit_is c.args.time
    c.settle.new.kernel.state _ _ c.in_err-deltas.ensures.settled.0 c.in_err-deltas.ensures.settled.1 (λ first stands told. c.in_err-deltas.ensures.stuck first stands told))

pub returns-clause-steps : goal.returns-clause-steps
returns-clause-steps g c r m A F =
    subst (λ (most : ℕ). KernelSettled r (suc m) c.settle.new.kernel c.args.self.now.limit c.settle.new.touched most) (sym c.max-self.ensures)
    (settles r (suc m) c.apply.new.self (c.apply.ensures.net ∙ A.of.net) (begun _ _ _ _ _ _ _ _ A F c.apply.new.self.state c.apply.ensures.ran) c.args.self.now.limit A.of.limit_is A.of.course
    c.settle.new.kernel c.settle.new.touched c.in_ok-deltas.deltas _ c.settle.ensures.net c.settle.ensures.ready
    (c.settle.ensures.touched.nets_stay ∙ c.mark_changed.ensures.nets_stay ∙ c.forget.ensures.nets ∙ A.of.nets) c.in_ok-deltas.ensures.settled.0 c.in_ok-deltas.ensures.settled.1
    (λ takes. most_more (core r.net) (inputs_at r.stimulus) m c.args.self.now.most c.in_ok-deltas.deltas A.most_is takes))

pub returns-clause-left : goal.returns-clause-left
returns-clause-left g c = λ n left.
    let A = c.requires.2 in
    let F = c.requires.3 in
    let T = touches_then c.forget.new.self c.mark_changed.new.touched c.settle.new.touched _ c.apply.new.self.state.now _ c.mark_changed.ensures c.settle.ensures.touched in
    ap (λ (vs : List ℕ). slice_index vs n) (sym (before _ _ _ _ _ _ _ _ A F c.apply.new.self.state c.apply.ensures.ran)) ∙ T.others n left
