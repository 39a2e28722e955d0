use Rattle.std.proofs.Common.{◌≡◌, ℕ, List, length, refl, sym, ap, subst, ◌∙◌, arith}
use Rattle.rtl_model.specs.simulation.Moments.{Delta, IsUnsettled, SettlesTo}
use Rattle.rtl_net.specs.Core.{core}
use Rattle.rtl_net.specs.Nets.{NetlistView}
use Rattle.rtl_kernel.proofs.Settling.{no_delta, none_before, more_deltas, busy_still, settled_here, unsettled_here}
use Rattle.rtl_net_groups.proofs.Touching.{touches_none}
use Rattle.rtl_simulation.proofs.Touching.{touches_delta}
use Rattle.rtl_simulation.proofs.event_engine.settle.Goals as goal

pub loop-deltas-init : goal.loop-deltas-init
loop-deltas-init g c =
    let net = core c.args.kernel.now.net in
    let s = c.args.kernel.now.state in
    record { net = refl; ready = c.requires.ready; deltas = no_delta net s; busy = none_before net s; touched = touches_none _ _ }

pub mark_changed-requires : goal.mark_changed-requires
mark_changed-requires g c =
    let I = c.loop-deltas.invariant in
    I.touched.nets_stay ∙ c.requires.nets ∙ sym (ap (λ (n : NetlistView). length n.types) (c.cycle.ensures.net ∙ I.net))

pub loop-deltas-preserved : goal.loop-deltas-preserved
loop-deltas-preserved g c =
    let net = core c.args.kernel.now.net in
    let s = c.args.kernel.now.state in
    let k = c.loop-deltas.deltas in
    let t = c.loop-deltas.kernel.state in
    let u = c.cycle.new.self.state in
    let I = c.loop-deltas.invariant in
    let delta = subst (λ (n : NetlistView). (order : List ℕ) × Delta (core n) order t u) I.net c.cycle.ensures.delta in
    record {
      net = c.cycle.ensures.net ∙ I.net;
      ready = c.cycle.ensures.ready;
      deltas = more_deltas net s k t I.deltas I.busy u delta;
      busy = busy_still net s k t I.deltas I.busy (sym c.is_quiet.ensures ∙ c.if-is_quiet.false);
      touched = touches_delta net t u c.args.touched.now c.loop-deltas.touched c.mark_changed.new.touched s.now delta I.touched c.mark_changed.ensures;
    }

pub returns-then-is_quiet-clause-settled : goal.returns-then-is_quiet-clause-settled
returns-then-is_quiet-clause-settled g c =
    let net = core c.args.kernel.now.net in
    let I = c.loop-deltas.invariant in
    (settled_here net c.args.kernel.now.state c.loop-deltas.deltas c.loop-deltas.kernel.state I.deltas I.busy c.requires.ready (sym c.is_quiet.ensures ∙ c.if-is_quiet.true), omega arith)

pub returns-then-is_quiet-2-clause-settled : goal.returns-then-is_quiet-2-clause-settled
returns-then-is_quiet-2-clause-settled g c =
    let net = core c.args.kernel.now.net in
    let s = c.args.kernel.now.state in
    let t = c.loop-deltas.kernel.state in
    let I = c.loop-deltas.invariant in
    let all : c.loop-deltas.deltas ≡ c.args.limit = omega (arith, c.loop-deltas-test.false, c.loop-deltas.auto.deltas-end) in
    (subst (λ (k : ℕ). SettlesTo net s k t) all (settled_here net s c.loop-deltas.deltas t I.deltas I.busy c.requires.ready (sym c.is_quiet-2.ensures ∙ c.if-is_quiet-2.true)), omega arith)

pub returns-clause-settled : goal.returns-clause-settled
returns-clause-settled g c =
    let net = core c.args.kernel.now.net in
    let s = c.args.kernel.now.state in
    let t = c.loop-deltas.kernel.state in
    let I = c.loop-deltas.invariant in
    let all : c.loop-deltas.deltas ≡ c.args.limit = omega (arith, c.loop-deltas-test.false, c.loop-deltas.auto.deltas-end) in
    (refl, subst (λ (k : ℕ). IsUnsettled net s k t) all (unsettled_here net s c.loop-deltas.deltas t I.deltas I.busy c.requires.ready (sym c.is_quiet-2.ensures ∙ c.if-is_quiet-2.false)))
