use Rattle.std.proofs.Common.{◌≡◌, ℕ, List, sym, subst, ◌∙◌, arith, refl}
use Rattle.rtl_net.specs.Nets.{NetlistView, flat}
use Rattle.rtl_model.specs.nets.CoreNetlist.{core_netlist}
use Rattle.rtl_model.specs.simulation.Cycle.{after_update}
use Rattle.rtl_model.specs.simulation.Moments.{Delta, IsUnsettled, SettlesTo}
use Rattle.rtl_kernel.specs.kernel.Picked.{HasRunAsPicked, HasDeltasAsPicked}
use Rattle.rtl_kernel.proofs.Picking as picking
use Rattle.rtl_kernel.proofs.Settling.{no_delta, none_before, more_deltas, busy_still, settled_here, unsettled_here}
use Rattle.rtl_kernel.proofs.kernel.Kernel.settle.Given.{Over}
use Rattle.rtl_kernel.proofs.kernel.Kernel.settle.Goals as goal
use Rattle.rtl_kernel.proofs.kernel.Kernel.settle.Goals.{After-is_quiet-2}

pub loop-deltas-init : goal.loop-deltas-init
loop-deltas-init g c =
    let net = core_netlist (flat c.args.self.now.net) in
    record { net = refl; ready = c.requires.ready; deltas = no_delta net c.args.self.now.state; picked = picking.no_delta g.P.Pick.picks net c.args.pick.now c.args.self.now.state; busy = none_before net c.args.self.now.state }

pub loop-deltas-preserved : goal.loop-deltas-preserved
loop-deltas-preserved g c =
    let net = core_netlist (flat c.args.self.now.net) in
    let s = c.args.self.now.state in
    let k = c.loop-deltas.deltas in
    let t = c.loop-deltas.self.state in
    let I = c.loop-deltas.invariant in
    let delta = subst (λ (n : NetlistView). (order : List ℕ) × Delta (core_netlist (flat n)) order t c.cycle.new.self.state) I.net c.cycle.ensures.delta in
    record {
      net = c.cycle.ensures.net ∙ I.net;
      ready = c.cycle.ensures.ready;
      deltas = more_deltas net s k t I.deltas I.busy c.cycle.new.self.state delta;
      picked = picking.more_deltas g.P.Pick.picks net k c.args.pick.now c.loop-deltas.pick c.cycle.new.pick s t c.cycle.new.self.state I.picked (subst (λ (n : NetlistView). HasRunAsPicked g.P.Pick.picks (core_netlist (flat n)) c.loop-deltas.pick c.cycle.new.pick (after_update (core_netlist (flat n)) t) c.cycle.new.self.state) I.net c.cycle.ensures.picked);
      busy = busy_still net s k t I.deltas I.busy (sym c.is_quiet.ensures ∙ c.if-is_quiet.false);
    }

pub returns-then-is_quiet : goal.returns-then-is_quiet
returns-then-is_quiet g c =
    let net = core_netlist (flat c.args.self.now.net) in
    let I = c.loop-deltas.invariant in
    record {
      net = I.net;
      ready = I.ready;
      settled = (settled_here net c.args.self.now.state c.loop-deltas.deltas c.loop-deltas.self.state I.deltas I.busy c.requires.ready (sym c.is_quiet.ensures ∙ c.if-is_quiet.true), omega arith);
      picked = I.picked;
    }

-- after as many deltas as are allowed
module _ (g : Over) (c : After-is_quiet-2 g) where
  all : c.loop-deltas.deltas ≡ c.args.limit
  all = omega (arith, c.loop-deltas-test.false, c.loop-deltas.auto.deltas-end)

  picked : HasDeltasAsPicked g.P.Pick.picks (core_netlist (flat c.args.self.now.net)) c.args.limit c.args.pick.now c.loop-deltas.pick c.args.self.now.state c.loop-deltas.self.state
  picked =
      subst (λ (k : ℕ). HasDeltasAsPicked g.P.Pick.picks (core_netlist (flat c.args.self.now.net)) k c.args.pick.now c.loop-deltas.pick c.args.self.now.state c.loop-deltas.self.state) all
      c.loop-deltas.invariant.picked

pub returns-then-is_quiet-2 : goal.returns-then-is_quiet-2
returns-then-is_quiet-2 g c =
    let at = (goal.at.returns-then-is_quiet-2 g c).After-is_quiet-2 in
    let net = core_netlist (flat c.args.self.now.net) in
    let I = c.loop-deltas.invariant in
    record {
      settled = (
        subst (λ (k : ℕ). SettlesTo net c.args.self.now.state k c.loop-deltas.self.state) (all g at)
            (settled_here net c.args.self.now.state c.loop-deltas.deltas c.loop-deltas.self.state I.deltas I.busy c.requires.ready (sym c.is_quiet-2.ensures ∙ c.if-is_quiet-2.true)),
        omega arith,
      );
      net = I.net;
      ready = I.ready;
      picked = picked g at;
    }

pub returns-else-is_quiet-2 : goal.returns-else-is_quiet-2
returns-else-is_quiet-2 g c =
    let net = core_netlist (flat c.args.self.now.net) in
    let I = c.loop-deltas.invariant in
    let at = (goal.at.returns-else-is_quiet-2 g c).After-is_quiet-2 in
    record {
      net = I.net;
      ready = I.ready;
      settled = subst (λ (k : ℕ). IsUnsettled net c.args.self.now.state k c.loop-deltas.self.state) (all g at)
          (unsettled_here net c.args.self.now.state c.loop-deltas.deltas c.loop-deltas.self.state I.deltas I.busy c.requires.ready (sym c.is_quiet-2.ensures ∙ c.if-is_quiet-2.false));
      picked = picked g at;
    }
