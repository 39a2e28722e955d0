use Rattle.std.proofs.Common.{[], ◌∙◌, ◌≡◌, Bool, false, Option, ap, sym, subst, refl, arith}
use Rattle.std.specs.List.{count_by}
use Rattle.rtl_awaited_edges.specs.declared.awaited.ClockEdge.{ClockEdge}
use Rattle.rtl_awaited_edges.specs.Awaiting.{IsAsleep, first_edge}
use Rattle.rtl_drives.proofs.Counting.{count_by-set_less}
use Rattle.rtl_model.proofs.simulation.Order.{waits_in}
use Rattle.rtl_model.specs.nets.CoreNetlist.{core_netlist}
use Rattle.rtl_model.specs.simulation.Cycle.{State, after_run}
use Rattle.rtl_net.specs.Nets.{NetlistView, flat}
use Rattle.rtl_kernel.proofs.Kept as kept
use Rattle.rtl_kernel.proofs.Picking.{run_first}
use Rattle.rtl_kernel.proofs.kernel.Kernel.run_all.Goals as goal

pub is_asleep-asleep-requires-clause-before : goal.is_asleep-asleep-requires-clause-before
is_asleep-asleep-requires-clause-before g c = rw (c.before-2.ensures.value, c.values-values.ensures.value) (kept.clock_before c.self.invariant)

pub is_asleep-asleep-requires-clause-values : goal.is_asleep-asleep-requires-clause-values
is_asleep-asleep-requires-clause-values g c = rw (c.now.ensures, c.values-values.ensures.value) (kept.clock_now c.self.invariant)

pub loop-left-init : goal.loop-left-init
loop-left-init g c = record {
  left = rw (← c.self.view_is) c.len-left.ensures.marks;
  none = rw (← c.self.view_is) c.len-left.ensures.none;
  net = refl;
  asleep = λ e.
      rw (← c.self.view_is)
      (subst (λ (o : Option ClockEdge). IsAsleep o c.self.inside.nets.values.before c.self.inside.nets.values.current) c.self.invariant.of_net.awaits.first
      (rw (c.before-2.ensures.value, c.now.ensures, c.values-values.ensures.value) at (c.is_asleep-asleep.ensures e)));
  rest = λ t last h. h;
}

pub loop-left-preserved : goal.loop-left-preserved
loop-left-preserved g c =
    let (process, at, now_is) = c.run_one.ensures.ran in
    let I = c.loop-left.invariant in
    let is = now_is ∙ ap (λ (n : NetlistView). after_run (core_netlist (flat n)) process c.loop-left.self.state) I.net in
    record {
      left = rw (← c.self-in-loop-left.view_is) c.len-left-in-loop-left.ensures.marks;
      none = rw (← c.self-in-loop-left.view_is) c.len-left-in-loop-left.ensures.none;
      net = c.run_one.ensures.net ∙ I.net;
      asleep = λ e.
          subst (λ (n : NetlistView). IsAsleep (first_edge (core_netlist (flat n)).processes) c.run_one.new.self.state.before c.run_one.new.self.state.now) (sym c.run_one.ensures.net)
          (subst (λ (s : State). IsAsleep (first_edge (core_netlist (flat c.loop-left.self.net)).processes) s.before s.now) (sym now_is) (I.asleep e));
      rest = λ t last h. I.rest t last (run_first g.P.Pick.picks (core_netlist (flat c.args.self.now.net)) c.loop-left.self.state _ t process _ _ _ last at is (rw I.left at c.pick-place.ensures.picked) h);
    }

pub loop-left-smaller : goal.loop-left-smaller
loop-left-smaller g c =
    let (process, at, now_is) = c.run_one.ensures.ran in
    let waiting = c.loop-left.self.state.waiting in
    let less = count_by-set_less (λ (b : Bool). b) waiting process false false (waits_in waiting process at.0) at.0 refl in
    let marks = ap (λ (s : State). s.waiting) now_is in
    let now : c.len-left-in-loop-left.result ≡ count_by (λ (b : Bool). b) c.run_one.new.self.state.waiting = rw (← c.self-in-loop-left.view_is) c.len-left-in-loop-left.ensures.marks in
    omega (arith, less, c.loop-left.invariant.left, rw marks at now)

pub returns : goal.returns
returns g c =
    let (order, runs, orders) = c.loop-left.invariant.rest c.loop-left.self.state c.loop-left.pick ([], (c.loop-left.invariant.none (omega (arith, c.loop-left-test.false)), refl), refl) in
    record { net = c.loop-left.invariant.net; ran = (order, runs); picked = (order, runs, orders) }
