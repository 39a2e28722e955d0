use Rattle.std.proofs.Common.{◌≡◌, ◌<◌, ◌≤◌, ℕ, false, length, set, refl, subst, sym, ap, ◌∙◌, arith, inl}
use Rattle.std.proofs.lemmas.List.{get_or_default, length-set}
use Rattle.rtl_model.specs.simulation.Netlist.{process}
use Rattle.rtl_kernel.specs.wakes.Woken.{wakers_of}
use Rattle.rtl_net.specs.Core.{core}
use Rattle.rtl_levels.specs.declared.order.Visit.{Visit}
use Rattle.rtl_levels.specs.Marks.{Marks}
use Rattle.rtl_levels.specs.Running.{IsNew, IsWritten}
use Rattle.rtl_levels.specs.Visits.{no_visit, visit_at}
use Rattle.rtl_levels.proofs.Awake.{unmarked_more}
use Rattle.rtl_levels.proofs.Ordering.{visited_there}
use Rattle.rtl_levels.proofs.Sweeping.{all_settled, none_left, sweeping_run, sweeping_skip}
use Rattle.rtl_levels.proofs.Wired.{processes_many}
use Rattle.rtl_net_groups.proofs.Touching.{touches_none, touches_then}
use Rattle.rtl_levels.proofs.sweep.sweep.Goals as goal

pub loop-rank-init : goal.loop-rank-init
loop-rank-init g c = record {
  may = c.requires.may;
  state = c.requires.state;
  sweeping = record { each_net = refl; each_rank = c.requires.state.each_rank; to_come = c.requires.settled; ahead = λ k h. omega arith; on_resets = λ P p place m R h. inl refl; on_others = λ n free. refl };
  within = omega arith;
  touched = touches_none _ _;
}

pub settle-requires-clause-may : goal.settle-requires-clause-may
settle-requires-clause-may g c = c.loop-rank.invariant.may

pub settle-requires-clause-planned : goal.settle-requires-clause-planned
settle-requires-clause-planned g c = c.requires.planned

pub settle-requires-clause-there : goal.settle-requires-clause-there
settle-requires-clause-there g c =
    let net = core c.args.net.now in
    let P = c.requires.planned in
    let visits = c.args.schedule.now.visits.items in
    let rank = c.loop-rank.rank in
    let within : rank < length visits = omega (arith, c.loop-rank-test.true, c.len.ensures, c.loop-rank.state.dirty.ok.0, c.loop-rank.invariant.state.each_rank) in
    subst (λ (x : Visit). x.process < length c.args.net.now.processes) (sym (c.index-then-index.ensures ∙ get_or_default visits rank c.index-then-index.result.now no_visit within))
    (rw (← processes_many c.args.net.now) (visited_there net P.nets visits P.schedule.visits_are rank within))

pub settle-requires-clause-state : goal.settle-requires-clause-state
settle-requires-clause-state g c =
    let S = c.loop-rank.invariant.state in
    record { in_range = S.in_range; each_rank = length-set c.loop-rank.state.dirty.items c.loop-rank.rank false ∙ S.each_rank; each_chunk = S.each_chunk }

pub loop-rank-preserved-then-index : goal.loop-rank-preserved-then-index
loop-rank-preserved-then-index g c =
    let net = core c.args.net.now in
    let schedule = c.args.schedule.now in
    let visits = schedule.visits.items in
    let rank = c.loop-rank.rank in
    let v = c.args.state.now.values.items in
    let u = c.loop-rank.state.values.items in
    let dirty = c.loop-rank.state.dirty.items in
    let I = c.loop-rank.invariant in
    let there : rank < length dirty = omega (arith, c.loop-rank-test.true, c.len.ensures, c.loop-rank.state.dirty.ok.0) in
    let within : rank < length visits = omega (arith, there, I.state.each_rank) in
    let w' = c.settle.new.state.values.items in
    let dirty' = c.settle.new.state.dirty.items in
    let is : c.index-then-index.result.now.process ≡ (visit_at visits rank).process = ap (λ (x : Visit). x.process) (c.index-then-index.ensures ∙ get_or_default visits rank c.index-then-index.result.now no_visit within) in
    let W = c.settle.ensures.written in
    let M = W.advances.marks in
    record {
      may = c.settle.ensures.may;
      state = c.settle.ensures.state;
      sweeping = sweeping_run net schedule c.requires.planned rank v c.loop-rank.state I.sweeping c.settle.new.state within
          (subst (λ (p : ℕ). IsWritten net p u w') is W.taken)
          (subst (λ (p : ℕ). Marks (wakers_of schedule.readers) (IsNew (process net p).drives ((process net p).effect u u) u) u w' (set dirty rank false) dirty') is M);
      within = omega (arith, there, M.as_many, length-set dirty rank false);
      touched = touches_then _ _ _ _ _ _ I.touched W.advances.touched;
    }

pub loop-rank-preserved : goal.loop-rank-preserved
loop-rank-preserved g c =
    let rank = c.loop-rank.rank in
    let dirty = c.loop-rank.state.dirty.items in
    let I = c.loop-rank.invariant in
    let there : rank < length dirty = omega (arith, c.loop-rank-test.true, c.len.ensures, c.loop-rank.state.dirty.ok.0) in
    let N = rw (c.deref.ensures.value) at c.next_marked-rank.ensures in
    let none = get_or_default dirty rank false c.index.result.now there ∙ sym c.index.ensures ∙ c.if-index.false in
    record {
      may = I.may;
      state = I.state;
      sweeping = sweeping_skip (core c.args.net.now) c.args.schedule.now c.requires.planned rank c.args.state.now.values.items c.loop-rank.state I.sweeping
          c.next_marked-rank.result (omega (arith, N.later)) (unmarked_more dirty rank c.next_marked-rank.result none N.unmarked);
      within = N.within;
      touched = I.touched;
    }

pub returns-clause-swept : goal.returns-clause-swept
returns-clause-swept g c =
    let I = c.loop-rank.invariant in
    let done : length c.args.schedule.now.visits.items ≤ c.loop-rank.rank = omega (arith, c.loop-rank-test.false, c.len.ensures, c.loop-rank.state.dirty.ok.0, I.state.each_rank) in
    all_settled (core c.args.net.now) c.args.schedule.now c.requires.planned c.loop-rank.rank c.args.state.now.values.items c.loop-rank.state I.sweeping done

pub returns-clause-none_dirty : goal.returns-clause-none_dirty
returns-clause-none_dirty g c =
    let I = c.loop-rank.invariant in
    let done : length c.args.schedule.now.visits.items ≤ c.loop-rank.rank = omega (arith, c.loop-rank-test.false, c.len.ensures, c.loop-rank.state.dirty.ok.0, I.state.each_rank) in
    none_left (core c.args.net.now) c.args.schedule.now c.requires.planned c.loop-rank.rank c.args.state.now.values.items c.loop-rank.state I.sweeping done

pub returns-clause-may : goal.returns-clause-may
returns-clause-may g c = c.loop-rank.invariant.may

pub returns-clause-state : goal.returns-clause-state
returns-clause-state g c = c.loop-rank.invariant.state

pub returns-clause-touched : goal.returns-clause-touched
returns-clause-touched g c = c.loop-rank.invariant.touched
