use Rattle.std.proofs.Common.{refl, Bool, false, List, get_or, length, ap, sym, subst, ◌∙◌, arith, inr}
use Rattle.std.proofs.lemmas.List.{length-map}
use Rattle.std.proofs.lemmas.Result.{IfOk-from_err}
use Rattle.rtl_model.proofs.basics.Lists.{in_contains}
use Rattle.rtl_model.specs.simulation.Levels.{is_clocked}
use Rattle.rtl_model.specs.simulation.Netlist.{Process}
use Rattle.rtl_kernel.specs.kernel.Simulation.{each_given, initial_inputs}
use Rattle.rtl_kernel.specs.values.TwoValues.{AreChanged}
use Rattle.rtl_kernel.proofs.Started.{first_is, have_room}
use Rattle.rtl_net.specs.Nets.{flat, process_view}
use Rattle.rtl_net.specs.Core.{core}
use Rattle.rtl_levels.specs.Marks.{IsGiven}
use Rattle.rtl_process_kinds.specs.KindViews.{AreKinds}
use Rattle.rtl_levels.proofs.Clocks.{woken_are}
use Rattle.rtl_levels.specs.declared.order.Visit.{Visit}
use Rattle.rtl_levels.proofs.Coming.{first_to_come}
use Rattle.rtl_levels.proofs.Leveling.{all_same}
use Rattle.rtl_levels.proofs.Changed.{first_in_range, inputs_below}
use Rattle.rtl_levels.proofs.Machines.{clocked_marked, kept_first, marked_follow}
use Rattle.rtl_levels.proofs.Stepping.{is_first}
use Rattle.rtl_levels.proofs.Visiting.{changes_below, each_is_given}
use Rattle.rtl_levels.proofs.machine.Machine.leveled.Goals as goal

pub new-requires-clause-accepted : goal.new-requires-clause-accepted
new-requires-clause-accepted g c = c.requires.accepted

pub new-requires-clause-clocked : goal.new-requires-clause-clocked
new-requires-clause-clocked g c = c.deref-5.ensures.value ∙ woken_are (core c.args.net.now) c.in_ok-woken.woken.items c.deref-3.result.now c.in_ok-kinds.kinds.items c.in_ok-woken.ensures c.deref-3.ensures.value c.in_ok-kinds.ensures

pub new-requires-clause-kinds : goal.new-requires-clause-kinds
new-requires-clause-kinds g c = subst (AreKinds (core c.args.net.now)) (sym c.deref-4.ensures.value) c.in_ok-kinds.ensures

pub new-requires-clause-nets : goal.new-requires-clause-nets
new-requires-clause-nets g c = c.requires.nets

pub fresh_outcomes-requires : goal.fresh_outcomes-requires
fresh_outcomes-requires g c = c.requires.bodies.as_many ∙ length-map c.args.net.now.processes process_view ∙ sym (ap length c.processes.ensures)

pub changes_to-requires : goal.changes_to-requires
changes_to-requires g c = c.requires.initial ∙ sym (ap length c.inputs.ensures)

pub set_inputs-requires : goal.set_inputs-requires
set_inputs-requires g c =
    let net = c.args.net.now in
    rw (c.deref.ensures.value)
    (changes_below net.inputs c.args.initial.now c.requires.initial c.in_ok-changes.changes.items (rw (c.inputs.ensures) at c.in_ok-changes.ensures) (length c.in_ok-values.values.items)
    (rw (c.in_ok-values.ensures) (inputs_below (flat net) c.is_elaborated.ensures.in_range)))

pub come_to_rest-requires-clause-may : goal.come_to_rest-requires-clause-may
come_to_rest-requires-clause-may g c =
    let N = c.is_elaborated.ensures in
    record { in_range = N.in_range; connected = N.connected; run_bodies = c.requires.bodies; room = have_room g.E.Exec.most c.args.net.now c.args.bodies.now _ c.requires.bodies.as_many (rw (c.processes.ensures) at c.in_ok-runs.ensures) }

pub come_to_rest-requires-clause-planned : goal.come_to_rest-requires-clause-planned
come_to_rest-requires-clause-planned g c = c.in_ok-schedule.ensures

pub come_to_rest-requires-clause-sensitive : goal.come_to_rest-requires-clause-sensitive
come_to_rest-requires-clause-sensitive g c =
    let net = c.args.net.now in
    record {
      there = rw (c.deref-7.ensures.value, c.in_ok-schedule.ensures.each_clocked)
          (changes_below net.inputs c.args.initial.now c.requires.initial c.in_ok-changes.changes.items (rw (c.inputs.ensures) at c.in_ok-changes.ensures) (length net.starts)
          (inputs_below (flat net) c.is_elaborated.ensures.in_range));
      readers = rw (c.deref-7.ensures.value, c.in_ok-changes.ensures, c.inputs.ensures, (woken_are (core c.args.net.now) c.in_ok-woken.woken.items c.deref-3.result.now c.in_ok-kinds.kinds.items c.in_ok-woken.ensures c.deref-3.ensures.value c.in_ok-kinds.ensures))
          (marked_follow (core net) c.in_ok-schedule.schedule c.in_ok-schedule.ensures (IsGiven (each_given net.inputs c.args.initial.now))
          (λ n is. each_is_given net.inputs c.args.initial.now c.requires.initial n (in_contains net.inputs n is)));
    }

pub come_to_rest-requires-clause-each_process : goal.come_to_rest-requires-clause-each_process
come_to_rest-requires-clause-each_process g c =
    ap length (woken_are (core c.args.net.now) c.in_ok-woken.woken.items c.deref-3.result.now c.in_ok-kinds.kinds.items c.in_ok-woken.ensures c.deref-3.ensures.value c.in_ok-kinds.ensures) ∙ length-map (core c.args.net.now).processes (λ (p : Process). is_clocked p.kind)

pub come_to_rest-requires-clause-before : goal.come_to_rest-requires-clause-before
come_to_rest-requires-clause-before g c =
    let N = c.is_elaborated.ensures in
    let now = c.set_inputs.new.values.items in
    let A : AreChanged (each_given c.args.net.now.inputs c.args.initial.now) c.args.net.now.starts now = rw (c.deref.ensures.value, c.in_ok-changes.ensures, c.inputs.ensures, c.in_ok-values.ensures) at c.set_inputs.ensures in
    rw (c.deref-8.ensures.value, c.in_ok-before.ensures.items, c.deref-2.ensures.value) (first_in_range (flat c.args.net.now) N.in_range N.connected c.args.initial.now now A)

pub come_to_rest-requires-clause-state : goal.come_to_rest-requires-clause-state
come_to_rest-requires-clause-state g c =
    let N = c.is_elaborated.ensures in
    let S = c.in_ok-state.ensures in
    let now = c.set_inputs.new.values.items in
    let A : AreChanged (each_given c.args.net.now.inputs c.args.initial.now) c.args.net.now.starts now = rw (c.deref.ensures.value, c.in_ok-changes.ensures, c.inputs.ensures, c.in_ok-values.ensures) at c.set_inputs.ensures in
    record {
      in_range = rw (S.values) (first_in_range (flat c.args.net.now) N.in_range N.connected c.args.initial.now now A);
      each_rank = ap length S.first_dirty ∙ length-map c.deref-6.result.now (λ (visit : Visit). visit.first) ∙ ap length c.deref-6.ensures.value;
      each_chunk = S.each_chunk ∙ sym (ap length S.values);
    }

pub come_to_rest-requires-clause-settled : goal.come_to_rest-requires-clause-settled
come_to_rest-requires-clause-settled g c P p place d has =
    inr (rw (c.in_ok-state.ensures.first_dirty, c.deref-6.ensures.value) (first_to_come (core c.args.net.now) c.in_ok-schedule.schedule P p place d has))

pub come_to_rest-requires-clause-each_ran : goal.come_to_rest-requires-clause-each_ran
come_to_rest-requires-clause-each_ran g c = omega (arith, c.in_ok-ran.ensures.len, c.len.ensures, c.in_ok-woken.woken.ok.0, c.in_ok-ran.ran.ok.0)

pub come_to_rest-requires-clause-none_ran : goal.come_to_rest-requires-clause-none_ran
come_to_rest-requires-clause-none_ran g c = λ k. ap (λ (marks : List Bool). get_or marks k false) (c.in_ok-ran.ensures.items_if_clones_equal (λ y e. e)) ∙ all_same _ k false

pub returns-clause-net : goal.returns-clause-net
returns-clause-net g c = refl

pub returns-clause-first : goal.returns-clause-first
returns-clause-first g c =
    let net = c.args.net.now in
    let N = c.is_elaborated.ensures in
    let now = c.set_inputs.new.values.items in
    let A : AreChanged (each_given net.inputs c.args.initial.now) net.starts now = rw (c.deref.ensures.value, c.in_ok-changes.ensures, c.inputs.ensures, c.in_ok-values.ensures) at c.set_inputs.ensures in
    is_first (core net) c.in_ok-schedule.schedule c.in_ok-schedule.ensures (initial_inputs (flat net) c.args.initial.now) c.in_ok-woken.woken.items
    (λ p clock edge is. rw ((woken_are (core c.args.net.now) c.in_ok-woken.woken.items c.deref-3.result.now c.in_ok-kinds.kinds.items c.in_ok-woken.ensures c.deref-3.ensures.value c.in_ok-kinds.ensures)) (clocked_marked (core net) p clock edge is))
    now c.come_to_rest.new.state.values.items (first_is (flat net) N.in_range c.args.initial.now now A)
    (rw (c.deref-8.ensures.value, c.in_ok-before.ensures.items, c.deref-2.ensures.value, c.in_ok-state.ensures.values) at c.come_to_rest.ensures.rest)

pub invariant_of-result : goal.invariant_of-result
invariant_of-result g c =
    let net = c.args.net.now in
    let N = c.is_elaborated.ensures in
    let P = c.in_ok-schedule.ensures in
    let now = c.set_inputs.new.values.items in
    let A : AreChanged (each_given net.inputs c.args.initial.now) net.starts now = rw (c.deref.ensures.value, c.in_ok-changes.ensures, c.inputs.ensures, c.in_ok-values.ensures) at c.set_inputs.ensures in
    let inputs = initial_inputs (flat net) c.args.initial.now in
    let now_is = first_is (flat net) N.in_range c.args.initial.now now A in
    let E = c.come_to_rest.ensures in
    let first = is_first (core net) c.in_ok-schedule.schedule P inputs c.in_ok-woken.woken.items
    (λ p clock edge is. rw ((woken_are (core c.args.net.now) c.in_ok-woken.woken.items c.deref-3.result.now c.in_ok-kinds.kinds.items c.in_ok-woken.ensures c.deref-3.ensures.value c.in_ok-kinds.ensures)) (clocked_marked (core net) p clock edge is)) now c.come_to_rest.new.state.values.items now_is
    (rw (c.deref-8.ensures.value, c.in_ok-before.ensures.items, c.deref-2.ensures.value, c.in_ok-state.ensures.values) at E.rest) in (
      E.may,
      rw (c.in_ok-before.ensures.items, c.deref-2.ensures.value)
          (kept_first (core net) c.in_ok-schedule.schedule P inputs now now_is (first_in_range (flat net) N.in_range N.connected c.args.initial.now now A)
          c.come_to_rest.new.state c.come_to_rest.new.woken.items c.come_to_rest.new.ran.items first E.state
          (E.each_process ∙ ap length (woken_are (core c.args.net.now) c.in_ok-woken.woken.items c.deref-3.result.now c.in_ok-kinds.kinds.items c.in_ok-woken.ensures c.deref-3.ensures.value c.in_ok-kinds.ensures) ∙ length-map (core c.args.net.now).processes (λ (p : Process). is_clocked p.kind))
          (E.each_ran ∙ omega (arith, c.in_ok-ran.ensures.len, c.len.ensures, c.in_ok-woken.woken.ok.0, c.in_ok-ran.ran.ok.0) ∙ sym E.each_process) E.none_dirty E.none_woken E.none_ran),
    )

pub returns-in_err-schedule : goal.returns-in_err-schedule
returns-in_err-schedule g c = let e = c.from_residual-in_err-schedule.ensures.0 in record { net = IfOk-from_err _ _ e; first = IfOk-from_err _ _ e }

pub returns-in_err-runs : goal.returns-in_err-runs
returns-in_err-runs g c = let e = c.from_residual-in_err-runs.ensures.0 in record { net = IfOk-from_err _ _ e; first = IfOk-from_err _ _ e }

pub returns-in_err-values : goal.returns-in_err-values
returns-in_err-values g c = let e = c.from_residual.ensures.0 in record { net = IfOk-from_err _ _ e; first = IfOk-from_err _ _ e }

pub returns-in_err-changes : goal.returns-in_err-changes
returns-in_err-changes g c = let e = c.from_residual-in_err-changes.ensures.0 in record { net = IfOk-from_err _ _ e; first = IfOk-from_err _ _ e }

pub returns-in_err-before : goal.returns-in_err-before
returns-in_err-before g c = let e = c.from_residual-in_err-before.ensures.0 in record { net = IfOk-from_err _ _ e; first = IfOk-from_err _ _ e }

pub returns-in_err-kinds : goal.returns-in_err-kinds
returns-in_err-kinds g c = let e = c.from_residual-in_err-kinds.ensures.0 in record { net = IfOk-from_err _ _ e; first = IfOk-from_err _ _ e }

pub returns-in_err-woken : goal.returns-in_err-woken
returns-in_err-woken g c = let e = c.from_residual-in_err-woken.ensures.0 in record { net = IfOk-from_err _ _ e; first = IfOk-from_err _ _ e }

pub returns-in_err-state : goal.returns-in_err-state
returns-in_err-state g c = let e = c.from_residual-in_err-state.ensures.0 in record { net = IfOk-from_err _ _ e; first = IfOk-from_err _ _ e }

pub returns-in_err-ran : goal.returns-in_err-ran
returns-in_err-ran g c = let e = c.from_residual-in_err-ran.ensures.0 in record { net = IfOk-from_err _ _ e; first = IfOk-from_err _ _ e }
