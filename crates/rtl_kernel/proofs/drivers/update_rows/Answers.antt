use Rattle.std.proofs.Common.{◌<◌, ◌≡◌, ℕ, List, Option, Vec, arith, refl, sym, ap, subst, ◌∙◌, get_or, length, []}
use Rattle.std.specs.Global.{Global}
use Rattle.std.specs.Vec.{with_items}
use Rattle.std.proofs.lemmas.List.{length-map, map-set, with_items_is}
use Rattle.rtl_model.proofs.basics.Lists.{get_or-map_within}
use Rattle.rtl_model.proofs.simulation.Rows.{length-driven}
use Rattle.rtl_model.specs.simulation.Cycle.{driver_values}
use Rattle.rtl_drives.specs.Outcomes.{Outcome}
use Rattle.rtl_net.specs.Nets.{NetlistView}
use Rattle.rtl_kernel.specs.drivers.Brought.{Brings}
use Rattle.rtl_kernel.specs.drivers.DriverCuts.{AreDriverCuts}
use Rattle.rtl_kernel.specs.drivers.Rows.{rows}
use Rattle.rtl_kernel.specs.drivers.Transactions.{targets_of}
use Rattle.rtl_kernel.proofs.Brought.{still}
use Rattle.rtl_kernel.proofs.Updating.{updating_none_yet, updating_one, updated_drivers, updated_outcomes}
use Rattle.rtl_kernel.proofs.drivers.update_rows.Goals as goal

abbrev items_of : Vec ℕ Global → List ℕ
items_of v = v.items

abbrev entries_of : Outcome → List (Option ℕ)
entries_of o = o.entries

pub loop-process-init : goal.loop-process-init
loop-process-init c = updating_none_yet _ _ _ (rw (c.members-process-items.ensures.value) c.requires.tracked.all_active)

pub update_process-requires-clause-row : goal.update_process-requires-clause-row
update_process-requires-clause-row c =
    let p = get_or c.members-process-items.result.now c.loop-process.process-index 0 in
    let I = c.loop-process.invariant in
    let T = c.requires.tracked in
    let N = c.requires.entries in
    let below = c.members-process-items.ensures.below c.loop-process.process-index 0 c.loop-process-test.true in
    let in_outcomes : p < length c.loop-process.outcomes.items = omega (arith, below, T.bound, I.each_outcome) in
    let in_rows : p < length c.loop-process.drivers.items =
    omega (arith, below, T.bound, T.as_many, I.each_row, length-map c.loop-process.drivers.items items_of, length-map c.args.drivers.now.items items_of) in
    let in_processes : p < length c.args.nets.now.net.processes = omega (arith, below, T.bound, N.as_many) in
    let entry = ap length (get_or-map_within entries_of c.loop-process.outcomes.items p c.index_mut-outcome.result.now [] in_outcomes)
    ∙ ap (λ (o : Outcome). length o.entries) (sym c.index_mut-outcome.ensures.value) in
    record {
      there = subst (λ (n : NetlistView). p < length n.processes) (sym I.brings.stay.net_stays) in_processes;
      each_entry = ap (λ (n : NetlistView). length (targets_of n.processes p)) I.brings.stay.net_stays ∙ N.each_driver p ∙ sym (I.each_entry p) ∙ entry;
      each_value = ap length c.deref_mut.ensures.value ∙ ap (λ (v : Vec ℕ Global). length v.items) c.index_mut-values.ensures.value
          ∙ sym (ap length (get_or-map_within items_of c.loop-process.drivers.items p c.index_mut-values.result.now [] in_rows))
          ∙ I.each_value p ∙ T.each_driver p ∙ sym (I.each_entry p) ∙ entry;
    }

pub update_process-requires-clause-cuts : goal.update_process-requires-clause-cuts
update_process-requires-clause-cuts c =
    still (λ n g. AreDriverCuts n g c.args.cuts.now) c.args.nets.now c.loop-process.nets c.loop-process.invariant.brings.stay c.requires.cuts

pub loop-process-preserved : goal.loop-process-preserved
loop-process-preserved c =
    let p = get_or c.members-process-items.result.now c.loop-process.process-index 0 in
    let I = c.loop-process.invariant in
    let T = c.requires.tracked in
    let drivers = c.loop-process.drivers.items in
    let o = c.index_mut-outcome.result.now in
    let vec = c.index_mut-values.result.now in
    let D = c.update_process.ensures in
    let new = c.update_process.new.values in
    let below = c.members-process-items.ensures.below c.loop-process.process-index 0 c.loop-process-test.true in
    let in_outcomes : p < length c.loop-process.outcomes.items = omega (arith, below, T.bound, I.each_outcome) in
    let in_rows : p < length drivers =
    omega (arith, below, T.bound, T.as_many, I.each_row, length-map drivers items_of, length-map c.args.drivers.now.items items_of) in
    let row : c.deref_mut.result.now ≡ get_or (rows drivers) p [] =
    c.deref_mut.ensures.value ∙ ap items_of c.index_mut-values.ensures.value ∙ sym (get_or-map_within items_of drivers p vec [] in_rows) in
    let many : length new ≡ vec.len =
    omega (arith, ap length D.values, length-driven o.entries c.deref_mut.result.now, ap length c.deref_mut.ensures.value, vec.ok.0) in
    let kept : (with_items vec new).items ≡ new = with_items_is vec new many in
    let as_many = I.each_value p ∙ T.each_driver p ∙ sym (I.each_entry p)
    ∙ ap length (get_or-map_within entries_of c.loop-process.outcomes.items p o [] in_outcomes) ∙ ap (λ (x : Outcome). length x.entries) (sym c.index_mut-outcome.ensures.value) in
    let brought : Brings (targets_of c.loop-process.nets.net.processes p) (get_or (rows drivers) p []) (with_items vec new).items c.loop-process.nets c.update_process.new.nets =
    rw (← row, kept) D.brings in
    rw (map-set items_of drivers p (with_items vec new))
    (updating_one _ _ _ c.loop-process.process-index _ _ I p o c.clear.new.self (with_items vec new).items c.update_process.new.nets refl in_outcomes (rw length-map in_rows)
    (sym c.index_mut-outcome.ensures.value) c.clear.ensures (kept ∙ D.values ∙ ap (driver_values o.entries) row) as_many brought)

pub returns-clause-drivers : goal.returns-clause-drivers
returns-clause-drivers c =
    updated_drivers _ _ _ c.loop-process.process-index _ _ c.loop-process.invariant (omega (arith, c.loop-process-test.false))
    c.requires.tracked.as_many c.requires.tracked.each_driver

pub returns-clause-outcomes : goal.returns-clause-outcomes
returns-clause-outcomes c =
    updated_outcomes _ _ _ c.loop-process.process-index _ _ c.loop-process.invariant (omega (arith, c.loop-process-test.false))

pub returns-clause-brings : goal.returns-clause-brings
returns-clause-brings c = c.loop-process.invariant.brings
