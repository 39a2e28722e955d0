use Rattle.std.proofs.Common.{◌≡◌, ◌<◌, ℕ, List, Option, length, ap, sym, subst, ◌∙◌}
use Rattle.std.proofs.lemmas.List.{get_or_default}
use Rattle.rtl_model.specs.nets.FlatNetlist.{process_at}
use Rattle.rtl_model.specs.simulation.Netlist.{process}
use Rattle.rtl_model.proofs.nets.InRange.{keeps_range}
use Rattle.rtl_eval.specs.Runs.{IsOf}
use Rattle.rtl_drives.specs.Outcomes.{Outcome}
use Rattle.rtl_kernel.specs.drivers.Transactions.{no_outcome}
use Rattle.rtl_net.specs.Nets.{flat}
use Rattle.rtl_net.specs.Core.{core}
use Rattle.rtl_levels.specs.States.{StateTakesOver}
use Rattle.rtl_levels.proofs.Advancing.{have_readers, still_state}
use Rattle.rtl_levels.proofs.Together.{taken_in_range}
use Rattle.rtl_levels.proofs.Wired.{ran_entries, runs_many}
use Rattle.rtl_levels.proofs.running.settle.Goals as goal

pub run-requires-clause-may : goal.run-requires-clause-may
run-requires-clause-may g c = c.requires.may

pub run-requires-clause-there : goal.run-requires-clause-there
run-requires-clause-there g c = c.requires.there

pub run-requires-clause-before : goal.run-requires-clause-before
run-requires-clause-before g c = rw (c.deref.ensures.value) c.requires.state.in_range

pub run-requires-clause-values : goal.run-requires-clause-values
run-requires-clause-values g c = rw (c.deref-2.ensures.value) c.requires.state.in_range

pub take_over-requires-clause-planned : goal.take_over-requires-clause-planned
take_over-requires-clause-planned g c = c.requires.planned

pub take_over-requires-clause-there : goal.take_over-requires-clause-there
take_over-requires-clause-there g c = c.requires.there

pub take_over-requires-clause-own : goal.take_over-requires-clause-own
take_over-requires-clause-own g c =
    let p = c.args.number in
    let in_new : p < length c.run.new.runs.items = rw (runs_many _ _ _ _ _ _ c.run.ensures.may) c.requires.there in
    subst (λ (o : Outcome). IsOf (process_at (flat c.args.net.now) p) o) (sym (c.index.ensures ∙ get_or_default c.run.new.runs.items p c.index.result.now no_outcome in_new))
    (c.run.ensures.may.room.own p in_new)

pub take_over-requires-clause-have_readers : goal.take_over-requires-clause-have_readers
take_over-requires-clause-have_readers g c = have_readers (core c.args.net.now) c.args.schedule.now c.requires.planned c.args.state.now c.requires.state

pub returns-clause-may : goal.returns-clause-may
returns-clause-may g c = c.run.ensures.may

pub returns-clause-written : goal.returns-clause-written
returns-clause-written g c =
    let net = core c.args.net.now in
    let p = c.args.number in
    let v = c.args.state.now.values.items in
    let there = c.requires.there in
    let in_runs : p < length c.args.runs.now.items = rw (runs_many _ _ _ _ _ _ c.requires.may) there in
    let in_new : p < length c.run.new.runs.items = rw (runs_many _ _ _ _ _ _ c.run.ensures.may) there in
    let entries : c.index.result.now.entries ≡ (process net p).effect v v =
    ap (λ (o : Outcome). o.entries) (c.index.ensures ∙ get_or_default c.run.new.runs.items p c.index.result.now no_outcome in_new)
    ∙ ran_entries ((process net p).effect c.deref.result.now c.deref-2.result.now) p c.args.runs.now.items c.run.new.runs.items c.run.ensures.ran in_runs
    ∙ ap (λ (u : List ℕ). (process net p).effect u c.deref-2.result.now) c.deref.ensures.value
    ∙ ap (λ (u : List ℕ). (process net p).effect v u) c.deref-2.ensures.value in
    subst (λ (es : List (Option ℕ)). StateTakesOver c.args.schedule.now.readers (process net p).drives es c.args.state.now c.take_over.new.state) entries c.take_over.ensures

pub returns-clause-state : goal.returns-clause-state
returns-clause-state g c =
    let p = c.args.number in
    let v = c.args.state.now.values.items in
    let V = c.requires.state.in_range in
    let W = returns-clause-written g c in
    still_state (core c.args.net.now) c.args.schedule.now _ c.args.state.now c.take_over.new.state c.requires.state W.advances
    (taken_in_range (core c.args.net.now) p ((process (core c.args.net.now) p).effect v v) v c.take_over.new.state.values.items W.taken V
    (λ place x h e. (keeps_range (flat c.args.net.now) c.requires.may.in_range).effect_in_range p place x v v V V h e))
