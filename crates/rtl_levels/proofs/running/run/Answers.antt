use Rattle.std.proofs.Common.{◌≡◌, ◌<◌, length, ap, sym, ◌∙◌, get_or, refl}
use Rattle.std.proofs.lemmas.List.FromFn.{length-map-range_with_len}
use Rattle.rtl_model.specs.nets.FlatNetlist.{FlatProcess, process_at}
use Rattle.rtl_model.specs.simulation.Netlist.{process}
use Rattle.rtl_drives.specs.Outcomes.{Outcome}
use Rattle.rtl_kernel.specs.drivers.Transactions.{no_outcome}
use Rattle.rtl_kernel.proofs.Running.{room_ran}
use Rattle.rtl_net.specs.Core.{core}
use Rattle.rtl_net.specs.Nets.{flat}
use Rattle.rtl_levels.proofs.Wired.{bodies_many, runs_many, each_given, typed, effect_is, effect_left, own, process_is, room, was_run}
use Rattle.rtl_levels.proofs.running.run.Goals as goal

pub bounds-bodies-number : goal.bounds-bodies-number
bounds-bodies-number g c = rw (bodies_many _ _ _ _ _ _ c.requires.may) c.requires.there

pub run-requires-clause-now_all : goal.run-requires-clause-now_all
run-requires-clause-now_all g c = each_given _ _ _ _ _ _ c.requires.may c.args.number c.requires.there c.index-bodies-number.result c.index-bodies-number.is c.args.values.now c.requires.values

pub run-requires-clause-before_all : goal.run-requires-clause-before_all
run-requires-clause-before_all g c = each_given _ _ _ _ _ _ c.requires.may c.args.number c.requires.there c.index-bodies-number.result c.index-bodies-number.is c.args.before.now c.requires.before

pub run-requires-clause-now : goal.run-requires-clause-now
run-requires-clause-now g c = typed _ _ _ _ _ _ c.requires.may c.args.number c.requires.there c.index-bodies-number.result c.index-bodies-number.is c.args.values.now c.requires.values

pub run-requires-clause-before : goal.run-requires-clause-before
run-requires-clause-before g c = typed _ _ _ _ _ _ c.requires.may c.args.number c.requires.there c.index-bodies-number.result c.index-bodies-number.is c.args.before.now c.requires.before

pub run-requires-clause-own : goal.run-requires-clause-own
run-requires-clause-own g c = own _ _ _ _ _ _ c.requires.may c.args.number c.requires.there c.index-bodies-number.result c.index-bodies-number.is c.index_mut.result.now c.index_mut.ensures.value

pub run-requires-clause-room : goal.run-requires-clause-room
run-requires-clause-room g c = room _ _ _ _ _ _ c.requires.may c.args.number c.requires.there c.index-bodies-number.result c.index-bodies-number.is c.index_mut.result.now c.index_mut.ensures.value

pub returns-clause-ran : goal.returns-clause-ran
returns-clause-ran g c =
    let was : c.index_mut.result.now ≡ get_or c.args.runs.now.items c.args.number no_outcome =
    was_run _ _ _ _ _ _ c.requires.may c.args.number c.requires.there c.index-bodies-number.result c.index-bodies-number.is c.index_mut.result.now c.index_mut.ensures.value in
    record {
      outcome = c.run.new.out;
      leaves = record {
        entries_are = effect_left _ _ _ _ _ _ c.requires.may c.args.number c.requires.there c.index-bodies-number.result c.index-bodies-number.is c.args.before.now c.args.values.now _ c.run.ensures.entries_are;
        starts_stay = c.run.ensures.starts_stay ∙ ap (λ (o : Outcome). o.starts) was;
        room_stays = c.run.ensures.room_stays ∙ ap (λ (o : Outcome). o.room) was;
      };
      is = refl;
    }

pub returns-clause-may : goal.returns-clause-may
returns-clause-may g c =
    let M = c.requires.may in
    let net = flat c.args.net.now in
    let p = c.args.number in
    let runs = c.args.runs.now.items in
    let e = c.index-bodies-number.result in
    let before = c.args.before.now in
    let v = c.args.values.now in
    let in_runs : p < length runs = rw (runs_many _ _ _ _ _ _ M) c.requires.there in
    let long : length ((process (core c.args.net.now) p).effect before v) ≡ length (process_at net p).drivers =
    sym (ap length (effect_is _ _ _ _ _ _ M p c.requires.there e c.index-bodies-number.is before v)) ∙ length-map-range_with_len _ 0 (length (g.E.Exec.process e).drivers)
    ∙ ap (λ (x : FlatProcess). length x.drivers) (process_is _ _ _ _ _ _ M p c.requires.there e c.index-bodies-number.is) in
    record {
      in_range = M.in_range;
      connected = M.connected;
      run_bodies = M.run_bodies;
      room = room_ran g.E.Exec.most net c.args.bodies.now p _ runs _ long in_runs (returns-clause-ran g c) M.room;
    }
