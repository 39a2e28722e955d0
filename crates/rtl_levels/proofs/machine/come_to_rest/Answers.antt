use Rattle.std.proofs.Common.{◌≡◌, ℕ, true, false, List, Option, None, get_or, ap, sym, ◌∙◌}
use Rattle.std.specs.Prelude.{⊤}
use Rattle.rtl_model.specs.simulation.Netlist.{process}
use Rattle.rtl_model.proofs.nets.InRange.{keeps_range}
use Rattle.rtl_model.proofs.simulation.Levels.{numbered}
use Rattle.rtl_net.specs.Nets.{flat}
use Rattle.rtl_net.specs.Core.{core}
use Rattle.rtl_levels.specs.Kept.{entries_of}
use Rattle.rtl_levels.proofs.Awake.{with_asleep}
use Rattle.rtl_levels.proofs.Resting.{stays_to_come}
use Rattle.rtl_levels.proofs.Stepping.{woken_clocked}
use Rattle.rtl_net_groups.proofs.Touching.{touches_then}
use Rattle.rtl_levels.proofs.Wired.{runs_many}
use Rattle.rtl_levels.proofs.machine.come_to_rest.Goals as goal

pub run_marked-requires-clause-may : goal.run_marked-requires-clause-may
run_marked-requires-clause-may g c = c.requires.may

pub run_marked-requires-clause-planned : goal.run_marked-requires-clause-planned
run_marked-requires-clause-planned g c = c.requires.planned

pub run_marked-requires-clause-sensitive : goal.run_marked-requires-clause-sensitive
run_marked-requires-clause-sensitive g c = c.requires.sensitive

pub run_marked-requires-clause-before : goal.run_marked-requires-clause-before
run_marked-requires-clause-before g c = c.requires.before

pub run_marked-requires-clause-values : goal.run_marked-requires-clause-values
run_marked-requires-clause-values g c = rw (c.deref.ensures.value) c.requires.state.in_range

pub run_marked-requires-clause-each_process : goal.run_marked-requires-clause-each_process
run_marked-requires-clause-each_process g c = c.requires.each_process

pub run_marked-requires-clause-each_ran : goal.run_marked-requires-clause-each_ran
run_marked-requires-clause-each_ran g c = c.requires.each_ran

pub run_marked-requires-clause-none_ran : goal.run_marked-requires-clause-none_ran
run_marked-requires-clause-none_ran g c = c.requires.none_ran

pub take_marked-requires-clause-planned : goal.take_marked-requires-clause-planned
take_marked-requires-clause-planned g c = c.requires.planned

pub take_marked-requires-clause-runs : goal.take_marked-requires-clause-runs
take_marked-requires-clause-runs g c =
    let net = core c.args.net.now in
    let before = c.args.before.now in
    let v = c.args.state.now.values.items in
    let R = c.run_marked.ensures.ran in
    let may = c.run_marked.ensures.may in
    let ran : (p : ℕ) → get_or c.run_marked.new.ran.items p false ≡ true → entries_of c.deref-2.result.now p ≡ (process net p).effect before v =
    λ p m. ap (λ os. entries_of os p) c.deref-2.ensures.value ∙ R.left p m ∙ ap (λ (u : List ℕ). (process net p).effect before u) c.deref.ensures.value in
    record {
      each_process = c.run_marked.ensures.each_ran ∙ c.requires.each_ran ∙ c.requires.each_process;
      each_run = rw (c.deref-2.ensures.value) (runs_many _ _ _ _ _ _ may);
      own = rw (c.deref-2.ensures.value) may.room.own;
      in_range = λ p place x m h e. (keeps_range (flat c.args.net.now) c.requires.may.in_range).effect_in_range p place x before v c.requires.before c.requires.state.in_range h
          (ap (λ (es : List (Option ℕ)). get_or es place None) (sym (ran p m)) ∙ e);
    }

pub take_marked-requires-clause-sensitive : goal.take_marked-requires-clause-sensitive
take_marked-requires-clause-sensitive g c = record { there = c.requires.sensitive.there; readers = λ p m. c.requires.sensitive.readers p (c.run_marked.ensures.ran.fewer p m) }

pub take_marked-requires-clause-state : goal.take_marked-requires-clause-state
take_marked-requires-clause-state g c = c.requires.state

pub sweep-requires-clause-may : goal.sweep-requires-clause-may
sweep-requires-clause-may g c = c.run_marked.ensures.may

pub sweep-requires-clause-planned : goal.sweep-requires-clause-planned
sweep-requires-clause-planned g c = c.requires.planned

pub sweep-requires-clause-state : goal.sweep-requires-clause-state
sweep-requires-clause-state g c = c.take_marked.ensures.state

pub sweep-requires-clause-settled : goal.sweep-requires-clause-settled
sweep-requires-clause-settled g c P p place d has =
    let net = core c.args.net.now in
    let before = c.args.before.now in
    let v = c.args.state.now.values.items in
    let R = c.run_marked.ensures.ran in
    let E = c.take_marked.ensures in
    stays_to_come net c.args.schedule.now P c.run_marked.new.ran.items
    (λ p m. woken_clocked _ _ c.requires.planned _ _ c.requires.sensitive p (R.fewer p m))
    (entries_of c.deref-2.result.now) before v c.take_marked.new.state.values.items
    (λ p m. ap (λ os. entries_of os p) c.deref-2.ensures.value ∙ R.left p m ∙ ap (λ (u : List ℕ). (process net p).effect before u) c.deref.ensures.value) E.taken
    (λ n. ⊤) c.args.state.now.dirty.items c.take_marked.new.state.dirty.items E.advances.marks p place d has (c.requires.settled P p place d has)

pub returns-clause-rest : goal.returns-clause-rest
returns-clause-rest g c =
    let net = core c.args.net.now in
    let v = c.args.state.now.values.items in
    let w = c.take_marked.new.state.values.items in
    let P = c.requires.planned in
    let R = rw (c.deref.ensures.value, ← c.deref-2.ensures.value) at c.run_marked.ensures.ran in
    record {
      between = w;
      taken = with_asleep net (numbered net P.elaborated P.accepted) c.args.before.now v w c.args.woken.now.items c.run_marked.new.ran.items (entries_of c.deref-2.result.now) R c.take_marked.ensures.taken;
      swept = c.sweep.ensures.swept;
    }

pub returns-clause-may : goal.returns-clause-may
returns-clause-may g c = c.sweep.ensures.may

pub returns-clause-state : goal.returns-clause-state
returns-clause-state g c = c.sweep.ensures.state

pub returns-clause-touched : goal.returns-clause-touched
returns-clause-touched g c = touches_then _ _ _ _ _ _ c.take_marked.ensures.advances.touched c.sweep.ensures.touched

pub returns-clause-each_process : goal.returns-clause-each_process
returns-clause-each_process g c = c.run_marked.ensures.each_process

pub returns-clause-each_ran : goal.returns-clause-each_ran
returns-clause-each_ran g c = c.take_marked.ensures.each_process ∙ c.run_marked.ensures.each_ran

pub returns-clause-none_woken : goal.returns-clause-none_woken
returns-clause-none_woken g c = c.run_marked.ensures.none_marked

pub returns-clause-none_ran : goal.returns-clause-none_ran
returns-clause-none_ran g c = c.take_marked.ensures.none_marked

pub returns-clause-none_dirty : goal.returns-clause-none_dirty
returns-clause-none_dirty g c = c.sweep.ensures.none_dirty
