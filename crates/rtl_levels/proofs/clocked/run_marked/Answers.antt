use Rattle.std.proofs.Common.{◌≡◌, ℕ, false, List, refl, get_or, sym, subst, ◌∙◌, arith, ◌⊎◌, inl, inr, Contains}
use Rattle.std.proofs.lemmas.List.Elements.{All-contains}
use Rattle.vhdl_values.specs.declared.scalar.Nine.TheVariants.{U}
use Rattle.rtl_kernel.specs.wakes.Woken.{wakers_of}
use Rattle.rtl_net.specs.Core.{core}
use Rattle.rtl_levels.specs.Kept.{entries_of}
use Rattle.rtl_levels.specs.Marks.{IsReader}
use Rattle.rtl_levels.proofs.Awake.{all_have_run, none_runs, stays_unmarked}
use Rattle.rtl_levels.proofs.Stepping.{clocked_below}
use Rattle.rtl_levels.proofs.Visiting.{IsComeBy, listed_below, none_come_by, none_left, one_more_come_by}
use Rattle.rtl_levels.proofs.clocked.run_marked.Goals as goal

pub loop-changed-init : goal.loop-changed-init
loop-changed-init g c = record {
  may = c.requires.may;
  each_process = refl;
  each_ran = refl;
  off = λ p come. absurd (none_come_by (wakers_of c.args.schedule.now.clocked) c.args.changes.now p come);
  running = none_runs (core c.args.net.now) c.args.before.now c.args.values.now c.args.marked.now.items c.args.ran.now.items (entries_of c.args.runs.now.items) c.requires.none_ran;
}

pub readers_of-processes-requires : goal.readers_of-processes-requires
readers_of-processes-requires g c = c.requires.sensitive.there c.loop-changed.changed-index _ c.loop-changed-test.true

pub run_each-requires-clause-there : goal.run_each-requires-clause-there
run_each-requires-clause-there g c =
    listed_below (wakers_of c.args.schedule.now.clocked) _ _ (clocked_below _ _ c.requires.planned _ (c.loop-changed.invariant.each_process ∙ c.requires.each_process))
    c.readers_of-processes.result.now c.readers_of-processes.ensures

pub run_each-requires-clause-each_process : goal.run_each-requires-clause-each_process
run_each-requires-clause-each_process g c = c.loop-changed.invariant.each_process ∙ c.requires.each_process

pub run_each-requires-clause-each_ran : goal.run_each-requires-clause-each_ran
run_each-requires-clause-each_ran g c = c.loop-changed.invariant.each_ran ∙ c.requires.each_ran ∙ sym c.loop-changed.invariant.each_process

pub loop-changed-preserved : goal.loop-changed-preserved
loop-changed-preserved g c =
    let I = c.loop-changed.invariant in
    let E = c.run_each.ensures in
    record {
      may = E.may;
      each_process = E.each_process ∙ I.each_process;
      each_ran = E.each_ran ∙ I.each_ran;
      off = λ p come. off p (one_more_come_by index c.args.changes.now c.loop-changed.changed-index p come);
      running = E.running c.args.marked.now.items I.running;
    }
  where
    index : List (List ℕ)
    index = wakers_of c.args.schedule.now.clocked

    off : (p : ℕ) → IsComeBy index c.args.changes.now c.loop-changed.changed-index p ⊎ IsReader index (get_or c.args.changes.now c.loop-changed.changed-index (0, U)).0 p
        → get_or c.run_each.new.marked.items p false ≡ false
    off p (inl come) = stays_unmarked c.loop-changed.marked.items c.run_each.new.marked.items c.run_each.ensures.fewer p (c.loop-changed.invariant.off p come)
    off p (inr f) =
        All-contains (λ (q : ℕ). get_or c.run_each.new.marked.items q false ≡ false) c.readers_of-processes.result.now p c.run_each.ensures.off
        (subst (λ (xs : List ℕ). Contains xs p) (sym c.readers_of-processes.ensures) f)

pub returns-clause-none_marked : goal.returns-clause-none_marked
returns-clause-none_marked g c =
    none_left (wakers_of c.args.schedule.now.clocked) c.args.changes.now c.loop-changed.changed-index (omega (arith, c.loop-changed-test.false)) c.args.marked.now.items c.loop-changed.marked.items
    c.requires.sensitive.readers c.loop-changed.invariant.running.still c.loop-changed.invariant.off

pub returns-clause-ran : goal.returns-clause-ran
returns-clause-ran g c =
    all_have_run (core c.args.net.now) c.args.before.now c.args.values.now c.args.marked.now.items c.loop-changed.marked.items c.loop-changed.ran.items (entries_of c.loop-changed.runs.items)
    (returns-clause-none_marked g c) c.loop-changed.invariant.running

pub returns-clause-may : goal.returns-clause-may
returns-clause-may g c = c.loop-changed.invariant.may

pub returns-clause-each_process : goal.returns-clause-each_process
returns-clause-each_process g c = c.loop-changed.invariant.each_process

pub returns-clause-each_ran : goal.returns-clause-each_ran
returns-clause-each_ran g c = c.loop-changed.invariant.each_ran
