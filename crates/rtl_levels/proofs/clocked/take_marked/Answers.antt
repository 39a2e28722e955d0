use Rattle.std.proofs.Common.{◌≡◌, ℕ, false, List, get_or, sym, subst, ◌∙◌, arith, ◌⊎◌, inl, inr, Contains}
use Rattle.std.specs.Prelude.{⊤}
use Rattle.std.proofs.lemmas.List.Elements.{All-contains}
use Rattle.vhdl_values.specs.declared.scalar.Nine.TheVariants.{U}
use Rattle.rtl_model.proofs.simulation.Levels.{numbered}
use Rattle.rtl_kernel.specs.wakes.Woken.{wakers_of}
use Rattle.rtl_net.specs.Core.{core}
use Rattle.rtl_levels.specs.Kept.{entries_of}
use Rattle.rtl_levels.specs.Marks.{IsReader}
use Rattle.rtl_levels.proofs.Advancing.{advances_none, advances_then}
use Rattle.rtl_levels.proofs.Awake.{stays_unmarked}
use Rattle.rtl_levels.proofs.Stepping.{clocked_below}
use Rattle.rtl_levels.proofs.Together.{all_take_over, none_takes_over, others_take_over}
use Rattle.rtl_levels.proofs.Visiting.{IsComeBy, listed_below, none_come_by, none_left, one_more_come_by}
use Rattle.rtl_levels.proofs.clocked.take_marked.Goals as goal

pub loop-changed-init : goal.loop-changed-init
loop-changed-init c = record {
  taken = none_takes_over (core c.args.net.now) (entries_of c.args.runs.now) c.args.marked.now.items c.args.state.now.values.items;
  off = λ p come. absurd (none_come_by (wakers_of c.args.schedule.now.clocked) c.args.changes.now p come);
  state = c.requires.state;
  advances = advances_none c.args.schedule.now.readers (λ n. ⊤) c.args.state.now;
}

pub readers_of-processes-requires : goal.readers_of-processes-requires
readers_of-processes-requires c = c.requires.sensitive.there c.loop-changed.changed-index (0, U) c.loop-changed-test.true

pub take_each-requires-clause-runs : goal.take_each-requires-clause-runs
take_each-requires-clause-runs c =
    let R = c.requires.runs in
    let T = c.loop-changed.invariant.taken in
    record { each_process = T.as_many ∙ R.each_process; each_run = R.each_run; own = R.own; in_range = λ p place x m. R.in_range p place x (T.fewer p m) }

pub take_each-requires-clause-there : goal.take_each-requires-clause-there
take_each-requires-clause-there c =
    listed_below (wakers_of c.args.schedule.now.clocked) _ _ (clocked_below _ _ c.requires.planned _ (c.loop-changed.invariant.taken.as_many ∙ c.requires.runs.each_process))
    c.readers_of-processes.result.now c.readers_of-processes.ensures

pub loop-changed-preserved : goal.loop-changed-preserved
loop-changed-preserved c =
    let net = core c.args.net.now in
    let I = c.loop-changed.invariant in
    let E = c.take_each.ensures in
    record {
      taken = others_take_over net (entries_of c.args.runs.now) (numbered net c.requires.planned.elaborated c.requires.planned.accepted)
          c.args.marked.now.items c.loop-changed.marked.items c.take_each.new.marked.items c.args.state.now.values.items c.loop-changed.state.values.items c.take_each.new.state.values.items I.taken E.taken;
      off = λ p come. off p (one_more_come_by index c.args.changes.now c.loop-changed.changed-index p come);
      state = E.state;
      advances = advances_then c.args.schedule.now.readers (λ n. ⊤) c.args.state.now c.loop-changed.state c.take_each.new.state I.advances E.advances;
    }
  where
    index : List (List ℕ)
    index = wakers_of c.args.schedule.now.clocked

    off : (p : ℕ) → IsComeBy index c.args.changes.now c.loop-changed.changed-index p ⊎ IsReader index (get_or c.args.changes.now c.loop-changed.changed-index (0, U)).0 p
        → get_or c.take_each.new.marked.items p false ≡ false
    off p (inl come) =
        stays_unmarked c.loop-changed.marked.items c.take_each.new.marked.items c.take_each.ensures.taken.fewer p (c.loop-changed.invariant.off p come)
    off p (inr f) =
        All-contains (λ (q : ℕ). get_or c.take_each.new.marked.items q false ≡ false) c.readers_of-processes.result.now p c.take_each.ensures.off
        (subst (λ (xs : List ℕ). Contains xs p) (sym c.readers_of-processes.ensures) f)

pub returns-clause-none_marked : goal.returns-clause-none_marked
returns-clause-none_marked c =
    none_left (wakers_of c.args.schedule.now.clocked) c.args.changes.now c.loop-changed.changed-index (omega (arith, c.loop-changed-test.false)) c.args.marked.now.items c.loop-changed.marked.items
    c.requires.sensitive.readers c.loop-changed.invariant.taken.fewer c.loop-changed.invariant.off

pub returns-clause-taken : goal.returns-clause-taken
returns-clause-taken c =
    all_take_over (core c.args.net.now) (entries_of c.args.runs.now) c.args.marked.now.items c.loop-changed.marked.items c.args.state.now.values.items c.loop-changed.state.values.items
    (returns-clause-none_marked c) c.loop-changed.invariant.taken

pub returns-clause-each_process : goal.returns-clause-each_process
returns-clause-each_process c = c.loop-changed.invariant.taken.as_many

pub returns-clause-state : goal.returns-clause-state
returns-clause-state c = c.loop-changed.invariant.state

pub returns-clause-advances : goal.returns-clause-advances
returns-clause-advances c = c.loop-changed.invariant.advances
