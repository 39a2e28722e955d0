use Rattle.std.proofs.Common.{◌≡◌, ◌+◌, ◌<◌, ℕ, true, false, List, Option, None, get_or, length, refl, set, below_more, sym, ap, subst, ◌∙◌, arith}
use Rattle.std.proofs.lemmas.Bool.{not-false}
use Rattle.std.proofs.lemmas.List.{get_or_default, get_or-set_other, get_or-set_same, length-set}
use Rattle.rtl_awaited_edges.specs.declared.awaited.ClockEdge.{ClockEdge}
use Rattle.rtl_awaited_edges.specs.declared.awaited.Look.{Look}
use Rattle.rtl_awaited_edges.specs.Awaiting.{IsAsleep}
use Rattle.rtl_awaited_edges.proofs.Edges.{clock_there, nothing_left}
use Rattle.rtl_awaited_edges.proofs.Leading.{as_leader}
use Rattle.rtl_drives.specs.Outcomes.{Outcome}
use Rattle.rtl_kernel.specs.drivers.Transactions.{no_outcome}
use Rattle.rtl_net.specs.Core.{core}
use Rattle.rtl_levels.specs.Kept.{entries_of}
use Rattle.rtl_levels.proofs.Awake.{fewer_marks, one_runs, one_sleeps, stays_unmarked}
use Rattle.rtl_levels.proofs.Wired.{processes_many, ran_entries, runs_many}
use Rattle.rtl_levels.proofs.clocked.run_each.Goals as goal
use Rattle.rtl_levels.proofs.clocked.run_each.Goals.{then-index+then-not-seen, then-index+else-not-seen, else-index}

pub loop-place-init : goal.loop-place-init
loop-place-init g c = record {
  may = c.requires.may;
  each_process = refl;
  each_ran = refl;
  off = λ k l. absurd (omega (arith, l));
  fewer = λ p h. h;
  running = λ first R. R;
  seen = λ e. let f : false ≡ true = e in cc;
}

-- what was seen, by the leader that it was seen of
seen_of : (edges : List (Option ClockEdge)) (before v : List ℕ) (leader : ℕ) (seen : Look) → seen.leader ≡ leader → (seen.asleep ≡ true → IsAsleep (get_or edges leader None) before v)
    → seen.asleep ≡ true → IsAsleep (get_or edges seen.leader None) before v
seen_of edges before v leader seen is asleep e = subst (λ (k : ℕ). IsAsleep (get_or edges k None) before v) (sym is) (asleep e)

pub loop-place-preserved : goal.loop-place-preserved
loop-place-preserved g c =
    let view = c.args.net.now in
    let net = core view in
    let before = c.args.before.now in
    let v = c.args.values.now in
    let edges = c.args.schedule.now.edges.items in
    let leaders = c.args.schedule.now.leaders.items in
    let processes = c.args.processes.now in
    let i = c.loop-place.place in
    let p = get_or processes i 0 in
    let first = c.args.marked.now.items in
    let marked = c.loop-place.marked.items in
    let ran = c.loop-place.ran.items in
    let runs = c.loop-place.runs.items in
    let entries = entries_of runs in
    let I = c.loop-place.invariant in
    let within : p < length first = c.requires.there i 0 c.loop-place-test.true in
    let in_marked : p < length marked = omega (arith, within, I.each_process) in
    let read = get_or_default marked p false c.index.result.now in_marked ∙ sym c.index.ensures in
    let in_edges : p < length edges = omega (arith, within, c.requires.each_process, c.requires.planned.edges.each_process) in
    let in_leaders : p < length leaders = omega (arith, in_edges, c.requires.planned.leaders.each_process) in
    let fewer : (q : ℕ) → get_or (set marked p false) q false ≡ true → get_or first q false ≡ true = λ q h. I.fewer q (fewer_marks marked p in_marked q h).1 in
    let off : (k : ℕ) → k < i + 1 → get_or (set marked p false) (get_or processes k 0) false ≡ false =
    below_more (λ (k : ℕ). get_or (set marked p false) (get_or processes k 0) false ≡ false) i
    (λ k l. stays_unmarked marked (set marked p false) (λ q h. (fewer_marks marked p in_marked q h).1) (get_or processes k 0) (I.off k l)) (get_or-set_same marked p false false in_marked) in
    elim c.if-index.branch [
      | then-index+then-not-seen w ↦ rw (w.marked-is, w.ran-is, w.runs-is, w.seen-is)
          (let R = w.run.ensures.ran in
          let there : p < length runs = omega (arith, within, c.requires.each_process, processes_many view, runs_many _ _ _ view c.args.bodies.now runs I.may) in
          let in_ran : p < length ran = omega (arith, within, c.requires.each_ran, I.each_ran) in
          let asleep = subst (λ (es : List (Option ClockEdge)). w.look_at-seen.result.asleep ≡ true → IsAsleep (get_or es w.index-leader.result.now None) before v)
          w.deref.ensures.value w.look_at-seen.ensures.asleep in
          let after = entries_of w.run.new.runs.items in
          record {
            may = w.run.ensures.may;
            each_process = length-set marked p false ∙ I.each_process;
            each_ran = length-set ran p true ∙ I.each_ran;
            off = off;
            fewer = fewer;
            running = λ at_first G. one_runs net before v at_first p marked ran entries (I.running at_first G) in_marked after (read ∙ w.if-index.true) in_ran (ran_entries _ _ _ _ R there)
                (λ q ne. ap (λ (os : List Outcome). (get_or os q no_outcome).entries) R.is ∙ ap (λ (o : Outcome). o.entries) (get_or-set_other runs p q R.outcome no_outcome ne));
            seen = seen_of edges before v w.index-leader.result.now w.look_at-seen.result w.look_at-seen.ensures.leader asleep;
          })
      | then-index+else-not-seen w ↦ rw (w.marked-is, w.ran-is, w.runs-is, w.seen-is)
          (let leader = w.index-leader.result.now in
          let asleep = subst (λ (es : List (Option ClockEdge)). w.look_at-seen.result.asleep ≡ true → IsAsleep (get_or es leader None) before v) w.deref.ensures.value w.look_at-seen.ensures.asleep in
          let is : leader ≡ get_or leaders p 0 = w.index-leader.ensures ∙ get_or_default leaders p leader 0 in_leaders in
          let sleeps = subst (λ (k : ℕ). IsAsleep (get_or edges k None) before v) is (asleep (not-false w.look_at-seen.result.asleep w.if-not-seen.false)) in
          record {
            may = I.may;
            each_process = length-set marked p false ∙ I.each_process;
            each_ran = I.each_ran;
            off = off;
            fewer = fewer;
            running = λ at_first G. one_sleeps net before v at_first p marked ran entries (I.running at_first G) in_marked
                (nothing_left view c.requires.planned.elaborated edges c.requires.planned.edges before v p (as_leader edges leaders c.requires.planned.leaders before v p in_edges sleeps));
            seen = seen_of edges before v leader w.look_at-seen.result w.look_at-seen.ensures.leader asleep;
          })
      | else-index w ↦ rw (w.marked-is, w.ran-is, w.runs-is, w.seen-is)
          (record {
            may = I.may;
            each_process = I.each_process;
            each_ran = I.each_ran;
            off = below_more (λ (k : ℕ). get_or marked (get_or processes k 0) false ≡ false) i I.off (read ∙ w.if-index.false);
            fewer = I.fewer;
            running = I.running;
            seen = I.seen;
          })
    ]

pub run-requires-clause-there : goal.run-requires-clause-there
run-requires-clause-there g c = omega (arith, c.requires.there c.loop-place.place 0 c.loop-place-test.true, c.requires.each_process, processes_many c.args.net.now)

pub look_at-seen-requires-clause-before : goal.look_at-seen-requires-clause-before
look_at-seen-requires-clause-before g c =
    rw (c.deref.ensures.value)
    (clock_there c.args.net.now c.requires.may.in_range c.args.schedule.now.edges.items c.requires.planned.edges c.args.before.now c.requires.before.each_net c.index-leader.result.now)

pub look_at-seen-requires-clause-values : goal.look_at-seen-requires-clause-values
look_at-seen-requires-clause-values g c =
    rw (c.deref.ensures.value)
    (clock_there c.args.net.now c.requires.may.in_range c.args.schedule.now.edges.items c.requires.planned.edges c.args.values.now c.requires.values.each_net c.index-leader.result.now)

pub returns-clause-off : goal.returns-clause-off
returns-clause-off g c = λ k d l.
    let marked = c.loop-place.marked.items in
    subst (λ (p : ℕ). get_or marked p false ≡ false) (get_or_default c.args.processes.now k 0 d l) (c.loop-place.invariant.off k (omega (arith, l, c.loop-place-test.false)))

pub returns-clause-fewer : goal.returns-clause-fewer
returns-clause-fewer g c = c.loop-place.invariant.fewer

pub returns-clause-running : goal.returns-clause-running
returns-clause-running g c = c.loop-place.invariant.running
