use Rattle.std.proofs.Common.{◌≡◌, ◌<◌, ℕ, false, List, Option, length, get_or, set, below_more, ap, sym, subst, ◌∙◌, arith}
use Rattle.std.specs.Prelude.{⊤}
use Rattle.std.proofs.lemmas.List.{get_or_default, get_or-set_same}
use Rattle.rtl_model.specs.nets.FlatNetlist.{process_at}
use Rattle.rtl_model.specs.simulation.Netlist.{process}
use Rattle.rtl_model.proofs.simulation.Levels.{numbered}
use Rattle.rtl_eval.specs.Runs.{IsOf}
use Rattle.rtl_drives.specs.Outcomes.{Outcome}
use Rattle.rtl_kernel.specs.drivers.Transactions.{no_outcome}
use Rattle.rtl_net.specs.Core.{core}
use Rattle.rtl_net.specs.Nets.{flat}
use Rattle.rtl_levels.specs.Kept.{entries_of}
use Rattle.rtl_levels.specs.States.{StateTakesOver}
use Rattle.rtl_levels.proofs.Advancing.{advances_none, advances_then, advances_wider, have_readers, still_state}
use Rattle.rtl_levels.proofs.Awake.{stays_unmarked}
use Rattle.rtl_levels.proofs.Together.{none_takes_over, one_takes_over, others_take_over, taken_in_range}
use Rattle.rtl_levels.proofs.Wired.{processes_many}
use Rattle.rtl_levels.proofs.clocked.take_each.Goals as goal
use Rattle.rtl_levels.proofs.clocked.take_each.Goals.{then-index, else-index}

pub loop-process-init : goal.loop-process-init
loop-process-init c = record {
  taken = none_takes_over (core c.args.net.now) (entries_of c.args.runs.now) c.args.marked.now.items c.args.state.now.values.items;
  off = λ k l. absurd (omega (arith, l));
  state = c.requires.state;
  advances = advances_none c.args.schedule.now.readers (λ n. ⊤) c.args.state.now;
}

pub take_over-requires-clause-there : goal.take_over-requires-clause-there
take_over-requires-clause-there c =
    omega (arith, c.requires.there c.loop-process.process-index 0 c.loop-process-test.true, c.requires.runs.each_process, processes_many c.args.net.now)

pub take_over-requires-clause-own : goal.take_over-requires-clause-own
take_over-requires-clause-own c =
    let p = get_or c.args.processes.now c.loop-process.process-index 0 in
    let o = c.index-runs-process.result in
    let in_marked = c.requires.there c.loop-process.process-index 0 c.loop-process-test.true in
    let in_runs : p < length c.args.runs.now = omega (arith, in_marked, c.requires.runs.each_process, c.requires.runs.each_run, processes_many c.args.net.now) in
    subst (λ (x : Outcome). IsOf (process_at (flat c.args.net.now) p) x) (sym (c.index-runs-process.is ∙ get_or_default c.args.runs.now p o no_outcome in_runs)) (c.requires.runs.own p in_runs)

pub take_over-requires-clause-have_readers : goal.take_over-requires-clause-have_readers
take_over-requires-clause-have_readers c = have_readers (core c.args.net.now) c.args.schedule.now c.requires.planned c.loop-process.state c.loop-process.invariant.state

pub loop-process-preserved : goal.loop-process-preserved
loop-process-preserved c =
    let net = core c.args.net.now in
    let L = numbered net c.requires.planned.elaborated c.requires.planned.accepted in
    let schedule = c.args.schedule.now in
    let readers = schedule.readers in
    let runs = c.args.runs.now in
    let processes = c.args.processes.now in
    let i = c.loop-process.process-index in
    let p = get_or processes i 0 in
    let first = c.args.marked.now.items in
    let marked = c.loop-process.marked.items in
    let start = c.args.state.now in
    let old = c.loop-process.state in
    let v = start.values.items in
    let u = old.values.items in
    let I = c.loop-process.invariant in
    let entries = entries_of runs in
    let in_first : p < length first = c.requires.there i 0 c.loop-process-test.true in
    let in_marked : p < length marked = omega (arith, in_first, I.taken.as_many) in
    let in_runs : p < length runs = omega (arith, in_first, c.requires.runs.each_process, c.requires.runs.each_run, processes_many c.args.net.now) in
    let read = get_or_default marked p false c.index.result.now in_marked ∙ sym c.index.ensures in
    elim c.if-index.branch [
      | then-index w ↦ rw (w.marked-is, w.state-is)
          (let mark = read ∙ w.if-index.true in
          let o = w.index-runs-process.result in
          let new = w.take_over.new.state in
          let u' = new.values.items in
          let outcome : o.entries ≡ entries p = ap (λ (x : Outcome). x.entries) (w.index-runs-process.is ∙ get_or_default runs p o no_outcome in_runs) in
          let O = subst (λ (es : List (Option ℕ)). StateTakesOver readers (process net p).drives es old new) outcome w.take_over.ensures in
          let T = one_takes_over net entries p marked u u' in_marked mark O.taken in
          let F = advances_wider readers _ (λ n. ⊤) (λ n h. tt) old new O.advances in
          record {
            taken = others_take_over net entries L first marked (set marked p false) v u u' I.taken T;
            off = below_more (λ (k : ℕ). get_or (set marked p false) (get_or processes k 0) false ≡ false) i
                (λ k l. stays_unmarked marked (set marked p false) T.fewer (get_or processes k 0) (I.off k l)) (get_or-set_same marked p false false in_marked);
            state = still_state net schedule (λ n. ⊤) old new I.state F
                (taken_in_range net p (entries p) u u' O.taken I.state.in_range (λ place x h e. c.requires.runs.in_range p place x (I.taken.fewer p mark) h e));
            advances = advances_then readers (λ n. ⊤) start old new I.advances F;
          })
      | else-index w ↦ rw (w.marked-is, w.state-is)
          (record {
            taken = I.taken;
            off = below_more (λ (k : ℕ). get_or marked (get_or processes k 0) false ≡ false) i I.off (read ∙ w.if-index.false);
            state = I.state;
            advances = I.advances;
          })
    ]

pub returns-clause-off : goal.returns-clause-off
returns-clause-off c = λ k d l.
    let marked = c.loop-process.marked.items in
    subst (λ (p : ℕ). get_or marked p false ≡ false) (get_or_default c.args.processes.now k 0 d l) (c.loop-process.invariant.off k (omega (arith, l, c.loop-process-test.false)))

pub returns-clause-taken : goal.returns-clause-taken
returns-clause-taken c = c.loop-process.invariant.taken

pub returns-clause-state : goal.returns-clause-state
returns-clause-state c = c.loop-process.invariant.state

pub returns-clause-advances : goal.returns-clause-advances
returns-clause-advances c = c.loop-process.invariant.advances
