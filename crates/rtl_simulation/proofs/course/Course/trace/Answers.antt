use Rattle.std.proofs.Common.{◌≡◌, ℕ, suc, ◌+◌, pred, List, [], length, refl, sym, ap, subst, ◌∙◌, arith}
use Rattle.std.specs.Prelude.{slice_index}
use Rattle.rtl_agenda.specs.Agenda.{Change}
use Rattle.rtl_stim_lines.specs.Filling.{Waits}
use Rattle.rtl_stim.specs.Moments.{GivesNext}
use Rattle.rtl_stim.specs.Stimuli.{moments}
use Rattle.rtl_stim.proofs.Next.{each_begins_at_zero}
use Rattle.byte_streams.specs.Written.{Goes}
use Rattle.rtl_vcd.specs.Trace.{end_text}
use Rattle.rtl_simulation.specs.declared.summary.RunFault.TheVariants.{Memory, Output}
use Rattle.rtl_simulation.specs.Answered.{LeavesBeginning}
use Rattle.rtl_simulation.specs.Engines.{Follows, Shows, course_of, names_of}
use Rattle.rtl_simulation.specs.Progress.{IsNextMoment}
use Rattle.rtl_simulation.specs.Simulated.{NeverSettles}
use Rattle.rtl_simulation.specs.Watched.{StandsFrom}
use Rattle.rtl_simulation.proofs.Results.{fails_with}
use Rattle.rtl_simulation.proofs.Failing.{told_stuck, stops_stuck}
use Rattle.rtl_simulation.proofs.Going.{nothing_leaves, header_leaves, never_begins, first_leaves, begins, come_leaves, at_last, never_more, end_leaves, is_whole}
use Rattle.rtl_simulation.proofs.Stands.{HasHeard, hears_nothing, hears_more, hears_on, until_next, until_end, stands_from, heard_all, heard_first, told_nothing}
use Rattle.rtl_simulation.proofs.Turns.{ComesNext, comes_next, none_behind}
use Rattle.rtl_simulation.proofs.course.Course.trace.Given.{Over}
use Rattle.rtl_simulation.proofs.course.Course.trace.Goals as goal
use Rattle.rtl_simulation.proofs.course.Course.trace.Goals.{After-values, After-first, After-changes, After-step, After-end}

-- ---- before the first moment

pub returns-in_err-load : goal.returns-in_err-load
returns-in_err-load g c =
    let r = course_of c.args.self.now in
    fails_with _ _ c.from_residual.result Memory c.from_residual.ensures.1
    ((nothing_leaves r (names_of c.args.self.now) (g.W.Sink.state c.args.out.now), c.requires.intact), told_nothing r.net r.stimulus _ (g.met.V.Watch.nothing c.args.watch.now))

pub returns-in_err-blocks : goal.returns-in_err-blocks
returns-in_err-blocks g c =
    let r = course_of c.args.self.now in
    fails_with _ _ c.from_residual-in_err-blocks.result Memory c.from_residual-in_err-blocks.ensures.1
    ((nothing_leaves r (names_of c.args.self.now) (g.W.Sink.state c.args.out.now), c.requires.intact), told_nothing r.net r.stimulus _ (g.met.V.Watch.nothing c.args.watch.now))

pub returns-in_err-header : goal.returns-in_err-header
returns-in_err-header g c =
    let r = course_of c.args.self.now in
    fails_with _ _ c.from_residual-in_err-header.result Output c.from_residual-in_err-header.ensures.1 (
      (header_leaves r (names_of c.args.self.now) (g.W.Sink.state c.args.out.now) (g.W.Sink.state c.header.new.out) c.requires.intact c.header.ensures.text, c.in_err-header.ensures.err),
      told_nothing r.net r.stimulus _ (g.met.V.Watch.nothing c.args.watch.now),
    )

-- ---- the first moment

pub start-requires : goal.start-requires
start-requires g c = (course_of c.args.self.now, c.requires.begun)

pub returns-in_err-start : goal.returns-in_err-start
returns-in_err-start g c =
    let r = course_of c.args.self.now in
    let out = g.W.Sink.state c.args.out.now in
    let mid = g.W.Sink.state c.header.new.out in
    let stuck = c.in_err-start.ensures.starts r c.requires.begun in
    let zero = each_begins_at_zero r.stimulus in
    let heard = hears_nothing (StandsFrom r.net r.stimulus) (λ stands. g.V.Watch.told c.args.watch.now stands c.args.watch.now) (g.met.V.Watch.nothing c.args.watch.now) in
    fails_with _ _ c.from_residual-in_err-start.result c.in_err-start.field-0.0 c.from_residual-in_err-start.ensures.1 (
      stops_stuck r 0 0 _ _ stuck (names_of c.args.self.now) out mid (never_begins r (names_of c.args.self.now) out mid c.header.ensures.text c.in_ok-header.ensures.ok stuck.never),
      told_stuck r 0 0 _ _ stuck _ _ _ heard zero.0 zero.1 (λ before now tells. tells c.args.watch.now heard.stands heard.told),
    )

shows : (g : Over) (c : After-values g) → Shows (course_of c.args.self.now) 0 c.values.result.now
shows g c = c.values.ensures.shows (course_of c.args.self.now) 0 (c.in_ok-start.ensures.starts (course_of c.args.self.now) c.requires.begun)

-- it isn't told of the first moment yet
none_told : (g : Over) (c : After-values g) → g.V.Watch.told c.args.watch.now [] c.start.new.watch
none_told g c = subst (λ w. g.V.Watch.told c.args.watch.now [] w) (sym c.in_ok-start.ensures.watch_stays) (g.met.V.Watch.nothing c.args.watch.now)

pub first-requires : goal.first-requires
first-requires g c = record { intact = c.in_ok-header.ensures.ok; valuation = (shows g (goal.at.first-requires g c).After-values).as_many }

left : (g : Over) (c : After-first g)
    → LeavesBeginning c.args.self.now.shown.net.now (names_of c.args.self.now) c.args.self.now.stimulus.now c.args.self.now.limit (g.W.Sink.state c.args.out.now) (g.W.Sink.state c.first.new.out)
left g c =
    let r = course_of c.args.self.now in
    let shows = c.values.ensures.shows r 0 (c.in_ok-start.ensures.starts r c.requires.begun) in
    first_leaves r (names_of c.args.self.now) (g.W.Sink.state c.args.out.now) (g.W.Sink.state c.header.new.out) c.header.ensures.text (g.W.Sink.state c.first.new.out) c.values.result.now shows.comes
    c.first.ensures.text c.requires.intact

pub returns-in_err-first : goal.returns-in_err-first
returns-in_err-first g c =
    let r = course_of c.args.self.now in
    fails_with _ _ c.from_residual-in_err-first.result Output c.from_residual-in_err-first.ensures.1 (
      (left g (goal.at.returns-in_err-first g c).After-first, c.in_err-first.ensures.err),
      told_nothing r.net r.stimulus _ (none_told g (goal.at.returns-in_err-first g c).After-values),
    )

pub returns-in_err-from_slice : goal.returns-in_err-from_slice
returns-in_err-from_slice g c =
    let r = course_of c.args.self.now in
    fails_with _ _ c.from_residual-in_err-from_slice.result Memory c.from_residual-in_err-from_slice.ensures.1 (
      (left g (goal.at.returns-in_err-from_slice g c).After-first, c.in_ok-first.ensures.ok),
      told_nothing r.net r.stimulus _ (none_told g (goal.at.returns-in_err-from_slice g c).After-values),
    )

pub loop-time-init : goal.loop-time-init
loop-time-init g c =
    let r = course_of c.args.self.now in
    let out = g.W.Sink.state c.args.out.now in
    let mid = g.W.Sink.state c.header.new.out in
    let new = g.W.Sink.state c.first.new.out in
    let at = (goal.at.loop-time-init g c).After-values in
    let shown = c.in_ok-from_slice.ensures.items ∙ c.values-2.ensures.value in
    let come = begins r (names_of c.args.self.now) out mid c.header.ensures.text new c.values.result.now (shows g at).comes c.first.ensures.text _ c.in_ok-first.ensures.ok refl (shown ∙ sym c.values.ensures.value) refl refl in
    let last = at_last r (names_of c.args.self.now) out new _ come 0 refl in
    record {
      m = 0;
      settled = c.in_ok-start.ensures.starts r c.requires.begun;
      shown = shown;
      as_many = ap length (shown ∙ sym c.values.ensures.value) ∙ (shows g at).as_many;
      come = come;
      last = record {
        is_last = refl;
        there = last.1;
        at = last.0;
        waits = c.in_ok-load.ensures.waits;
      };
      heard = hears_nothing (StandsFrom r.net r.stimulus) _ (none_told g at);
    }

-- ---- a turn

turn : (g : Over) (c : After-changes g) → ComesNext c.args.self.now.stimulus.now c.loop-time.invariant.m c.loop-time.progress.moments c.loop-time.progress.now
    c.in-Some.time (g.A.Agenda.state c.next.new.self)
turn g c =
    comes_next c.args.self.now.stimulus.now c.stop-stop.ensures.holds c.loop-time.invariant.m c.loop-time.progress.moments c.loop-time.progress.now
    (g.A.Agenda.state c.loop-time.agenda) (g.met.A.Agenda.orderly c.loop-time.agenda) c.loop-time.invariant.last c.in-Some.time (g.A.Agenda.state c.next.new.self) c.in-Some.ensures.least

follows : (g : Over) (c : After-changes g)
    → Follows (course_of c.args.self.now) c.loop-time.invariant.m c.in-Some.time c.changes.result.now (g.G.Engine.valuation c.loop-time.engine)
follows g c =
    let I = c.loop-time.invariant in
    record {
      gives = subst (λ (cs : List Change). GivesNext c.args.self.now.stimulus.now I.m c.in-Some.time cs) (sym c.changes.ensures) (turn g c).next;
      as_many = ap length (sym I.shown) ∙ I.as_many;
    }

next : (g : Over) (c : After-changes g) → IsNextMoment (course_of c.args.self.now) c.loop-time.progress c.in-Some.time
next g c =
    let turn = turn g c in
    let gives = turn.next in
    record {
      there = let more = gives.there in omega (arith, more, turn.is_last);
      is = subst (λ (k : ℕ). slice_index (moments c.args.self.now.stimulus.now) k ≡ c.in-Some.time) turn.is_last gives.is;
    }

-- what the watch was told before the engine goes on
heard : (g : Over) (c : After-changes g)
    → HasHeard (StandsFrom c.args.self.now.shown.net.now c.args.self.now.stimulus.now) (λ stands. g.V.Watch.told c.args.watch.now stands c.stood.new.self) (suc c.loop-time.invariant.m)
heard g c =
    let r = course_of c.args.self.now in
    let I = c.loop-time.invariant in
    let gives = (turn g c).next in
    hears_more (StandsFrom r.net r.stimulus) _ _ I.m _ I.heard
    (stands_from r I.m c.in-Some.time c.values-in-Some.result.now (c.values-in-Some.ensures.shows r I.m I.settled).comes (until_next r.stimulus I.m c.in-Some.time _ gives)) (c.stood.ensures c.args.watch.now)

heard_on : (g : Over) (c : After-step g)
    → HasHeard (StandsFrom c.args.self.now.shown.net.now c.args.self.now.stimulus.now) (λ stands. g.V.Watch.told c.args.watch.now stands c.stood.new.self) (suc c.loop-time.invariant.m)
    → c.step.new.watch ≡ c.stood.new.self
    → HasHeard (StandsFrom c.args.self.now.shown.net.now c.args.self.now.stimulus.now) (λ stands. g.V.Watch.told c.args.watch.now stands c.step.new.watch) (suc c.loop-time.invariant.m)
heard_on g c heard same = hears_on (StandsFrom c.args.self.now.shown.net.now c.args.self.now.stimulus.now) _ _ _ heard (λ stands told. subst (λ w. g.V.Watch.told c.args.watch.now stands w) (sym same) told)

pub step-requires : goal.step-requires
step-requires g c =
    let I = c.loop-time.invariant in
    (course_of c.args.self.now, I.m, I.settled, follows g (goal.at.step-requires g c).After-changes)

pub returns-in_err-step : goal.returns-in_err-step
returns-in_err-step g c =
    let r = course_of c.args.self.now in
    let I = c.loop-time.invariant in
    let at = (goal.at.returns-in_err-step g c).After-changes in
    let out = g.W.Sink.state c.args.out.now in
    let now = g.W.Sink.state c.loop-time.out in
    let stuck = c.in_err-step.ensures.steps r I.m I.settled (follows g at) in
    let turn = turn g at in
    let gives = turn.next in
    let heard = heard g at in
    let never = subst (λ (k : ℕ). NeverSettles r.net r.stimulus r.limit k) turn.is_last stuck.never in
    fails_with _ _ c.from_residual-in_err-step.result c.in_err-step.field-0.0 c.from_residual-in_err-step.ensures.1 (
      stops_stuck r (suc I.m) c.in-Some.time _ _ stuck (names_of c.args.self.now) out now (never_more r (names_of c.args.self.now) out now c.loop-time.progress I.come c.in-Some.time (next g at) never),
      told_stuck r (suc I.m) c.in-Some.time _ _ stuck _ _ _ heard gives.there gives.is (λ before now tells. tells c.args.watch.now heard.stands heard.told),
    )

pub refill-requires-clause-waited : goal.refill-requires-clause-waited
refill-requires-clause-waited g c =
    let turn = turn g (goal.at.refill-requires-clause-waited g c).After-changes in
    (c.loop-time.progress.now, turn.after, turn.waited)

pub returns-in_err-refill : goal.returns-in_err-refill
returns-in_err-refill g c =
    let r = course_of c.args.self.now in
    let I = c.loop-time.invariant in
    let at = goal.at.returns-in_err-refill g c in
    let there = I.last.there in
    fails_with _ _ c.from_residual-in_err-refill.result Memory c.from_residual-in_err-refill.ensures.1 (
      (come_leaves r (names_of c.args.self.now) (g.W.Sink.state c.args.out.now) (g.W.Sink.state c.loop-time.out) c.loop-time.progress I.come c.requires.intact, I.come.intact),
      heard_first r.net r.stimulus _ (suc I.m) (heard_on g at.After-step (heard g at.After-changes) c.in_ok-step.ensures.watch_stays) (omega (arith, there)),
    )

pub go_on-requires : goal.go_on-requires
go_on-requires g c =
    let r = course_of c.args.self.now in
    let I = c.loop-time.invariant in
    let at = (goal.at.go_on-requires g c).After-changes in
    let turn = turn g at in
    let few = turn.few in
    record {
      blocks = c.in_ok-blocks.ensures;
      intact = I.come.intact;
      as_many = I.as_many;
      left = λ n left. ap (λ (vs : List ℕ). slice_index vs n) I.shown ∙ c.in_ok-step.ensures.left n left;
      settled = subst (λ (k : ℕ). g.G.Engine.is_at c.step.new.self r k) turn.is_last (c.in_ok-step.ensures.steps r I.m I.settled (follows g at));
      room = omega (arith, few, c.stop-stop.ensures.in_time);
    }

pub returns-in_err-go_on : goal.returns-in_err-go_on
returns-in_err-go_on g c =
    let r = course_of c.args.self.now in
    let I = c.loop-time.invariant in
    let at = goal.at.returns-in_err-go_on g c in
    let there = I.last.there in
    fails_with _ _ c.from_residual-in_err-go_on.result Output c.from_residual-in_err-go_on.ensures.1 (
      c.in_err-go_on.ensures.goes_on (g.W.Sink.state c.args.out.now) I.come (next g at.After-changes),
      heard_first r.net r.stimulus _ (suc I.m) (heard_on g at.After-step (heard g at.After-changes) c.in_ok-step.ensures.watch_stays) (omega (arith, there)),
    )

pub loop-time-smaller : goal.loop-time-smaller
loop-time-smaller g c =
    let at = (goal.at.loop-time-smaller g c).After-changes in
    let turn = turn g at in
    let has = c.in_ok-go_on.ensures.goes_on (g.W.Sink.state c.args.out.now) c.loop-time.invariant.come (next g at) in
    let after = turn.after in
    let within = turn.within in
    omega (arith, after, within, has.2)

pub loop-time-preserved : goal.loop-time-preserved
loop-time-preserved g c =
    let r = course_of c.args.self.now in
    let s = r.stimulus in
    let out = g.W.Sink.state c.args.out.now in
    let I = c.loop-time.invariant in
    let at = goal.at.loop-time-preserved g c in
    let has = c.in_ok-go_on.ensures.goes_on out I.come (next g at.After-changes) in
    let is_last = ap suc I.last.is_last ∙ sym has.1 in
    let last = at_last r (names_of c.args.self.now) out (g.W.Sink.state c.go_on.new.out) c.go_on.new.progress has.0 (suc I.m) is_last in
    record {
      m = suc I.m;
      settled = c.in_ok-step.ensures.steps r I.m I.settled (follows g at.After-changes);
      shown = c.in_ok-go_on.ensures.shown;
      as_many = c.go_on.ensures.as_many;
      come = has.0;
      last = record {
        is_last = is_last;
        there = last.1;
        at = last.0;
        waits = subst (λ (now : ℕ). Waits s.inputs s.schedule now (g.A.Agenda.state c.refill.new.agenda).waiting) (sym has.2) c.in_ok-refill.ensures.waits;
      };
      heard = heard_on g at.After-step (heard g at.After-changes) c.in_ok-step.ensures.watch_stays;
    }

-- ---- the end

all : (g : Over) (c : After-end g) → suc c.loop-time.invariant.m ≡ length (moments c.args.self.now.stimulus.now)
all g c =
    none_behind c.args.self.now.stimulus.now c.stop-stop.ensures.holds c.loop-time.invariant.m c.loop-time.progress.moments c.loop-time.progress.now
    (g.A.Agenda.state c.loop-time.agenda) (g.met.A.Agenda.orderly c.loop-time.agenda) c.loop-time.invariant.last c.in_default.ensures.empty

heard_end : (g : Over) (c : After-end g)
    → HasHeard (StandsFrom c.args.self.now.shown.net.now c.args.self.now.stimulus.now) (λ stands. g.V.Watch.told c.args.watch.now stands c.stood-2.new.self) (suc c.loop-time.invariant.m)
heard_end g c =
    let r = course_of c.args.self.now in
    let I = c.loop-time.invariant in
    hears_more (StandsFrom r.net r.stimulus) _ _ I.m _ I.heard
    (stands_from r I.m (c.stop-stop.result + 1) c.values-3.result.now (c.values-3.ensures.shows r I.m I.settled).comes (until_end r.stimulus I.m c.stop-stop.result c.stop-stop.ensures.stop (all g c)))
    (c.stood-2.ensures c.args.watch.now)

goes_end : (g : Over) (c : After-end g)
    → Goes (g.W.Sink.state c.loop-time.out) (g.W.Sink.state c.end.new.out) (end_text c.loop-time.progress.printed c.args.self.now.stimulus.now.schedule.stop)
goes_end g c =
    subst (λ (stop : ℕ). Goes (g.W.Sink.state c.loop-time.out) (g.W.Sink.state c.end.new.out) (end_text c.loop-time.progress.printed stop)) c.stop-stop.ensures.stop c.end.ensures.text

pub returns-in_err-end : goal.returns-in_err-end
returns-in_err-end g c =
    let r = course_of c.args.self.now in
    let I = c.loop-time.invariant in
    let at = (goal.at.returns-in_err-end g c).After-end in
    let each = all g at in
    fails_with _ _ c.from_residual-in_err-end.result Output c.from_residual-in_err-end.ensures.1 (
      (
        end_leaves r (names_of c.args.self.now) (g.W.Sink.state c.args.out.now) (g.W.Sink.state c.loop-time.out) c.loop-time.progress I.come (g.W.Sink.state c.end.new.out) (sym I.last.is_last ∙ each)
            (goes_end g at) c.requires.intact,
        c.in_err-end.ensures.err,
      ),
      heard_first r.net r.stimulus _ (suc I.m) (heard_end g at) (omega (arith, each)),
    )

pub returns : goal.returns
returns g c =
    let r = course_of c.args.self.now in
    let I = c.loop-time.invariant in
    let at = (goal.at.returns g c).After-end in
    let each = all g at in (
      subst (λ (k : ℕ). g.G.Engine.is_at c.loop-time.engine r (pred k)) I.last.is_last I.settled,
      (
        is_whole r (names_of c.args.self.now) (g.W.Sink.state c.args.out.now) (g.W.Sink.state c.loop-time.out) c.loop-time.progress I.come (g.W.Sink.state c.end.new.out) (sym I.last.is_last ∙ each)
            (goes_end g at) c.in_ok-end.ensures.ok,
        heard_all r.net r.stimulus _ (suc I.m) (heard_end g at) each,
      ),
    )
