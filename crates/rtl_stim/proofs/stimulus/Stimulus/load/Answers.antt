use Rattle.std.proofs.Common.{◌≡◌, ◌<◌, ◌≤◌, [], ◌+◌, length, ⊎_elim, subst, arith}
use Rattle.std.specs.Prelude.{Contains}
use Rattle.std.specs.List.{range_with_len}
use Rattle.std.proofs.lemmas.Result.{err_from_is_err_and}
use Rattle.rtl_agenda.specs.Agenda.{changes_at}
use Rattle.rtl_stim_lines.specs.Inputs.{input_at}
use Rattle.rtl_stim_lines.specs.Times.{nets_of}
use Rattle.rtl_stim.specs.Stimuli.{StimulusView}
use Rattle.rtl_stim.specs.Moments.{IsStimulus}
use Rattle.rtl_stim.specs.Pushes.{AddsTo, AddsSome, gathered, place_pushes}
use Rattle.rtl_stim.proofs.Adding.{keeps_on, adds_more, gathered_from}
use Rattle.rtl_stim.proofs.Places.{nets_apart, push_of_place, kept_stimulus, each_kept_course}
use Rattle.rtl_stim.proofs.Awaiting.{place_more, range_below, loaded, loaded_partly}
use Rattle.rtl_stim.proofs.Partly.{some_more, one_each_at}
use Rattle.rtl_stim.proofs.stimulus.Stimulus.load.Given.{Over}
use Rattle.rtl_stim.proofs.stimulus.Stimulus.load.Goals as goal
use Rattle.rtl_stim.proofs.stimulus.Stimulus.load.Goals.{After-len-place-end}

module _ (g : Over) (c : After-len-place-end g) where
  stimulus : IsStimulus c.args.self.now
  stimulus = kept_stimulus c.self.inside c.args.self.now c.self.view_is c.self.invariant

  many : c.len-place-end.result ≡ length c.args.self.now.inputs
  many = omega (arith, each_kept_course c.self.inside c.args.self.now c.self.view_is c.self.invariant, c.self.inside.schedule.courses.ok.0, c.len-place-end.ensures)

pub push_due-requires-clause-free : goal.push_due-requires-clause-free
push_due-requires-clause-free g c = λ t x there has.
    let at = (goal.at.push_due-requires-clause-free g c).After-len-place-end in
    let v = c.args.self.now in
    let i = c.loop-place.place in
    let within : i < length v.inputs = omega (arith, many g at, c.loop-place-test.true) in
    ⊎_elim (λ before. let none = subst (λ w. Contains (changes_at w t) x) c.requires.waiting before in omega (arith, none.1))
    (λ pushed.
    let from = gathered_from (place_pushes v.inputs v.schedule 0) (range_with_len 0 i) (t, x) pushed in
    nets_apart v.inputs from.0 i x.0 (stimulus g at).own_nets (range_below i from.0 from.1) within (push_of_place v.inputs v.schedule 0 from.0 t x from.2)
    (subst (λ (v : StimulusView). Contains (nets_of (input_at v.inputs i)) x.0) c.self.view_is has))
    ((c.loop-place.invariant.1 t x).0 there)

pub loop-place-preserved : goal.loop-place-preserved
loop-place-preserved g c =
    let v = c.args.self.now in
    let i = c.loop-place.place in
    let f = place_pushes v.inputs v.schedule 0 in
    let first = g.A.Agenda.state c.args.agenda.now in
    let old = g.A.Agenda.state c.loop-place.agenda in
    let new = g.A.Agenda.state c.push_due.new.agenda in
    let pushed = subst (λ (v : StimulusView). AddsTo old.waiting new.waiting (place_pushes v.inputs v.schedule 0 i)) c.self.view_is c.in_ok-push_due.ensures.pushed in (
      keeps_on first old new c.loop-place.invariant.0 c.push_due.ensures.kept,
      subst (AddsTo first.waiting new.waiting) (place_more f i) (adds_more first.waiting old.waiting new.waiting (gathered f (range_with_len 0 i)) (f i) c.loop-place.invariant.1 pushed),
    )

pub returns-clause-waits : goal.returns-clause-waits
returns-clause-waits g c =
    let at = (goal.at.returns-clause-waits g c).After-len-place-end in
    let v = c.args.self.now in
    let new = (g.A.Agenda.state c.loop-place.agenda).waiting in
    let all : c.loop-place.place ≡ length v.inputs = omega (arith, many g at, c.loop-place-test.false, c.loop-place.auto.place-end) in
    loaded v.inputs v.schedule (stimulus g at).own_nets (stimulus g at).each_course new
    (subst (λ n. AddsTo [] new (gathered (place_pushes v.inputs v.schedule 0) (range_with_len 0 n))) all
    (subst (λ w. AddsTo w new (gathered (place_pushes v.inputs v.schedule 0) (range_with_len 0 c.loop-place.place))) c.requires.waiting c.loop-place.invariant.1))

pub returns-in_err-push_due-clause-left : goal.returns-in_err-push_due-clause-left
returns-in_err-push_due-clause-left g c =
    let at = (goal.at.returns-in_err-push_due-clause-left g c).After-len-place-end in
    let v = c.args.self.now in
    let i = c.loop-place.place in
    let f = place_pushes v.inputs v.schedule 0 in
    let first = (g.A.Agenda.state c.args.agenda.now).waiting in
    let old = (g.A.Agenda.state c.loop-place.agenda).waiting in
    let new = g.A.Agenda.state c.push_due.new.agenda in
    let pushed = subst (λ (v : StimulusView). AddsSome old new.waiting (place_pushes v.inputs v.schedule 0 i)) c.self.view_is c.in_err-push_due.ensures.pushed in
    let some = some_more first old new.waiting (gathered f (range_with_len 0 i)) (f i) c.loop-place.invariant.1 pushed in
    let within : i + 1 ≤ length v.inputs = omega (arith, many g at, c.loop-place-test.true) in
    rw (err_from_is_err_and c.from_residual.result c.from_residual.ensures.1).1
    (loaded_partly v.inputs v.schedule (stimulus g at).own_nets (stimulus g at).each_course new.waiting (i + 1) within
    (subst (λ w. AddsSome w new.waiting (gathered f (range_with_len 0 (i + 1)))) c.requires.waiting (subst (AddsSome first new.waiting) (place_more f i) some))
    (one_each_at new (g.met.A.Agenda.orderly c.push_due.new.agenda)))
