use Rattle.std.proofs.Common.{List, ℕ, ⊎_elim, ap, sym, subst, ◌∙◌, arith, rules}
use Rattle.std.proofs.Math.Nat.{eq-or-lt_of_le}
use Rattle.rtl_stim_lines.specs.Courses.{is_busy}
use Rattle.rtl_stim_lines.specs.Inputs.{input_at}
use Rattle.rtl_stim_lines.specs.Times.{nets_of}
use Rattle.rtl_stim.specs.Quiet.{HasNoneHere}
use Rattle.rtl_stim.proofs.Places.{kept_input}
use Rattle.rtl_stim.proofs.ByInputs.{none_until}
use Rattle.rtl_stim.proofs.stimulus.Stimulus.race_before.Goals as goal

pub index-requires : goal.index-requires
index-requires c = omega (arith, (kept_input c.args.self.now c.self.inside c.args.place (search rules) c.self.invariant c.requires.there).there, c.self.inside.schedule.courses.ok.0)

pub returns-then-has_race-clause-race : goal.returns-then-has_race-clause-race
returns-then-has_race-clause-race c =
    let input = kept_input c.args.self.now c.self.inside c.args.place (search rules) c.self.invariant c.requires.there in
    let seen = input.nets c.elements_at-elements.result.now c.elements_at-elements.ensures in
    λ before none. c.has_race.ensures.race c.if-has_race.true (subst (λ (ns : List ℕ). HasNoneHere c.args.self.now c.args.clocks.now ns c.in-Some.time) seen none)

pub returns-then-has_race-clause-none : goal.returns-then-has_race-clause-none
returns-then-has_race-clause-none c =
    let v = c.args.self.now in
    let input = kept_input v c.self.inside c.args.place (search rules) c.self.invariant c.requires.there in
    none_until v c.args.clocks.now input.stimulus c.args.place c.loop-time.now c.in-Some.time c.requires.there c.loop-time.invariant
    (λ b after before. ap (λ k. is_busy k b) (input.course c.index.result.now c.index.ensures) ∙ c.in-Some.ensures.idle b after before)

pub loop-time-preserved : goal.loop-time-preserved
loop-time-preserved c =
    let v = c.args.self.now in
    let clocks = c.args.clocks.now in
    let nets = nets_of (input_at v.inputs c.args.place) in
    let next = c.in-Some.time in
    let input = kept_input v c.self.inside c.args.place (search rules) c.self.invariant c.requires.there in
    let seen = input.nets c.elements_at-elements.result.now c.elements_at-elements.ensures in
    let here = subst (λ (ns : List ℕ). HasNoneHere v clocks ns next) (sym seen) (c.has_race.ensures.none c.if-has_race.false) in
    let until = none_until v clocks input.stimulus c.args.place c.loop-time.now next c.requires.there c.loop-time.invariant
    (λ b after before. ap (λ k. is_busy k b) (input.course c.index.result.now c.index.ensures) ∙ c.in-Some.ensures.idle b after before) in
    λ t some le. ⊎_elim (λ e. subst (HasNoneHere v clocks nets) (sym e) here) (λ less. until t some less) (eq-or-lt_of_le le)

pub returns-clause-none : goal.returns-clause-none
returns-clause-none c =
    let v = c.args.self.now in
    let input = kept_input v c.self.inside c.args.place (search rules) c.self.invariant c.requires.there in
    none_until v c.args.clocks.now input.stimulus c.args.place c.loop-time.now c.args.past c.requires.there c.loop-time.invariant
    (λ b after before. ap (λ k. is_busy k b) (input.course c.index.result.now c.index.ensures) ∙ c.in_default.ensures.idle b after (omega (arith, before, c.requires.some)))
