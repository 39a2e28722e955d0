use Rattle.std.proofs.Common.{map, ⊎_elim, ap, sym, subst, ◌∙◌, arith, rules}
use Rattle.std.proofs.Math.Nat.{eq-or-lt_of_le}
use Rattle.rtl_stim_lines.specs.declared.inputs.Element.{Element as KeptElement}
use Rattle.rtl_stim_lines.specs.Courses.{is_busy}
use Rattle.rtl_stim.specs.Quiet.{Changes}
use Rattle.rtl_stim.proofs.Places.{kept_input}
use Rattle.rtl_stim.proofs.Quieting.{added_none, added_one}
use Rattle.rtl_stim.proofs.stimulus.Stimulus.add_changes.Goals as goal

pub index-requires : goal.index-requires
index-requires c = omega (arith, (kept_input c.args.self.now c.self.inside c.args.place (search rules) c.self.invariant c.requires.there).there, c.self.inside.schedule.courses.ok.0)

pub loop-time-preserved-in_ok-insert : goal.loop-time-preserved-in_ok-insert
loop-time-preserved-in_ok-insert c =
    let v = c.args.self.now in
    let input = kept_input v c.self.inside c.args.place (search rules) c.self.invariant c.requires.there in
    let seen = input.nets c.elements_at-elements.result.now c.elements_at-elements.ensures in
    let changes = subst (λ ns. Changes v c.args.clocks.now ns c.in-Some.time) (sym seen) (c.some_change.ensures.changed c.if-some_change.true) in
    added_one v c.args.clocks.now input.stimulus c.args.place c.args.from c.loop-time.now c.in-Some.time c.requires.there c.args.times.now c.loop-time.times c.loop-time.invariant c.insert.new.self
    (λ b after before. ap (λ k. is_busy k b) (input.course c.index.result.now c.index.ensures) ∙ c.in-Some.ensures.idle b after before) changes c.in_ok-insert.ensures.updates

pub loop-time-preserved : goal.loop-time-preserved
loop-time-preserved c =
    let v = c.args.self.now in
    let clocks = c.args.clocks.now in
    let next = c.in-Some.time in
    let input = kept_input v c.self.inside c.args.place (search rules) c.self.invariant c.requires.there in
    let nets = map (λ (e : KeptElement). e.net) c.elements_at-elements.result.now in
    let seen = input.nets c.elements_at-elements.result.now c.elements_at-elements.ensures in
    let unchanged = c.some_change.ensures.unchanged c.if-some_change.false in
    added_none v clocks input.stimulus c.args.place c.args.from c.loop-time.now next c.requires.there c.args.times.now c.loop-time.times c.loop-time.invariant
    (λ b after le changes. ⊎_elim (λ e. absurd (unchanged (subst (Changes v clocks nets) e (subst (λ ns. Changes v clocks ns b) seen changes))))
    (λ before. ap (λ k. is_busy k b) (input.course c.index.result.now c.index.ensures) ∙ c.in-Some.ensures.idle b after before) (eq-or-lt_of_le le))

pub returns : goal.returns
returns c =
    let input = kept_input c.args.self.now c.self.inside c.args.place (search rules) c.self.invariant c.requires.there in
    added_none c.args.self.now c.args.clocks.now input.stimulus c.args.place c.args.from c.loop-time.now c.args.last c.requires.there c.args.times.now c.loop-time.times c.loop-time.invariant
    (λ b after le changes. ap (λ k. is_busy k b) (input.course c.index.result.now c.index.ensures) ∙ c.in_default.ensures.idle b after (omega (arith, le)))
