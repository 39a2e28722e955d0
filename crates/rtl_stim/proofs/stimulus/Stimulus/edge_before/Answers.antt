use Rattle.std.proofs.Common.{◌≡◌, ◌<◌, ℕ, length, ⊎_elim, subst, arith, rules}
use Rattle.std.specs.Prelude.{Contains, IsTrue}
use Rattle.std.proofs.Math.Nat.{eq-or-lt_of_le}
use Rattle.rtl_stim_lines.specs.Courses.{is_busy}
use Rattle.rtl_stim_lines.specs.Inputs.{input_at}
use Rattle.rtl_stim_lines.specs.Times.{nets_of}
use Rattle.rtl_stim_lines.specs.View.{course_view}
use Rattle.rtl_stim.specs.Quiet.{HasEdgeAt, IsAmong}
use Rattle.rtl_stim.proofs.Meeting.{edgeless, no_meeting}
use Rattle.rtl_stim.proofs.Places.{kept_input}
use Rattle.rtl_stim.proofs.stimulus.Stimulus.edge_before.Goals as goal
use Rattle.rtl_stim.proofs.stimulus.Stimulus.edge_before.Goals.{After-index}

pub returns-in_default-clause-none : goal.returns-in_default-clause-none
returns-in_default-clause-none c =
    λ t some less active among.
    edgeless c.args.self.now c.args.net c.args.kind t (λ q within there. let e = c.place_of.ensures.only q within there in let none = c.in_default.is in cc) active

pub index-requires : goal.index-requires
index-requires c =
    let input = kept_input c.args.self.now c.self.inside c.in-Some.place (search rules) c.self.invariant c.in-Some.ensures.within in
    omega (arith, input.there, c.self.inside.schedule.courses.ok.0)

-- there is no edge before the next time at which the only input that may have the net is busy at one of the times
none_before : (c : After-index) (t next : ℕ) → (c.loop-time.now < t → t < next → IsTrue (is_busy (course_view c.index.result.now) t) → IsAmong c.args.times.now t → ⊥)
    → 0 < t → t < next → HasEdgeAt c.args.self.now c.args.net c.args.kind t → IsAmong c.args.times.now t → ⊥
none_before c t next =
    let v = c.args.self.now in
    let place = c.in-Some.place in
    let input = kept_input v c.self.inside place (search rules) c.self.invariant c.in-Some.ensures.within in
    let only : (q : ℕ) → q < length v.inputs → Contains (nets_of (input_at v.inputs q)) c.args.net → place ≡ q = λ q less has. let e = c.place_of.ensures.only q less has in let is_place = c.in-Some.is in cc in
    no_meeting v c.args.net c.args.kind t input.stimulus place c.in-Some.ensures.within only (course_view c.index.result.now) (input.course c.index.result.now c.index.ensures) c.args.times.now c.loop-time.now next (c.loop-time.invariant t)

pub loop-time-preserved : goal.loop-time-preserved
loop-time-preserved c =
    λ t some le active among.
    ⊎_elim
    (λ e. let here = subst (HasEdgeAt c.args.self.now c.args.net c.args.kind) e active in
    let test = c.edge.ensures.test in
    let before = c.value.ensures in
    let now = c.value-in-Some-next_meeting.ensures in
    let off = c.if-edge.false in cc)
    (λ less. none_before (goal.at.loop-time-preserved c).After-index t c.in-Some-next_meeting.time (c.in-Some-next_meeting.ensures.none t) some less active among)
    (eq-or-lt_of_le le)

pub returns-then-edge-clause-none : goal.returns-then-edge-clause-none
returns-then-edge-clause-none c =
    λ t. none_before (goal.at.returns-then-edge-clause-none c).After-index t c.in-Some-next_meeting.time (c.in-Some-next_meeting.ensures.none t)

pub returns-clause-none : goal.returns-clause-none
returns-clause-none c =
    λ t. none_before (goal.at.returns-clause-none c).After-index t c.args.past (λ after less. c.in_default-next_meeting.ensures.none t after (omega (arith, less, c.requires)))
