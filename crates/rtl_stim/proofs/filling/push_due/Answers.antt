use Rattle.std.proofs.Common.{◌≡◌, ◌≢◌, ◌<◌, ℕ, true, false, map, ap, sym, subst, ◌∙◌, arith, append-nil}
use Rattle.std.specs.Prelude.{AllPairs}
use Rattle.rtl_stim_lines.specs.Courses.{is_busy}
use Rattle.rtl_stim_lines.specs.Inputs.{input_at}
use Rattle.rtl_stim_lines.specs.View.{inputs_view, schedule_view, course_view, course_in, element_view}
use Rattle.rtl_stim.specs.Pushes.{AddsTo, HasPushed, IsFree, gathered, element_pushes, due_pushes}
use Rattle.rtl_stim.proofs.Adding.{adds_none}
use Rattle.rtl_stim.proofs.Due.{due_found, none_due}
use Rattle.rtl_stim.proofs.Places.{elements_seen, kept_course, nets_seen, pairs_at}
use Rattle.rtl_stim.proofs.filling.push_due.Goals as goal

pub push_elements-requires-clause-own : goal.push_elements-requires-clause-own
push_elements-requires-clause-own g c =
    let inputs = inputs_view c.args.inputs.now in
    subst (AllPairs (λ n m. n ≢ m)) (nets_seen inputs c.args.place c.requires.input c.elements_at.result.now c.elements_at.ensures)
    (pairs_at inputs c.args.place c.requires.own c.requires.input)

pub push_elements-requires-clause-later : goal.push_elements-requires-clause-later
push_elements-requires-clause-later g c = c.requires.later c.in-Some.time c.in-Some.ensures.within.0

pub push_elements-requires-clause-free : goal.push_elements-requires-clause-free
push_elements-requires-clause-free g c =
    let inputs = inputs_view c.args.inputs.now in
    subst (IsFree (g.A.Agenda.state c.args.agenda.now).waiting) (nets_seen inputs c.args.place c.requires.input c.elements_at.result.now c.elements_at.ensures) c.requires.free c.in-Some.time

pub returns-in-Some-clause-pushed : goal.returns-in-Some-clause-pushed
returns-in-Some-clause-pushed g c =
    let inputs = inputs_view c.args.inputs.now in
    let schedule = schedule_view c.args.schedule.now in
    let es = map element_view c.elements_at.result.now in
    let t = c.in-Some.time in
    let seen = elements_seen inputs c.args.place c.requires.input c.elements_at.result.now c.elements_at.ensures in
    let old = (g.A.Agenda.state c.args.agenda.now).waiting in
    let new = (g.A.Agenda.state c.push_elements.new.agenda).waiting in
    let course = course_in schedule c.args.place in
    let is : course ≡ course_view c.index.result.now =
    kept_course c.args.schedule.now.courses.items c.args.place c.index.result.now (omega (arith, c.requires.there, c.args.schedule.now.courses.ok.0)) ∙ ap course_view (sym c.index.ensures) in
    let busy : is_busy course t ≡ true = ap (λ k. is_busy k t) is ∙ c.in-Some.ensures.busy in
    let idle : (b : ℕ) → c.args.now < b → b < t → is_busy course b ≡ false = (λ b after before. ap (λ k. is_busy k b) is ∙ c.in-Some.ensures.idle b after before) in
    subst (λ pushes. HasPushed old new pushes c.push_elements.result)
    (sym (append-nil (element_pushes course es t))
    ∙ ap (gathered (element_pushes course es)) (sym (due_found course c.args.now schedule.stop t c.in-Some.ensures.within busy idle))
    ∙ ap (λ elements. due_pushes course elements c.args.now schedule.stop) (sym seen)) c.push_elements.ensures.pushed

pub returns-in-None-clause-pushed : goal.returns-in-None-clause-pushed
returns-in-None-clause-pushed g c =
    let inputs = inputs_view c.args.inputs.now in
    let schedule = schedule_view c.args.schedule.now in
    let old = (g.A.Agenda.state c.args.agenda.now).waiting in
    let course = course_in schedule c.args.place in
    let is : course ≡ course_view c.index.result.now =
    kept_course c.args.schedule.now.courses.items c.args.place c.index.result.now (omega (arith, c.requires.there, c.args.schedule.now.courses.ok.0)) ∙ ap course_view (sym c.index.ensures) in
    let none = none_due course c.args.now schedule.stop (λ b after before. ap (λ k. is_busy k b) is ∙ c.in-None.ensures.idle b after before) in
    subst (λ ts. AddsTo old old (gathered (element_pushes course (input_at inputs c.args.place).elements) ts)) (sym none) (adds_none old)
