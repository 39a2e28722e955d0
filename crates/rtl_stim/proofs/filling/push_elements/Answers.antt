use Rattle.std.proofs.Common.{◌≡◌, ◌++◌, ◌∷◌, [], ℕ, ◌+◌, List, map, take, get_or, ⊎_elim, refl, ap, sym, subst, ◌∙◌, arith}
use Rattle.std.specs.Prelude.{Contains}
use Rattle.std.proofs.lemmas.List.{take_all, length-map, get_or-map}
use Rattle.std.proofs.lemmas.List.Elements.{Contains-get_or}
use Rattle.std.proofs.lemmas.Result.{err_from_is_err_and}
use Rattle.vhdl_values.specs.declared.scalar.Nine.{Nine}
use Rattle.vhdl_values.specs.declared.scalar.Nine.TheVariants.{U}
use Rattle.rtl_agenda.specs.Agenda.{AgendaState, Change, changes_at}
use Rattle.rtl_stim_lines.specs.declared.inputs.Element.{Element as KeptElement}
use Rattle.rtl_stim_lines.specs.Inputs.{Element}
use Rattle.rtl_stim_lines.specs.Courses.{course_value}
use Rattle.rtl_stim_lines.specs.View.{schedule_view, course_in, element_view}
use Rattle.rtl_stim.specs.Pushes.{Push, AddsTo, AddsSome, KeepsTaken, element_pushes}
use Rattle.rtl_stim.proofs.Numbering.{numbered_viewed}
use Rattle.rtl_stim.proofs.Adding.{keeps_on, adds_more, adds_push, leaves_alone}
use Rattle.rtl_stim.proofs.Elements.{net_is_new}
use Rattle.rtl_stim.proofs.Partly.{some_elements}
use Rattle.rtl_stim.proofs.filling.push_elements.Goals as goal

pub push-requires-clause-once : goal.push-requires-clause-once
push-requires-clause-once g c =
    let es = c.args.elements.now in
    let i = c.loop-from_left.from_left in
    let d : KeptElement = record { net = 0; start = U } in
    let course = course_in (schedule_view c.args.schedule.now) c.args.place in
    let net : KeptElement → ℕ = λ e. e.net in
    let here : Contains (map net es) (get_or es i d).net =
    subst (Contains (map net es)) (get_or-map net es i d 0 c.loop-from_left-test.true) (Contains-get_or (map net es) i 0 (omega (arith, length-map es net, c.loop-from_left-test.true))) in
    leaves_alone (changes_at (g.A.Agenda.state c.loop-from_left.agenda).waiting c.args.time) (get_or es i d).net
    (λ x there same.
    ⊎_elim (λ old. c.requires.free x old (subst (Contains (map net es)) (sym same) here))
    (λ pushed. net_is_new course c.args.time c.args.time es i d c.requires.own c.loop-from_left-test.true x pushed same)
    ((c.loop-from_left.invariant.1 c.args.time x).0 there))

pub loop-from_left-preserved : goal.loop-from_left-preserved
loop-from_left-preserved g c =
    let es = c.args.elements.now in
    let i = c.loop-from_left.from_left in
    let t = c.args.time in
    let d : KeptElement = record { net = 0; start = U } in
    let course = course_in (schedule_view c.args.schedule.now) c.args.place in
    let f : ℕ → Element → Push = λ place e. (t, (e.net, course_value course place e.start t)) in
    let first = g.A.Agenda.state c.args.agenda.now in
    let old = g.A.Agenda.state c.loop-from_left.agenda in
    let new = g.A.Agenda.state c.push.new.self in
    let change : Change = ((get_or es i d).net, c.value-value.result) in
    let is = c.in_ok-push.ensures.ok in
    let before = element_pushes course (map element_view (take i es)) t in
    let one : AddsTo old.waiting new.waiting ((t, change) ∷ []) = subst (λ (s : AgendaState). AddsTo old.waiting s.waiting ((t, change) ∷ [])) (sym is) (adds_push old.waiting t change) in
    let all = adds_more first.waiting old.waiting new.waiting before ((t, change) ∷ []) c.loop-from_left.invariant.1 one in
    let pushes : before ++ (t, change) ∷ [] ≡ element_pushes course (map element_view (take (i + 1) es)) t =
    ap (λ (v : Nine). let p : Push = (t, ((get_or es i d).net, v)) in before ++ p ∷ []) c.value-value.ensures ∙ sym (numbered_viewed element_view f es i d c.loop-from_left-test.true) in (
      keeps_on first old new c.loop-from_left.invariant.0 (subst (KeepsTaken old) (sym is) (record { last = refl; taken = refl })),
      subst (AddsTo first.waiting new.waiting) pushes all,
    )

pub returns-clause-pushed : goal.returns-clause-pushed
returns-clause-pushed g c =
    let es = c.args.elements.now in
    let i = c.loop-from_left.from_left in
    let course = course_in (schedule_view c.args.schedule.now) c.args.place in
    subst (λ (front : List KeptElement). AddsTo (g.A.Agenda.state c.args.agenda.now).waiting (g.A.Agenda.state c.loop-from_left.agenda).waiting (element_pushes course (map element_view front) c.args.time))
    (take_all i es (omega (arith, c.loop-from_left-test.false))) c.loop-from_left.invariant.1

pub returns-in_err-push-clause-pushed : goal.returns-in_err-push-clause-pushed
returns-in_err-push-clause-pushed g c =
    let course = course_in (schedule_view c.args.schedule.now) c.args.place in
    let first = (g.A.Agenda.state c.args.agenda.now).waiting in
    let old = (g.A.Agenda.state c.loop-from_left.agenda).waiting in
    let es = c.args.elements.now in
    let told = err_from_is_err_and c.from_residual.result c.from_residual.ensures.1 in
    rw told.1
    (subst (λ (s : AgendaState). AddsSome first s.waiting (element_pushes course (map element_view es) c.args.time)) (sym c.in_err-push.ensures.refused)
    (some_elements first old course c.args.time c.loop-from_left.from_left es c.loop-from_left.invariant.1))
