use Rattle.std.proofs.Common.{◌≡◌, ◌<◌, ◌+◌, ◌++◌, ◌∷◌, [], ℕ, List, length, Result, Ok, Err, ap, sym, subst, ◌∙◌, arith}
use Rattle.std.specs.Ordering.{nat_cmp}
use Rattle.std.specs.List.Sorted.{IsBinarySearchResult}
use Rattle.std.specs.Map.{keys_of}
use Rattle.std.proofs.lemmas.List.Elements.{All-weaker}
use Rattle.std.proofs.lemmas.Result.{err_from_is_err_and}
use Rattle.rtl_agenda.specs.Agenda.{AgendaState, Change, IsAfter}
use Rattle.rtl_stim_lines.specs.Inputs.{input_at}
use Rattle.rtl_stim_lines.specs.Times.{nets_of}
use Rattle.rtl_stim.specs.declared.stimulus.Stimulus.TheInside.{Inside}
use Rattle.rtl_stim.specs.Kept.{IsKept, stimulus_view}
use Rattle.rtl_stim.specs.Stimuli.{StimulusView}
use Rattle.rtl_stim.specs.Moments.{IsStimulus}
use Rattle.rtl_stim.specs.Pushes.{AddsTo, AddsSome, ArePlaces, IsFree, KeepsTaken, changed_net, first_net, gathered, place_pushes}
use Rattle.rtl_stim.proofs.Adding.{keeps_on, adds_more}
use Rattle.rtl_stim.proofs.Partly.{some_more}
use Rattle.rtl_stim.proofs.Places.{kept_stimulus}
use Rattle.rtl_stim.proofs.Firsts.{AreFirsts, firsts_kept, first_there, found, not_found}
use Rattle.rtl_stim.proofs.Refilling.{IsFilling, first_of_one, gathered_more, more_places, same_places, still_free, refilled_all, refilled_so_far}
use Rattle.rtl_stim.proofs.stimulus.Stimulus.refill.Given.{Over}
use Rattle.rtl_stim.proofs.stimulus.Stimulus.refill.Goals as goal
use Rattle.rtl_stim.proofs.stimulus.Stimulus.refill.Goals.{After-changes-index-end, After-binary_search, in-Ok+in_ok-push_due, in_default}

-- ---- from the start

module _ (g : Over) (c : After-changes-index-end g) where
  abbrev first : AgendaState
  first = g.A.Agenda.state c.args.agenda.now

  module _ (s : Inside) (view : stimulus_view s ≡ c.args.self.now) (k : IsKept s) where
    stimulus : IsStimulus c.args.self.now
    stimulus = kept_stimulus s c.args.self.now view k

    filling : IsFilling c.args.self.now.inputs c.args.self.now.schedule c.requires.waited.0 c.args.time first.taken first.waiting
    filling = record {
      own = stimulus.own_nets;
      each = stimulus.each_course;
      later = c.requires.waited.1;
      waits = c.requires.waited.2;
      rising = All-weaker (IsAfter first.last) (λ t. c.args.time < t) (λ t h. h c.args.time c.requires.last) (keys_of first.waiting) (g.met.A.Agenda.orderly c.args.agenda.now).later;
      first_has = first_there c.args.self.now.inputs s.firsts.items (firsts_kept s c.args.self.now view k);
    }

-- ---- at a change

module _ (g : Over) (c : After-binary_search g) where
  abbrev taken : List Change
  taken = (g.A.Agenda.state c.args.agenda.now).taken

  abbrev net : ℕ
  net = changed_net taken c.loop-index.index

  firsts : AreFirsts c.args.self.now.inputs c.self.inside.firsts.items
  firsts = firsts_kept c.self.inside c.args.self.now c.self.view_is c.self.invariant

  inside : c.loop-index.index < length taken
  inside = omega (arith, c.loop-index-test.true, ap (λ (cs : List Change). length cs) c.changes-index-end.ensures)

  answer : IsBinarySearchResult (λ y. nat_cmp y net) c.self.inside.firsts.items c.binary_search.result
  answer =
      subst (λ (cs : List Change). IsBinarySearchResult (λ y. nat_cmp y (changed_net cs c.loop-index.index)) c.self.inside.firsts.items c.binary_search.result) (c.changes.ensures ∙ c.loop-index.invariant.0.taken)
      (subst (λ (ns : List ℕ). IsBinarySearchResult (λ y. nat_cmp y (changed_net c.changes.result.now c.loop-index.index)) ns c.binary_search.result) c.deref.ensures.value c.binary_search.ensures.position)

  at_place : (place : ℕ) → c.binary_search.result ≡ Ok place → (place < length c.args.self.now.inputs) × (net ≡ first_net (input_at c.args.self.now.inputs place))
  at_place place is = found c.args.self.now.inputs c.self.inside.firsts.items firsts net place (subst (λ (r : Result ℕ ℕ). IsBinarySearchResult (λ y. nat_cmp y net) c.self.inside.firsts.items r) is answer)

  at_none : (b : ℕ) → c.binary_search.result ≡ Err b → (p : ℕ) → p < length c.args.self.now.inputs → net ≡ first_net (input_at c.args.self.now.inputs p) → ⊥
  at_none b is = not_found c.args.self.now.inputs c.self.inside.firsts.items firsts net b (subst (λ (r : Result ℕ ℕ). IsBinarySearchResult (λ y. nat_cmp y net) c.self.inside.firsts.items r) is answer)

  one_more : (place : ℕ) → c.binary_search.result ≡ Ok place → ArePlaces c.args.self.now.inputs taken (c.loop-index.index + 1) (c.loop-index.invariant.1 ++ place ∷ [])
  one_more place is =
      let at = at_place place is in
      more_places c.args.self.now.inputs taken c.loop-index.index c.loop-index.invariant.1 c.loop-index.invariant.2 place at.0 at.1
      (λ p within e. first_of_one c.args.self.now.inputs (kept_stimulus c.self.inside c.args.self.now c.self.view_is c.self.invariant).own_nets (first_there c.args.self.now.inputs c.self.inside.firsts.items firsts) p place within at.0 (sym e ∙ at.1))

pub push_due-requires-clause-free : goal.push_due-requires-clause-free
push_due-requires-clause-free g c =
    let at = goal.at.push_due-requires-clause-free g c in
    let v = c.args.self.now in
    let place = c.in-Ok.place in
    let is = at_place g at.After-binary_search place c.in-Ok.is in
    subst (λ (v : StimulusView). IsFree (g.A.Agenda.state c.loop-index.agenda).waiting (nets_of (input_at v.inputs place))) (sym c.self.view_is)
    (still_free v.inputs v.schedule c.requires.waited.0 c.args.time (first g at.After-changes-index-end).taken (first g at.After-changes-index-end).waiting (filling g at.After-changes-index-end c.self.inside c.self.view_is c.self.invariant)
    c.loop-index.index c.loop-index.invariant.1 c.loop-index.invariant.2 (g.A.Agenda.state c.loop-index.agenda).waiting c.loop-index.invariant.3
    (g.met.A.Agenda.orderly c.args.agenda.now).one_each_taken (inside g at.After-binary_search) place is.0 is.1)

pub loop-index-preserved : goal.loop-index-preserved
loop-index-preserved g c =
    let at = (goal.at.loop-index-preserved g c).After-binary_search in
    let v = c.args.self.now in
    let old = g.A.Agenda.state c.loop-index.agenda in
    let waiting = (g.A.Agenda.state c.args.agenda.now).waiting in
    let f = place_pushes v.inputs v.schedule c.args.time in
    let places = c.loop-index.invariant.1 in
    elim c.match-binary_search.branch [
      | in-Ok+in_ok-push_due w ↦
          let place = w.in-Ok.place in
          let made = g.A.Agenda.state w.push_due.new.agenda in
          let pushed = subst (λ (v : StimulusView). AddsTo old.waiting made.waiting (place_pushes v.inputs v.schedule c.args.time place)) c.self.view_is w.in_ok-push_due.ensures.pushed in
          let agenda = sym (ap g.A.Agenda.state w.agenda-is) in (
            subst (KeepsTaken (g.A.Agenda.state c.args.agenda.now)) agenda (keeps_on (g.A.Agenda.state c.args.agenda.now) old made c.loop-index.invariant.0 w.push_due.ensures.kept),
            places ++ place ∷ [],
            one_more g at place w.in-Ok.is,
            subst (λ (a : AgendaState). AddsTo waiting a.waiting (gathered f (places ++ place ∷ []))) agenda
                (subst (AddsTo waiting made.waiting) (sym (gathered_more f places place)) (adds_more waiting old.waiting made.waiting (gathered f places) (f place) c.loop-index.invariant.3 pushed)),
          )
      | in_default w ↦
          let agenda = sym (ap g.A.Agenda.state w.agenda-is) in (
            subst (KeepsTaken (g.A.Agenda.state c.args.agenda.now)) agenda c.loop-index.invariant.0,
            places,
            same_places v.inputs (taken g at) c.loop-index.index places c.loop-index.invariant.2 (at_none g at w.in_default.field-0 w.in_default.is),
            subst (λ (a : AgendaState). AddsTo waiting a.waiting (gathered f places)) agenda c.loop-index.invariant.3,
          )
    ]

pub returns-clause-waits : goal.returns-clause-waits
returns-clause-waits g c =
    let at = (goal.at.returns-clause-waits g c).After-changes-index-end in
    let v = c.args.self.now in
    let first = first g at in
    let many : c.loop-index.index ≡ length first.taken = omega (arith, c.loop-index-test.false, c.loop-index.auto.index-end, ap (λ (cs : List Change). length cs) c.changes-index-end.ensures) in
    refilled_all v.inputs v.schedule c.requires.waited.0 c.args.time first.taken first.waiting (filling g at c.self.inside c.self.view_is c.self.invariant)
    c.loop-index.invariant.1 (subst (λ n. ArePlaces v.inputs first.taken n c.loop-index.invariant.1) many c.loop-index.invariant.2) (g.A.Agenda.state c.loop-index.agenda).waiting c.loop-index.invariant.3

pub returns-in_err-push_due-clause-left : goal.returns-in_err-push_due-clause-left
returns-in_err-push_due-clause-left g c =
    let at = goal.at.returns-in_err-push_due-clause-left g c in
    let v = c.args.self.now in
    let first = first g at.After-changes-index-end in
    let old = (g.A.Agenda.state c.loop-index.agenda).waiting in
    let new = g.A.Agenda.state c.push_due.new.agenda in
    let f = place_pushes v.inputs v.schedule c.args.time in
    let place = c.in-Ok.place in
    let places = c.loop-index.invariant.1 in
    let pushed = subst (λ (v : StimulusView). AddsSome old new.waiting (place_pushes v.inputs v.schedule c.args.time place)) c.self.view_is c.in_err-push_due.ensures.pushed in
    rw (err_from_is_err_and c.from_residual.result c.from_residual.ensures.1).1
    (refilled_so_far v.inputs v.schedule c.requires.waited.0 c.args.time first.taken first.waiting (filling g at.After-changes-index-end c.self.inside c.self.view_is c.self.invariant)
    (c.loop-index.index + 1) (places ++ place ∷ []) (one_more g at.After-binary_search place c.in-Ok.is) (omega (arith, inside g at.After-binary_search)) new (g.met.A.Agenda.orderly c.push_due.new.agenda)
    (subst (AddsSome first.waiting new.waiting) (sym (gathered_more f places place)) (some_more first.waiting old new.waiting (gathered f places) (f place) c.loop-index.invariant.3 pushed)))
