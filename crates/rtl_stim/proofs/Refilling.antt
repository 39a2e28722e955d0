-- What was taken is filled again: the inputs whose first nets changed are those that were busy.
use Rattle.std.proofs.Common.{◌≡◌, ℕ, ◌+◌, ◌<◌, ◌≤◌, Bool, true, false, cond, List, [], ◌∷◌, ◌++◌, length, get_or, ⊎_elim, inl, inr, refl, sym, ap, subst, ◌∙◌, arith, append-nil}
use Rattle.std.specs.Prelude.{◌⊎◌, Contains, All}
use Rattle.std.specs.List.{range_with_len}
use Rattle.std.specs.Map.{keys_of}
use Rattle.std.proofs.Math.Nat.{eq-or-lt_of_le}
use Rattle.std.proofs.lemmas.Bool.{cases_lt}
use Rattle.std.proofs.lemmas.List.{get_or_default}
use Rattle.std.proofs.lemmas.List.Elements.{Contains-get_or, Contains-append_left, Contains-push, Contains-push_cases}
use Rattle.vhdl_values.specs.declared.scalar.Nine.TheVariants.{U}
use Rattle.rtl_agenda.specs.Agenda.{AgendaState, Change, IsOneEach, IsOrderly}
use Rattle.rtl_stim_lines.specs.Inputs.{Input, input_at}
use Rattle.rtl_stim_lines.specs.Courses.{is_busy}
use Rattle.rtl_stim_lines.specs.Reading.{Schedule}
use Rattle.rtl_stim_lines.specs.Times.{nets_of, value_at}
use Rattle.rtl_stim_lines.specs.Filling.{HaveOwnNets, Waits}
use Rattle.rtl_stim_lines.specs.View.{course_in}
use Rattle.rtl_stim.specs.Left.{WaitsPartly}
use Rattle.rtl_stim.specs.Pushes.{Push, AddsTo, AddsSome, IsFree, ArePlaces, IsTaken, changed_net, first_net, gathered, place_pushes, busy_pushes}
use Rattle.rtl_stim.proofs.Adding.{gathered-append, gathered_from, gathered_has}
use Rattle.rtl_stim.proofs.Awaiting.{at_first, busy_free, in_range, range_below, is_on, none_between, place_of, pushed_is, refilled, refilled_partly}
use Rattle.rtl_stim.proofs.Busy.{busy_pushed}
use Rattle.rtl_stim.proofs.Due.{due_later}
use Rattle.rtl_stim.proofs.Partly.{some_among, one_each_at}
use Rattle.rtl_stim.proofs.Places.{nets_apart, push_of_place}

-- an input has a net, and another has it too
one_input : (inputs : List Input) (i j n : ℕ) → HaveOwnNets inputs → i < length inputs → j < length inputs → Contains (nets_of (input_at inputs i)) n
    → Contains (nets_of (input_at inputs j)) n → i ≡ j
one_input inputs i j n own inside within left right =
    ⊎_elim (λ before. absurd (nets_apart inputs i j n own before within left right))
    (λ le. ⊎_elim (λ e. sym e) (λ behind. absurd (nets_apart inputs j i n own behind inside right left)) (eq-or-lt_of_le le))
    (cases_lt i j)

pub gathered_more : {X Y : Type 0} (f : X → List Y) (xs : List X) (x : X) → gathered f (xs ++ x ∷ []) ≡ gathered f xs ++ f x
gathered_more f xs x = gathered-append f xs (x ∷ []) ∙ ap (λ ys. gathered f xs ++ ys) (append-nil (f x))

-- ---- the places so far

module _ (inputs : List Input) (taken : List Change) (i : ℕ) (places : List ℕ) (are : ArePlaces inputs taken i places) where
  -- the change is of no first net
  pub same_places : ((place : ℕ) → place < length inputs → changed_net taken i ≡ first_net (input_at inputs place) → ⊥) → ArePlaces inputs taken (i + 1) places
  same_places none place = (
    λ there. let has = (are place).0 there in (has.0, has.1, omega (arith, has.2), has.3),
    λ has. ⊎_elim (λ before. (are place).1 (has.0, has.1, before, has.3))
        (λ le. let e : has.1 ≡ i = omega (arith, le, has.2) in absurd (none place has.0 (ap (changed_net taken) (sym e) ∙ has.3)))
        (cases_lt has.1 i),
  )

  -- the change is of the first net of an input
  pub more_places : (p : ℕ) → p < length inputs → changed_net taken i ≡ first_net (input_at inputs p)
      → ((place : ℕ) → place < length inputs → changed_net taken i ≡ first_net (input_at inputs place) → place ≡ p) → ArePlaces inputs taken (i + 1) (places ++ p ∷ [])
  more_places p within is only place = (
    λ there. ⊎_elim (λ old. let has = (are place).0 old in (has.0, has.1, omega (arith, has.2), has.3))
        (λ e. subst (IsTaken inputs taken (i + 1)) e (within, i, omega arith, is))
        (Contains-push_cases places p place there),
    λ has. ⊎_elim (λ before. Contains-append_left places (p ∷ []) place ((are place).1 (has.0, has.1, before, has.3)))
        (λ le. let e : has.1 ≡ i = omega (arith, le, has.2) in
        subst (Contains (places ++ p ∷ [])) (sym (only place has.0 (ap (changed_net taken) (sym e) ∙ has.3))) (Contains-push places p))
        (cases_lt has.1 i),
  )

-- inputs with one first net are one
pub first_of_one : (inputs : List Input) → HaveOwnNets inputs → ((i : ℕ) → i < length inputs → Contains (nets_of (input_at inputs i)) (first_net (input_at inputs i)))
    → (i j : ℕ) → i < length inputs → j < length inputs → first_net (input_at inputs i) ≡ first_net (input_at inputs j) → i ≡ j
first_of_one inputs own has i j inside within same =
    one_input inputs i j (first_net (input_at inputs i)) own inside within (has i inside) (subst (Contains (nets_of (input_at inputs j))) (sym same) (has j within))

-- what a refill begins with: what was taken and what waits are what the inputs give after now, and no two inputs share a net
pub record IsFilling (inputs : List Input) (schedule : Schedule) (now time : ℕ) (taken : List Change) (old : List (ℕ × List Change)) : Type 0 where
  pub own : HaveOwnNets inputs
  pub each : length schedule.courses ≡ length inputs
  pub later : now < time
  pub waits : Waits inputs schedule now ((time, taken) ∷ old)
  pub rising : All (λ k. time < k) (keys_of old)
  pub first_has : (i : ℕ) → i < length inputs → Contains (nets_of (input_at inputs i)) (first_net (input_at inputs i))

module _ (inputs : List Input) (schedule : Schedule) (now time : ℕ) (taken : List Change) (old : List (ℕ × List Change)) (F : IsFilling inputs schedule now time taken old) where
  busy_if_taken : (place : ℕ) → IsTaken inputs taken (length taken) place → is_busy (course_in schedule place) time ≡ true
  busy_if_taken place has =
      let x = get_or taken has.1 (0, U) in
      let due = F.waits.only time x (subst (λ cs. Contains cs x) (sym (at_first inputs schedule F.own F.each now time taken old F.later F.waits F.rising)) (Contains-get_or taken has.1 (0, U) has.2)) in
      let at = place_of inputs schedule F.own F.each due.0 x.0 due.1 in
      let there : Contains (nets_of (input_at inputs place)) x.0 = subst (Contains (nets_of (input_at inputs place))) (sym has.3) (F.first_has place has.0) in
      let same : at.0 ≡ place = one_input inputs at.0 place x.0 F.own at.1 has.0 at.3 there in
      ap (λ k. is_busy k time) (ap (course_in schedule) (sym same) ∙ at.2) ∙ due.4.0

  taken_if_busy : (place : ℕ) → place < length inputs → is_busy (course_in schedule place) time ≡ true → time ≤ schedule.stop → IsTaken inputs taken (length taken) place
  taken_if_busy place within busy ends =
      let net = first_net (input_at inputs place) in
      let course = course_in schedule place in
      let on = is_on inputs schedule F.own F.each place net within (F.first_has place within) in
      let there = F.waits.due course net time on F.later ends
      (busy, λ b after before is. none_between inputs schedule F.own F.each now time taken old F.later F.waits F.rising course net b on after before (omega (arith, before, ends)) is) in
      let x : Change = (net, value_at inputs schedule net time) in
      let among : Contains taken x = subst (λ cs. Contains cs x) (at_first inputs schedule F.own F.each now time taken old F.later F.waits F.rising) there in
      (within, among.0, among.1, ap (λ (c : Change). c.0) (get_or_default taken among.0 (0, U) x among.1 ∙ among.2))

  module _ (i : ℕ) (places : List ℕ) (are : ArePlaces inputs taken i places) (some : i ≤ length taken) where
    all_taken : (place : ℕ) → Contains places place → IsTaken inputs taken (length taken) place
    all_taken place there = let has = (are place).0 there in (has.0, has.1, omega (arith, has.2, some), has.3)

    -- what they give is among what busy inputs give
    among_busy : (p : Push) → Contains (gathered (place_pushes inputs schedule time) places) p → Contains (gathered (busy_pushes inputs schedule time) (range_with_len 0 (length inputs))) p
    among_busy p there =
        let from = gathered_from (place_pushes inputs schedule time) places p there in
        let has = all_taken from.0 from.1 in
        gathered_has (busy_pushes inputs schedule time) (range_with_len 0 (length inputs)) from.0 p (in_range (length inputs) from.0 has.0)
        (subst (λ (ps : List Push). Contains ps p) (sym (busy_pushed inputs schedule time from.0 (busy_if_taken from.0 has))) from.2)

    -- where memory is refused at the last of them
    pub refilled_so_far : (new : AgendaState) → IsOrderly new → AddsSome old new.waiting (gathered (place_pushes inputs schedule time) places) → WaitsPartly inputs schedule time old new.waiting
    refilled_so_far new orderly adds =
        refilled_partly inputs schedule F.own F.each now time taken old F.later F.waits F.rising new.waiting (length inputs) (omega arith)
        (some_among old new.waiting (gathered (place_pushes inputs schedule time) places) (gathered (busy_pushes inputs schedule time) (range_with_len 0 (length inputs))) adds among_busy)
        (one_each_at new orderly)

  -- nothing waits of an input that isn't among them, and whose first net changed
  pub still_free : (i : ℕ) (places : List ℕ) → ArePlaces inputs taken i places → (new : List (ℕ × List Change)) → AddsTo old new (gathered (place_pushes inputs schedule time) places) → IsOneEach taken → i < length taken
      → (place : ℕ) → place < length inputs → changed_net taken i ≡ first_net (input_at inputs place) → IsFree new (nets_of (input_at inputs place))
  still_free i places are new adds one_each inside place within is t x there has =
      ⊎_elim (λ before. busy_free inputs schedule F.own F.each now time taken old F.later F.waits F.rising place within (busy_if_taken place (within, i, inside, is)) t x before has)
      (λ pushed.
      let from = gathered_from (place_pushes inputs schedule time) places (t, x) pushed in
      let was = (are from.0).0 from.1 in
      let same : from.0 ≡ place = one_input inputs from.0 place x.0 F.own was.0 within (push_of_place inputs schedule time from.0 t x from.2) has in
      one_each was.1 i (0, U) was.2 inside (was.3 ∙ ap (λ k. first_net (input_at inputs k)) same ∙ sym is))
      ((adds t x).0 there)

  -- all changes were looked at
  module _ (places : List ℕ) (are : ArePlaces inputs taken (length taken) places) where
    among_taken : (p : Push) → Contains (gathered (busy_pushes inputs schedule time) (range_with_len 0 (length inputs))) p → Contains (gathered (place_pushes inputs schedule time) places) p
    among_taken (t, x) there =
        let from = gathered_from (busy_pushes inputs schedule time) (range_with_len 0 (length inputs)) (t, x) there in
        by from.0 (range_below (length inputs) from.0 from.1) (is_busy (course_in schedule from.0) time) refl from.2
      where
        by : (place : ℕ) → place < length inputs → (b : Bool) → is_busy (course_in schedule place) time ≡ b → Contains (cond b (place_pushes inputs schedule time place) []) (t, x)
            → Contains (gathered (place_pushes inputs schedule time) places) (t, x)
        by place within true busy h =
            let is = pushed_is inputs schedule F.own F.each time place t x within h in
            let when = due_later (course_in schedule place) time schedule.stop t is.0 in
            gathered_has (place_pushes inputs schedule time) places place (t, x) ((are place).1 (taken_if_busy place within busy (omega (arith, when.0, when.1)))) h
        by place within false busy h = absurd (omega (arith, h.1))

    pub refilled_all : (new : List (ℕ × List Change)) → AddsTo old new (gathered (place_pushes inputs schedule time) places) → Waits inputs schedule time new
    refilled_all new adds = refilled inputs schedule F.own F.each now time taken old F.later F.waits F.rising new all
      where
        all : AddsTo old new (gathered (busy_pushes inputs schedule time) (range_with_len 0 (length inputs)))
        all t x = (
          λ there. ⊎_elim (λ before. inl before) (λ pushed. inr (among_busy (length taken) places are (omega arith) (t, x) pushed)) ((adds t x).0 there),
          λ either. (adds t x).1 (⊎_elim (λ before. inl before) (λ pushed. inr (among_taken (t, x) pushed)) either),
        )
