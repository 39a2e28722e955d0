-- What waits once an agenda is filled.
use Rattle.std.proofs.Common.{◌≡◌, ◌≢◌, ℕ, suc, zero, ◌+◌, ◌<◌, ◌≤◌, Bool, true, false, cond, List, [], ◌∷◌, ◌++◌, length, map, Option, Some, None, ⊎_elim, inl, inr, refl, sym, ap, subst, ◌∙◌, arith, append-nil}
use Rattle.std.specs.Prelude.{◌⊎◌, Contains, All, IfSome, slice_get, unwrap_or}
use Rattle.std.specs.Option.{is_some}
use Rattle.std.specs.Ordering.{nat_cmp}
use Rattle.std.specs.List.{range_with_len}
use Rattle.std.specs.Map.{lookup, keys_of}
use Rattle.std.specs.BTreeMap.{is_at}
use Rattle.std.proofs.lemmas.Bool.{cases_lt}
use Rattle.std.proofs.lemmas.List.Elements.{Contains-append_right, All-contains}
use Rattle.std.proofs.lemmas.List.FromFn.{length-range_with_len, get_or-range_with_len, map-range_with_len_more}
use Rattle.std.proofs.lemmas.Option.{slice_get-get_or, slice_get_within, get_or_from_slice_get}
use Rattle.std.proofs.Math.Nat.{eq-or-lt_of_le}
use Rattle.vhdl_values.specs.declared.scalar.Nine.{Nine}
use Rattle.rtl_agenda.specs.Agenda.{Change, changes_at, IsOneEach}
use Rattle.rtl_stim_lines.specs.Inputs.{Input, Element, input_at}
use Rattle.rtl_stim_lines.specs.Courses.{Course, Sets, course_value, is_busy}
use Rattle.rtl_stim_lines.specs.Reading.{Schedule}
use Rattle.rtl_stim_lines.specs.Times.{nets_of, value_at}
use Rattle.rtl_stim_lines.specs.Filling.{HaveOwnNets, IsOn, IsNext, IsDue, Waits}
use Rattle.rtl_stim_lines.specs.View.{course_in}
use Rattle.rtl_stim.specs.Left.{WaitsPartly}
use Rattle.rtl_stim.specs.Numbered.{numbered}
use Rattle.rtl_stim.specs.Pushes.{Push, AddsTo, AddsSome, IsFree, gathered, element_pushes, due, place_pushes, busy_pushes}
use Rattle.rtl_stim.proofs.Values.{first_or_later, value_there, net_there}
use Rattle.rtl_stim.proofs.Adding.{gathered-append, gathered_from, gathered_has, pushed_from}
use Rattle.rtl_stim.proofs.Places.{input_there, nets_apart}
use Rattle.rtl_stim.proofs.Due.{due_later, due_has, first_busy, found_key, is_at_key, at_itself}

-- ---- places and elements

range_more : (n : ℕ) → range_with_len 0 (n + 1) ≡ range_with_len 0 n ++ n ∷ []
range_more n = sym (map_same (range_with_len 0 (n + 1))) ∙ map-range_with_len_more (λ k. k) 0 n n (omega arith) ∙ ap (λ ks. ks ++ n ∷ []) (map_same (range_with_len 0 n))
  where
    map_same : (xs : List ℕ) → map (λ k. k) xs ≡ xs
    map_same [] = refl
    map_same (x ∷ xs) = ap (λ ys. x ∷ ys) (map_same xs)

-- what the first places give, and one more
pub place_more : {Y : Type 0} (f : ℕ → List Y) (i : ℕ) → gathered f (range_with_len 0 i) ++ f i ≡ gathered f (range_with_len 0 (i + 1))
place_more f i =
    ap (λ ys. gathered f (range_with_len 0 i) ++ ys) (sym (append-nil (f i))) ∙ sym (ap (gathered f) (range_more i) ∙ gathered-append f (range_with_len 0 i) (i ∷ []))

pub in_range : (n k : ℕ) → k < n → Contains (range_with_len 0 n) k
in_range n k less = (k, omega (arith, length-range_with_len 0 n, less), get_or-range_with_len 0 n k k less ∙ (let e : 0 + k ≡ k = omega arith in e))

pub range_below : (n k : ℕ) → Contains (range_with_len 0 n) k → k < n
range_below n k (i, within, is) =
    let less : i < n = omega (arith, length-range_with_len 0 n, within) in
    let same : k ≡ 0 + i = sym is ∙ get_or-range_with_len 0 n i k less in
    omega (arith, less, same)

pub element_of_net : (es : List Element) (net : ℕ) → Contains (map (λ e. e.net) es) net → (k : ℕ) × (e : Element) × (slice_get es k ≡ Some e) × (e.net ≡ net)
element_of_net [] net there = absurd (omega (arith, there.1))
element_of_net (x ∷ es) net there =
    first_or_later x.net net (map (λ (e : Element). e.net) es) there ((k : ℕ) × (e : Element) × (slice_get (x ∷ es) k ≡ Some e) × (e.net ≡ net))
    (λ is. (0, x, refl, is)) (λ later. let h = element_of_net es net later in (suc h.0, h.1, h.2, h.3))

numbered_has : {X Y : Type 0} (f : ℕ → X → Y) (p : ℕ) (xs : List X) (k : ℕ) (x : X) → slice_get xs k ≡ Some x → Contains (numbered f p xs) (f (p + k) x)
numbered_has f p [] k x at = cc
numbered_has f p (y ∷ xs) zero x at =
    let same : y ≡ x = cc in
    let here : p ≡ p + 0 = omega arith in
    (0, omega arith, ap (λ n. f n y) here ∙ ap (f (p + 0)) same)
numbered_has f p (y ∷ xs) (suc k) x at =
    let next : suc p + k ≡ p + suc k = omega arith in
    Contains-append_right (f p y ∷ []) (numbered f (suc p) xs) (f (p + suc k) x) (subst (λ n. Contains (numbered f (suc p) xs) (f n x)) next (numbered_has f (suc p) xs k x at))

module _ (inputs : List Input) (schedule : Schedule) (own : HaveOwnNets inputs) (each : length schedule.courses ≡ length inputs) where
  pub course_there : (place : ℕ) → place < length inputs → slice_get schedule.courses place ≡ Some (course_in schedule place)
  course_there place within = slice_get-get_or schedule.courses place (Sets []) (omega (arith, each, within))

  -- where a net stands that an input with this course has
  pub place_of : (course : Course) (net : ℕ) → IsOn inputs schedule.courses course net
      → (place : ℕ) × (place < length inputs) × (course_in schedule place ≡ course) × Contains (nets_of (input_at inputs place)) net × (slice_get schedule.courses place ≡ Some course)
  place_of course net (place, is, on) =
      let within : place < length inputs = omega (arith, each, slice_get_within schedule.courses place course is) in
      (place, within, get_or_from_slice_get schedule.courses place course (Sets []) is, subst (λ o. IfSome o (λ input. Contains (nets_of input) net)) (input_there inputs place within) on, is)

  pub is_on : (place net : ℕ) → place < length inputs → Contains (nets_of (input_at inputs place)) net → IsOn inputs schedule.courses (course_in schedule place) net
  is_on place net within has = (place, course_there place within, subst (λ o. IfSome o (λ input. Contains (nets_of input) net)) (sym (input_there inputs place within)) has)

  pub pushed_has : (now place net t : ℕ) → place < length inputs → Contains (nets_of (input_at inputs place)) net → Contains (due (course_in schedule place) now schedule.stop) t
      → Contains (place_pushes inputs schedule now place) (t, (net, value_at inputs schedule net t))
  pushed_has now place net t within has waits =
      let course = course_in schedule place in
      let es = (input_at inputs place).elements in
      let el = element_of_net es net has in
      let value : course_value course (0 + el.0) el.1.start t ≡ value_at inputs schedule net t =
      ap (λ k. course_value course k el.1.start t) (let e : 0 + el.0 ≡ el.0 = omega arith in e)
      ∙ sym (value_there inputs schedule.courses place el.0 t (input_at inputs place) course el.1 own (input_there inputs place within) (course_there place within) el.2)
      ∙ ap (λ n. value_at inputs schedule n t) el.3 in
      let same : (let p : Push = (t, (el.1.net, course_value course (0 + el.0) el.1.start t)) in p) ≡ (let p : Push = (t, (net, value_at inputs schedule net t)) in p) =
      ap (λ (n : ℕ). let p : Push = (t, (n, course_value course (0 + el.0) el.1.start t)) in p) el.3 ∙ ap (λ (v : Nine). let p : Push = (t, (net, v)) in p) value in
      gathered_has (element_pushes course es) (due course now schedule.stop) t (t, (net, value_at inputs schedule net t)) waits
      (subst (Contains (element_pushes course es t)) same (numbered_has {Y = Push} (λ place e. (t, (e.net, course_value course place e.start t))) 0 es el.0 el.1 el.2))

  pub pushed_is : (now place t : ℕ) (x : Change) → place < length inputs → Contains (place_pushes inputs schedule now place) (t, x)
      → Contains (due (course_in schedule place) now schedule.stop) t × Contains (nets_of (input_at inputs place)) x.0 × (x.1 ≡ value_at inputs schedule x.0 t)
  pushed_is now place t x within pushed =
      let course = course_in schedule place in
      let es = (input_at inputs place).elements in
      let from = gathered_from (element_pushes course es) (due course now schedule.stop) (t, x) pushed in
      let made = pushed_from course from.0 0 es (t, x) from.2 in
      let time : t ≡ from.0 = ap (λ (q : Push). q.0) made.3 in
      let net : x.0 ≡ made.1.net = ap (λ (q : Push). q.1.0) made.3 in
      let value : x.1 ≡ course_value course (0 + made.0) made.1.start from.0 = ap (λ (q : Push). q.1.1) made.3 in
      let there = value_there inputs schedule.courses place made.0 from.0 (input_at inputs place) course made.1 own (input_there inputs place within) (course_there place within) made.2 in (
        subst (Contains (due course now schedule.stop)) (sym time) from.1,
        subst (Contains (nets_of (input_at inputs place))) (sym net) (net_there es made.0 made.1 made.2),
        value ∙ ap (λ k. course_value course k made.1.start from.0) (let e : 0 + made.0 ≡ made.0 = omega arith in e) ∙ sym there
            ∙ ap (λ n. value_at inputs schedule n from.0) (sym net) ∙ ap (λ s. value_at inputs schedule x.0 s) (sym time),
      )

  -- ---- a new agenda

  only_pushed : (now t : ℕ) (x : Change) (places : List ℕ) → ((place : ℕ) → Contains places place → place < length inputs) → Contains (gathered (place_pushes inputs schedule now) places) (t, x)
      → IsDue inputs schedule now t x
  only_pushed now t x places there pushed =
      let from = gathered_from (place_pushes inputs schedule now) places (t, x) pushed in
      let within = there from.0 from.1 in
      let is = pushed_is now from.0 t x within from.2 in
      let when = due_later (course_in schedule from.0) now schedule.stop t is.0 in
      (course_in schedule from.0, is_on from.0 x.0 within is.1, when.0, when.1, when.2, is.2)

  pub loaded : (new : List (ℕ × List Change)) → AddsTo [] new (gathered (place_pushes inputs schedule 0) (range_with_len 0 (length inputs))) → Waits inputs schedule 0 new
  loaded new adds = record {
    due = λ course net t on later within next.
        let at = place_of course net on in
        let waits = subst (λ k. Contains (due k 0 schedule.stop) t) (sym at.2) (due_has course 0 schedule.stop t later within next) in
        (adds t (net, value_at inputs schedule net t)).1 (inr (gathered_has (place_pushes inputs schedule 0) (range_with_len 0 (length inputs)) at.0 (t, (net, value_at inputs schedule net t))
        (in_range (length inputs) at.0 at.1) (pushed_has 0 at.0 net t at.1 at.3 waits)));
    only = λ t x there.
        ⊎_elim (λ none. absurd (omega (arith, none.1)))
        (λ pushed. only_pushed 0 t x (range_with_len 0 (length inputs)) (λ place among. range_below (length inputs) place among) pushed)
        ((adds t x).0 there);
  }

  -- where memory is refused at one of the first places
  pub loaded_partly : (new : List (ℕ × List Change)) (places : ℕ) → places ≤ length inputs → AddsSome [] new (gathered (place_pushes inputs schedule 0) (range_with_len 0 places))
      → ((t : ℕ) → IsOneEach (changes_at new t)) → WaitsPartly inputs schedule 0 [] new
  loaded_partly new places within some once = record {
    kept = some.kept;
    due = λ t x there.
        ⊎_elim (λ none. absurd (omega (arith, none.1)))
        (λ pushed. only_pushed 0 t x (range_with_len 0 places) (λ place among. let below = range_below places place among in omega (arith, below, within)) pushed)
        (some.pushed t x there);
    once = once;
  }

  -- ---- after a time is taken

  module _ (now time : ℕ) (taken : List Change) (old : List (ℕ × List Change)) (later : now < time)
      (waits : Waits inputs schedule now ((time, taken) ∷ old)) (rising : All (λ k. time < k) (keys_of old)) where
    not_at : (t : ℕ) → t ≢ time → is_at (nat_cmp t) time ≡ false
    not_at t differ = by (is_at (nat_cmp t) time) refl
      where
        by : (b : Bool) → is_at (nat_cmp t) time ≡ b → b ≡ false
        by true is = absurd (differ (is_at_key t time is))
        by false is = refl

    -- what waits at the time itself
    pub at_first : changes_at ((time, taken) ∷ old) time ≡ taken
    at_first = ap (λ b. unwrap_or (cond b (Some taken) (lookup (is_at (nat_cmp time)) old)) []) (at_itself time)

    past_first : (t : ℕ) → t ≢ time → changes_at ((time, taken) ∷ old) t ≡ changes_at old t
    past_first t differ = ap (λ b. unwrap_or (cond b (Some taken) (lookup (is_at (nat_cmp t)) old)) []) (not_at t differ)

    later_only : (t : ℕ) (x : Change) → Contains (changes_at old t) x → time < t
    later_only t x there = by (lookup (is_at (nat_cmp t)) old) refl there
      where
        by : (o : Option (List Change)) → lookup (is_at (nat_cmp t)) old ≡ o → Contains (unwrap_or o []) x → time < t
        by None is h = absurd (omega (arith, h.1))
        by (Some cs) is h = All-contains (λ k. time < k) (keys_of old) t rising (found_key old t (ap is_some is))

    -- nothing is busy in between
    pub none_between : (course : Course) (net b : ℕ) → IsOn inputs schedule.courses course net → now < b → b < time → b ≤ schedule.stop → is_busy course b ≡ true → ⊥
    none_between course net b on after before within busy =
        let n = first_busy course now b after busy in
        let sooner : n.0 < time = omega (arith, n.2, before) in
        let differ : n.0 ≢ time = λ e. omega (arith, e, sooner) in
        let there = waits.due course net n.0 on n.1 (omega (arith, n.2, within)) n.3 in
        let late = later_only n.0 (net, value_at inputs schedule net n.0) (subst (λ cs. Contains cs (net, value_at inputs schedule net n.0)) (past_first n.0 differ) there) in
        omega (arith, late, sooner)

    still_next : (course : Course) (t : ℕ) → IsNext course now t → IsNext course time t
    still_next course t next = (next.0, λ between l s busy. next.1 between (omega (arith, later, l)) s busy)

    -- an input that is busy at the time has nothing waiting
    pub busy_free : (place : ℕ) → place < length inputs → is_busy (course_in schedule place) time ≡ true → IsFree old (nets_of (input_at inputs place))
    busy_free place within busy t x there has =
        let after = later_only t x there in
        let differ : t ≢ time = λ e. omega (arith, e, after) in
        let was = waits.only t x (subst (λ cs. Contains cs x) (sym (past_first t differ)) there) in
        let at = place_of was.0 x.0 was.1 in
        let same : at.0 ≡ place =
        ⊎_elim (λ before. absurd (nets_apart inputs at.0 place x.0 own before within at.3 has))
        (λ not_before. ⊎_elim (λ e. sym e) (λ behind. absurd (nets_apart inputs place at.0 x.0 own behind at.1 has at.3)) (eq-or-lt_of_le not_before))
        (cases_lt at.0 place) in
        let course : was.0 ≡ course_in schedule place = sym at.2 ∙ ap (course_in schedule) same in
        let next = subst (λ k. IsNext k now t) course was.4 in
        next.1 time later after busy

    pushed_only : (places : ℕ) → places ≤ length inputs → (t : ℕ) (x : Change) → Contains (gathered (busy_pushes inputs schedule time) (range_with_len 0 places)) (t, x) → IsDue inputs schedule time t x
    pushed_only places all t x pushed =
        let from = gathered_from (busy_pushes inputs schedule time) (range_with_len 0 places) (t, x) pushed in
        by from.0 from.1 (is_busy (course_in schedule from.0) time) from.2
      where
        by : (place : ℕ) → Contains (range_with_len 0 places) place → (b : Bool) → Contains (cond b (place_pushes inputs schedule time place) []) (t, x) → IsDue inputs schedule time t x
        by place among true h =
            let below = range_below places place among in
            let within : place < length inputs = omega (arith, below, all) in
            let is = pushed_is time place t x within h in
            let when = due_later (course_in schedule place) time schedule.stop t is.0 in
            (course_in schedule place, is_on place x.0 within is.1, when.0, when.1, when.2, is.2)
        by place among false h = absurd (omega (arith, h.1))

    -- what waited, or is pushed of busy inputs, is due after the time
    only_from : (places : ℕ) → places ≤ length inputs → (t : ℕ) (x : Change) → Contains (changes_at old t) x ⊎ Contains (gathered (busy_pushes inputs schedule time) (range_with_len 0 places)) (t, x)
        → IsDue inputs schedule time t x
    only_from places all t x from =
        ⊎_elim (λ stayed.
        let after = later_only t x stayed in
        let differ : t ≢ time = λ e. omega (arith, e, after) in
        let was = waits.only t x (subst (λ cs. Contains cs x) (sym (past_first t differ)) stayed) in
        (was.0, was.1, after, was.3, still_next was.0 t was.4, was.5))
        (λ pushed. pushed_only places all t x pushed) from

    -- where memory is refused at one of the first places
    pub refilled_partly : (new : List (ℕ × List Change)) (places : ℕ) → places ≤ length inputs → AddsSome old new (gathered (busy_pushes inputs schedule time) (range_with_len 0 places))
        → ((t : ℕ) → IsOneEach (changes_at new t)) → WaitsPartly inputs schedule time old new
    refilled_partly new places all some once = record {
      kept = some.kept;
      due = λ t x there. only_from places all t x (some.pushed t x there);
      once = once;
    }

    module _ (new : List (ℕ × List Change)) (adds : AddsTo old new (gathered (busy_pushes inputs schedule time) (range_with_len 0 (length inputs)))) where
      stays : (course : Course) (net t : ℕ) → IsOn inputs schedule.courses course net → time < t → t ≤ schedule.stop → IsNext course now t → Contains (changes_at new t) (net, value_at inputs schedule net t)
      stays course net t on after within next =
          let differ : t ≢ time = λ e. omega (arith, e, after) in
          (adds t (net, value_at inputs schedule net t)).1 (inl (subst (λ cs. Contains cs (net, value_at inputs schedule net t)) (past_first t differ)
          (waits.due course net t on (omega (arith, later, after)) within next)))

      comes : (course : Course) (net t : ℕ) → IsOn inputs schedule.courses course net → time < t → t ≤ schedule.stop → IsNext course time t → Contains (changes_at new t) (net, value_at inputs schedule net t)
      comes course net t on after within next = by (is_busy course time) refl
        where
          by : (b : Bool) → is_busy course time ≡ b → Contains (changes_at new t) (net, value_at inputs schedule net t)
          by true is =
              let at = place_of course net on in
              let change : Change = (net, value_at inputs schedule net t) in
              let pushed = pushed_has time at.0 net t at.1 at.3 (subst (λ k. Contains (due k time schedule.stop) t) (sym at.2) (due_has course time schedule.stop t after within next)) in
              let active : is_busy (course_in schedule at.0) time ≡ true = ap (λ k. is_busy k time) at.2 ∙ is in
              let there : Contains (busy_pushes inputs schedule time at.0) (t, change) =
              subst (λ b. Contains (cond b (place_pushes inputs schedule time at.0) []) (t, change)) (sym active) pushed in
              (adds t change).1 (inr (gathered_has (busy_pushes inputs schedule time) (range_with_len 0 (length inputs)) at.0 (t, change) (in_range (length inputs) at.0 at.1) there))
          by false is =
              stays course net t on after within (
                next.0,
                λ between l s busy.
                    ⊎_elim (λ before. none_between course net between on l before (omega (arith, s, within)) busy)
                    (λ not_before. ⊎_elim (λ e. let off = ap (is_busy course) e in cc) (λ behind. next.1 between behind s busy) (eq-or-lt_of_le not_before))
                    (cases_lt between time),
              )

      pub refilled : Waits inputs schedule time new
      refilled = record { due = comes; only = λ t x there. only_from (length inputs) (omega arith) t x ((adds t x).0 there) }
