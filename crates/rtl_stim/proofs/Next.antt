-- The least time that waits is the next moment.
use Rattle.std.proofs.Common.{◌≡◌, ◌≢◌, ℕ, suc, zero, ◌<◌, ◌≤◌, Bool, true, false, List, [], ◌∷◌, length, min, pred, get_or, Option, Some, None, ⊎_elim, inl, inr, refl, sym, ap, subst, ◌∙◌, arith}
use Rattle.std.specs.Prelude.{◌⊎◌, Contains, All, ◌||◌, ◌==◌, slice_index, slice_set, unwrap_or}
use Rattle.std.specs.Option.{is_some}
use Rattle.std.specs.Ordering.{nat_cmp}
use Rattle.std.specs.List.{list_any}
use Rattle.std.specs.List.Sorted.{IsStrictlyIncreasing}
use Rattle.std.specs.Map.{lookup, keys_of, values_of}
use Rattle.std.specs.BTreeMap.{is_at}
use Rattle.std.proofs.lemmas.List.{get_or-set_same, get_or-set_other}
use Rattle.std.proofs.Math.ListN.{length-set}
use Rattle.std.proofs.lemmas.Bool.{cases_eq}
use Rattle.std.proofs.lemmas.Bool.Decides.{nat_tests}
use Rattle.std.proofs.Math.Nat.{eq-or-lt_of_le}
use Rattle.std.proofs.lemmas.List.{length-map}
use Rattle.std.proofs.lemmas.List.Elements.{All-get_or, All-head, Contains-get_or, Contains-append_cases}
use Rattle.std.proofs.lemmas.List.Kept.{AllPairs-from_increasing}
use Rattle.std.proofs.lemmas.Map.Entries.{lookup_head}
use Rattle.vhdl_values.specs.declared.scalar.Nine.{Nine}
use Rattle.vhdl_values.specs.declared.scalar.Nine.TheVariants.{U}
use Rattle.vhdl_values.specs.Scalar.{code_of}
use Rattle.rtl_model.specs.simulation.Cycle.{with_changes}
use Rattle.rtl_agenda.specs.Agenda.{Change, changes_at}
use Rattle.rtl_stim_lines.specs.Inputs.{Input, Element, input_at, no_input}
use Rattle.rtl_stim_lines.specs.Courses.{Course, Sets, is_busy}
use Rattle.rtl_stim_lines.specs.Reading.{Schedule}
use Rattle.rtl_stim_lines.specs.Times.{nets_of, all_nets, value_at, is_moment}
use Rattle.rtl_stim_lines.specs.Filling.{HaveOwnNets, IsOn, IsNext, Waits}
use Rattle.rtl_stim_lines.specs.View.{course_in}
use Rattle.rtl_stim.specs.Stimuli.{moments, code_at}
use Rattle.rtl_stim.specs.Moments.{EachMomentFollows, EachBeginsAtZero, coded}
use Rattle.rtl_stim.proofs.Values.{first_or_later, value_there}
use Rattle.rtl_stim.proofs.Places.{input_there, among_all}
use Rattle.rtl_stim.proofs.Due.{found_key, at_itself, first_busy}
use Rattle.rtl_stim.proofs.Awaiting.{place_of, is_on, course_there, element_of_net}
use Rattle.rtl_stim.proofs.Unchanged.{same_value}
use Rattle.rtl_stim.proofs.MomentLists.{next_at, last_at, first_at}

-- ---- tests

pub any_from : {X : Type 0} (p : X → Bool) (xs : List X) (d : X) → list_any p xs ≡ true → (k : ℕ) × (k < length xs) × (p (get_or xs k d) ≡ true)
any_from p [] d h = cc
any_from {X} p (x ∷ xs) d h = by (p x) refl h (λ later. any_from p xs d later)
  where
    by : (b : Bool) → p x ≡ b → (b || list_any p xs) ≡ true → (list_any p xs ≡ true → (k : ℕ) × (k < length xs) × (p (get_or xs k d) ≡ true))
        → (k : ℕ) × (k < length (x ∷ xs)) × (p (get_or (x ∷ xs) k d) ≡ true)
    by true is h rest = (0, omega arith, is)
    by false is h rest = let r = rest h in (suc r.0, omega (arith, r.1), r.2)

pub any_has : {X : Type 0} (p : X → Bool) (xs : List X) (k : ℕ) (d : X) → k < length xs → p (get_or xs k d) ≡ true → list_any p xs ≡ true
any_has p [] k d within is = absurd (omega (arith, within))
any_has p (x ∷ xs) zero d within is = ap (λ b. b || list_any p xs) is
any_has p (x ∷ xs) (suc k) d within is = by (p x) (any_has p xs k d (omega (arith, within)) is)
  where
    by : (b : Bool) → list_any p xs ≡ true → (b || list_any p xs) ≡ true
    by true h = refl
    by false h = h

moment_busy : (schedule : Schedule) (t : ℕ) → 0 < t → is_moment schedule t ≡ true → list_any (λ course. is_busy course t) schedule.courses ≡ true
moment_busy schedule t some is = let e : (t == 0) ≡ false = grind (arith, nat_tests) in sym (ap (λ b. b || list_any (λ course. is_busy course t) schedule.courses) e) ∙ is

busy_moment : (schedule : Schedule) (t : ℕ) → list_any (λ course. is_busy course t) schedule.courses ≡ true → is_moment schedule t ≡ true
busy_moment schedule t busy = by (t == 0)
  where
    by : (b : Bool) → (b || list_any (λ course. is_busy course t) schedule.courses) ≡ true
    by true = refl
    by false = busy

-- ---- changes

-- a net whose changes all have one value gets it, or has it where there is no change
changed_is : (cs : List (ℕ × ℕ)) (old : List ℕ) (n w : ℕ) → n < length old → ((x : ℕ) → Contains cs (n, x) → x ≡ w)
    → ((x : ℕ) × Contains cs (n, x)) ⊎ (slice_index old n ≡ w) → with_changes cs old n ≡ w
changed_is [] old n w within same either = ⊎_elim (λ there. absurd (omega (arith, there.1.1))) (λ h. h) either
changed_is ((k, v) ∷ cs) old n w within same either =
    ⊎_elim (λ e. changed_is cs (slice_set old k v) n w inside rest (inr (there_same e))) (λ differ. changed_is cs (slice_set old k v) n w inside rest (there_other differ)) (cases_eq k n)
  where
    inside : n < length (slice_set old k v)
    inside = omega (arith, length-set old k v, within)

    rest : (x : ℕ) → Contains cs (n, x) → x ≡ w
    rest x there = same x (suc there.0, omega (arith, there.1), there.2)

    there_same : k ≡ n → slice_index (slice_set old k v) n ≡ w
    there_same e =
        let value : v ≡ w = same v (0, omega arith, ap (λ (m : ℕ). let p : ℕ × ℕ = (m, v) in p) e) in
        ap (λ m. slice_index (slice_set old m v) n) e ∙ get_or-set_same old n v 0 within ∙ value

    there_other : k ≢ n → ((x : ℕ) × Contains cs (n, x)) ⊎ (slice_index (slice_set old k v) n ≡ w)
    there_other differ = ⊎_elim
        (λ there. first_or_later (k, v) (n, there.0) cs there.1 (((x : ℕ) × Contains cs (n, x)) ⊎ (slice_index (slice_set old k v) n ≡ w))
        (λ e. absurd (differ (ap (λ (p : ℕ × ℕ). p.0) e))) (λ later. inl (there.0, later)))
        (λ is. inr (get_or-set_other old k n v 0 (λ e. differ (sym e)) ∙ is)) either

coded_from : (cs : List Change) (n x : ℕ) → Contains (coded cs) (n, x) → (v : Nine) × Contains cs (n, v) × (x ≡ code_of v)
coded_from [] n x there = absurd (omega (arith, there.1))
coded_from ((m, u) ∷ cs) n x there =
    first_or_later (m, code_of u) (n, x) (coded cs) there ((v : Nine) × Contains ((m, u) ∷ cs) (n, v) × (x ≡ code_of v))
    (λ e. (u, (0, omega arith, ap (λ (p : ℕ × ℕ). let c : Change = (p.0, u) in c) e), sym (ap (λ (p : ℕ × ℕ). p.1) e)))
    (λ later. let h = coded_from cs n x later in (h.0, (suc h.1.0, omega (arith, h.1.1), h.1.2), h.2))

coded_has : (cs : List Change) (n : ℕ) (v : Nine) → Contains cs (n, v) → Contains (coded cs) (n, code_of v)
coded_has [] n v there = absurd (omega (arith, there.1))
coded_has (c ∷ cs) n v there =
    first_or_later c (n, v) cs there (Contains (coded (c ∷ cs)) (n, code_of v))
    (λ e. (0, omega arith, ap (λ (d : Change). let p : ℕ × ℕ = (d.0, code_of d.1) in p) e))
    (λ later. let h = coded_has cs n v later in (suc h.0, omega (arith, h.1), h.2))

has_change : (cs : List Change) (n : ℕ) → ((v : Nine) × Contains cs (n, v)) ⊎ ((v : Nine) → Contains cs (n, v) → ⊥)
has_change [] n = inr (λ v there. omega (arith, there.1))
has_change ((m, u) ∷ cs) n =
    ⊎_elim (λ e. inl (u, (0, omega arith, ap (λ (k : ℕ). let c : Change = (k, u) in c) e)))
    (λ differ. ⊎_elim (λ some. inl (some.0, (suc some.1.0, omega (arith, some.1.1), some.1.2)))
    (λ none. inr (λ v there. first_or_later (m, u) (n, v) cs there ⊥ (λ e. differ (ap (λ (c : Change). c.0) e)) (λ others. none v others))) (has_change cs n))
    (cases_eq m n)

-- ---- what waits

key_of_change : (waiting : List (ℕ × List Change)) (t : ℕ) (x : Change) → Contains (changes_at waiting t) x → Contains (keys_of waiting) t
key_of_change waiting t x there = by (lookup (is_at (nat_cmp t)) waiting) refl there
  where
    by : (o : Option (List Change)) → lookup (is_at (nat_cmp t)) waiting ≡ o → Contains (unwrap_or o []) x → Contains (keys_of waiting) t
    by None is h = absurd (omega (arith, h.1))
    by (Some cs) is h = found_key waiting t (ap is_some is)

module _ (inputs : List Input) (schedule : Schedule) (own : HaveOwnNets inputs) (each : length schedule.courses ≡ length inputs) (wide : All (λ input. 1 ≤ length input.elements) inputs)
    (now : ℕ) (waiting : List (ℕ × List Change)) (waits : Waits inputs schedule now waiting) where
  -- where a course is busy later, some time waits that is no later
  waits_by : (place b : ℕ) → place < length inputs → now < b → b ≤ schedule.stop → is_busy (course_in schedule place) b ≡ true
      → (t : ℕ) × (now < t) × (t ≤ b) × Contains (keys_of waiting) t
  waits_by place b within after sooner busy = by (course_in schedule place) (is_on inputs schedule own each place net within has) busy
    where
      elements : List Element
      elements = (input_at inputs place).elements

      some : 1 ≤ length (nets_of (input_at inputs place))
      some = omega (arith, length-map elements (λ (e : Element). e.net), All-get_or (λ input. 1 ≤ length input.elements) inputs place no_input within wide)

      net : ℕ
      net = get_or (nets_of (input_at inputs place)) 0 0

      has : Contains (nets_of (input_at inputs place)) net
      has = Contains-get_or (nets_of (input_at inputs place)) 0 0 some

      by : (course : Course) → IsOn inputs schedule.courses course net → is_busy course b ≡ true → (t : ℕ) × (now < t) × (t ≤ b) × Contains (keys_of waiting) t
      by course on is =
          let n = first_busy course now b after is in
          let there = waits.due course net n.0 on n.1 (omega (arith, n.2, sooner)) n.3 in
          (n.0, n.1, n.2, key_of_change waiting n.0 (net, value_at inputs schedule net n.0) there)

  moment_waits : (b : ℕ) → now < b → b ≤ schedule.stop → is_moment schedule b ≡ true → (t : ℕ) × (now < t) × (t ≤ b) × Contains (keys_of waiting) t
  moment_waits b after sooner is =
      let busy = any_from (λ course. is_busy course b) schedule.courses (Sets []) (moment_busy schedule b (omega (arith, after)) is) in
      waits_by busy.0 b (omega (arith, each, busy.1)) after sooner busy.2

  pub none_waits : waiting ≡ [] → (b : ℕ) → now < b → b ≤ schedule.stop → is_moment schedule b ≡ false
  none_waits empty b after sooner = by (is_moment schedule b) refl
    where
      by : (r : Bool) → is_moment schedule b ≡ r → r ≡ false
      by true is = let w = moment_waits b after sooner is in let none = subst (λ ws. Contains (keys_of ws) w.0) empty w.3 in absurd (omega (arith, none.1))
      by false is = refl

  next_busy : (course : Course) (t : ℕ) → IsNext course now t → is_busy course t ≡ true
  next_busy course t next = next.0

  module _ (t : ℕ) (taken : List Change) (rest : List (ℕ × List Change)) (is : waiting ≡ (t, taken) ∷ rest) (rising : IsStrictlyIncreasing (keys_of waiting))
      (filled : All (λ changes. 0 < length changes) (values_of waiting)) where
    at_head : changes_at waiting t ≡ taken
    at_head = ap (λ ws. changes_at ws t) is ∙ ap (λ o. unwrap_or o []) (lookup_head (is_at (nat_cmp t)) (t, taken) rest (at_itself t))

    head_least : (k : ℕ) → Contains (keys_of waiting) k → t ≤ k
    head_least k there =
        let at = subst (λ ws. Contains (keys_of ws) k) is there in
        let rise = AllPairs-from_increasing (t ∷ keys_of rest) (subst (λ ws. IsStrictlyIncreasing (keys_of ws)) is rising) in
        by at.0 at.1 at.2 rise
      where
        by : (i : ℕ) → i < length (t ∷ keys_of rest) → get_or (t ∷ keys_of rest) i k ≡ k → ((i j d : ℕ) → i < j → j < length (t ∷ keys_of rest) → get_or (t ∷ keys_of rest) i d < get_or (t ∷ keys_of rest) j d) → t ≤ k
        by zero within e rise = omega (arith, e)
        by (suc i) within e rise = let h = rise 0 (suc i) k (omega arith) within in omega (arith, h, e)

    change_is : (x : Change) → Contains taken x → (course : Course) × IsOn inputs schedule.courses course x.0 × (now < t) × (t ≤ schedule.stop) × IsNext course now t
        × (x.1 ≡ value_at inputs schedule x.0 t)
    change_is x there = waits.only t x (subst (λ cs. Contains cs x) (sym at_head) there)

    some_change : 0 < length taken
    some_change = All-head (λ changes. 0 < length changes) taken (values_of rest) (subst (λ ws. All (λ changes. 0 < length changes) (values_of ws)) is filled)

    abbrev first_change : Change
    first_change = get_or taken 0 (0, U)

    first_is : (course : Course) × IsOn inputs schedule.courses course first_change.0 × (now < t) × (t ≤ schedule.stop) × IsNext course now t
        × (first_change.1 ≡ value_at inputs schedule first_change.0 t)
    first_is = change_is first_change (Contains-get_or taken 0 (0, U) some_change)

    pub later : now < t
    later = first_is.2

    pub within : t ≤ schedule.stop
    within = first_is.3

    pub busy : is_moment schedule t ≡ true
    busy =
        let at = place_of inputs schedule own each first_is.0 first_change.0 first_is.1 in
        busy_moment schedule t (any_has (λ course. is_busy course t) schedule.courses at.0 (Sets []) (omega (arith, each, at.1))
        (ap (λ k. is_busy k t) at.2 ∙ next_busy first_is.0 t first_is.4))

    pub none_between : (b : ℕ) → now < b → b < t → is_moment schedule b ≡ false
    none_between b after before = by (is_moment schedule b) refl
      where
        by : (r : Bool) → is_moment schedule b ≡ r → r ≡ false
        by true h =
            let w = moment_waits b after (omega (arith, before, within)) h in
            let least = head_least w.0 w.3 in
            absurd (omega (arith, least, w.2, before))
        by false h = refl

    pub of_inputs : All (λ c. Contains (all_nets inputs) c.0) taken
    of_inputs k d inside =
        let x = get_or taken k d in
        let on = change_is x (Contains-get_or taken k d inside) in
        let at = place_of inputs schedule own each on.0 x.0 on.1 in
        among_all inputs at.0 x.0 at.1 at.3

    -- an input that isn't changed keeps its value
    unchanged : (n : ℕ) → Contains (all_nets inputs) n → ((v : Nine) → Contains taken (n, v) → ⊥) → value_at inputs schedule n t ≡ value_at inputs schedule n now
    unchanged n among none =
        let at = place_among inputs n among in
        let input = input_at inputs at.0 in
        let course = course_in schedule at.0 in
        let el = element_of_net input.elements n at.2 in
        let on = is_on inputs schedule own each at.0 n at.1 at.2 in
        let idle : (b : ℕ) → now < b → b ≤ t → is_busy course b ≡ false = λ b after sooner. idle_at course at.0 n at.1 refl on none b after sooner in
        let value = λ (s : ℕ). value_there inputs schedule.courses at.0 el.0 s input course el.1 own (input_there inputs at.0 at.1) (course_there inputs schedule own each at.0 at.1) el.2 in
        ap (λ m. value_at inputs schedule m t) (sym el.3) ∙ value t ∙ same_value course el.0 el.1.start now t (omega (arith, later)) idle ∙ sym (value now) ∙ ap (λ m. value_at inputs schedule m now) el.3
      where
        idle_by : (course : Course) (place m : ℕ) → course_in schedule place ≡ course → IsOn inputs schedule.courses course m → place < length inputs
            → ((v : Nine) → Contains taken (m, v) → ⊥) → (b : ℕ) → now < b → b ≤ t → is_busy course b ≡ true → ⊥
        idle_by course place m same on inside none b after sooner active =
            ⊎_elim (λ e. none (value_at inputs schedule m t) (subst (λ cs. Contains cs (m, value_at inputs schedule m t)) at_head
            (waits.due course m t on later within (busy_next course t (subst (λ s. is_busy course s ≡ true) e active) (λ c l s. idle_before course place same inside c l s)))))
            (λ before. idle_before course place same inside b after before active) (eq-or-lt_of_le sooner)
          where
            idle_before : (course : Course) (place : ℕ) → course_in schedule place ≡ course → place < length inputs → (c : ℕ) → now < c → c < t → is_busy course c ≡ true → ⊥
            idle_before course place same inside c l s active =
                let w = waits_by place c inside l (omega (arith, s, within)) (ap (λ k. is_busy k c) same ∙ active) in
                let least = head_least w.0 w.3 in
                omega (arith, least, w.2, s)

            busy_next : (course : Course) (s : ℕ) → is_busy course s ≡ true → ((c : ℕ) → now < c → c < s → is_busy course c ≡ true → ⊥) → IsNext course now s
            busy_next course s active none = (active, none)

        idle_at : (course : Course) (place m : ℕ) → place < length inputs → course_in schedule place ≡ course → IsOn inputs schedule.courses course m
            → ((v : Nine) → Contains taken (m, v) → ⊥) → (b : ℕ) → now < b → b ≤ t → is_busy course b ≡ false
        idle_at course place m inside same on none b after sooner = by (is_busy course b) refl
          where
            by : (r : Bool) → is_busy course b ≡ r → r ≡ false
            by true active = absurd (idle_by course place m same on inside none b after sooner active)
            by false active = refl

        place_among : (inputs : List Input) (n : ℕ) → Contains (all_nets inputs) n → (place : ℕ) × (place < length inputs) × Contains (nets_of (input_at inputs place)) n
        place_among [] n there = absurd (omega (arith, there.1))
        place_among (x ∷ inputs) n there =
            ⊎_elim (λ here. (0, omega arith, here)) (λ others. let h = place_among inputs n others in (suc h.0, omega (arith, h.1), h.2)) (Contains-append_cases (nets_of x) (all_nets inputs) n there)

    pub lead : (values : List ℕ) (n : ℕ) → n < length values → Contains (all_nets inputs) n → slice_index values n ≡ code_of (value_at inputs schedule n now)
        → with_changes (coded taken) values n ≡ code_of (value_at inputs schedule n t)
    lead values n inside among same =
        changed_is (coded taken) values n (code_of (value_at inputs schedule n t)) inside
        (λ x there. let c = coded_from taken n x there in c.2 ∙ ap code_of (change_is (n, c.0) c.1).5)
        (by taken refl)
      where
        by : (cs : List Change) → taken ≡ cs → ((x : ℕ) × Contains (coded taken) (n, x)) ⊎ (slice_index values n ≡ code_of (value_at inputs schedule n t))
        by cs e =
            ⊎_elim (λ some. inl (code_of some.0, coded_has taken n some.0 some.1)) (λ none. inr (same ∙ ap code_of (sym (unchanged n among none)))) (has_change taken n)

-- ---- the laws

pub each_begins_at_zero : EachBeginsAtZero
each_begins_at_zero s = first_at (is_moment s.schedule) s.schedule.stop refl

pub each_moment_follows : EachMomentFollows
each_moment_follows s state m is orderly there waits =
    let now = slice_index (moments s) m in
    let clamp : min m (pred (length (moments s))) ≡ m = omega (arith, there) in
    record {
      next = λ t changes rest head.
          let w = later s.inputs s.schedule is.own_nets is.each_course is.have_elements now state.waiting waits t changes rest head orderly.rising orderly.filled in
          let b = within s.inputs s.schedule is.own_nets is.each_course is.have_elements now state.waiting waits t changes rest head orderly.rising orderly.filled in
          let on = busy s.inputs s.schedule is.own_nets is.each_course is.have_elements now state.waiting waits t changes rest head orderly.rising orderly.filled in
          let none = none_between s.inputs s.schedule is.own_nets is.each_course is.have_elements now state.waiting waits t changes rest head orderly.rising orderly.filled in
          let at = next_at (is_moment s.schedule) s.schedule.stop m now t there refl w b on none in
          let clamp' : min (suc m) (pred (length (moments s))) ≡ suc m = omega (arith, at.0) in
          record {
            there = at.0;
            is = at.1;
            of_inputs = of_inputs s.inputs s.schedule is.own_nets is.each_course is.have_elements now state.waiting waits t changes rest head orderly.rising orderly.filled;
            lead = λ values n inside among same.
                lead s.inputs s.schedule is.own_nets is.each_course is.have_elements now state.waiting waits t changes rest head orderly.rising orderly.filled values n inside among
                (same ∙ ap (λ k. code_at s (slice_index (moments s) k) n) clamp)
                ∙ sym (ap (λ k. code_at s (slice_index (moments s) k) n) clamp' ∙ ap (λ u. code_at s u n) at.1);
          };
      last = λ empty. last_at (is_moment s.schedule) s.schedule.stop m now there refl
          (none_waits s.inputs s.schedule is.own_nets is.each_course is.have_elements now state.waiting waits empty);
    }
