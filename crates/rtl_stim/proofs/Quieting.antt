-- The times at which inputs change, one input more at a time.
use Rattle.std.proofs.Common.{◌≡◌, ℕ, ◌+◌, ◌-◌, ◌<◌, ◌≤◌, Bool, true, false, cond, List, [], ◌∷◌, ◌++◌, length, take, ⊎_elim, inl, inr, refl, sym, ap, subst, ◌∙◌, arith, append-nil}
use Rattle.std.specs.Prelude.{◌⊎◌, Contains, All, slice_index}
use Rattle.std.specs.BTreeMap.{is_at}
use Rattle.std.specs.BTreeSet.{BTreeSet, contains, Updates}
use Rattle.std.specs.Ordering.{nat_cmp}
use Rattle.std.proofs.Math.Nat.{eq-or-lt_of_le}
use Rattle.std.proofs.lemmas.Bool.{cases_lt}
use Rattle.std.proofs.lemmas.Bool.Decides.{nat_tests}
use Rattle.std.proofs.lemmas.List.{get_or_default, take_all, take_more}
use Rattle.std.proofs.lemmas.List.Elements.{Contains-append_cases, Contains-append_left, Contains-append_right, Contains-get_or, All-contains}
use Rattle.vhdl_values.specs.Scalar.{code_of}
use Rattle.rtl_model.specs.simulation.Netlist.{Edge}
use Rattle.rtl_stim_lines.specs.Inputs.{Input, input_at, no_input}
use Rattle.rtl_stim_lines.specs.Courses.{is_busy}
use Rattle.rtl_stim_lines.specs.Times.{nets_of, all_nets, value_at}
use Rattle.rtl_stim_lines.specs.View.{course_in}
use Rattle.rtl_stim.specs.Stimuli.{StimulusView}
use Rattle.rtl_stim.specs.Moments.{IsStimulus}
use Rattle.rtl_stim.specs.Quiet.{IsNoClock, IsQuietAt, IsChangedAt, HasNoneHere, Changes, IsAmong, HasAdded, AreChanges, AreFree, HasSearched}
use Rattle.rtl_stim.proofs.Values.{value_there}
use Rattle.rtl_stim.proofs.Courses.{all_nets-append}
use Rattle.rtl_stim.proofs.Places.{input_there}
use Rattle.rtl_stim.proofs.Awaiting.{course_there, element_of_net}
use Rattle.rtl_stim.proofs.Unchanged.{same_value}

-- ---- the nets of an input among those of all

module _ (inputs : List Input) (i : ℕ) (within : i < length inputs) where
  pub nets_more : all_nets (take (i + 1) inputs) ≡ all_nets (take i inputs) ++ nets_of (input_at inputs i)
  nets_more =
      ap all_nets (take_more inputs i no_input within) ∙ all_nets-append (take i inputs) (input_at inputs i ∷ [])
      ∙ ap (λ ns. all_nets (take i inputs) ++ ns) (append-nil (nets_of (input_at inputs i)))

-- ---- a time that is inserted

at_equal : (x t : ℕ) → is_at (nat_cmp x) t ≡ true → t ≡ x
at_equal x t e = grind (arith, nat_tests)

keeps : (mid new : BTreeSet ℕ) (x : ℕ) → Updates nat_cmp mid new x true → (t : ℕ) → IsAmong mid t → IsAmong new t
keeps mid new x updates t there = updates.0 t ∙ by (is_at (nat_cmp x) t)
  where
    by : (b : Bool) → cond b true (contains nat_cmp mid t) ≡ true
    by true = refl
    by false = there

adds : (mid new : BTreeSet ℕ) (x : ℕ) → Updates nat_cmp mid new x true → (t : ℕ) → IsAmong new t → IsAmong mid t ⊎ (t ≡ x)
adds mid new x updates t there = by (is_at (nat_cmp x) t) refl (sym (updates.0 t) ∙ there)
  where
    by : (b : Bool) → is_at (nat_cmp x) t ≡ b → cond b true (contains nat_cmp mid t) ≡ true → IsAmong mid t ⊎ (t ≡ x)
    by true e h = inr (at_equal x t e)
    by false e h = inl h

module _ (s : StimulusView) (clocks : List (ℕ × Edge)) where
  -- an input that isn't busy
  pub place_quiet : IsStimulus s → (place b : ℕ) → place < length s.inputs → 0 < b → is_busy (course_in s.schedule place) b ≡ false → IsQuietAt s clocks (nets_of (input_at s.inputs place)) b
  place_quiet is place b within some idle n has none =
      let course = course_in s.schedule place in
      let input = input_at s.inputs place in
      let el = element_of_net input.elements n has in
      let value = λ (t : ℕ). value_there s.inputs s.schedule.courses place el.0 t input course el.1 is.own_nets (input_there s.inputs place within)
      (course_there s.inputs s.schedule is.own_nets is.each_course place within) el.2 in
      let stays = same_value course el.0 el.1.start (b - 1) b (omega arith) (λ c l w. let e : c ≡ b = omega (arith, l, w, some) in ap (is_busy course) e ∙ idle) in
      ap code_of (ap (λ m. value_at s.inputs s.schedule m (b - 1)) (sym el.3) ∙ value (b - 1) ∙ sym stays ∙ sym (value b) ∙ ap (λ m. value_at s.inputs s.schedule m b) el.3)

  no_change : IsStimulus s → (place b : ℕ) → place < length s.inputs → 0 < b → is_busy (course_in s.schedule place) b ≡ false → Changes s clocks (nets_of (input_at s.inputs place)) b → ⊥
  no_change is place b within some idle (n, has, changed) = changed.1 (place_quiet is place b within some idle n has changed.0)

  -- ---- times that are added

  -- up to a later time, where what changes in between is added
  pub added_on : (nets : List ℕ) (from now last : ℕ) (old mid new : BTreeSet ℕ) → HasAdded s clocks nets from now old mid → ((t : ℕ) → IsAmong mid t → IsAmong new t)
      → ((t : ℕ) → now < t → t ≤ last → Changes s clocks nets t → IsAmong new t) → ((t : ℕ) → IsAmong new t → IsAmong mid t ⊎ Changes s clocks nets t)
      → HasAdded s clocks nets from last old new
  added_on nets from now last old mid new so_far kept each only = record {
    kept = λ t there. kept t (so_far.kept t there);
    each = λ t after le changes. ⊎_elim (λ behind. each t behind le changes) (λ past. kept t (so_far.each t after past changes)) (cases_lt now t);
    only = λ t there. ⊎_elim (λ before. so_far.only t before) (λ changes. inr changes) (only t there);
  }

  module _ (is : IsStimulus s) (place from now next : ℕ) (within : place < length s.inputs) (old mid : BTreeSet ℕ)
      (so_far : HasAdded s clocks (nets_of (input_at s.inputs place)) from now old mid) where
    abbrev here : List ℕ
    here = nets_of (input_at s.inputs place)

    -- up to where the input is busy next, and nothing changes
    pub added_none : ((b : ℕ) → now < b → b ≤ next → Changes s clocks here b → is_busy (course_in s.schedule place) b ≡ false) → HasAdded s clocks here from next old mid
    added_none idle =
        added_on here from now next old mid mid so_far (λ t there. there)
        (λ t after le changes. absurd (no_change is place t within (omega (arith, after)) (idle t after le changes) changes)) (λ t there. inl there)

    -- up to where the input is busy next and changes, and that time is added
    pub added_one : (new : BTreeSet ℕ) → ((b : ℕ) → now < b → b < next → is_busy (course_in s.schedule place) b ≡ false) → Changes s clocks here next
        → Updates nat_cmp mid new next true → HasAdded s clocks here from next old new
    added_one new idle changes updates =
        added_on here from now next old mid new so_far (keeps mid new next updates)
        (λ t after le changes_then. ⊎_elim (λ e. subst (IsAmong new) (sym e) updates.1)
        (λ before. absurd (no_change is place t within (omega (arith, after)) (idle t after before) changes_then)) (eq-or-lt_of_le le))
        (λ t there. ⊎_elim (λ before. inl before) (λ e. inr (subst (Changes s clocks here) (sym e) changes)) (adds mid new next updates t there))

  pub none_added : (nets : List ℕ) (from last : ℕ) (times : BTreeSet ℕ) → All (λ n. IsNoClock clocks n → ⊥) nets → HasAdded s clocks nets from last times times
  none_added nets from last times clocks_all = record {
    kept = λ t there. there;
    each = λ t after le changes. absurd (All-contains (λ m. IsNoClock clocks m → ⊥) nets changes.0 clocks_all changes.1 changes.2.0);
    only = λ t there. inl there;
  }

  -- ---- one input more

  pub changes_of_more : (i from last : ℕ) (old new : BTreeSet ℕ) → i < length s.inputs → AreChanges s clocks i from last old
      → HasAdded s clocks (nets_of (input_at s.inputs i)) from last old new → AreChanges s clocks (i + 1) from last new
  changes_of_more i from last old new within so_far added =
      let front = all_nets (take i s.inputs) in
      let here = nets_of (input_at s.inputs i) in
      let more = nets_more s.inputs i within in
      record {
        each = λ t after le changes.
            ⊎_elim (λ early. added.kept t (so_far.each t after le (changes.0, early, changes.2))) (λ late. added.each t after le (changes.0, late, changes.2))
            (Contains-append_cases front here changes.0 (subst (λ ns. Contains ns changes.0) more changes.1));
        only = λ t there.
            subst (λ ns. Changes s clocks ns t) (sym more)
            (⊎_elim (λ early. let changes = so_far.only t early in (changes.0, Contains-append_left front here changes.0 changes.1, changes.2))
            (λ changes. (changes.0, Contains-append_right front here changes.0 changes.1, changes.2)) (added.only t there));
      }

  -- ---- races

  module _ (from last past : ℕ) (times : BTreeSet ℕ) (changes : AreChanges s clocks (length s.inputs) from last times)
      (searched : HasSearched s clocks times last (length clocks) past) where
    all : all_nets (take (length s.inputs) s.inputs) ≡ all_nets s.inputs
    all = ap all_nets (take_all (length s.inputs) s.inputs (omega arith))

    pub free_before : AreFree s clocks from → (t : ℕ) → 0 < t → t < past → HasNoneHere s clocks (all_nets s.inputs) t
    free_before so_far t some less k j clock active there changed =
        let has : Contains (all_nets (take (length s.inputs) s.inputs)) (slice_index (all_nets s.inputs) j) =
        subst (λ ns. Contains ns (slice_index (all_nets s.inputs) j)) (sym all) (Contains-get_or (all_nets s.inputs) j 0 there) in
        ⊎_elim (λ after. searched.none t k some less clock active (changes.each t after (omega (arith, less, searched.within)) (slice_index (all_nets s.inputs) j, has, changed)))
        (λ early. so_far t some early k j clock active there changed) (cases_lt from t)

    pub some_here : past ≤ last → HasNoneHere s clocks (all_nets s.inputs) past → ⊥
    some_here in_time none =
        let found = searched.race in_time in
        let change = subst (λ ns. Changes s clocks ns past) all (changes.only past found.0) in
        let there = change.1 in
        let is : slice_index (all_nets s.inputs) there.0 ≡ change.0 = get_or_default (all_nets s.inputs) there.0 0 change.0 there.1 ∙ there.2 in
        none found.1.0 there.0 found.1.1 found.1.2 there.1 (subst (IsChangedAt s clocks past) (sym is) change.2)
