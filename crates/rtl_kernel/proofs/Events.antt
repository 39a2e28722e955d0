-- Groups that cover the events, as values change.
use Rattle.std.proofs.Common.{◌≡◌, ℕ, ◌+◌, ◌-◌, ◌<◌, ◌≤◌, true, false, not, List, length, get_or, set, sym, ap, subst, ◌∙◌, arith, ◌⊎◌, inl, inr}
use Rattle.std.specs.Prelude.{All, Contains}
use Rattle.std.specs.List.{between}
use Rattle.std.proofs.lemmas.Bool.{cases_eq, cases_lt, eq-eqb}
use Rattle.std.proofs.lemmas.List.{get_or-set_other, get_or_past, ext_get_or}
use Rattle.std.proofs.lemmas.List.Edits.{get_or-between, length-between}
use Rattle.std.proofs.lemmas.List.Elements.{All-contains, Contains-get_or}
use Rattle.rtl_net_groups.specs.Groups.{Grouping, AreNetsOf}
use Rattle.rtl_model.specs.basics.Valuations.{has_event}
use Rattle.rtl_model.proofs.simulation.Rows.{differs_event}
use Rattle.rtl_kernel.specs.worklists.Numbers.{Numbers, IsWith}
use Rattle.rtl_kernel.specs.values.TwoValues.{TwoValues, CoverEvents, HasEventIn, group_of}
use Rattle.rtl_net_groups.specs.Written.{IsOther, IsWritten}

-- a group that is put in is one more
covers_set-there : (P : ℕ → Type 0) (old new : Numbers) (group : ℕ) → All P old.members → P group → IsWith group old new → All P new.members
covers_set-there P old new group held holds W k d l = by (W.no_other (get_or new.members k d) (Contains-get_or new.members k d l))
  where
    by : Contains old.members (get_or new.members k d) ⊎ (get_or new.members k d ≡ group) → P (get_or new.members k d)
    by (inl h) = All-contains P old.members (get_or new.members k d) held h
    by (inr e) = subst P (sym e) holds

-- values are written to nets of one group
pub covers_written : (v : TwoValues) (old new : Numbers) (first group : ℕ) (values current : List ℕ) → group < length v.groups.listed
    → ((k : ℕ) → k < length values → group_of v (first + k) ≡ group) → IsWritten first values v.current current → CoverEvents v old.members
    → IsWith group old new → CoverEvents (record v { current = current }) new.members
covers_written v old new first group values current below together W C A = record {
  there = covers_set-there (λ g. g < length v.groups.listed) old new group C.there below A;
  events = λ n h. by n h (cases_lt n first) (cases_lt n (first + length values));
}
  where
    kept : (n : ℕ) → get_or current n 0 ≡ get_or v.current n 0 → has_event v.before current n ≡ true → Contains new.members (group_of v n)
    kept n same h = A.kept (group_of v n) (C.events n (rw same at h))

    by : (n : ℕ) → has_event v.before current n ≡ true → (n < first) ⊎ (first ≤ n) → (n < first + length values) ⊎ (first + length values ≤ n) → Contains new.members (group_of v n)
    by n h (inl low) _ = kept n (W.below n low) h
    by n h (inr from) (inr high) = kept n (W.behind n high) h
    by n h (inr from) (inl l) =
        let at : first + (n - first) ≡ n = omega (arith, from) in
        let own : group ≡ group_of v n = sym (together (n - first) (omega (arith, l, from))) ∙ ap (group_of v) at in
        subst (Contains new.members) own A.added

pub covers_set : (v : TwoValues) (old new : Numbers) (net value : ℕ) → group_of v net < length v.groups.listed → CoverEvents v old.members → IsWith (group_of v net) old new
    → CoverEvents (record v { current = set v.current net value }) new.members
covers_set v old new net value below C A = record {
  there = covers_set-there (λ g. g < length v.groups.listed) old new (group_of v net) C.there below A;
  events = λ n h. by n h (cases_eq n net);
}
  where
    by : (n : ℕ) → has_event v.before (set v.current net value) n ≡ true → (n ≡ net) ⊎ (n ≡ net → ⊥) → Contains new.members (group_of v n)
    by n h (inl e) = rw e A.added
    by n h (inr other) = A.kept (group_of v n) (C.events n (rw (get_or-set_other v.current net n value 0 other) at h))

-- values other than those that were there are written to nets of a group that had no event: each
-- group has one that had one, and so has this
pub sure_written : (v : TwoValues) (old new : Numbers) (first group : ℕ) (values current : List ℕ) → ((k : ℕ) → k < length values → group_of v (first + k) ≡ group)
    → first + length values ≤ length v.groups.of_net → IsWritten first values v.current current → IsOther first values v.current → CoverEvents v old.members
    → (Contains old.members group → ⊥) → IsWith group old new → All (HasEventIn v) old.members → All (HasEventIn (record v { current = current })) new.members
sure_written v old new first group values current together there W O C none A sure k d l =
    by (A.no_other (get_or new.members k d) (Contains-get_or new.members k d l))
  where
    -- the nets of other groups are as they were
    kept : (n : ℕ) → (group_of v n ≡ group → ⊥) → get_or current n 0 ≡ get_or v.current n 0
    kept n other = at (cases_lt n first) (cases_lt n (first + length values))
      where
        at : (n < first) ⊎ (first ≤ n) → (n < first + length values) ⊎ (first + length values ≤ n) → get_or current n 0 ≡ get_or v.current n 0
        at (inl low) _ = W.below n low
        at (inr from) (inr high) = W.behind n high
        at (inr from) (inl less) =
            let is : first + (n - first) ≡ n = omega (arith, from) in
            absurd (other (ap (group_of v) (sym is) ∙ together (n - first) (omega (arith, less, from))))

    event : has_event v.before current (first + O.place) ≡ true
    event = differs_event v.before current (first + O.place) (λ same. none (subst (Contains old.members) (together O.place O.there)
        (C.events (first + O.place) (differs_event v.before v.current (first + O.place) (λ was. O.differ (sym was ∙ same ∙ W.written O.place O.there))))))

    by : Contains old.members (get_or new.members k d) ⊎ (get_or new.members k d ≡ group) → HasEventIn (record v { current = current }) (get_or new.members k d)
    by (inl h) =
        let (n, own, within, had) = All-contains (HasEventIn v) old.members (get_or new.members k d) sure h in
        let same = kept n (λ e. none (subst (Contains old.members) (sym own ∙ e) h)) in
        (n, own, within, rw same had)
    by (inr e) = (first + O.place, together O.place O.there ∙ sym e, omega (arith, O.there, there), event)

-- ---- values before that are brought up, group by group

-- what differs is in one of the groups from a place on
abbrev pub AreBehind : Grouping → (changed before current : List ℕ) → (i : ℕ) → Type 0
AreBehind groups changed before current i =
    (n : ℕ) → (get_or before n 0 ≡ get_or current n 0 → ⊥) → (k : ℕ) × (i ≤ k) × (k < length changed) × (get_or changed k 0 ≡ get_or groups.of_net n 0)

pub one_behind : (groups : Grouping) (changed before before' current : List ℕ) (i first end : ℕ) → AreNetsOf groups (get_or changed i 0) first end
    → length groups.of_net ≡ length current → length before ≡ length current → IsWritten first (between first end current) before before'
    → AreBehind groups changed before current i → AreBehind groups changed before' current (i + 1)
one_behind groups changed before before' current i first end N many as_many W behind n differ = by (cases_lt n first) (cases_lt n end)
  where
    long : length (between first end current) ≡ end - first
    long = length-between current first end (omega (arith, N.within, many))

    within : n < length groups.of_net
    within = at (cases_lt n (length groups.of_net))
      where
        at : (n < length groups.of_net) ⊎ (length groups.of_net ≤ n) → n < length groups.of_net
        at (inl l) = l
        at (inr past) = absurd (differ (get_or_past before' n 0 (omega (arith, past, W.as_many, as_many, many)) ∙ sym (get_or_past current n 0 (omega (arith, past, many)))))

    later : get_or before' n 0 ≡ get_or before n 0 → ((first ≤ n) × (n < end) → ⊥) → (k : ℕ) × (i + 1 ≤ k) × (k < length changed) × (get_or changed k 0 ≡ get_or groups.of_net n 0)
    later same out =
        let (k, from, there, is) = behind n (λ e. differ (same ∙ e)) in
        let other : k ≡ i → ⊥ = λ e. out ((N.each n within).0 (sym is ∙ ap (λ (j : ℕ). get_or changed j 0) e)) in
        (k, omega (arith, from, other), there, is)

    by : (n < first) ⊎ (first ≤ n) → (n < end) ⊎ (end ≤ n) → (k : ℕ) × (i + 1 ≤ k) × (k < length changed) × (get_or changed k 0 ≡ get_or groups.of_net n 0)
    by (inl low) _ = later (W.below n low) (λ h. omega (arith, h.0, low))
    by (inr from) (inr high) = later (W.behind n (omega (arith, high, long, N.some))) (λ h. omega (arith, h.1, high))
    by (inr from) (inl l) =
        let at : first + (n - first) ≡ n = omega (arith, from) in
        let in_part : n - first < length (between first end current) = omega (arith, l, from, long) in
        absurd (differ (ap (λ (q : ℕ). get_or before' q 0) (sym at) ∙ W.written (n - first) in_part
        ∙ get_or-between current first end (n - first) 0 (omega (arith, at, l)) ∙ ap (λ (q : ℕ). get_or current q 0) at))

pub same_no_event : (before current : List ℕ) (n : ℕ) → get_or before n 0 ≡ get_or current n 0 → has_event before current n ≡ false
same_no_event before current n e = ap not (eq-eqb (get_or before n 0) (get_or current n 0) e)

-- without an event the values are the same
pub none_differ : (before current : List ℕ) → length before ≡ length current → ((n : ℕ) → (get_or before n 0 ≡ get_or current n 0 → ⊥) → ⊥) → before ≡ current
none_differ before current as_many h = ext_get_or 0 before current as_many (λ n l. by n (cases_eq (get_or before n 0) (get_or current n 0)))
  where
    by : (n : ℕ) → (get_or before n 0 ≡ get_or current n 0) ⊎ (get_or before n 0 ≡ get_or current n 0 → ⊥) → get_or before n 0 ≡ get_or current n 0
    by n (inl e) = e
    by n (inr differ) = absurd (h n differ)
