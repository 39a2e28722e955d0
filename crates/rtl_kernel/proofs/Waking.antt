-- Processes that are marked and listed, one after the other.
use Rattle.std.proofs.Common.{◌≡◌, ℕ, zero, suc, ◌+◌, ◌<◌, ◌≤◌, Bool, true, false, List, [], ◌∷◌, ◌++◌, length, get_or, set, take, sym, subst, ◌∙◌, arith, length-append, ◌⊎◌, inl, inr, Contains}
use Rattle.std.proofs.lemmas.Bool.{cases_eq, cases_lt}
use Rattle.std.proofs.lemmas.List.{get_or-set_same, get_or-set_other, get_or_append_left, get_or_past, length-map, take_more, take_all}
use Rattle.std.proofs.Math.Seq.{get_or-append_seam}
use Rattle.std.proofs.lemmas.List.Elements.{Contains-push, Contains-append_left, Contains-push_cases}
use Rattle.rtl_model.specs.basics.Valuations.{has_event}
use Rattle.rtl_model.proofs.basics.Lists.{Contains-none}
use Rattle.rtl_net_groups.specs.Groups.{Grouping}
use Rattle.rtl_kernel.specs.values.TwoValues.{CoverEvents}
use Rattle.rtl_kernel.specs.wakes.Woken.{AddsPlaces, AreDifferent, AreWoken, AreWokenBy, wakers_of}
use Rattle.rtl_kernel.proofs.Grouped.{wakers_at}

-- ---- numbers that stand once

pub differ_more : (xs : List ℕ) (x : ℕ) → AreDifferent xs → ((k : ℕ) → k < length xs → get_or xs k 0 ≡ x → ⊥) → AreDifferent (xs ++ x ∷ [])
differ_more xs x D new j k j_in k_in e =
    by (cases_lt j (length xs)) (cases_lt k (length xs)) (omega (arith, j_in, length-append xs (x ∷ []))) (omega (arith, k_in, length-append xs (x ∷ [])))
  where
    last : (i : ℕ) → length xs ≤ i → i < length xs + 1 → get_or (xs ++ x ∷ []) i 0 ≡ x
    last i le lt = let is : i ≡ length xs = omega arith in rw is (get_or-append_seam xs x [] 0)

    by : (j < length xs) ⊎ (length xs ≤ j) → (k < length xs) ⊎ (length xs ≤ k) → j < length xs + 1 → k < length xs + 1 → j ≡ k
    by (inl j_lt) (inl k_lt) _ _ = D j k j_lt k_lt (sym (get_or_append_left xs (x ∷ []) 0 j j_lt) ∙ e ∙ get_or_append_left xs (x ∷ []) 0 k k_lt)
    by (inl j_lt) (inr k_le) _ k_lt = absurd (new j j_lt (sym (get_or_append_left xs (x ∷ []) 0 j j_lt) ∙ e ∙ last k k_le k_lt))
    by (inr j_le) (inl k_lt) j_lt _ = absurd (new k k_lt (sym (get_or_append_left xs (x ∷ []) 0 k k_lt) ∙ sym e ∙ last j j_le j_lt))
    by (inr j_le) (inr k_le) j_lt k_lt = omega arith

-- ---- marks

-- a mark is set
pub adds_set : (marks : List Bool) (x : ℕ) → x < length marks → AddsPlaces (x ∷ []) marks (set marks x true)
adds_set marks x within = record { kept = λ p h. kept p h (cases_eq p x); added = λ p (k, l, e). added p k l e; no_other = λ p h. other p h (cases_eq p x) }
  where
    marked : get_or (set marks x true) x false ≡ true
    marked = get_or-set_same marks x true false within

    kept : (p : ℕ) → get_or marks p false ≡ true → (p ≡ x) ⊎ (p ≡ x → ⊥) → get_or (set marks x true) p false ≡ true
    kept p h (inl e) = rw e marked
    kept p h (inr n) = get_or-set_other marks x p true false n ∙ h

    added : (p k : ℕ) → k < 1 → get_or (x ∷ []) k p ≡ p → get_or (set marks x true) p false ≡ true
    added p zero l e = subst (λ (q : ℕ). get_or (set marks x true) q false ≡ true) e marked
    added p (suc k) l e = absurd (omega arith)

    other : (p : ℕ) → get_or (set marks x true) p false ≡ true → (p ≡ x) ⊎ (p ≡ x → ⊥) → (get_or marks p false ≡ true) ⊎ Contains (x ∷ []) p
    other p h (inl e) = inr (0, omega arith, sym e)
    other p h (inr n) = inl (sym (get_or-set_other marks x p true false n) ∙ h)

-- or was there
pub adds_again : (marks : List Bool) (x : ℕ) → get_or marks x false ≡ true → AddsPlaces (x ∷ []) marks marks
adds_again marks x marked = record { kept = λ p h. h; added = λ p (k, l, e). added p k l e; no_other = λ p h. inl h }
  where
    added : (p k : ℕ) → k < 1 → get_or (x ∷ []) k p ≡ p → get_or marks p false ≡ true
    added p zero l e = subst (λ (q : ℕ). get_or marks q false ≡ true) e marked
    added p (suc k) l e = absurd (omega arith)

-- marks of a list, and of one more
pub adds_more : (xs : List ℕ) (i : ℕ) (x : ℕ) (old mid new : List Bool) → i < length xs → get_or xs i 0 ≡ x → AddsPlaces (take i xs) old mid → AddsPlaces (x ∷ []) mid new
    → AddsPlaces (take (i + 1) xs) old new
adds_more xs i x old mid new within is A B = rw (take_more xs i 0 within, is) (record {
  kept = λ p h. B.kept p (A.kept p h);
  added = λ p h. added p (Contains-push_cases (take i xs) x p h);
  no_other = λ p h. other p (B.no_other p h);
})
  where
    added : (p : ℕ) → Contains (take i xs) p ⊎ (x ≡ p) → get_or new p false ≡ true
    added p (inl h) = B.kept p (A.added p h)
    added p (inr e) = B.added p (0, omega arith, e)

    first : (p : ℕ) → (get_or old p false ≡ true) ⊎ Contains (take i xs) p → (get_or old p false ≡ true) ⊎ Contains (take i xs ++ x ∷ []) p
    first p (inl h) = inl h
    first p (inr h) = inr (Contains-append_left (take i xs) (x ∷ []) p h)

    last : (p k : ℕ) → k < 1 → get_or (x ∷ []) k p ≡ p → Contains (take i xs ++ x ∷ []) p
    last p zero l e = subst (λ (q : ℕ). Contains (take i xs ++ x ∷ []) q) e (Contains-push (take i xs) x)
    last p (suc k) l e = absurd (omega arith)

    other : (p : ℕ) → (get_or mid p false ≡ true) ⊎ Contains (x ∷ []) p → (get_or old p false ≡ true) ⊎ Contains (take i xs ++ x ∷ []) p
    other p (inl h) = first p (A.no_other p h)
    other p (inr (k, l, e)) = inr (last p k l e)

-- ---- by events

module _ (groups : Grouping) (before current : List ℕ) where
  pub none_woken : (changed : List ℕ) (waiting : List Bool) → ((p : ℕ) → get_or waiting p false ≡ true → ⊥) → AreWokenBy (take 0 changed) groups before current waiting
  none_woken changed waiting none = record { all_wait = λ n p l h. absurd (Contains-none (get_or groups.of_net n 0) h); no_other = λ p h. absurd (none p h) }

  module _ (changed : List ℕ) (i g : ℕ) (old : List Bool) (within : i < length changed) (is : get_or changed i 0 ≡ g) (A : AreWokenBy (take i changed) groups before current old) where
    -- a group without an event wakes none
    pub woken_without : ((n : ℕ) → n < length groups.of_net → get_or groups.of_net n 0 ≡ g → has_event before current n ≡ true → ⊥)
        → AreWokenBy (take (i + 1) changed) groups before current old
    woken_without none = rw (take_more changed i 0 within, is) (record {
      all_wait = λ m p l h. wait m p l (Contains-push_cases (take i changed) g (get_or groups.of_net m 0) h);
      no_other = A.no_other;
    })
      where
        wait : (m p : ℕ) → m < length groups.of_net → Contains (take i changed) (get_or groups.of_net m 0) ⊎ (g ≡ get_or groups.of_net m 0) → has_event before current m ≡ true
            → Contains (get_or (wakers_of groups) m []) p → get_or old p false ≡ true
        wait m p l (inl h) event there = A.all_wait m p l h event there
        wait m p l (inr e) event there = absurd (none m l (sym e) event)

    -- and one with an event those that it is listed for
    pub woken_with : (new : List Bool) (n : ℕ) → n < length groups.of_net → get_or groups.of_net n 0 ≡ g → has_event before current n ≡ true
        → AddsPlaces (get_or groups.listed g []) old new → AreWokenBy (take (i + 1) changed) groups before current new
    woken_with new n there own event B = rw (take_more changed i 0 within, is) (record {
      all_wait = λ m p l h. wait m p l (Contains-push_cases (take i changed) g (get_or groups.of_net m 0) h);
      no_other = λ p h. other p (B.no_other p h);
    })
      where
        listed : (m p : ℕ) → m < length groups.of_net → get_or groups.of_net m 0 ≡ g → Contains (get_or (wakers_of groups) m []) p → Contains (get_or groups.listed g []) p
        listed m p l e h = subst (λ (k : ℕ). Contains (get_or groups.listed k []) p) e (rw (wakers_at groups m l) at h)

        wait : (m p : ℕ) → m < length groups.of_net → Contains (take i changed) (get_or groups.of_net m 0) ⊎ (g ≡ get_or groups.of_net m 0) → has_event before current m ≡ true
            → Contains (get_or (wakers_of groups) m []) p → get_or new p false ≡ true
        wait m p l (inl h) event here = B.kept p (A.all_wait m p l h event here)
        wait m p l (inr e) event here = B.added p (listed m p l (sym e) here)

        other : (p : ℕ) → (get_or old p false ≡ true) ⊎ Contains (get_or groups.listed g []) p
            → (m : ℕ) × (has_event before current m ≡ true) × Contains (get_or (wakers_of groups) m []) p
        other p (inl h) = A.no_other p h
        other p (inr h) = (n, event, rw (wakers_at groups n there) (subst (λ (k : ℕ). Contains (get_or groups.listed k []) p) (sym own) h))

  pub all_woken : (changed : List ℕ) (i : ℕ) (waiting : List Bool) → length changed ≤ i
      → CoverEvents (record { groups = groups; before = before; current = current }) changed → AreWokenBy (take i changed) groups before current waiting
      → AreWoken (wakers_of groups) before current waiting
  all_woken changed i waiting done C A = record {
    all_wait = λ n p event there. by n p event there (cases_lt n (length groups.of_net));
    no_other = A.no_other;
  }
    where
      by : (n p : ℕ) → has_event before current n ≡ true → Contains (get_or (wakers_of groups) n []) p → (n < length groups.of_net) ⊎ (length groups.of_net ≤ n)
          → get_or waiting p false ≡ true
      by n p event there (inl l) = A.all_wait n p l (rw (take_all i changed done) (C.events n event)) event there
      by n p event there (inr l) = absurd (Contains-none p (subst (λ (xs : List ℕ). Contains xs p) (get_or_past (wakers_of groups) n [] (rw length-map l)) there))
