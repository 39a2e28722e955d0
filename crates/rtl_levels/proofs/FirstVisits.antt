-- The visits that a net's change marks are first ones.
use Rattle.std.proofs.Common.{◌≡◌, ℕ, ◌+◌, ◌<◌, ◌≤◌, Bool, true, List, [], ◌∷◌, ◌++◌, length, get_or, set, map, take, drop, All, refl, sym, ap, subst, ◌∙◌, arith, ◌⊎◌, inl, inr, Contains}
use Rattle.std.specs.List.{filter}
use Rattle.std.specs.List.Sorted.{IsPermutation, IsNonDecreasingBy}
use Rattle.std.proofs.lemmas.Bool.{cases_eq, cases_lt}
use Rattle.std.proofs.lemmas.List.{get_or_append_left, get_or_default, get_or_past, get_or_push, get_or-set_other, get_or-set_same, length-map, length-set, length_push, take-append-drop}
use Rattle.std.proofs.lemmas.List.Elements.{All-contains, All-contains_itself, All-filter, All-from_get_or, Contains-append_left, Contains-get_or, Contains-push, filter-append, filter_more, filter_passes}
use Rattle.std.proofs.lemmas.List.Sorted.{Contains-permutation, IsPermutation-sym}
use Rattle.rtl_model.proofs.basics.Lists.{Contains-none, get_or-map_within}
use Rattle.rtl_model.specs.simulation.Netlist.{Netlist, process}
use Rattle.rtl_kernel.specs.wakes.Woken.{IsIndex}
use Rattle.rtl_body_facts.specs.declared.kinds.ProcessKind.{ProcessKind}
use Rattle.rtl_levels.specs.declared.order.Visit.{Visit}
use Rattle.rtl_levels.specs.Marks.{IsReader}
use Rattle.rtl_levels.specs.Scheduled.{AddsBelow, AllAreMoving, AreMarking, AreMoving, beside_level, kind_moves}
use Rattle.rtl_levels.specs.Visits.{AreVisits, HasFirstVisits, IsFirstAbove, IsMovedBy, moves, visit_at}
use Rattle.rtl_levels.proofs.Ordering.{visited_there}

-- ---- what may move a process

-- what passes a test is kept
passing : (p : ℕ → Bool) (xs : List ℕ) (x : ℕ) → Contains xs x → p x ≡ true → Contains (filter p xs) x
passing p xs x (k, l, is) passes =
    let front : Contains (filter p (take (k + 1) xs)) x = rw (filter_more p xs k x l, is, passes) (Contains-push (filter p (take k xs)) x) in
    subst (λ (ys : List ℕ). Contains (filter p ys) x) (take-append-drop (k + 1) xs)
    (rw (filter-append p (take (k + 1) xs) (drop (k + 1) xs)) (Contains-append_left (filter p (take (k + 1) xs)) (filter p (drop (k + 1) xs)) x front))

module _ (net : Netlist) (nets : List ℕ) (p : ℕ) (kind : ProcessKind) (same : (n : ℕ) → kind_moves kind n ≡ moves (process net p).kind n) (sorted : List (ℕ × ℕ)) where
  abbrev wakes : List ℕ
  wakes = (process net p).wakes

  abbrev kept : List ℕ
  kept = filter (kind_moves kind) wakes

  abbrev unsorted : List (ℕ × ℕ)
  unsorted = map (beside_level nets) kept

  pub are_moving : IsPermutation unsorted sorted → IsNonDecreasingBy (λ (m : ℕ × ℕ). m.0) sorted → AreMoving net nets p sorted
  are_moving P up = record { each = λ level n. (from level n, to level n); in_order = up }
    where
      from : (level n : ℕ) → Contains sorted (level, n) → IsMovedBy net p n × (get_or nets n 0 ≡ level)
      from level n c =
          let (k, l, is) = Contains-permutation sorted unsorted (level, n) (IsPermutation-sym unsorted sorted P) c in
          let within : k < length kept = rw (length-map kept (beside_level nets)) at l in
          let e = sym (get_or-map_within (beside_level nets) kept k 0 (level, n) within) ∙ is in
          let at : get_or kept k 0 ≡ n = ap (λ (m : ℕ × ℕ). m.1) e in
          let there : Contains kept n = subst (λ (m : ℕ). Contains kept m) at (Contains-get_or kept k 0 within) in (
            (
              All-contains (Contains wakes) kept n (All-filter (kind_moves kind) (Contains wakes) wakes (All-contains_itself wakes)) there,
              sym (same n) ∙ All-contains (λ (m : ℕ). kind_moves kind m ≡ true) kept n (filter_passes (kind_moves kind) wakes) there,
            ),
            ap (λ (m : ℕ). get_or nets m 0) (sym at) ∙ ap (λ (m : ℕ × ℕ). m.0) e,
          )

      to : (level n : ℕ) → IsMovedBy net p n × (get_or nets n 0 ≡ level) → Contains sorted (level, n)
      to level n ((woken, moved), e) =
          let (k, l, is) = passing (kind_moves kind) wakes n woken (same n ∙ moved) in
          Contains-permutation unsorted sorted (level, n) P
          (k, rw (length-map kept (beside_level nets)) l, get_or-map_within (beside_level nets) kept k n (level, n) l ∙ ap (beside_level nets) is ∙ ap (λ (x : ℕ). (x, n)) e)

-- ---- which visits it marks

module _ (moving : List (List (ℕ × ℕ))) (visits : List Visit) where
  abbrev process_at : ℕ → ℕ
  process_at rank = (visit_at visits rank).process

  abbrev of : ℕ → List (ℕ × ℕ)
  of p = get_or moving p []

  abbrev level_at : (p j : ℕ) → ℕ
  level_at p j = (get_or (of p) j (0, 0)).0

  -- it is below one of the first so many visits of p
  abbrev IsPassed : (many p j : ℕ) → Type 0
  IsPassed many p j = (k : ℕ) × (k < many) × (process_at k ≡ p) × (level_at p j < (visit_at visits k).level)

  -- The first so many visits have taken what is below them.
  pub record AreTaken (many : ℕ) (taken : List ℕ) (marking : List (List ℕ)) : Type 0 where
    pub each_process : length taken ≡ length moving
    pub each_visit : length marking ≡ many
    pub within : (p : ℕ) → get_or taken p 0 ≤ length (of p)
    pub rest : (k j : ℕ) → k < many → get_or taken (process_at k) 0 ≤ j → j < length (of (process_at k)) → (visit_at visits k).level ≤ level_at (process_at k) j
    pub past : (p j : ℕ) → j < get_or taken p 0 → IsPassed many p j
    pub each : (rank n : ℕ) → rank < many
        → (Contains (get_or marking rank []) n → (level : ℕ) × Contains (of (process_at rank)) (level, n) × IsFirstAbove visits level rank)
        × ((level : ℕ) × Contains (of (process_at rank)) (level, n) × IsFirstAbove visits level rank → Contains (get_or marking rank []) n)

  pub none_taken : (taken : List ℕ) → length taken ≡ length moving → ((p : ℕ) → get_or taken p 0 ≡ 0) → AreTaken 0 taken []
  none_taken taken many zeros = record {
    each_process = many;
    each_visit = refl;
    within = λ p. (let z = zeros p in omega (arith, z));
    rest = λ k j l. absurd (omega (arith, l));
    past = λ p j l. (let z = zeros p in absurd (omega (arith, l, z)));
    each = λ rank n l. absurd (omega (arith, l));
  }

  pub all_marked : (taken : List ℕ) (marking : List (List ℕ)) → AreTaken (length visits) taken marking → AreMarking moving visits marking
  all_marked taken marking T = record { each_visit = T.each_visit; each = T.each }

  module _ (i : ℕ) (taken : List ℕ) (marking : List (List ℕ)) (T : AreTaken i taken marking) (there : i < length visits) (listed : process_at i < length moving)
      (up : IsNonDecreasingBy (λ (m : ℕ × ℕ). m.0) (of (process_at i))) (end : ℕ) (list : List ℕ) (A : AddsBelow (of (process_at i)) (get_or taken (process_at i) 0) (visit_at visits i).level end [] list) where
    abbrev p : ℕ
    p = process_at i

    abbrev level : ℕ
    level = (visit_at visits i).level

    abbrev taken' : List ℕ
    taken' = set taken p end

    here : get_or taken' p 0 ≡ end
    here = get_or-set_same taken p end 0 (rw (T.each_process) listed)

    other : (q : ℕ) → (q ≡ p → ⊥) → get_or taken' q 0 ≡ get_or taken q 0
    other q ne = get_or-set_other taken p q end 0 ne

    beyond : (j : ℕ) → end ≤ j → j < length (of p) → level ≤ level_at p j
    beyond j le l = let e = A.ends (omega (arith, le, l)) in let u = up end j (0, 0) le l in omega (arith, e, u)

    within : (q : ℕ) → (q ≡ p) ⊎ (q ≡ p → ⊥) → get_or taken' q 0 ≤ length (of q)
    within q (inl e) = subst (λ (x : ℕ). get_or taken' x 0 ≤ length (of x)) (sym e) (rw here (A.within))
    within q (inr ne) = rw (other q ne) (T.within q)

    rest : (k j : ℕ) → (k < i) ⊎ (k ≡ i) → (process_at k ≡ p) ⊎ (process_at k ≡ p → ⊥) → get_or taken' (process_at k) 0 ≤ j → j < length (of (process_at k)) → (visit_at visits k).level ≤ level_at (process_at k) j
    rest k j (inl less) (inl e) le l =
        let far : end ≤ j = omega (arith, le, here, ap (λ (q : ℕ). get_or taken' q 0) e) in
        T.rest k j less (omega (arith, far, A.from_on, ap (λ (q : ℕ). get_or taken q 0) e)) l
    rest k j (inl less) (inr ne) le l = T.rest k j less (omega (arith, le, other (process_at k) ne)) l
    rest k j (inr is) _ le l =
        subst (λ (x : ℕ). get_or taken' (process_at x) 0 ≤ j → j < length (of (process_at x)) → (visit_at visits x).level ≤ level_at (process_at x) j) (sym is)
        (λ far near. beyond j (omega (arith, far, here)) near) le l

    past : (q j : ℕ) → (q ≡ p) ⊎ (q ≡ p → ⊥) → j < get_or taken' q 0 → IsPassed (i + 1) q j
    past q j (inl e) l = subst (λ (x : ℕ). IsPassed (i + 1) x j) (sym e) (by (cases_lt j (get_or taken p 0)))
      where
        near : j < end
        near = omega (arith, l, here, ap (λ (x : ℕ). get_or taken' x 0) e)

        by : (j < get_or taken p 0) ⊎ (get_or taken p 0 ≤ j) → IsPassed (i + 1) p j
        by (inl less) = let (k, m, is, low) = T.past p j less in (k, omega (arith, m), is, low)
        by (inr le) = (i, omega arith, refl, A.below j le near)
    past q j (inr ne) l = let (k, m, is, low) = T.past q j (omega (arith, l, other q ne)) in (k, omega (arith, m), is, low)

    -- what is listed for the visit
    abbrev IsMarked : ℕ → Type 0
    IsMarked n = (at : ℕ) × Contains (of p) (at, n) × IsFirstAbove visits at i

    marked : (n : ℕ) → Contains list n → IsMarked n
    marked n c = by ((A.added n).0 c)
      where
        by : Contains [] n ⊎ ((k : ℕ) × (get_or taken p 0 ≤ k) × (k < end) × ((get_or (of p) k (0, 0)).1 ≡ n)) → IsMarked n
        by (inl h) = absurd (Contains-none n h)
        by (inr (k, low, high, is)) =
            let l : k < length (of p) = omega (arith, high, A.within) in (
              level_at p k,
              subst (λ (m : ℕ). Contains (of p) (level_at p k, m)) is (Contains-get_or (of p) k (0, 0) l),
              record {
                there = there;
                above = A.below k low high;
                none_before = λ q less same.
                    subst (λ (x : ℕ). (visit_at visits q).level ≤ level_at x k) same
                    (T.rest q k less (omega (arith, low, ap (λ (x : ℕ). get_or taken x 0) same)) (subst (λ (x : ℕ). k < length (of x)) (sym same) l));
              },
            )

    listed_all : (n : ℕ) → IsMarked n → Contains list n
    listed_all n (at, (j, l, is), F) = (A.added n).1 (inr (j, low (cases_lt j (get_or taken p 0)), high (cases_lt j end), ap (λ (m : ℕ × ℕ). m.1) e))
      where
        e : ◌≡◌ {A = ℕ × ℕ} (get_or (of p) j (0, 0)) (at, n)
        e = get_or_default (of p) j (0, 0) (at, n) l ∙ is

        level_is : level_at p j ≡ at
        level_is = ap (λ (m : ℕ × ℕ). m.0) e

        low : (j < get_or taken p 0) ⊎ (get_or taken p 0 ≤ j) → get_or taken p 0 ≤ j
        low (inl less) = let (k, m, same, below) = T.past p j less in let le = F.none_before k m same in absurd (omega (arith, below, le, level_is))
        low (inr le) = le

        high : (j < end) ⊎ (end ≤ j) → j < end
        high (inl less) = less
        high (inr far) = let b = beyond j far l in absurd (omega (arith, b, F.above, level_is))

    each : (rank n : ℕ) → (rank < i) ⊎ (rank ≡ i)
        → (Contains (get_or (marking ++ list ∷ []) rank []) n → (at : ℕ) × Contains (of (process_at rank)) (at, n) × IsFirstAbove visits at rank)
        × ((at : ℕ) × Contains (of (process_at rank)) (at, n) × IsFirstAbove visits at rank → Contains (get_or (marking ++ list ∷ []) rank []) n)
    each rank n (inl less) = rw (get_or_append_left marking (list ∷ []) [] rank (rw (T.each_visit) less)) (T.each rank n less)
    each rank n (inr e) = rw (e, get_or_push marking list [] i T.each_visit) (marked n, listed_all n)

    before_or_here : (k : ℕ) → k < i + 1 → (k < i) ⊎ (k ≡ i)
    before_or_here k l = by (cases_lt k i)
      where
        by : (k < i) ⊎ (i ≤ k) → (k < i) ⊎ (k ≡ i)
        by (inl less) = inl less
        by (inr le) = inr (omega (arith, l, le))

    pub more_taken : AreTaken (i + 1) taken' (marking ++ list ∷ [])
    more_taken = record {
      each_process = length-set taken p end ∙ T.each_process;
      each_visit = omega (arith, length_push marking list, T.each_visit);
      within = λ q. within q (cases_eq q p);
      rest = λ k j l. rest k j (before_or_here k l) (cases_eq (process_at k) p);
      past = λ q j. past q j (cases_eq q p);
      each = λ rank n l. each rank n (before_or_here rank l);
    }

-- ---- the index

module _ (net : Netlist) (nets : List ℕ) (visits : List Visit) (V : AreVisits net nets visits) (moving : List (List (ℕ × ℕ))) (M : AllAreMoving net nets moving)
    (marking : List (List ℕ)) (K : AreMarking moving visits marking) where
  moved_by : (rank : ℕ) → rank < length visits → AreMoving net nets (visit_at visits rank).process (get_or moving (visit_at visits rank).process [])
  moved_by rank l = M.each (visit_at visits rank).process (rw (M.each_process) (visited_there net nets visits V rank l))

  first_marked : (rank n : ℕ) → rank < length visits → Contains (get_or marking rank []) n → IsMovedBy net (visit_at visits rank).process n × IsFirstAbove visits (get_or nets n 0) rank
  first_marked rank n l c =
      let (level, m, F) = (K.each rank n l).0 c in
      let (moved, is) = ((moved_by rank l).each level n).0 m in
      (moved, subst (λ (x : ℕ). IsFirstAbove visits x rank) (sym is) F)

  pub marking_there : (many : ℕ) → ((p : ℕ) → All (λ (n : ℕ). n < many) (process net p).wakes) → All (λ (ns : List ℕ). All (λ (n : ℕ). n < many) ns) marking
  marking_there many wakes_there =
      All-from_get_or (λ (ns : List ℕ). All (λ (n : ℕ). n < many) ns) marking []
      (λ rank l. All-from_get_or (λ (n : ℕ). n < many) (get_or marking rank []) 0
      (λ k m. let n = get_or (get_or marking rank []) k 0 in
      let moved = first_marked rank n (rw (← K.each_visit) l) (Contains-get_or (get_or marking rank []) k 0 m) in
      All-contains (λ (x : ℕ). x < many) (process net (visit_at visits rank).process).wakes n (wakes_there (visit_at visits rank).process) moved.0.0))

  module _ (index : List (List ℕ)) (I : IsIndex marking index) where
    no_other : (n rank : ℕ) → IsReader index n rank → IsMovedBy net (visit_at visits rank).process n × IsFirstAbove visits (get_or nets n 0) rank
    no_other n rank f = by (cases_lt rank (length visits))
      where
        by : (rank < length visits) ⊎ (length visits ≤ rank) → IsMovedBy net (visit_at visits rank).process n × IsFirstAbove visits (get_or nets n 0) rank
        by (inl l) = first_marked rank n l (I.no_other n rank f)
        by (inr past) = absurd (Contains-none n (subst (λ (xs : List ℕ). Contains xs n) (get_or_past marking rank [] (rw (K.each_visit) past)) (I.no_other n rank f)))

    first_is_in : (n rank : ℕ) → IsMovedBy net (visit_at visits rank).process n × IsFirstAbove visits (get_or nets n 0) rank → IsReader index n rank
    first_is_in n rank (moved, F) =
        I.all_are_in rank n ((K.each rank n F.there).1 (get_or nets n 0, ((moved_by rank F.there).each (get_or nets n 0) n).1 (moved, refl), F))

    pub has_first_visits : HasFirstVisits net nets visits index
    has_first_visits n rank = (no_other n rank, first_is_in n rank)
