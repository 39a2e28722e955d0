-- Who waits for whom.
use Rattle.std.proofs.Common.{◌≡◌, ℕ, suc, ◌+◌, ◌<◌, ◌≤◌, ◌⊎◌, inl, inr, List, [], ◌∷◌, ◌++◌, length, get_or, set, Option, Some, None, refl, sym, ap, subst, ◌∙◌, arith, Contains}
use Rattle.std.specs.Prelude.{IsSome}
use Rattle.std.proofs.Math.ListN.{length-set}
use Rattle.std.proofs.lemmas.Bool.{cases_eq, cases_lt}
use Rattle.std.proofs.lemmas.List.{get_or-set_same, get_or-set_other, get_or_append_left, get_or_push, length_push}
use Rattle.std.proofs.lemmas.List.Elements.{Contains-push, Contains-push_cases, Contains-append_left}
use Rattle.rtl_check_levels.specs.declared.finding.Wait.{Wait}
use Rattle.rtl_check_levels.specs.Feeding.{Table, feeders_of}
use Rattle.rtl_check_levels.specs.Levels.{level_of}
use Rattle.rtl_check_levels.specs.Finding.{wait_at, IsAmong, itself, earlier, WaitingSoFar}
use Rattle.rtl_check_levels.proofs.Growing.{cases_of, some_has, none_lacks}

-- ---- one more wait

abbrev no_wait : Wait
no_wait = record { row = 0; before = 0 }

pub wait_kept : (ws : List Wait) (w : Wait) (i : ℕ) → i < length ws → wait_at (ws ++ w ∷ []) i ≡ wait_at ws i
wait_kept ws w i l = get_or_append_left ws (w ∷ []) no_wait i l

pub wait_new : (ws : List Wait) (w : Wait) → wait_at (ws ++ w ∷ []) (length ws) ≡ w
wait_new ws w = get_or_push ws w no_wait (length ws) refl

pub still_among : (ws : List Wait) (w : Wait) (last q : ℕ) → IsAmong ws last q → IsAmong (ws ++ w ∷ []) last q
still_among ws w _ q (itself i _ l e) = itself i q (let n = length_push ws w in omega arith) (ap (λ (v : Wait). v.row) (wait_kept ws w i l) ∙ e)
still_among ws w _ q (earlier i _ l a) =
    let b : IsAmong (ws ++ w ∷ []) (wait_at ws i).before q = still_among ws w (wait_at ws i).before q a in
    earlier i q (let n = length_push ws w in omega arith) (subst (λ (v : Wait). IsAmong (ws ++ w ∷ []) v.before q) (sym (wait_kept ws w i l)) b)

pub now_among : (ws : List Wait) (w : Wait) → IsAmong (ws ++ w ∷ []) (suc (length ws)) w.row
now_among ws w = itself (length ws) w.row (let n = length_push ws w in omega arith) (ap (λ (v : Wait). v.row) (wait_new ws w))

pub behind_it : (ws : List Wait) (w : Wait) (q : ℕ) → IsAmong ws w.before q → IsAmong (ws ++ w ∷ []) (suc (length ws)) q
behind_it ws w q a = earlier (length ws) q (let n = length_push ws w in omega arith)
    (subst (λ (v : Wait). IsAmong (ws ++ w ∷ []) v.before q) (sym (wait_new ws w)) (still_among ws w w.before q a))

-- ---- the steps

module _ (table : Table) (levels : List (Option ℕ)) (waits : List Wait) (last ready passed : List ℕ) (h : WaitingSoFar table levels waits last ready passed) where
  -- q gets its level
  pub waiting_settled : (later : List (Option ℕ)) (q : ℕ) → q < length table
      → ((p : ℕ) → (p ≡ q → ⊥) → level_of later p ≡ level_of levels p) → ((p level : ℕ) → level_of levels p ≡ Some level → level_of later p ≡ Some level)
      → WaitingSoFar table later waits last (ready ++ q ∷ []) passed
  waiting_settled later q within old_at grow = record {
    each_last = h.each_last;
    each_passed = h.each_passed;
    idle = λ p s. idle p s (cases_eq p q);
    last_there = h.last_there;
    rows_there = h.rows_there;
    in_order = h.in_order;
    ready_there = λ p c. there p (Contains-push_cases ready q p c);
    passed_most = h.passed_most;
    passed_have = λ r k l. still _ (h.passed_have r k l);
  }
    where
      idle : (p : ℕ) → IsSome (level_of later p) → (p ≡ q) ⊎ (p ≡ q → ⊥) → Contains (ready ++ q ∷ []) p ⊎ (get_or last p 0 ≡ 0)
      idle p s (inl same) = inl (subst (Contains (ready ++ q ∷ [])) (sym same) (Contains-push ready q))
      idle p s (inr ne) = elim (h.idle p (subst IsSome (old_at p ne) s)) [ inl c ↦ inl (Contains-append_left ready (q ∷ []) p c) | inr e ↦ inr e ]

      there : (p : ℕ) → Contains ready p ⊎ (q ≡ p) → p < length table
      there p (inl c) = h.ready_there p c
      there p (inr e) = omega arith

      still : (p : ℕ) → IsSome (level_of levels p) → IsSome (level_of later p)
      still p s = go (cases_of (level_of levels p))
        where
          go : (level_of levels p ≡ None) ⊎ ((x : ℕ) × (level_of levels p ≡ Some x)) → IsSome (level_of later p)
          go (inl e) = absurd (none_lacks (level_of levels p) e s)
          go (inr (x, e)) = some_has (level_of later p) x (grow p x e)

  -- more of those that feed q are known to have levels
  pub waiting_passed : (q at : ℕ) → q < length table → at ≤ length (feeders_of table q)
      → ((k : ℕ) → get_or passed q 0 ≤ k → k < at → IsSome (level_of levels (get_or (feeders_of table q) k 0)))
      → WaitingSoFar table levels waits last ready (set passed q at)
  waiting_passed q at within most have = record {
    each_last = h.each_last;
    each_passed = length-set passed q at ∙ h.each_passed;
    idle = h.idle;
    last_there = h.last_there;
    rows_there = h.rows_there;
    in_order = h.in_order;
    ready_there = h.ready_there;
    passed_most = λ r. most_of r (cases_eq r q);
    passed_have = λ r k l. have_of r k l (cases_eq r q);
  }
    where
      new_is : get_or (set passed q at) q 0 ≡ at
      new_is = let l : q < length passed = (let e = h.each_passed in omega arith) in get_or-set_same passed q at 0 l

      old_is : (r : ℕ) → (r ≡ q → ⊥) → get_or (set passed q at) r 0 ≡ get_or passed r 0
      old_is r ne = get_or-set_other passed q r at 0 ne

      most_of : (r : ℕ) → (r ≡ q) ⊎ (r ≡ q → ⊥) → get_or (set passed q at) r 0 ≤ length (feeders_of table r)
      most_of r (inl same) = subst (λ (s : ℕ). get_or (set passed q at) s 0 ≤ length (feeders_of table s)) (sym same) (rw new_is most)
      most_of r (inr ne) = rw (old_is r ne) (h.passed_most r)

      at_q : (k : ℕ) → k < at → (k < get_or passed q 0) ⊎ (get_or passed q 0 ≤ k) → IsSome (level_of levels (get_or (feeders_of table q) k 0))
      at_q k l (inl under) = h.passed_have q k under
      at_q k l (inr over) = have k over l

      have_of : (r k : ℕ) → k < get_or (set passed q at) r 0 → (r ≡ q) ⊎ (r ≡ q → ⊥) → IsSome (level_of levels (get_or (feeders_of table r) k 0))
      have_of r k l (inl same) =
          let m : k < get_or (set passed q at) q 0 = subst (λ (s : ℕ). k < get_or (set passed q at) s 0) same l in
          let n : k < at = subst (λ (s : ℕ). k < s) new_is m in
          subst (λ (s : ℕ). IsSome (level_of levels (get_or (feeders_of table s) k 0))) (sym same) (at_q k n (cases_lt k (get_or passed q 0)))
      have_of r k l (inr ne) = h.passed_have r k (subst (λ (s : ℕ). k < s) (old_is r ne) l)

  -- q waits for p, which has no level
  pub waiting_more : (p q : ℕ) → p < length table → q < length table → level_of levels p ≡ None
      → WaitingSoFar table levels (waits ++ record { row = q; before = get_or last p 0 } ∷ []) (set last p (length (waits ++ record { row = q; before = get_or last p 0 } ∷ []))) ready passed
  waiting_more p q there within none_yet = record {
    each_last = length-set last p (length more) ∙ h.each_last;
    each_passed = h.each_passed;
    idle = λ r s. idle r s (cases_eq r p);
    last_there = λ r. last_there r (cases_eq r p);
    rows_there = λ i l. row_there i l (cases_lt i (length waits));
    in_order = λ i l. order i l (cases_lt i (length waits));
    ready_there = h.ready_there;
    passed_most = h.passed_most;
    passed_have = h.passed_have;
  }
    where
      new : Wait
      new = record { row = q; before = get_or last p 0 }

      more : List Wait
      more = waits ++ new ∷ []

      longer : length more ≡ length waits + 1
      longer = length_push waits new

      in_last : p < length last
      in_last = let e = h.each_last in omega arith

      other : (r : ℕ) → (r ≡ p → ⊥) → get_or (set last p (length more)) r 0 ≡ get_or last r 0
      other r ne = get_or-set_other last p r (length more) 0 ne

      idle : (r : ℕ) → IsSome (level_of levels r) → (r ≡ p) ⊎ (r ≡ p → ⊥) → Contains ready r ⊎ (get_or (set last p (length more)) r 0 ≡ 0)
      idle r s (inl same) = absurd (none_lacks (level_of levels p) none_yet (subst (λ (x : ℕ). IsSome (level_of levels x)) same s))
      idle r s (inr ne) = elim (h.idle r s) [ inl c ↦ inl c | inr e ↦ inr (other r ne ∙ e) ]

      last_there : (r : ℕ) → (r ≡ p) ⊎ (r ≡ p → ⊥) → get_or (set last p (length more)) r 0 ≤ length more
      last_there r (inl same) = subst (λ (s : ℕ). get_or (set last p (length more)) s 0 ≤ length more) (sym same) (let e = get_or-set_same last p (length more) 0 in_last in omega arith)
      last_there r (inr ne) = let e = other r ne in let l = h.last_there r in let n = longer in omega arith

      row_there : (i : ℕ) → i < length more → (i < length waits) ⊎ (length waits ≤ i) → (wait_at more i).row < length table
      row_there i l (inl old) = subst (λ (w : Wait). w.row < length table) (sym (wait_kept waits new i old)) (h.rows_there i old)
      row_there i l (inr past) =
          let is : length waits ≡ i = (let n = longer in omega arith) in
          subst (λ (k : ℕ). (wait_at more k).row < length table) is (subst (λ (w : Wait). w.row < length table) (sym (wait_new waits new)) within)

      order : (i : ℕ) → i < length more → (i < length waits) ⊎ (length waits ≤ i) → (wait_at more i).before ≤ i
      order i l (inl old) = subst (λ (w : Wait). w.before ≤ i) (sym (wait_kept waits new i old)) (h.in_order i old)
      order i l (inr past) =
          let is : length waits ≡ i = (let n = longer in omega arith) in
          subst (λ (k : ℕ). (wait_at more k).before ≤ k) is (subst (λ (w : Wait). w.before ≤ length waits) (sym (wait_new waits new)) (h.last_there p))

-- whoever waited waits, and q waits for p
module _ (waits : List Wait) (last : List ℕ) (p q : ℕ) (in_last : p < length last) where
  abbrev new : Wait
  new = record { row = q; before = get_or last p 0 }

  abbrev more : List Wait
  more = waits ++ new ∷ []

  abbrev later : List ℕ
  later = set last p (length more)

  at_p : get_or later p 0 ≡ suc (length waits)
  at_p =
      let n : length more ≡ suc (length waits) = (let l = length_push waits new in omega arith) in
      get_or-set_same last p (length more) 0 in_last ∙ n

  pub one_waits : IsAmong more (get_or later p 0) q
  one_waits = subst (λ (l : ℕ). IsAmong more l q) (sym at_p) (now_among waits new)

  pub more_wait : (r x : ℕ) → IsAmong waits (get_or last r 0) x → IsAmong more (get_or later r 0) x
  more_wait r x a = go (cases_eq r p)
    where
      go : (r ≡ p) ⊎ (r ≡ p → ⊥) → IsAmong more (get_or later r 0) x
      go (inl same) =
          let b : IsAmong waits (get_or last p 0) x = subst (λ (y : ℕ). IsAmong waits (get_or last y 0) x) same a in
          subst (λ (y : ℕ). IsAmong more (get_or later y 0) x) (sym same) (subst (λ (l : ℕ). IsAmong more l x) (sym at_p) (behind_it waits new x b))
      go (inr ne) = subst (λ (l : ℕ). IsAmong more l x) (sym (get_or-set_other last p r (length more) 0 ne)) (still_among waits new (get_or last r 0) x a)

-- those that wait for p are taken, which was the last that is ready
pub waiting_released : (table : Table) (levels : List (Option ℕ)) (waits : List Wait) (last ready passed : List ℕ) (p : ℕ)
    → WaitingSoFar table levels waits last (ready ++ p ∷ []) passed → WaitingSoFar table levels waits (set last p 0) ready passed
waiting_released table levels waits last ready passed p h = record {
  each_last = length-set last p 0 ∙ h.each_last;
  each_passed = h.each_passed;
  idle = λ r s. idle r s (cases_eq r p);
  last_there = λ r. last_there r (cases_eq r p);
  rows_there = h.rows_there;
  in_order = h.in_order;
  ready_there = λ r c. h.ready_there r (Contains-append_left ready (p ∷ []) r c);
  passed_most = h.passed_most;
  passed_have = h.passed_have;
}
  where
    in_last : p < length last
    in_last = let l = h.ready_there p (Contains-push ready p) in let e = h.each_last in omega arith

    other : (r : ℕ) → (r ≡ p → ⊥) → get_or (set last p 0) r 0 ≡ get_or last r 0
    other r ne = get_or-set_other last p r 0 0 ne

    now : get_or (set last p 0) p 0 ≡ 0
    now = get_or-set_same last p 0 0 in_last

    ready_or : (r : ℕ) → (r ≡ p → ⊥) → Contains ready r ⊎ (p ≡ r) → Contains ready r ⊎ (get_or (set last p 0) r 0 ≡ 0)
    ready_or r ne (inl c) = inl c
    ready_or r ne (inr e) = absurd (ne (sym e))

    idle : (r : ℕ) → IsSome (level_of levels r) → (r ≡ p) ⊎ (r ≡ p → ⊥) → Contains ready r ⊎ (get_or (set last p 0) r 0 ≡ 0)
    idle r s (inl same) = inr (subst (λ (x : ℕ). get_or (set last p 0) x 0 ≡ 0) (sym same) now)
    idle r s (inr ne) = elim (h.idle r s) [ inl c ↦ ready_or r ne (Contains-push_cases ready p r c) | inr e ↦ inr (other r ne ∙ e) ]

    last_there : (r : ℕ) → (r ≡ p) ⊎ (r ≡ p → ⊥) → get_or (set last p 0) r 0 ≤ length waits
    last_there r (inl same) = subst (λ (s : ℕ). get_or (set last p 0) s 0 ≤ length waits) (sym same) (let e = now in omega arith)
    last_there r (inr ne) = let e = other r ne in let l = h.last_there r in omega arith

pub released_or_wait : (waits : List Wait) (last : List ℕ) (p : ℕ) (r x : ℕ) → IsAmong waits (get_or last r 0) x
    → IsAmong waits (get_or (set last p 0) r 0) x ⊎ IsAmong waits (get_or last p 0) x
released_or_wait waits last p r x a = go (cases_eq r p)
  where
    go : (r ≡ p) ⊎ (r ≡ p → ⊥) → IsAmong waits (get_or (set last p 0) r 0) x ⊎ IsAmong waits (get_or last p 0) x
    go (inl same) = inr (subst (λ (y : ℕ). IsAmong waits (get_or last y 0) x) same a)
    go (inr ne) = inl (subst (λ (l : ℕ). IsAmong waits l x) (sym (get_or-set_other last p r 0 0 ne)) a)
