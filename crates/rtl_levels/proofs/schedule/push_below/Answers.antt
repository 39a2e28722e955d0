use Rattle.std.proofs.Common.{◌≡◌, ◌+◌, ◌<◌, ◌≤◌, ◌⊎◌, inl, inr, ℕ, List, [], ◌∷◌, ◌++◌, get_or, length, refl, ap, sym, subst, ◌∙◌, arith, Contains}
use Rattle.std.proofs.lemmas.Bool.{cases_lt}
use Rattle.std.proofs.lemmas.List.Elements.{Contains-append_left, Contains-push, Contains-push_cases}
use Rattle.rtl_levels.proofs.schedule.push_below.Goals as goal

-- it stands in the old list, or is one of these places' nets
abbrev IsAdded : (moving : List (ℕ × ℕ)) (from to : ℕ) (old : List ℕ) (n : ℕ) → Type 0
IsAdded moving from to old n = Contains old n ⊎ ((k : ℕ) × (from ≤ k) × (k < to) × ((get_or moving k (0, 0)).1 ≡ n))

one_more : (moving : List (ℕ × ℕ)) (from to : ℕ) (old now : List ℕ) → from ≤ to → ((n : ℕ) → (Contains now n → IsAdded moving from to old n) × (IsAdded moving from to old n → Contains now n)) → (net : ℕ)
    → (get_or moving to (0, 0)).1 ≡ net → (n : ℕ) → (Contains (now ++ net ∷ []) n → IsAdded moving from (to + 1) old n) × (IsAdded moving from (to + 1) old n → Contains (now ++ net ∷ []) n)
one_more moving from to old now on A net is n = (λ h. into (Contains-push_cases now net n h), back)
  where
    wider : IsAdded moving from to old n → IsAdded moving from (to + 1) old n
    wider (inl h) = inl h
    wider (inr (k, low, high, e)) = inr (k, low, omega (arith, high), e)

    into : Contains now n ⊎ (net ≡ n) → IsAdded moving from (to + 1) old n
    into (inl h) = wider ((A n).0 h)
    into (inr e) = inr (to, on, omega arith, is ∙ e)

    last : (k : ℕ) → from ≤ k → (get_or moving k (0, 0)).1 ≡ n → k < to + 1 → (k < to) ⊎ (to ≤ k) → Contains (now ++ net ∷ []) n
    last k low e high (inl less) = Contains-append_left now (net ∷ []) n ((A n).1 (inr (k, low, less, e)))
    last k low e high (inr le) =
        let same : to ≡ k = omega (arith, high, le) in
        let here : net ≡ n = sym is ∙ ap (λ (j : ℕ). (get_or moving j (0, 0)).1) same ∙ e in
        subst (λ (m : ℕ). Contains (now ++ net ∷ []) m) here (Contains-push now net)

    back : IsAdded moving from (to + 1) old n → Contains (now ++ net ∷ []) n
    back (inl h) = Contains-append_left now (net ∷ []) n ((A n).1 (inl h))
    back (inr (k, low, high, e)) = last k low e high (cases_lt k to)

pub loop-place-init : goal.loop-place-init
loop-place-init c = record {
  from_on = omega arith;
  below = λ k low high. absurd (omega (arith, low, high));
  added = λ n. (λ h. inl h, λ h. none n h);
}
  where
    none : (n : ℕ) → IsAdded c.args.moving.now c.args.from c.args.from c.args.marking.now.items n → Contains c.args.marking.now.items n
    none n (inl h) = h
    none n (inr (k, low, high, e)) = absurd (omega (arith, low, high))

pub loop-place-preserved : goal.loop-place-preserved
loop-place-preserved c =
    let moving = c.args.moving.now in
    let i = c.loop-place.place in
    let I = c.loop-place.invariant in
    let l : i < length moving = c.loop-place-test.true in
    record {
      from_on = let on = I.from_on in omega (arith, on);
      below = λ k low high. below k low (cases_lt k i) high;
      added = λ n. rw (c.in_ok-push.ensures.items) (one_more moving c.args.from i c.args.marking.now.items c.loop-place.marking.items I.from_on I.added (get_or moving i (0, 0)).1 refl n);
    }
  where
    below : (k : ℕ) → c.args.from ≤ k → (k < c.loop-place.place) ⊎ (c.loop-place.place ≤ k) → k < c.loop-place.place + 1 → (get_or c.args.moving.now k (0, 0)).0 < c.args.level
    below k low (inl less) high = c.loop-place.invariant.below k low less
    below k low (inr le) high =
        let same : c.loop-place.place ≡ k = omega (arith, high, le) in
        omega (arith, ap (λ (j : ℕ). (get_or c.args.moving.now j (0, 0)).0) same, c.if-of_net-level.false)

pub returns-then-of_net-level : goal.returns-then-of_net-level
returns-then-of_net-level c =
    let I = c.loop-place.invariant in
    record { from_on = I.from_on; within = omega (arith, c.loop-place-test.true); below = I.below; ends = λ l. omega (arith, c.if-of_net-level.true); added = I.added }

pub returns : goal.returns
returns c =
    let I = c.loop-place.invariant in
    let all : c.loop-place.place ≡ length c.args.moving.now = omega (arith, c.loop-place-test.false, c.loop-place.auto.place-end) in
    record {
      from_on = c.requires;
      within = omega arith;
      below = λ k low high. I.below k low (omega (arith, high, all));
      ends = λ l. absurd (omega (arith, l));
      added = λ n. rw (← all) (I.added n);
    }
