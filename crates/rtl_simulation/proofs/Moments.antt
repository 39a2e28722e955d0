-- One more moment that has settled.
use Rattle.std.proofs.Common.{◌≡◌, ℕ, zero, suc, ◌<◌, ◌≤◌, max, List, [], ◌∷◌, ◌++◌, length, Some, ⊎_elim, inl, inr, sym, subst, arith}
use Rattle.std.specs.Prelude.{◌⊎◌, slice_get}
use Rattle.std.proofs.lemmas.Bool.{cases_lt}
use Rattle.rtl_model.specs.simulation.Moments.{IsMost, Takes}
use Rattle.rtl_model.specs.simulation.Netlist.{Netlist}
use Rattle.rtl_model.proofs.simulation.Orders.{every_order_is_one}
use Rattle.rtl_net.specs.Nets.{NetlistView}
use Rattle.rtl_stim.specs.Stimuli.{StimulusView, moments}
use Rattle.rtl_simulation.specs.Simulated.{Settled, SettlesAs, AreMoments}
use Rattle.rtl_simulation.proofs.Stands.{at_end, one_more}

-- ---- the greatest number of delta cycles

module _ (net : Netlist) (stimulus : ℕ → ℕ → ℕ) where
  -- a moment takes one number of them
  takes_one : (m j k : ℕ) → Takes net stimulus m j → Takes net stimulus m k → j ≡ k
  takes_one m j k J K = ((every_order_is_one net stimulus m).1 j k J.0 K.0 J.1 K.1).0

  pub most_first : (k : ℕ) → Takes net stimulus 0 k → IsMost net stimulus 0 k
  most_first k takes = record { at_most = at_most; met = (0, omega arith, takes) }
    where
      at_most : (m j : ℕ) → m ≤ 0 → Takes net stimulus m j → j ≤ k
      at_most zero j within other = let same = takes_one 0 j k other takes in omega (arith, same)
      at_most (suc m) j within other = absurd (omega (arith, within))

  pub most_more : (m most k : ℕ) → IsMost net stimulus m most → Takes net stimulus (suc m) k → IsMost net stimulus (suc m) (max most k)
  most_more m most k M takes = record { at_most = at_most; met = met (cases_lt most k) }
    where
      last : (n j : ℕ) → n ≡ suc m → Takes net stimulus n j → j ≤ max most k
      last n j is other = let same = takes_one (suc m) j k (subst (λ (i : ℕ). Takes net stimulus i j) is other) takes in omega (arith, same)

      at_most : (n j : ℕ) → n ≤ suc m → Takes net stimulus n j → j ≤ max most k
      at_most n j within other =
          ⊎_elim (λ before. let less = M.at_most n j (omega (arith, before)) other in omega (arith, less))
          (λ past. last n j (omega (arith, past, within)) other) (cases_lt n (suc m))

      met : (most < k) ⊎ (k ≤ most) → (n : ℕ) × (n ≤ suc m) × Takes net stimulus n (max most k)
      met (inl less) = (suc m, omega arith, let is : k ≡ max most k = omega (arith, less) in subst (λ (i : ℕ). Takes net stimulus (suc m) i) is takes)
      met (inr more) =
          let (n, within, at) = M.met in
          (n, omega (arith, within), let is : most ≡ max most k = omega (arith, more) in subst (λ (i : ℕ). Takes net stimulus n i) is at)

abbrev no_moment : List Settled
no_moment = []

module _ (net : NetlistView) (s : StimulusView) (limit : ℕ) where
  pub are_more : (xs : List Settled) (y : Settled) → AreMoments net s limit xs → length xs < length (moments s) → SettlesAs net s (length xs) y → y.deltas ≤ limit
      → AreMoments net s limit (xs ++ y ∷ [])
  are_more xs y A more settles within = record {
    there = let long = one_more xs y in omega (arith, long, more);
    each = λ m x is. ⊎_elim (λ h. A.each m x h) (λ h. subst (λ (k : ℕ). SettlesAs net s k x) (sym h.0) (subst (λ (z : Settled). SettlesAs net s (length xs) z) (sym h.1) settles)) (at_end xs y m x is);
    within = λ m x is. ⊎_elim (λ h. A.within m x h) (λ h. subst (λ (z : Settled). z.deltas ≤ limit) (sym h.1) within) (at_end xs y m x is);
  }

  pub are_none : AreMoments net s limit []
  are_none = record { there = omega arith; each = λ m x is. absurd (none m x is); within = λ m x is. absurd (none m x is) }
    where
      none : (m : ℕ) (x : Settled) → slice_get no_moment m ≡ Some x → ⊥
      none m x is = cc
