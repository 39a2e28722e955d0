-- The greatest number of delta cycles of an accepted netlist's moments.
use Rattle.std.proofs.Common.{◌≡◌, ℕ, zero, suc, ◌<◌, ◌≤◌, arith, ◌⊎◌, inl, inr, subst}
use Rattle.std.proofs.lemmas.Bool.{cases_eq, cases_lt}
use Rattle.rtl_model.specs.simulation.Netlist.{Netlist}
use Rattle.rtl_model.specs.simulation.Moments.{Takes, IsMost}
use Rattle.rtl_model.specs.simulation.Elaborated.{IsElaborated}
use Rattle.rtl_model.specs.simulation.Accepted.{IsAccepted}
use Rattle.rtl_model.specs.simulation.Laws.{OneGreatestCount}
use Rattle.rtl_model.proofs.simulation.Orders.{every_order_is_one, one_number}
use Rattle.rtl_model.proofs.simulation.Settling.{each_moment_comes, settles_in_bound}

one_count : (net : Netlist) (stimulus : ℕ → ℕ → ℕ) (m k j : ℕ) → Takes net stimulus m k → Takes net stimulus m j → k ≡ j
one_count net stimulus m k j (t, a) (u, b) = ((every_order_is_one net stimulus m).1 k j t u a b).0

module _ (net : Netlist) (E : IsElaborated net) (A : IsAccepted net) (stimulus : ℕ → ℕ → ℕ) where
  takes : (m : ℕ) → (k : ℕ) × Takes net stimulus m k
  takes m = let (k, t, settled) = each_moment_comes net E A stimulus m in (k, (t, settled))

  greatest_to : (last : ℕ) → (most : ℕ) × IsMost net stimulus last most
  greatest_to zero =
      let (k, take) = takes 0 in
      (k, record { at_most = λ m j l other. first k take m j l other; met = (0, omega arith, take) })
    where
      first : (k : ℕ) → Takes net stimulus 0 k → (m j : ℕ) → m ≤ 0 → Takes net stimulus m j → j ≤ k
      first k take m j l other =
          let e : m ≡ 0 = omega arith in
          let same = one_count net stimulus 0 j k (subst (λ (n : ℕ). Takes net stimulus n j) e other) take in
          omega arith
  greatest_to (suc last) = go (greatest_to last) (takes (suc last))
    where
      go : (b : ℕ) × IsMost net stimulus last b → (k : ℕ) × Takes net stimulus (suc last) k → (most : ℕ) × IsMost net stimulus (suc last) most
      go (b, B) (k, take) = pick (cases_lt b k)
        where
          up_to : (most m j : ℕ) → b ≤ most → k ≤ most → m ≤ suc last → Takes net stimulus m j → (m ≡ suc last) ⊎ (m ≡ suc last → ⊥) → j ≤ most
          up_to most m j lb lk l other (inl e) =
              let same = one_count net stimulus (suc last) j k (subst (λ (n : ℕ). Takes net stimulus n j) e other) take in
              omega arith
          up_to most m j lb lk l other (inr ne) = let le = B.at_most m j (omega arith) other in omega arith

          pick : (b < k) ⊎ (k ≤ b) → (most : ℕ) × IsMost net stimulus (suc last) most
          pick (inl l) = (k, record { at_most = λ m j le other. up_to k m j (omega arith) (omega arith) le other (cases_eq m (suc last)); met = (suc last, omega arith, take) })
          pick (inr l) =
              let (m, le, other) = B.met in
              (b, record { at_most = λ m j le other. up_to b m j (omega arith) (omega arith) le other (cases_eq m (suc last)); met = (m, omega arith, other) })

one_most : (net : Netlist) (stimulus : ℕ → ℕ → ℕ) (last a b : ℕ) → IsMost net stimulus last a → IsMost net stimulus last b → a ≤ b
one_most net stimulus last a b x y = let (m, l, take) = x.met in y.at_most m a l take

pub one_greatest_count : OneGreatestCount
one_greatest_count net greatest bounded E A V stimulus last =
    let (most, M) = greatest_to net E A stimulus last in
    (most, M, within most M, λ other O. let l = one_most net stimulus last other most O M in let k = one_most net stimulus last most other M O in omega arith)
  where
    within : (most : ℕ) → IsMost net stimulus last most → most ≤ bounded
    within most M =
        let (m, l, (t, (s, begun, to))) = M.met in
        let (k, set, le, first) = settles_in_bound net greatest bounded E A V stimulus m s begun in
        let same = one_number net s most k to.0 set in
        omega arith
