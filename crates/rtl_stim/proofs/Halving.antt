-- A net among clocks in order, by halves.
use Rattle.std.proofs.Common.{◌≡◌, ℕ, ◌+◌, ◌-◌, ◌/◌, ◌<◌, ◌≤◌, List, length, get_or, ⊎_elim, ap, ◌∙◌, arith}
use Rattle.std.specs.Prelude.{Contains}
use Rattle.std.proofs.lemmas.Bool.{cases_lt}
use Rattle.std.proofs.lemmas.List.{get_or_default}
use Rattle.rtl_model.specs.basics.Lists.{RisesBy}
use Rattle.rtl_model.specs.simulation.Netlist.{Edge, Rising}
use Rattle.rtl_model.specs.simulation.Report.{clock_key}
use Rattle.rtl_stim.specs.Quiet.{IsNoClock, IsBetween, clock_at}

pub half_below : (low high : ℕ) → low < high → low + (high - low) / 2 < high
half_below low high less = omega arith

pub apart : {a b : ℕ} → (a ≡ b → ⊥) → b ≤ a → b < a
apart {a} {b} differ le = grind (arith, differ, le)

module _ (clocks : List (ℕ × Edge)) (rise : RisesBy clock_key clocks) (net : ℕ) where
  in_order : (i j : ℕ) → i ≤ j → j < length clocks → clock_at clocks i ≤ clock_at clocks j
  in_order i j le within =
      ⊎_elim (λ before. ⊎_elim (λ h. omega (arith, h)) (λ h. omega (arith, h.0)) (rise i j (0, Rising) before within))
      (λ not_before. let same : i ≡ j = omega (arith, le, not_before) in let e = ap (clock_at clocks) same in omega (arith, e))
      (cases_lt i j)

  clock_is : (i : ℕ) (d : ℕ × Edge) → i < length clocks → clock_at clocks i ≡ (get_or clocks i d).0
  clock_is i d within = ap (λ (p : ℕ × Edge). p.0) (get_or_default clocks i (0, Rising) d within)

  pub higher : (low high i : ℕ) (d : ℕ × Edge) → i < length clocks → (get_or clocks i d).0 < net → IsBetween clocks net low high → IsBetween clocks net (i + 1) high
  higher low high i d within less between = record {
    before = λ j before. let order = in_order j i (omega (arith, before)) within in omega (arith, order, clock_is i d within, less);
    behind = between.behind;
  }

  pub lower : (low high i : ℕ) (d : ℕ × Edge) → i < length clocks → net < (get_or clocks i d).0 → IsBetween clocks net low high → IsBetween clocks net low i
  lower low high i d within less between = record {
    before = between.before;
    behind = λ j le inside. let order = in_order i j le inside in omega (arith, order, clock_is i d within, less);
  }

  pub found : (i : ℕ) (d : ℕ × Edge) → i < length clocks → (get_or clocks i d).0 ≡ net → (edge : Edge) × Contains clocks (net, edge)
  found i d within is =
      let edge = (get_or clocks i d).1 in
      (edge, (i, within, get_or_default clocks i (net, edge) d within ∙ ap (λ (n : ℕ). let p : ℕ × Edge = (n, edge) in p) is))

  pub nowhere : (low high : ℕ) → high ≤ low → IsBetween clocks net low high → IsNoClock clocks net
  nowhere low high past between edge (i, within, is) =
      let here : clock_at clocks i ≡ net = ap (λ (p : ℕ × Edge). p.0) (get_or_default clocks i (0, Rising) (net, edge) within ∙ is) in
      ⊎_elim (λ less. let h = between.before i less in omega (arith, h, here)) (λ le. let h = between.behind i (omega (arith, le, past)) within in omega (arith, h, here)) (cases_lt i low)
