-- What shows a report, by its levels, its clocks and its bound.
use Rattle.std.proofs.Common.{◌≡◌, ◌≢◌, ℕ, ◌+◌, ◌<◌, ◌≤◌, false, max, not, ◌==◌, List, [], ◌∷◌, length, refl, sym, ap, ◌∙◌, arith, ◌⊎◌, inl, inr, Option, Some, None}
use Rattle.std.proofs.lemmas.Bool.{cases_lt, cases_eq, ne_eqb}
use Rattle.std.proofs.lemmas.List.{get_or_past, get_or_default}
use Rattle.rtl_model.specs.simulation.Netlist.{Netlist, Edge, Process, process, no_process}
use Rattle.rtl_model.specs.simulation.Accepted.{IsByNets}
use Rattle.rtl_model.specs.simulation.Levels.{bound, is_clocked, has_clocked}
use Rattle.rtl_model.specs.simulation.Report.{AreClocks, ShowReport}
use Rattle.rtl_model.proofs.basics.Lists.{any_true, all_none, Contains-none, Contains-first}
use Rattle.rtl_check.specs.Standing.{level_of, ShowFroms}
use Rattle.rtl_check.specs.Reported.{greater, IsGreatestTo}
use Rattle.rtl_check.proofs.Processes.{clock_there}
use Rattle.rtl_check.proofs.Bounds.{unclocked}
use Rattle.rtl_check.proofs.ListedPairs.{next_or}

-- ---- the greatest level

pub none_greatest : (levels : List (Option ℕ)) → IsGreatestTo levels 0 0
none_greatest levels = record { none_above = λ p level l e. absurd (omega (arith, l)); met = λ some. absurd (some refl) }

pub greater_on : (levels : List (Option ℕ)) (k greatest : ℕ) (o : Option ℕ) → level_of levels k ≡ o → IsGreatestTo levels k greatest → IsGreatestTo levels (k + 1) (greater greatest o)
greater_on levels k g None is h = record {
  none_above = λ p level l. next_or (λ i. level_of levels i ≡ Some level → level ≤ g) k (λ i m e. h.none_above i level m e) (λ e. let z : None ≡ Some level = sym is ∙ e in absurd cc) p l;
  met = h.met;
}
greater_on levels k g (Some v) is h = record {
  none_above = λ p level l. next_or (λ i. level_of levels i ≡ Some level → level ≤ max g v) k (λ i m e. let a = h.none_above i level m e in omega (arith, a))
      (λ e. let z : Some v ≡ Some level = sym is ∙ e in let a : v ≡ level = cc in omega (arith, a)) p l;
  met = go (cases_lt g v);
}
  where
    go : (g < v) ⊎ (v ≤ g) → max g v ≢ 0 → (p : ℕ) × (level_of levels p ≡ Some (max g v))
    go (inl l) some = let e : v ≡ max g v = omega (arith, l) in (k, is ∙ ap (λ (n : ℕ). Some n) e)
    go (inr l) some =
        let e : g ≡ max g v = omega (arith, l) in
        let (p, at) = h.met (λ z. some (sym e ∙ z)) in
        (p, at ∙ ap (λ (n : ℕ). Some n) e)

module _ (net : Netlist) (levels from : List (Option ℕ)) (clocks : List (ℕ × Edge)) (most : ℕ) (R : ShowReport net levels from clocks most) where
  pub froms : ShowFroms net levels from
  froms = record {
    shown = R.shown;
    each_process = R.each_process;
    each_from = R.rest.each_from;
    clocked = λ p clock edge k. (R.clocked p clock edge k, R.rest.from_clocked p clock edge k);
    from_first = R.from_first;
    from_lowest = R.from_lowest;
  }

module _ (net : Netlist) (levels from : List (Option ℕ)) (clocks : List (ℕ × Edge)) (most : ℕ) (greatest : ℕ) (g : IsGreatestTo levels (length levels) greatest) where
  above : (p level : ℕ) → level_of levels p ≡ Some level → level ≤ greatest
  above p level e = go (cases_lt p (length levels))
    where
      go : (p < length levels) ⊎ (length levels ≤ p) → level ≤ greatest
      go (inl l) = g.none_above p level l e
      go (inr l) = let z : None ≡ Some level = sym (get_or_past levels p None l) ∙ e in absurd cc

  pub shown : (IsByNets net → ⊥) → ShowFroms net levels from → AreClocks net clocks → most ≡ bound net greatest → ShowReport net levels from clocks most
  shown other S cs is = record {
    greatest = greatest;
    shown = S.shown;
    each_process = S.each_process;
    clocked = λ p clock edge k. (S.clocked p clock edge k).0;
    none_above = above;
    met = g.met;
    from_first = S.from_first;
    from_lowest = S.from_lowest;
    rest = record { by_processes = other; bound_is = is; each_from = S.each_from; from_clocked = λ p clock edge k. (S.clocked p clock edge k).1; clocks_are = cs };
  }

  module _ (R : ShowReport net levels from clocks most) where
    one : R.greatest ≡ greatest
    one = go (cases_eq R.greatest 0) (cases_eq greatest 0)
      where
        go : (R.greatest ≡ 0) ⊎ (R.greatest ≢ 0) → (greatest ≡ 0) ⊎ (greatest ≢ 0) → R.greatest ≡ greatest
        go (inl a) (inl b) = a ∙ sym b
        go (inl a) (inr some) = let (p, e) = g.met some in let l = R.none_above p greatest e in omega (arith, l, a)
        go (inr some) (inl b) = let (p, e) = R.met some in let l = above p R.greatest e in omega (arith, l, b)
        go (inr some) (inr other) =
            let (p, e) = g.met other in
            let l = R.none_above p greatest e in
            let (q, d) = R.met some in
            let k = above q R.greatest d in
            omega (arith, l, k)

    pub bound_is : most ≡ bound net greatest
    bound_is = R.rest.bound_is ∙ ap (bound net) one

-- ---- clocks

pub some_listed : (net : Netlist) (clocks : List (ℕ × Edge)) → AreClocks net clocks → not (length clocks == 0) ≡ has_clocked net
some_listed net [] cs = sym (all_none (λ (q : Process). is_clocked q.kind) net.processes no_process each)
  where
    each : (p : ℕ) → p < length net.processes → is_clocked (process net p).kind ≡ false
    each p l = unclocked (process net p).kind (λ n edge reset is. Contains-none (n, edge) ((cs.are n edge).1 (p, (reset, is))))
some_listed net (x ∷ xs) cs =
    let (p, (reset, is)) = (cs.are x.0 x.1).0 (Contains-first x xs) in
    let there : p < length net.processes = clock_there net p x.0 (x.1, (reset, is)) in
    ap not (ne_eqb (length (x ∷ xs)) 0 nonzero)
    ∙ sym (any_true (λ (q : Process). is_clocked q.kind) net.processes (process net p) (p, there, get_or_default net.processes p (process net p) no_process there) (ap is_clocked is))
  where
    nonzero : length (x ∷ xs) ≡ 0 → ⊥
    nonzero e = omega (arith, e)
