-- Whole simulations don't depend on their orders.
use Rattle.std.proofs.Common.{◌≡◌, ℕ, zero, suc, ◌<◌, sym, ap, ◌∙◌, ◌⊎◌, inl, inr, subst}
use Rattle.std.proofs.lemmas.Bool.{cases_order}
use Rattle.rtl_model.specs.simulation.Netlist.{Netlist}
use Rattle.rtl_model.specs.simulation.Cycle.{after_inputs, State}
use Rattle.rtl_model.specs.simulation.Moments.{Begun, SettlesIn, SettlesTo}
use Rattle.rtl_model.specs.simulation.Laws.{EveryOrderIsOne}
use Rattle.rtl_model.proofs.simulation.Order.{finished, HasRun-finished}
use Rattle.rtl_model.proofs.simulation.Deltas.{after, HasDeltas-after}

not_sooner : (net : Netlist) (s : State) (k j : ℕ) → SettlesIn net s k → SettlesIn net s j → k < j → ⊥
not_sooner net s k j a b l = let (t, deltas) = a.goes_on in b.not_before k t l deltas (a.settled t deltas)

pub one_number : (net : Netlist) (s : State) (k j : ℕ) → SettlesIn net s k → SettlesIn net s j → k ≡ j
one_number net s k j a b = go (cases_order k j)
  where
    go : (k ≡ j) ⊎ ((k < j) ⊎ (j < k)) → k ≡ j
    go (inl e) = e
    go (inr (inl l)) = absurd (not_sooner net s k j a b l)
    go (inr (inr l)) = absurd (not_sooner net s j k b a l)

settles_once : (net : Netlist) (s t : State) → s ≡ t → (k j : ℕ) (u v : State) → SettlesTo net s k u → SettlesTo net t j v → (k ≡ j) × (u ≡ v)
settles_once net s t same k j u v a b =
    let e = one_number net s k j a.0 (subst (λ (x : State). SettlesIn net x j) (sym same) b.0) in
    (e, HasDeltas-after net k s u a.1 ∙ ap (λ (i : ℕ). after net i s) e ∙ ap (λ (x : State). after net j x) same ∙ sym (HasDeltas-after net j t v b.1))

begun_once : (net : Netlist) (stimulus : ℕ → ℕ → ℕ) (m : ℕ) (s t : State) → Begun net stimulus m s → Begun net stimulus m t → s ≡ t
begun_once net stimulus zero s t a b = HasRun-finished net _ s a ∙ sym (HasRun-finished net _ t b)
begun_once net stimulus (suc m) s t (earlier, k, quiet, begun, to, run) (earlier', j, quiet', begun', to', run') =
    let same = (settles_once net earlier earlier' (begun_once net stimulus m earlier earlier' begun begun') k j quiet quiet' to to').1 in
    HasRun-finished net _ s run ∙ ap (λ (x : State). finished net (after_inputs net (stimulus (suc m)) x)) same ∙ sym (HasRun-finished net _ t run')

pub every_order_is_one : EveryOrderIsOne
every_order_is_one net stimulus m =
    (begun_once net stimulus m, λ k j t u (s, begun, to) (s', begun', to'). settles_once net s s' (begun_once net stimulus m s s' begun begun') k j t u to to')
