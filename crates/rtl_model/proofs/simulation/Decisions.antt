-- Facts about processes that can be decided.
use Rattle.std.proofs.Common.{◌≡◌, ℕ, ◌<◌, ◌≤◌, length, refl, arith, ◌⊎◌, inl, inr, Contains}
use Rattle.std.proofs.lemmas.Bool.{cases_lt}
use Rattle.rtl_model.proofs.basics.Search.{search_below, is_contained}
use Rattle.rtl_model.specs.simulation.Netlist.{Clocked, Combinational, IsCombinational, ProcessKind, Mixed, Netlist, process, target}
use Rattle.rtl_model.specs.simulation.Accepted.{Feeds}

pub is_combinational : (net : Netlist) (p : ℕ) → IsCombinational net p ⊎ (IsCombinational net p → ⊥)
is_combinational net p = go (cases_lt p (length net.processes)) (process net p).kind refl
  where
    go : (p < length net.processes) ⊎ (length net.processes ≤ p) → (k : ProcessKind) → (process net p).kind ≡ k → IsCombinational net p ⊎ (IsCombinational net p → ⊥)
    go (inl l) Combinational e = inl (l, e)
    go (inl l) (Clocked clock edge reset) e = inr (λ c. let h = c.1 in cc)
    go (inl l) Mixed e = inr (λ c. let h = c.1 in cc)
    go (inr l) k e = inr (λ c. let h = c.0 in absurd (omega arith))

pub is_fed : (net : Netlist) (p q : ℕ) → Feeds net p q ⊎ (Feeds net p q → ⊥)
is_fed net p q = go (is_combinational net p) (is_combinational net q) (search_below (λ place. Contains (process net q).wakes (target net p place)) (λ place. is_contained (process net q).wakes (target net p place)) (length (process net p).drives))
  where
    go : IsCombinational net p ⊎ (IsCombinational net p → ⊥) → IsCombinational net q ⊎ (IsCombinational net q → ⊥)
        → ((place : ℕ) × (place < length (process net p).drives) × Contains (process net q).wakes (target net p place)) ⊎ ((place : ℕ) → place < length (process net p).drives → Contains (process net q).wakes (target net p place) → ⊥)
        → Feeds net p q ⊎ (Feeds net p q → ⊥)
    go (inl c) (inl d) (inl (place, l, w)) = inl (record { feeder = c; fed = d; place = place; drives = l; wakes = w })
    go (inl c) (inl d) (inr none) = inr (λ f. none f.place f.drives f.wakes)
    go (inl c) (inr d) s = inr (λ f. d f.fed)
    go (inr c) d s = inr (λ f. c f.feeder)
