-- Faults name processes that are there.
use Rattle.std.proofs.Common.{◌≡◌, ℕ, ◌<◌, ◌≤◌, true, false, length, refl, sym, ap, ◌∙◌, ◌⊎◌, inl, inr, Some, None}
use Rattle.std.proofs.lemmas.Bool.{cases_lt}
use Rattle.std.proofs.Math.ListN.{get_or-eq_default}
use Rattle.rtl_model.specs.simulation.Netlist as m
use Rattle.rtl_model.specs.simulation.Netlist.{Netlist, Combinational, Clocked, Mixed, process, no_process}
use Rattle.rtl_model.specs.simulation.Accepted as f
use Rattle.rtl_model.specs.simulation.Accepted.{Fault, IsFault, IsClockOf, IsResetOf}
use Rattle.rtl_model.specs.simulation.Faults.{fault_number}
use Rattle.rtl_check.specs.Listing.{first_named}

module _ (net : Netlist) where
  pub beyond : (p : ℕ) → length net.processes ≤ p → process net p ≡ no_process
  beyond p l = get_or-eq_default net.processes no_process l

  timed : (p : ℕ) → ((process net p).kind ≡ Combinational → ⊥) → p < length net.processes
  timed p odd = go (cases_lt p (length net.processes))
    where
      go : (p < length net.processes) ⊎ (length net.processes ≤ p) → p < length net.processes
      go (inl l) = l
      go (inr l) = absurd (odd (ap (λ (q : m.Process). q.kind) (beyond p l)))

  pub clock_there : (p n : ℕ) → IsClockOf net p n → p < length net.processes
  clock_there p n (edge, (reset, is)) = timed p (λ e. let h : Combinational ≡ Clocked n edge reset = sym e ∙ is in cc)

  pub reset_there : (p n : ℕ) → IsResetOf net p n → p < length net.processes
  reset_there p n (reset, is, e) = timed p (λ c. let h : None ≡ Some reset = sym (ap m.kind_reset c) ∙ is in cc)

  pub process_there : (x : Fault) → IsFault net x → (fault_number x ≡ 1 → ⊥) → (fault_number x ≡ 8 → ⊥) → first_named x < length net.processes
  process_there (f.TwoDrivers n s t) is one loop = absurd (one refl)
  process_there (f.MixedProcess p) (inl is) one loop = timed p (λ e. let h : Combinational ≡ Mixed = sym e ∙ is in cc)
  process_there (f.MixedProcess p) (inr h) one loop = reset_there p h.reset.net (h.reset, h.is_reset, refl)
  process_there (f.ClockNotInput p n) is one loop = clock_there p n is.0
  process_there (f.EdgeNotSensitive p n) (inl c, w) one loop = clock_there p n c
  process_there (f.EdgeNotSensitive p n) (inr c, w) one loop = reset_there p n c
  process_there (f.ClockAsData p n) (c, inl (clock, is, r)) one loop = clock_there p clock is
  process_there (f.ClockAsData p n) (c, inr r) one loop = reset_there p n r
  process_there (f.MissingSensitivity p n) (c, r, w) one loop = c.0
  process_there (f.Latch p n) (c, r, w) one loop = c.0
  process_there (f.Loop ps) is one loop = absurd (loop refl)
  process_there (f.NetLoop ns) is one loop = absurd (loop refl)
  process_there (f.StoredVariable p v e) is one loop = go (cases_lt p (length net.processes))
    where
      go : (p < length net.processes) ⊎ (length net.processes ≤ p) → p < length net.processes
      go (inl l) = l
      go (inr l) = let h : (process net p).stores v e ≡ false = ap (λ (q : m.Process). q.stores v e) (beyond p l) in let k : true ≡ false = sym is ∙ h in cc
