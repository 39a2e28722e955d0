-- What an accepted netlist has, each fault but loops turned round.
use Rattle.std.proofs.Common.{◌≡◌, ℕ, ◌<◌, ◌≤◌, true, false, List, [], ◌∷◌, length, refl, arith, ◌⊎◌, inl, inr, subst, Contains, IsTrue, ◌==◌}
use Rattle.std.specs.List.{list_any}
use Rattle.std.proofs.lemmas.Bool.{cases_Bool, cases_lt}
use Rattle.std.proofs.lemmas.List.{get_or_past}
use Rattle.std.proofs.lemmas.List.Elements.{Contains-get_or}
use Rattle.rtl_model.specs.simulation.Netlist.{Clocked, Combinational, Driver, Edge, IsDriven, HasPlace, HasReset, IsClockedBy, IsCombinational, IsInput, Mixed, Netlist, no_process, Process, process, ProcessKind, Reset, Source, sources_of, target}
use Rattle.rtl_model.specs.simulation.Accepted.{ClockAsData, ClockNotInput, EdgeNotSensitive, Fault, IsAccepted, IsFault, Latch, MissingSensitivity, MixedProcess, TwoDrivers}
use Rattle.rtl_model.specs.simulation.Faults.{is_no_loop}
use Rattle.rtl_model.specs.simulation.Elaborated.{IsWired}
use Rattle.rtl_model.proofs.basics.Lists.{Contains-none}
use Rattle.rtl_model.proofs.basics.Search.{is_contained}

pub record Faultless (net : Netlist) : Type 0 where
  pub one_source : (n : ℕ) → length (sources_of net n) ≤ 1
  pub not_mixed : (p : ℕ) → (process net p).kind ≡ Mixed → ⊥
  pub clock_is_input : (p clock : ℕ) (edge : Edge) → IsClockedBy net p clock edge → IsInput net clock
  pub clock_wakes : (p clock : ℕ) (edge : Edge) → IsClockedBy net p clock edge → Contains (process net p).wakes clock
  pub reset_wakes : (p : ℕ) (reset : Reset) → HasReset net p reset → Contains (process net p).wakes reset.net
  -- no branch reads a clock, its own or another's
  pub no_clock_as_data : (p clock q other : ℕ) (edge edge' : Edge) → IsClockedBy net p clock edge → IsClockedBy net q other edge' → Contains (process net p).acting_reads other → ⊥
  pub reads_wake : (p n : ℕ) → IsCombinational net p → Contains (process net p).reads n → Contains (process net p).wakes n
  pub no_latch : (p place : ℕ) → IsCombinational net p → HasPlace net p place → IsTrue ((process net p).assigns (target net p place))

module _ (net : Netlist) (none : (f : Fault) → IsFault net f → is_no_loop f ≡ true → ⊥) where
  one : (n : ℕ) → length (sources_of net n) ≤ 1
  one n = go (sources_of net n) refl
    where
      go : (xs : List Source) → sources_of net n ≡ xs → length (sources_of net n) ≤ 1
      go [] e = rw e (omega arith)
      go (x ∷ []) e = rw e (omega arith)
      go (x ∷ y ∷ more) e = absurd (none (TwoDrivers n x y) (more, e) refl)

  wakes : (p n : ℕ) → ((Contains (process net p).wakes n → ⊥) → ⊥) → Contains (process net p).wakes n
  wakes p n h = go (is_contained (process net p).wakes n)
    where
      go : Contains (process net p).wakes n ⊎ (Contains (process net p).wakes n → ⊥) → Contains (process net p).wakes n
      go (inl c) = c
      go (inr asleep) = absurd (h asleep)

  input : (p clock : ℕ) (edge : Edge) → IsClockedBy net p clock edge → IsInput net clock
  input p clock edge is = go (cases_Bool (list_any (λ m. m == clock) net.inputs))
    where
      go : (list_any (λ m. m == clock) net.inputs ≡ true) ⊎ (list_any (λ m. m == clock) net.inputs ≡ false) → IsInput net clock
      go (inl t) = t
      go (inr f) = absurd (none (ClockNotInput p clock) ((edge, is), λ (h : IsInput net clock). cc) refl)

  latch : (p place : ℕ) → IsCombinational net p → HasPlace net p place → IsTrue ((process net p).assigns (target net p place))
  latch p place c h = go (cases_Bool ((process net p).assigns (target net p place)))
    where
      go : ((process net p).assigns (target net p place) ≡ true) ⊎ ((process net p).assigns (target net p place) ≡ false) → IsTrue ((process net p).assigns (target net p place))
      go (inl t) = t
      go (inr f) = absurd (none (Latch p (target net p place)) (c, Contains-get_or (process net p).drives place 0 h, f) refl)

  pub faultless_by : Faultless net
  faultless_by = record {
    one_source = one;
    not_mixed = λ p e. none (MixedProcess p) (inl e) refl;
    clock_is_input = input;
    clock_wakes = λ p clock edge is. wakes p clock (λ asleep. none (EdgeNotSensitive p clock) (inl (edge, is), asleep) refl);
    reset_wakes = λ p reset has. wakes p reset.net (λ asleep. none (EdgeNotSensitive p reset.net) (inr (reset, has, refl), asleep) refl);
    no_clock_as_data = λ p clock q other edge edge' is is' reads. none (ClockAsData p other) ((q, (edge', is')), inl (clock, (edge, is), reads)) refl;
    reads_wake = λ p n c reads. wakes p n (λ asleep. none (MissingSensitivity p n) (c, reads, asleep) refl);
    no_latch = latch;
  }

pub faultless : (net : Netlist) → IsAccepted net → Faultless net
faultless net A = faultless_by net (λ f is t. A f is)

-- nothing drives an input
pub undriven_input : (net : Netlist) → IsWired net → (n : ℕ) → IsInput net n → IsDriven net n → ⊥
undriven_input net W n is (p, place, h, t) = Contains-none (Driver p place) (subst (λ (xs : List Source). Contains xs (Driver p place)) (W.inputs_have_no_source n is) (subst (λ (m : ℕ). Contains (sources_of net m) (Driver p place)) t (W.drivers_are_sources p place h)))

-- ---- kinds

pub place_in_range : (net : Netlist) (p place : ℕ) → HasPlace net p place → p < length net.processes
place_in_range net p place h = go (cases_lt p (length net.processes))
  where
    go : (p < length net.processes) ⊎ (length net.processes ≤ p) → p < length net.processes
    go (inl l) = l
    go (inr l) = let h' : place < 0 = subst (λ (q : Process). place < length q.drives) (get_or_past net.processes p no_process l) h in absurd (omega arith)

pub kinds_below : (net : Netlist) (A : Faultless net) (p : ℕ) → p < length net.processes → IsCombinational net p ⊎ ((clock : ℕ) × (edge : Edge) × IsClockedBy net p clock edge)
kinds_below net A p l = go (process net p).kind refl
  where
    go : (k : ProcessKind) → (process net p).kind ≡ k → IsCombinational net p ⊎ ((clock : ℕ) × (edge : Edge) × IsClockedBy net p clock edge)
    go Combinational e = inl (l, e)
    go (Clocked clock edge reset) e = inr (clock, edge, (reset, e))
    go Mixed e = absurd (A.not_mixed p e)

pub kinds : (net : Netlist) (A : Faultless net) (p place : ℕ) → HasPlace net p place → IsCombinational net p ⊎ ((clock : ℕ) × (edge : Edge) × IsClockedBy net p clock edge)
kinds net A p place h = kinds_below net A p (place_in_range net p place h)
