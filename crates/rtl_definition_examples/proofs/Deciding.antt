-- A test of a netlist of which all is known: that it is accepted.
use Rattle.std.proofs.Common.{◌≡◌, ℕ, zero, suc, ◌<◌, ◌≤◌, Bool, true, false, not, ◌&&◌, ◌||◌, ◌==◌, nat_lt, nat_le, List, [], ◌∷◌, length, Option, Some, None, refl, sym, ap, ◌∙◌, subst, arith, ◌⊎◌, inl, inr, Contains}
use Rattle.std.specs.List.{list_any}
use Rattle.std.proofs.lemmas.List.{get_or_past}
use Rattle.std.proofs.lemmas.List.Elements.{Contains-get_or}
use Rattle.std.proofs.lemmas.Bool.{and_parts, or_cases, not-true, eq-eqb, ltb-true, leb-true, cases_eq, cases_lt, and_from}
use Rattle.rtl_model.proofs.basics.Lists.{Contains-none, any_true, is_in, in_contains, contains_in}
use Rattle.rtl_model.specs.simulation.Netlist.{Netlist, Process, Reset, ProcessKind, Combinational, Clocked, Mixed, Edge, no_process, kind_reset, process, sources_of, target, IsCombinational}
use Rattle.rtl_model.specs.simulation.Accepted.{IsAccepted, TwoDrivers, MixedProcess, ClockNotInput, EdgeNotSensitive, ClockAsData, MissingSensitivity, Latch, Loop, NetLoop, StoredVariable, Feeds, IsClock}
use Rattle.rtl_model.proofs.basics.Chains.{no_circle}

-- ---- tests of all numbers below one, and of all elements

abbrev pub all_below : (ℕ → Bool) → ℕ → Bool
all_below f zero = true
all_below f (suc n) = f n && all_below f n

pub below : (f : ℕ → Bool) (n k : ℕ) → all_below f n ≡ true → k < n → f k ≡ true
below f zero k e l = absurd (omega arith)
below f (suc n) k e l = go (and_parts (f n) (all_below f n) e) (cases_eq k n) (below f n k)
  where
    go : (f n ≡ true) × (all_below f n ≡ true) → (k ≡ n) ⊎ (k ≡ n → ⊥) → (all_below f n ≡ true → k < n → f k ≡ true) → f k ≡ true
    go (h, t) (inl same) more = ap f same ∙ h
    go (h, t) (inr other) more = more t (omega arith)

abbrev pub all_in : {X : Type 0} → (X → Bool) → List X → Bool
all_in f [] = true
all_in f (x ∷ xs) = f x && all_in f xs

pub contained : {X : Type 0} (f : X → Bool) (xs : List X) (x : X) → all_in f xs ≡ true → Contains xs x → f x ≡ true
contained f [] x e c = absurd (Contains-none x c)
contained {X} f (y ∷ xs) x e (zero, l, at) = ap f (sym at) ∙ (and_parts (f y) (all_in f xs) e).0
contained f (y ∷ xs) x e (suc k, l, at) = contained f xs x (and_parts (f y) (all_in f xs) e).1 (k, omega arith, at)

-- ---- acceptance, given a numbering that rises

abbrev is_clocked_by : (n : ℕ) → ProcessKind → Bool
is_clocked_by n (Clocked clock edge reset) = clock == n
is_clocked_by n Combinational = false
is_clocked_by n Mixed = false

abbrev pub is_clock : Netlist → ℕ → Bool
is_clock net n = list_any (λ p. is_clocked_by n p.kind) net.processes

pub clock_is : (net : Netlist) (n : ℕ) → IsClock net n → is_clock net n ≡ true
clock_is net n (q, (edge, (reset, e))) = go (cases_lt q (length net.processes))
  where
    go : (q < length net.processes) ⊎ (length net.processes ≤ q) → is_clock net n ≡ true
    go (inl l) = any_true (λ p. is_clocked_by n p.kind) net.processes (process net q) (Contains-get_or net.processes q no_process l) (ap (is_clocked_by n) e ∙ eq-eqb n n refl)
    go (inr l) = let h : Combinational ≡ Clocked n edge reset = sym (ap (λ (x : Process). x.kind) (get_or_past net.processes q no_process l)) ∙ e in cc

abbrev is_plain : ProcessKind → Bool
is_plain Combinational = true
is_plain (Clocked clock edge reset) = false
is_plain Mixed = false

abbrev is_fed : Netlist → (p q : ℕ) → Bool
is_fed net p q = is_plain (process net q).kind && list_any (is_in (process net q).wakes) (process net p).drives

abbrev reset_fits : Netlist → ℕ → Option Reset → Bool
reset_fits net p None = true
reset_fits net p (Some reset) = is_in (process net p).wakes reset.net && not (is_clock net reset.net)

abbrev kind_fits : Netlist → (number : ℕ → ℕ) → ℕ → ProcessKind → Bool
kind_fits net number p Combinational =
    all_in (is_in (process net p).wakes) (process net p).reads
    && (all_in (process net p).assigns (process net p).drives && (nat_le 1 (number p) && all_below (λ q. not (is_fed net p q) || nat_lt (number p) (number q)) (length net.processes)))
kind_fits net number p (Clocked clock edge reset) =
    is_in net.inputs clock && (is_in (process net p).wakes clock && (all_in (λ n. not (is_clock net n)) (process net p).acting_reads && reset_fits net p reset))
kind_fits net number p Mixed = false

abbrev pub is_accepted : Netlist → (number : ℕ → ℕ) → Bool
is_accepted net number = not net.wide && (all_below (λ n. nat_le (length (sources_of net n)) 1) (length net.sources) && all_below (λ p. kind_fits net number p (process net p).kind) (length net.processes))

module _ (net : Netlist) (number : ℕ → ℕ) (T : is_accepted net number ≡ true) where
  narrow_and : (not net.wide ≡ true) × (all_below (λ n. nat_le (length (sources_of net n)) 1) (length net.sources) && all_below (λ p. kind_fits net number p (process net p).kind) (length net.processes) ≡ true)
  narrow_and = and_parts (not net.wide) (all_below (λ n. nat_le (length (sources_of net n)) 1) (length net.sources) && all_below (λ p. kind_fits net number p (process net p).kind) (length net.processes)) T

  halves : (all_below (λ n. nat_le (length (sources_of net n)) 1) (length net.sources) ≡ true) × (all_below (λ p. kind_fits net number p (process net p).kind) (length net.processes) ≡ true)
  halves = and_parts (all_below (λ n. nat_le (length (sources_of net n)) 1) (length net.sources)) (all_below (λ p. kind_fits net number p (process net p).kind) (length net.processes)) narrow_and.1

  is_narrow : net.wide ≡ false
  is_narrow = not-true net.wide narrow_and.0

  -- what stands past the processes is combinational
  kind_at : (p : ℕ) (k : ProcessKind) → (process net p).kind ≡ k → (k ≡ Combinational → ⊥) → kind_fits net number p k ≡ true
  kind_at p k e other = go (cases_lt p (length net.processes))
    where
      go : (p < length net.processes) ⊎ (length net.processes ≤ p) → kind_fits net number p k ≡ true
      go (inl l) = ap (λ (x : ProcessKind). kind_fits net number p x) (sym e) ∙ below (λ p. kind_fits net number p (process net p).kind) (length net.processes) p halves.1 l
      go (inr l) = absurd (other (sym e ∙ ap (λ (q : Process). q.kind) (get_or_past net.processes p no_process l)))

  plain_at : (p : ℕ) → IsCombinational net p → kind_fits net number p Combinational ≡ true
  plain_at p (l, e) = ap (λ (x : ProcessKind). kind_fits net number p x) (sym e) ∙ below (λ p. kind_fits net number p (process net p).kind) (length net.processes) p halves.1 l

  at_clock : (p clock : ℕ) (edge : Edge) (reset : Option Reset) → (process net p).kind ≡ Clocked clock edge reset
      → (is_in net.inputs clock ≡ true) × (is_in (process net p).wakes clock ≡ true) × (all_in (λ n. not (is_clock net n)) (process net p).acting_reads ≡ true) × (reset_fits net p reset ≡ true)
  at_clock p clock edge reset e =
      let (a, b) = and_parts (is_in net.inputs clock) (is_in (process net p).wakes clock && (all_in (λ n. not (is_clock net n)) (process net p).acting_reads && reset_fits net p reset)) (kind_at p (Clocked clock edge reset) e (λ h. cc)) in
      let (c, d) = and_parts (is_in (process net p).wakes clock) (all_in (λ n. not (is_clock net n)) (process net p).acting_reads && reset_fits net p reset) b in
      let (f, g) = and_parts (all_in (λ n. not (is_clock net n)) (process net p).acting_reads) (reset_fits net p reset) d in
      (a, c, f, g)

  at_plain : (p : ℕ) → IsCombinational net p
      → (all_in (is_in (process net p).wakes) (process net p).reads ≡ true) × (all_in (process net p).assigns (process net p).drives ≡ true) × (nat_le 1 (number p) ≡ true) × (all_below (λ q. not (is_fed net p q) || nat_lt (number p) (number q)) (length net.processes) ≡ true)
  at_plain p c =
      let (a, b) = and_parts (all_in (is_in (process net p).wakes) (process net p).reads) (all_in (process net p).assigns (process net p).drives && (nat_le 1 (number p) && all_below (λ q. not (is_fed net p q) || nat_lt (number p) (number q)) (length net.processes))) (plain_at p c) in
      let (d, e) = and_parts (all_in (process net p).assigns (process net p).drives) (nat_le 1 (number p) && all_below (λ q. not (is_fed net p q) || nat_lt (number p) (number q)) (length net.processes)) b in
      let (f, g) = and_parts (nat_le 1 (number p)) (all_below (λ q. not (is_fed net p q) || nat_lt (number p) (number q)) (length net.processes)) e in
      (a, d, f, g)

  reset_is : (p : ℕ) (k : ProcessKind) → (process net p).kind ≡ k → (reset : Reset) → kind_reset k ≡ Some reset → (is_in (process net p).wakes reset.net ≡ true) × (not (is_clock net reset.net) ≡ true)
  reset_is p Combinational e reset h = cc
  reset_is p Mixed e reset h = cc
  reset_is p (Clocked clock edge r) e reset h =
      and_parts (is_in (process net p).wakes reset.net) (not (is_clock net reset.net)) (subst (λ (x : Option Reset). reset_fits net p x ≡ true) h (at_clock p clock edge r e).3)

  fed_is : (p q : ℕ) → Feeds net p q → is_fed net p q ≡ true
  fed_is p q f = and_from (is_plain (process net q).kind) (list_any (is_in (process net q).wakes) (process net p).drives) (ap is_plain f.fed.1)
      (any_true (is_in (process net q).wakes) (process net p).drives (target net p f.place) (Contains-get_or (process net p).drives f.place 0 f.drives) (contains_in (process net q).wakes (target net p f.place) f.wakes))

  along : (p q : ℕ) → Feeds net p q → number p < number q
  along p q f = go (or_cases (not (is_fed net p q)) (nat_lt (number p) (number q)) (below (λ r. not (is_fed net p r) || nat_lt (number p) (number r)) (length net.processes) q (at_plain p f.feeder).3 f.fed.0))
    where
      go : (not (is_fed net p q) ≡ true) ⊎ (nat_lt (number p) (number q) ≡ true) → number p < number q
      go (inl e) = let a = not-true (is_fed net p q) e in let b = fed_is p q f in cc
      go (inr e) = ltb-true (number p) (number q) e

  one_source : (n : ℕ) → length (sources_of net n) ≤ 1
  one_source n = go (cases_lt n (length net.sources))
    where
      go : (n < length net.sources) ⊎ (length net.sources ≤ n) → length (sources_of net n) ≤ 1
      go (inl l) = leb-true (length (sources_of net n)) 1 (below (λ n. nat_le (length (sources_of net n)) 1) (length net.sources) n halves.0 l)
      go (inr l) = let e = ap length (get_or_past net.sources n [] l) in omega arith

  pub accepted_by : ((p variable place : ℕ) → (process net p).stores variable place ≡ true → ⊥) → IsAccepted net
  accepted_by forgets (TwoDrivers n x y) (more, e) = let l = one_source n in let k : length (sources_of net n) ≡ suc (suc (length more)) = ap length e in omega arith
  accepted_by forgets (MixedProcess p) (inl e) = let h = kind_at p Mixed e (λ k. cc) in cc
  accepted_by forgets (MixedProcess p) (inr unsteady) = let h = is_narrow in let w = unsteady.is_wide in cc
  accepted_by forgets (ClockNotInput p n) ((edge, (reset, e)), none) = none (at_clock p n edge reset e).0
  accepted_by forgets (EdgeNotSensitive p n) (inl (edge, (reset, e)), none) = none (in_contains (process net p).wakes n (at_clock p n edge reset e).1)
  accepted_by forgets (EdgeNotSensitive p n) (inr (reset, has, e), none) = none (subst (λ (m : ℕ). Contains (process net p).wakes m) e (in_contains (process net p).wakes reset.net (reset_is p (process net p).kind refl reset has).0))
  accepted_by forgets (ClockAsData p n) (is, inl (clock, (edge, (reset, e)), reads)) =
      let a = contained (λ m. not (is_clock net m)) (process net p).acting_reads n (at_clock p clock edge reset e).2 reads in
      let b = not-true (is_clock net n) a in
      let c = clock_is net n is in
      cc
  accepted_by forgets (ClockAsData p n) (is, inr (reset, has, e)) =
      let b = not-true (is_clock net reset.net) (reset_is p (process net p).kind refl reset has).1 in
      let c = subst (λ (m : ℕ). is_clock net m ≡ true) (sym e) (clock_is net n is) in
      cc
  accepted_by forgets (MissingSensitivity p n) (c, reads, none) = none (in_contains (process net p).wakes n (contained (is_in (process net p).wakes) (process net p).reads n (at_plain p c).0 reads))
  accepted_by forgets (Latch p n) (c, drives, e) = let h = contained (process net p).assigns (process net p).drives n (at_plain p c).1 drives in cc
  accepted_by forgets (Loop ps) (narrow, loop) = no_circle (Feeds net) (IsCombinational net) number along ps loop
  accepted_by forgets (NetLoop ns) (wide, loop) = let h = is_narrow in cc
  accepted_by forgets (StoredVariable p variable place) h = forgets p variable place h
