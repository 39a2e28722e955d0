-- An accepted netlist has one machine run under each stimulus.
use Rattle.std.proofs.Common.{◌≡◌, ℕ, zero, suc, Bool, true, false, not, ◌&&◌, ◌||◌, ◌==◌, List, [], ◌∷◌, slice_index, slice_index_or, Option, Some, None, refl, sym, ap, ◌∙◌, subst, IsSome}
use Rattle.rtl_model.specs.basics.Valuations.{entry_where, or_else}
use Rattle.rtl_model.specs.simulation.Netlist.{Clocked, Combinational, Driver, Edge, holds_back, HasPlace, Idle, IsClockedBy, ProcessKind, Mixed, Netlist, process, Reset, reset_entry, reset_of, resets, Source, sources_of, target}
use Rattle.rtl_model.specs.simulation.Machine.{entry_or, given, IsFirst, IsMachineRun, IsStep, register_first, register_next, Solves}
use Rattle.rtl_model.specs.simulation.Laws.{OneMachineRun}
use Rattle.rtl_model.proofs.simulation.Numbered.{Numbered, sole}
use Rattle.rtl_model.proofs.simulation.Levels.{numbered}
use Rattle.rtl_model.proofs.simulation.Solution.{AgreeBelow, RegistersRise, agree_at, one_solves, solution, solution_solves}

-- v is a valuation of the machine at the moment m
abbrev pub Machine : Netlist → (ℕ → ℕ → ℕ) → ℕ → List ℕ → Type 0
Machine net stimulus zero v = IsFirst net (stimulus 0) v
Machine net stimulus (suc m) w = (v : List ℕ) × Machine net stimulus m v × IsStep net v (stimulus (suc m)) w

-- an entry, if there is one, stands under conditions alike
where_alike : (o : Option ℕ) (a b : Bool) → (IsSome o → a ≡ b) → entry_where a o ≡ entry_where b o
where_alike (Some v) a b h = ap (λ (c : Bool). entry_where c (Some v)) (h refl)
where_alike None true true h = refl
where_alike None true false h = refl
where_alike None false true h = refl
where_alike None false false h = refl

module _ (net : Netlist) (L : Numbered net) where
  -- where a reset assigns a register, it holds alike in valuations that agree below the register's number
  resets_alike : (p place : ℕ) (v w : List ℕ) → HasPlace net p place → AgreeBelow net L (L.of_net (target net p place)) v w → IsSome (reset_entry (reset_of net p) place) → resets (reset_of net p) (slice_index v) ≡ resets (reset_of net p) (slice_index w)
  resets_alike p place v w h a some = go (reset_of net p) refl
    where
      go : (o : Option Reset) → reset_of net p ≡ o → resets o (slice_index v) ≡ resets o (slice_index w)
      go None e = refl
      go (Some x) e = ap (λ (n : ℕ). n == x.value) (agree_at net L (L.of_net (target net p place)) x.net v w a (λ driven. L.resets_rise p place x.net (((x, e, refl), driven), some) h))

  -- what registers are, in terms of the valuation that they are in, where they read it by their resets alone
  abbrev ReadsByResets : ((p place clock : ℕ) → Edge → List ℕ → ℕ) → Type 0
  ReadsByResets next = (p place clock : ℕ) (edge : Edge) (v w : List ℕ) → (IsSome (reset_entry (reset_of net p) place) → resets (reset_of net p) (slice_index v) ≡ resets (reset_of net p) (slice_index w)) → next p place clock edge v ≡ next p place clock edge w

  module _ (inputs : ℕ → ℕ) (next : (p place clock : ℕ) → Edge → List ℕ → ℕ) (alike : ReadsByResets next) where
    record IsNext (w : List ℕ) : Type 0 where
      registers : ℕ → ℕ
      are : (p place clock : ℕ) (edge : Edge) → IsClockedBy net p clock edge → HasPlace net p place → registers (target net p place) ≡ next p place clock edge w
      solves : Solves net inputs registers w

    abbrev next_by : ProcessKind → (p place : ℕ) → List ℕ → ℕ
    next_by (Clocked clock edge reset) p place w = next p place clock edge w
    next_by Combinational p place w = 0
    next_by Mixed p place w = 0

    -- of a net, by its one source
    abbrev next_from : List ℕ → List Source → ℕ
    next_from w (Driver p place ∷ more) = next_by (process net p).kind p place w
    next_from w (Idle v ∷ more) = 0
    next_from w [] = 0

    abbrev next_registers : List ℕ → ℕ → ℕ
    next_registers w n = next_from w (sources_of net n)

    next_at : (w : List ℕ) (p place clock : ℕ) (edge : Edge) → IsClockedBy net p clock edge → HasPlace net p place → next_registers w (target net p place) ≡ next p place clock edge w
    next_at w p place clock edge is h = ap (next_from w) (sole net L p place h) ∙ ap (λ (k : ProcessKind). next_by k p place w) is.1

    rise : RegistersRise net L next_registers
    rise p place clock edge v w is h below = next_at v p place clock edge is h ∙ alike p place clock edge v w (resets_alike p place v w h below) ∙ sym (next_at w p place clock edge is h)

    by_source : (w : List ℕ) → IsNext w → Solves net inputs (next_registers w) w
    by_source w a = record {
      each_net = a.solves.each_net;
      on_inputs = a.solves.on_inputs;
      on_registers = λ p place clock edge is h. a.solves.on_registers p place clock edge is h ∙ a.are p place clock edge is h ∙ sym (next_at w p place clock edge is h);
      on_others = a.solves.on_others;
      on_combinational = a.solves.on_combinational;
    }

    next_once : (w w' : List ℕ) → IsNext w → IsNext w' → w ≡ w'
    next_once w w' a b = one_solves net L inputs next_registers rise w w' (by_source w a) (by_source w' b)

    next_exists : (w : List ℕ) × IsNext w
    next_exists =
        let w = solution net L inputs next_registers rise in
        (w, record { registers = next_registers w; are = next_at w; solves = solution_solves net L inputs next_registers rise })

  -- ---- steps

  abbrev step_next : List ℕ → (ℕ → ℕ) → (p place clock : ℕ) → Edge → List ℕ → ℕ
  step_next v inputs p place clock edge w = register_next net p place clock edge v inputs w

  step_alike : (v : List ℕ) (inputs : ℕ → ℕ) → ReadsByResets (step_next v inputs)
  step_alike v inputs p place clock edge u w e = ap (λ (o : Option ℕ). entry_or
      (or_else o (entry_where (net.edge edge (slice_index v clock) (inputs clock) && not (holds_back (reset_of net p) (given net v inputs))) (slice_index_or ((process net p).acting_effect v) place None)))
      (slice_index v (target net p place))) (where_alike (reset_entry (reset_of net p) place) _ _ (λ some. ap (λ (b : Bool). resets (reset_of net p) (given net v inputs) || b) (e some)))

  step_once : (v w w' : List ℕ) (inputs : ℕ → ℕ) → IsStep net v inputs w → IsStep net v inputs w' → w ≡ w'
  step_once v w w' inputs a b =
      next_once inputs (step_next v inputs) (step_alike v inputs) w w'
      (record { registers = a.registers; are = a.next; solves = a.solves }) (record { registers = b.registers; are = b.next; solves = b.solves })

  steps : (v : List ℕ) (inputs : ℕ → ℕ) → (w : List ℕ) × IsStep net v inputs w
  steps v inputs = let (w, a) = next_exists inputs (step_next v inputs) (step_alike v inputs) in (w, record { registers = a.registers; next = a.are; solves = a.solves })

  -- ---- the first valuation

  abbrev first_next : (ℕ → ℕ) → (p place clock : ℕ) → Edge → List ℕ → ℕ
  first_next inputs p place clock edge w = register_first net p place inputs w

  first_alike : (inputs : ℕ → ℕ) → ReadsByResets (first_next inputs)
  first_alike inputs p place clock edge u w e =
      ap (λ (o : Option ℕ). entry_or o (slice_index net.start (target net p place))) (where_alike (reset_entry (reset_of net p) place) _ _ (λ some. ap (λ (b : Bool). resets (reset_of net p) (given net net.start inputs) || b) (e some)))

  first_once : (w w' : List ℕ) (inputs : ℕ → ℕ) → IsFirst net inputs w → IsFirst net inputs w' → w ≡ w'
  first_once w w' inputs a b =
      next_once inputs (first_next inputs) (first_alike inputs) w w'
      (record { registers = a.registers; are = a.next; solves = a.solves }) (record { registers = b.registers; are = b.next; solves = b.solves })

  firsts : (inputs : ℕ → ℕ) → (w : List ℕ) × IsFirst net inputs w
  firsts inputs = let (w, a) = next_exists inputs (first_next inputs) (first_alike inputs) in (w, record { registers = a.registers; next = a.are; solves = a.solves })

  -- ---- runs

  module _ (stimulus : ℕ → ℕ → ℕ) where
    -- whatever the machine has at m is what its run has
    pub Machine-run : (v : ℕ → List ℕ) → IsMachineRun net stimulus v → (m : ℕ) (w : List ℕ) → Machine net stimulus m w → w ≡ v m
    Machine-run v run zero w s = first_once w (v 0) (stimulus 0) s run.first
    Machine-run v run (suc m) w (earlier, machine, step) =
        step_once (v m) w (v (suc m)) (stimulus (suc m)) (subst (λ (u : List ℕ). IsStep net u (stimulus (suc m)) w) (Machine-run v run m earlier machine) step) (run.step m)

    pub run_is : (v : ℕ → List ℕ) → IsMachineRun net stimulus v → (m : ℕ) → Machine net stimulus m (v m)
    run_is v run zero = run.first
    run_is v run (suc m) = (v m, run_is v run m, run.step m)

    runs : ℕ → List ℕ
    runs zero = (firsts (stimulus 0)).0
    runs (suc m) = (steps (runs m) (stimulus (suc m))).0

    runs_run : IsMachineRun net stimulus runs
    unfolding runs
    runs_run = record { first = (firsts (stimulus 0)).1; step = λ m. (steps (runs m) (stimulus (suc m))).1 }

pub one_machine_run : OneMachineRun
one_machine_run net E A stimulus =
    let L = numbered net E A in
    (runs net L stimulus, runs_run net L stimulus, λ w run i m. Machine-run net L stimulus (runs net L stimulus) (runs_run net L stimulus) m (w m) (run_is net L stimulus w run m) i)
