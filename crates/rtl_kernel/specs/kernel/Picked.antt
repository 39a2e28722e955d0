-- Runs in the order that a picker answers, which the standard leaves open (IEEE 1076-2008,
-- 14.7.5.3). Throughout, `picks p count place q` is that the picker p, asked for one of so many
-- processes, answers this place and is q from then on.
use Rattle.std.specs.Prelude.{◌≡◌, ℕ, zero, suc, Bool, false, List, [], ◌∷◌, take, slice_index_or, slice_set, IsTrue}
use Rattle.std.specs.List.{count_by}
use Rattle.rtl_model.specs.simulation.Netlist.{Netlist}
use Rattle.rtl_model.specs.simulation.Cycle.{State, after_update}
use Rattle.rtl_model.specs.simulation.Moments.{Runs}

-- this process is the one at this place, in order of number, among those that are to run
abbrev pub IsAt : (waiting : List Bool) → (place process : ℕ) → Type 0
IsAt waiting place process =
    IsTrue (slice_index_or waiting process false) × (count_by (λ b. b) (take process waiting) ≡ place)

-- asked for one of those that are to run until there is none, the picker gives this order
abbrev pub Orders : {P : Type 0} → (picks : P → (count place : ℕ) → P → Type 0)
    → (waiting : List Bool) → (order : List ℕ) → (old new : P) → Type 0
Orders picks waiting [] old new = new ≡ old
Orders {P} picks waiting (process ∷ order) old new =
    (place : ℕ) × (next : P) × picks old (count_by (λ b. b) waiting) place next × IsAt waiting place process
    × Orders picks (slice_set waiting process false) order next new

-- Runs in the order that the picker gives lead from s to t
abbrev pub HasRunAsPicked : {P : Type 0} → (picks : P → (count place : ℕ) → P → Type 0)
    → Netlist → (old new : P) → State → State → Type 0
HasRunAsPicked picks net old new s t = (order : List ℕ) × Runs net order s t × Orders picks s.waiting order old new

-- so many delta cycles in the orders that the picker gives lead from s to t
abbrev pub HasDeltasAsPicked : {P : Type 0} → (picks : P → (count place : ℕ) → P → Type 0)
    → Netlist → (deltas : ℕ) → (old new : P) → State → State → Type 0
HasDeltasAsPicked picks net zero old new s t = (new ≡ old) × (t ≡ s)
HasDeltasAsPicked {P} picks net (suc deltas) old new s t =
    (next : P) × (mid : State) × HasDeltasAsPicked picks net deltas old next s mid
    × HasRunAsPicked picks net next new (after_update net mid) t
