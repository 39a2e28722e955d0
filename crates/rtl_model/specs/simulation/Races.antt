-- Races: a data input that changes at an active clock edge.
use Rattle.std.specs.Prelude.{◌≡◌, ℕ, suc, zero, ◌<◌, ◌≤◌, List, Contains, IsTrue}
use Rattle.rtl_model.specs.simulation.Netlist.{Netlist, Edge, IsInput, IsClockedBy}
use Rattle.rtl_model.specs.simulation.Accepted.{IsClock}

-- From these values of the inputs to those, some clocked process has its edge, and some input that is no clock changes.
-- A reset that is an input is such an input too.
pub record IsRace (net : Netlist) (before now : ℕ → ℕ) : Type 0 where
  pub process : ℕ
  pub clock : ℕ
  pub edge : Edge
  pub clocked : IsClockedBy net process clock edge
  pub active : IsTrue (net.edge edge (before clock) (now clock))
  pub input : ℕ
  pub is_input : IsInput net input
  pub no_clock : IsClock net input → ⊥
  pub changes : before input ≡ now input → ⊥

-- a race at the moment m, which is never the first
abbrev pub IsRaceAt : Netlist → (stimulus : ℕ → ℕ → ℕ) → (m : ℕ) → Type 0
IsRaceAt net stimulus zero = ⊥
IsRaceAt net stimulus (suc m) = IsRace net (stimulus m) (stimulus (suc m))

-- no moment up to the last has a race
abbrev pub HasNoRace : Netlist → (stimulus : ℕ → ℕ → ℕ) → (last : ℕ) → Type 0
HasNoRace net stimulus last = (m : ℕ) → m ≤ last → IsRaceAt net stimulus m → ⊥

-- ---- over a report's list of clocks

module _ (net : Netlist) (clocks : List (ℕ × Edge)) (before now : ℕ → ℕ) where
  -- one of the edges of this clock is active
  abbrev pub IsActive : (clock : ℕ) → Type 0
  IsActive clock = (edge : Edge) × Contains clocks (clock, edge) × IsTrue (net.edge edge (before clock) (now clock))

  -- this input is no clock, and changes
  pub record IsChangedData (input : ℕ) : Type 0 where
    pub is_input : IsInput net input
    pub no_clock : (edge : Edge) → Contains clocks (input, edge) → ⊥
    pub changes : before input ≡ now input → ⊥

  -- a race with this data input and this clock
  abbrev pub IsRaceOf : (input clock : ℕ) → Type 0
  IsRaceOf input clock = IsChangedData input × IsActive clock

  -- the lowest data input that changes, and the lowest clock with an active edge
  pub record IsLowestRace (input clock : ℕ) : Type 0 where
    pub race : IsRaceOf input clock
    pub lowest_input : (n : ℕ) → n < input → IsChangedData n → ⊥
    pub lowest_clock : (n : ℕ) → n < clock → IsActive n → ⊥

-- The earliest race: the moment suc m has one, with these names, and none up to m has.
pub record IsFirstRace (net : Netlist) (clocks : List (ℕ × Edge))
    (stimulus : ℕ → ℕ → ℕ) (m input clock : ℕ) : Type 0 where
  pub race : IsLowestRace net clocks (stimulus m) (stimulus (suc m)) input clock
  pub earliest : HasNoRace net stimulus m
