-- Levels shown by local facts: each process is compared with those that drive something it is sensitive to.
use Rattle.std.specs.Prelude.{◌≡◌, ℕ, suc, ◌<◌, ◌≤◌, Bool, false, ◌&&◌, ◌||◌, ◌==◌, nat_lt, if◌then◌else◌, List, [], ◌∷◌, length, slice_index_or, Option, Some, None, MatchOption, IfSome}
use Rattle.rtl_model.specs.simulation.Netlist as m
use Rattle.rtl_model.specs.simulation.Netlist.{Netlist, Edge, Source, Driver, Idle, IsCombinational, IsClockedBy, sources_of, process}
use Rattle.rtl_model.specs.simulation.Accepted.{Feeds}
use Rattle.rtl_model.specs.simulation.Levels.{ShowLevels}
use Rattle.rtl_check.specs.declared.standing.Highest.{Highest}

abbrev pub level_of : List (Option ℕ) → (p : ℕ) → Option ℕ
level_of levels p = slice_index_or levels p None

-- What a report says of levels and froms, by facts that speak of no chain.
pub record ShowFroms (net : Netlist) (levels from : List (Option ℕ)) : Type 0 where
  pub shown : ShowLevels net levels from
  pub each_process : length levels ≡ length net.processes
  pub each_from : length from ≡ length net.processes
  pub clocked : (p clock : ℕ) (edge : Edge) → IsClockedBy net p clock edge
      → (level_of levels p ≡ None) × (slice_index_or from p None ≡ None)
  pub from_first : (q : ℕ) → IsCombinational net q → level_of levels q ≡ Some 1 → slice_index_or from q None ≡ None
  pub from_lowest : (q p below r : ℕ) → IsCombinational net q → level_of levels q ≡ Some (suc below)
      → slice_index_or from q None ≡ Some p → r < p → level_of levels r ≡ Some below → Feeds net r q → ⊥

-- no process is neither clocked nor combinational
abbrev pub HasNoMixed : Netlist → Type 0
HasNoMixed net = (p : ℕ) → (process net p).kind ≡ m.Mixed → ⊥

-- ---- those that drive something that a process is sensitive to

-- the greatest level so far, and the lowest process that has it
abbrev pub no_highest : Highest
no_highest = record { level = 0; process = None }

abbrev pub is_below : (p : ℕ) → Option ℕ → Bool
is_below p None = false
is_below p (Some q) = nat_lt p q

-- a process of this level takes its place
abbrev pub gives_way : Highest → (p level : ℕ) → Bool
gives_way h p level = nat_lt h.level level || ((level == h.level) && is_below p h.process)

abbrev pub with_process : Highest → (p : ℕ) → Option ℕ → Highest
with_process h p None = h
with_process h p (Some level) = if gives_way h p level then (record { level = level; process = Some p }) else h

abbrev pub with_source : (levels : List (Option ℕ)) → Highest → Source → Highest
with_source levels h (Driver p place) = with_process h p (level_of levels p)
with_source levels h (Idle v) = h

abbrev pub with_sources : (levels : List (Option ℕ)) → Highest → List Source → Highest
with_sources levels h [] = h
with_sources levels h (s ∷ ss) = with_sources levels (with_source levels h s) ss

abbrev pub with_nets : Netlist → (levels : List (Option ℕ)) → Highest → (nets : List ℕ) → Highest
with_nets net levels h [] = h
with_nets net levels h (n ∷ ns) = with_nets net levels (with_sources levels h (sources_of net n)) ns

abbrev pub highest_of : Netlist → (levels : List (Option ℕ)) → (q : ℕ) → Highest
highest_of net levels q = with_nets net levels no_highest (process net q).wakes

-- it is one above them, from the lowest of the highest; and a process that isn't combinational has neither level
-- nor from
abbrev pub StandsAs : Highest → m.ProcessKind → (level from : Option ℕ) → Type 0
StandsAs h m.Combinational level from = (level ≡ Some (suc h.level)) × (from ≡ h.process)
StandsAs h (m.Clocked clock edge reset) level from = (level ≡ None) × (from ≡ None)
StandsAs h m.Mixed level from = (level ≡ None) × (from ≡ None)

abbrev pub Stands : Netlist → (levels from : List (Option ℕ)) → (q : ℕ) → Type 0
Stands net levels from q =
    StandsAs (highest_of net levels q) (process net q).kind (level_of levels q) (slice_index_or from q None)

-- the greatest level of some processes, and the lowest that has it; those without a level don't count
pub record IsHighest (among : ℕ → Type 0) (levels : List (Option ℕ)) (h : Highest) : Type 0 where
  pub each : (p b : ℕ) → among p → level_of levels p ≡ Some b
      → (b ≤ h.level) × (b ≡ h.level → IfSome h.process (λ f. f ≤ p))
  pub met : MatchOption h.process (h.level ≡ 0) (λ f. among f × (level_of levels f ≡ Some h.level))
