-- Who is run when in a moment, and who is sensitive to which net (IEEE 1076-2008, 14.7.5.3).
use Rattle.std.specs.List.Sorted.{IsNonDecreasingBy}
use Rattle.std.specs.Prelude.{◌≡◌, ℕ, ◌<◌, ◌≤◌, ◌⊎◌, ◌↔◌, Bool, true, false, List, [], ◌∷◌, length, map, slice_index}
use Rattle.std.specs.Prelude.{slice_index_or, Contains, Option, Some, None, if◌then◌else◌}
use Rattle.rtl_model.specs.simulation.Netlist.{Netlist, Process}
use Rattle.rtl_model.specs.simulation.Levels.{is_clocked}
use Rattle.rtl_kernel.specs.wakes.Woken.{IsIndex}
use Rattle.rtl_body_facts.specs.declared.kinds.ProcessKind.{ProcessKind}
use Rattle.rtl_body_facts.specs.declared.kinds.ProcessKind.TheVariants.{Clocked, Combinational, Mixed}
use Rattle.rtl_net_groups.specs.declared.cuts.Cut.{Cut}
use Rattle.rtl_levels.specs.declared.order.Visit.{Visit}
use Rattle.rtl_levels.specs.Visits.{AreVisits, DrivesAt, HasFirstVisits, HasLevel, IsFirstAbove, IsMovedBy, TellsFirst}
use Rattle.rtl_levels.specs.Visits.{is_net, visit_at}

-- whether each process is clocked
abbrev pub are_clocked : Netlist → List Bool
are_clocked net = map (λ p. is_clocked p.kind) net.processes

-- of each process the nets that it is sensitive to, where it is clocked
abbrev pub clocked_wakes : Process → List ℕ
clocked_wakes p = if is_clocked p.kind then p.wakes else []

-- For each net, `readers` has the ranks of the visits that its change marks, and `clocked` the clocked processes that
-- are sensitive to it.
pub record IsSchedule (net : Netlist) (nets : List ℕ) (visits : List Visit) (readers clocked : List (List ℕ))
    : Type 0 where
  pub visits_are : AreVisits net nets visits
  pub firsts_are : (rank : ℕ) → rank < length visits → TellsFirst visits rank
  pub readers_are : HasFirstVisits net nets visits readers
  pub clocked_are : IsIndex (map clocked_wakes net.processes) clocked

-- ---- as it is made

-- each level of nets that a process drives, but 0, beside the process
abbrev pub AreRanked : Netlist → (nets : List ℕ) → List (ℕ × ℕ) → Type 0
AreRanked net nets ranked = (p level : ℕ) → Contains ranked (level, p) ↔ DrivesAt net nets p level

-- the levels of the targets but 0 have been added, each beside the process
abbrev pub AddsLevels : (targets nets : List ℕ) → (p : ℕ) → (old new : List (ℕ × ℕ)) → Type 0
AddsLevels targets nets p old new =
    (level q : ℕ) → Contains new (level, q) ↔ (Contains old (level, q) ⊎ ((q ≡ p) × HasLevel targets nets level))

-- the targets get this level
pub record GetLevel (targets : List ℕ) (level : ℕ) (old new : List ℕ) : Type 0 where
  pub as_many : length new ≡ length old
  pub given : (n : ℕ) → Contains targets n → slice_index new n ≡ level
  pub no_other : (n : ℕ) → (slice_index new n ≡ slice_index old n) ⊎ Contains targets n

-- a clocked process's kind
abbrev pub is_clocked_kind : ProcessKind → Bool
is_clocked_kind (Clocked clocking) = true
is_clocked_kind Combinational = false
is_clocked_kind Mixed = false

-- what `moves` says, of a kind as it is kept
abbrev pub kind_moves : ProcessKind → (n : ℕ) → Bool
kind_moves Combinational n = true
kind_moves (Clocked clocking) n = is_net clocking.reset n
kind_moves Mixed n = false

-- a net beside its level
abbrev pub beside_level : (nets : List ℕ) → (n : ℕ) → ℕ × ℕ
beside_level nets n = (slice_index nets n, n)

-- the nets whose changes may move p, each beside its level, in order of levels
pub record AreMoving (net : Netlist) (nets : List ℕ) (p : ℕ) (moving : List (ℕ × ℕ)) : Type 0 where
  pub each : (level n : ℕ) → Contains moving (level, n) ↔ (IsMovedBy net p n × (slice_index nets n ≡ level))
  pub in_order : IsNonDecreasingBy (λ m. m.0) moving

-- of each process
pub record AllAreMoving (net : Netlist) (nets : List ℕ) (all : List (List (ℕ × ℕ))) : Type 0 where
  pub each_process : length all ≡ length net.processes
  pub each : (p : ℕ) → p < length all → AreMoving net nets p (slice_index_or all p [])

-- of each visit the nets whose changes mark it, where these may move processes
pub record AreMarking (moving : List (List (ℕ × ℕ))) (visits : List Visit) (marking : List (List ℕ)) : Type 0 where
  pub each_visit : length marking ≡ length visits
  pub each : (rank n : ℕ) → rank < length visits → Contains (slice_index_or marking rank []) n
      ↔ ((level : ℕ) × Contains (slice_index_or moving (visit_at visits rank).process []) (level, n)
      × IsFirstAbove visits level rank)

-- the nets from this place on have been added, up to the first that isn't below the level, or to the end
pub record AddsBelow (moving : List (ℕ × ℕ)) (from level end : ℕ) (old new : List ℕ) : Type 0 where
  pub from_on : from ≤ end
  pub within : end ≤ length moving
  pub below : (k : ℕ) → from ≤ k → k < end → (slice_index_or moving k (0, 0)).0 < level
  pub ends : end < length moving → level ≤ (slice_index_or moving end (0, 0)).0
  pub added : (n : ℕ) → Contains new n
      ↔ (Contains old n
      ⊎ ((k : ℕ) × (from ≤ k) × (k < end) × ((slice_index_or moving k (0, 0)).1 ≡ n)))

-- the first net of drivers that are one cut
abbrev pub whole_first : List Cut → Option ℕ
whole_first (cut ∷ []) = Some cut.net
whole_first _ = None
