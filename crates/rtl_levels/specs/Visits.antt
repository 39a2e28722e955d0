-- By which levels a machine runs, the visits of processes that it may make, and which of them a change of a net marks
-- (IEEE 1076-2008, 14.7.5.3).
use Rattle.std.specs.Prelude.{◌≡◌, ◌≢◌, ℕ, ◌<◌, ◌≤◌, ◌↔◌, Bool, true, false, ◌==◌, List, length, slice_index}
use Rattle.std.specs.Prelude.{slice_index_or, Option, option_map, Some, None, Contains, IsTrue}
use Rattle.rtl_model.specs.simulation.Netlist.{Netlist, ProcessKind, Combinational, Clocked, Mixed, process}
use Rattle.rtl_model.specs.simulation.NetLevels.{IsDerived, RiseByLooks}
use Rattle.rtl_process_kinds.specs.KindViews.{reset_net}
use Rattle.rtl_levels.specs.declared.order.Visit.{Visit}
use Rattle.rtl_levels.specs.Marks.{IsReader}

-- ---- levels

-- Levels of nets by which a machine may run: they rise along each look, and no net has one, which isn't 0, but those
-- that may change behind others.
pub record AreNetLevels (net : Netlist) (nets : List ℕ) : Type 0 where
  pub each_net : length nets ≡ length net.start
  pub rise : RiseByLooks net nets
  pub derived : (n : ℕ) → slice_index nets n ≢ 0 → IsDerived net n

-- ---- visits

abbrev pub no_visit : Visit
no_visit = record { process = 0; level = 0; first = false }

-- a visit's rank is its place among all
abbrev pub visit_at : List Visit → (rank : ℕ) → Visit
visit_at visits rank = slice_index_or visits rank no_visit

-- one of the targets has this level, which isn't 0
abbrev pub HasLevel : (targets nets : List ℕ) → (level : ℕ) → Type 0
HasLevel targets nets level = (level ≢ 0) × ((n : ℕ) × Contains targets n × (slice_index nets n ≡ level))

-- one of the nets that p drives has this level, which isn't 0
abbrev pub DrivesAt : Netlist → (nets : List ℕ) → (p level : ℕ) → Type 0
DrivesAt net nets p level = HasLevel (process net p).drives nets level

-- p is visited at this level
pub record IsVisited (visits : List Visit) (p level : ℕ) : Type 0 where
  pub rank : ℕ
  pub there : rank < length visits
  pub of : (visit_at visits rank).process ≡ p
  pub at : (visit_at visits rank).level ≡ level

-- A process may be visited at the levels of the nets that it drives but 0, and at no other, at each once, in order of
-- levels. So a clocked process may be visited at those of the registers that a reset made inside assigns; its edge is
-- none of its visits' business.
pub record AreVisits (net : Netlist) (nets : List ℕ) (visits : List Visit) : Type 0 where
  pub visited : (p level : ℕ) → DrivesAt net nets p level ↔ IsVisited visits p level
  pub in_order : (j k : ℕ) → j ≤ k → k < length visits → (visit_at visits j).level ≤ (visit_at visits k).level
  pub once : (j k : ℕ) → j < k → k < length visits → (visit_at visits j).process ≡ (visit_at visits k).process
      → (visit_at visits j).level < (visit_at visits k).level

-- whether a visit is its process's first
abbrev pub TellsFirst : List Visit → (rank : ℕ) → Type 0
TellsFirst visits rank =
    IsTrue (visit_at visits rank).first
    ↔ ((k : ℕ) → k < rank → (visit_at visits k).process ≡ (visit_at visits rank).process → ⊥)

-- ---- marks

-- the visit with this rank is its process's first above the level
pub record IsFirstAbove (visits : List Visit) (level rank : ℕ) : Type 0 where
  pub there : rank < length visits
  pub above : level < (visit_at visits rank).level
  pub none_before : (k : ℕ) → k < rank → (visit_at visits k).process ≡ (visit_at visits rank).process
      → (visit_at visits k).level ≤ level

abbrev pub is_net : Option ℕ → (n : ℕ) → Bool
is_net None n = false
is_net (Some m) n = m == n

-- Whether a change of this net, to which a process of this kind is sensitive, may move what a visit of the process
-- settles: of a clocked one, if it is its reset's net.
abbrev pub moves : ProcessKind → (n : ℕ) → Bool
moves Combinational n = true
moves (Clocked clock edge reset) n = is_net (option_map reset_net reset) n
moves Mixed n = false

-- p is sensitive to n, whose change may move it
abbrev pub IsMovedBy : Netlist → (p n : ℕ) → Type 0
IsMovedBy net p n = Contains (process net p).wakes n × IsTrue (moves (process net p).kind n)

-- For each net the index has, of each process that it may move, the first visit above the net's level. A process
-- without one looks at the net for none of its drivers.
abbrev pub HasFirstVisits : Netlist → (nets : List ℕ) → List Visit → (index : List (List ℕ)) → Type 0
HasFirstVisits net nets visits index =
    (n rank : ℕ) → IsReader index n rank
    ↔ (IsMovedBy net (visit_at visits rank).process n × IsFirstAbove visits (slice_index nets n) rank)

-- a visit of p at this level or below it is marked, and is still to come: its rank is `from` or more
pub record IsToCome (visits : List Visit) (marks : List Bool) (from p level : ℕ) : Type 0 where
  pub rank : ℕ
  pub there : rank < length visits
  pub ahead : from ≤ rank
  pub marked : IsTrue (slice_index_or marks rank false)
  pub of : (visit_at visits rank).process ≡ p
  pub within : (visit_at visits rank).level ≤ level
