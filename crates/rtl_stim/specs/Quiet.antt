-- What the search for the first race keeps: the times at which inputs change, and those at which no clock has an edge
-- with them.
use Rattle.std.specs.Prelude.{◌≡◌, ◌⊎◌, IsTrue, length, take, slice_index, slice_index_or, ℕ, suc, ◌-◌, ◌<◌, ◌≤◌, List, Contains, Option, Some, None, IfSome}
use Rattle.std.specs.BTreeSet.{BTreeSet, contains}
use Rattle.std.specs.Ordering.{nat_cmp}
use Rattle.vhdl_values.specs.Edges.{has_edge}
use Rattle.rtl_model.specs.simulation.Netlist.{Edge, Rising}
use Rattle.rtl_stim_lines.specs.Times.{all_nets, value_at}
use Rattle.rtl_stim.specs.Stimuli.{StimulusView, code_at}

-- the clock at a place, and its edge
abbrev pub clock_at : (clocks : List (ℕ × Edge)) → (place : ℕ) → ℕ
clock_at clocks k = (slice_index_or clocks k (0, Rising)).0

abbrev pub edge_at : (clocks : List (ℕ × Edge)) → (place : ℕ) → Edge
edge_at clocks k = (slice_index_or clocks k (0, Rising)).1

-- the net is tested by none of these
abbrev pub IsNoClock : (clocks : List (ℕ × Edge)) → (net : ℕ) → Type 0
IsNoClock clocks n = (edge : Edge) → Contains clocks (n, edge) → ⊥

-- among the clocks from one place up to another a net may be, and nowhere else
pub record IsBetween (clocks : List (ℕ × Edge)) (net low high : ℕ) : Type 0 where
  pub before : (j : ℕ) → j < low → clock_at clocks j < net
  pub behind : (j : ℕ) → high ≤ j → j < length clocks → net < clock_at clocks j

-- of these nets, none that is no clock changes at the time
abbrev pub IsQuietAt : StimulusView → (clocks : List (ℕ × Edge)) → (nets : List ℕ) → (t : ℕ) → Type 0
IsQuietAt s clocks nets t = (n : ℕ) → Contains nets n → IsNoClock clocks n → code_at s (t - 1) n ≡ code_at s t n

-- the time that was found, or the first one past the stop
abbrev pub found_or_past : Option ℕ → (stop : ℕ) → ℕ
found_or_past None stop = suc stop
found_or_past (Some t) stop = t

-- what was found is after now and not after the stop
abbrev pub IsWithin : (now stop : ℕ) → Option ℕ → Type 0
IsWithin now stop found = IfSome found (λ t. (now < t) × (t ≤ stop))

-- ---- at a time

-- a net has an edge
abbrev pub HasEdgeAt : StimulusView → (net : ℕ) → Edge → (t : ℕ) → Type 0
HasEdgeAt s n edge t =
    IsTrue (has_edge edge (value_at s.inputs s.schedule n (t - 1)) (value_at s.inputs s.schedule n t))

-- the clock at a place has its edge
abbrev pub IsActiveAt : StimulusView → (clocks : List (ℕ × Edge)) → (t place : ℕ) → Type 0
IsActiveAt s clocks t k = HasEdgeAt s (clock_at clocks k) (edge_at clocks k) t

-- a net that is no clock, and changes
abbrev pub IsChangedAt : StimulusView → (clocks : List (ℕ × Edge)) → (t net : ℕ) → Type 0
IsChangedAt s clocks t n = IsNoClock clocks n × (code_at s (t - 1) n ≡ code_at s t n → ⊥)

-- the first of these inputs that changes, and the first clock that is active
pub record IsRaceHere (s : StimulusView) (clocks : List (ℕ × Edge)) (inputs : List ℕ) (t input clock : ℕ) : Type 0 where
  pub active_place : ℕ
  pub active_there : active_place < length clocks
  pub active : IsActiveAt s clocks t active_place
  pub clock_is : clock_at clocks active_place ≡ clock
  pub first_clock : (j : ℕ) → j < active_place → IsActiveAt s clocks t j → ⊥
  pub place : ℕ
  pub there : place < length inputs
  pub input_is : slice_index inputs place ≡ input
  pub changed : IsChangedAt s clocks t input
  pub first_input : (j : ℕ) → j < place → IsChangedAt s clocks t (slice_index inputs j) → ⊥

-- no input changes, or no clock is active
abbrev pub HasNoneHere : StimulusView → (clocks : List (ℕ × Edge)) → (inputs : List ℕ) → (t : ℕ) → Type 0
HasNoneHere s clocks inputs t =
    (k j : ℕ) → k < length clocks → IsActiveAt s clocks t k
    → j < length inputs → IsChangedAt s clocks t (slice_index inputs j) → ⊥

-- ---- the search

-- one of these nets that is no clock changes
abbrev pub Changes : StimulusView → (clocks : List (ℕ × Edge)) → (nets : List ℕ) → (t : ℕ) → Type 0
Changes s clocks nets t = (n : ℕ) × Contains nets n × IsChangedAt s clocks t n

-- the time is one of these
abbrev pub IsAmong : BTreeSet ℕ → (t : ℕ) → Type 0
IsAmong times t = IsTrue (contains nat_cmp times t)

-- to the old times those were added, behind one and up to a last one, at which one of these nets changes
pub record HasAdded (s : StimulusView) (clocks : List (ℕ × Edge))
    (nets : List ℕ) (from last : ℕ) (old new : BTreeSet ℕ) : Type 0 where
  pub kept : (t : ℕ) → IsAmong old t → IsAmong new t
  pub each : (t : ℕ) → from < t → t ≤ last → Changes s clocks nets t → IsAmong new t
  pub only : (t : ℕ) → IsAmong new t → IsAmong old t ⊎ Changes s clocks nets t

-- these are the times, behind one and up to a last one, at which one of the first inputs changes
pub record AreChanges (s : StimulusView) (clocks : List (ℕ × Edge))
    (places from last : ℕ) (times : BTreeSet ℕ) : Type 0 where
  pub each : (t : ℕ) → from < t → t ≤ last → Changes s clocks (all_nets (take places s.inputs)) t → IsAmong times t
  pub only : (t : ℕ) → IsAmong times t → Changes s clocks (all_nets (take places s.inputs)) t

-- The first clocks have no edge at one of these times before another. Where that is not past the last, it is one of
-- them, and some clock has its edge at it.
pub record HasSearched (s : StimulusView) (clocks : List (ℕ × Edge))
    (times : BTreeSet ℕ) (last places past : ℕ) : Type 0 where
  pub some : 0 < past
  pub within : past ≤ suc last
  pub race : past ≤ last → IsAmong times past × ((k : ℕ) × (k < length clocks) × IsActiveAt s clocks past k)
  pub none : (t k : ℕ) → 0 < t → t < past → k < places → IsActiveAt s clocks t k → IsAmong times t → ⊥

-- The first inputs have no race before a time. Where that is not past the stop, some input has one at it.
pub record HasPassed (s : StimulusView) (clocks : List (ℕ × Edge)) (places past : ℕ) : Type 0 where
  pub some : 0 < past
  pub within : past ≤ suc s.schedule.stop
  pub race : past ≤ s.schedule.stop → HasNoneHere s clocks (all_nets s.inputs) past → ⊥
  pub none : (t : ℕ) → 0 < t → t < past → HasNoneHere s clocks (all_nets (take places s.inputs)) t

-- no time up to a last one has a race
abbrev pub AreFree : StimulusView → (clocks : List (ℕ × Edge)) → (last : ℕ) → Type 0
AreFree s clocks last = (t : ℕ) → 0 < t → t ≤ last → HasNoneHere s clocks (all_nets s.inputs) t

-- the first time with a race
pub record IsFirstTime (s : StimulusView) (clocks : List (ℕ × Edge)) (t : ℕ) : Type 0 where
  pub later : 0 < t
  pub in_time : t ≤ s.schedule.stop
  pub race : HasNoneHere s clocks (all_nets s.inputs) t → ⊥
  pub first : (u : ℕ) → 0 < u → u < t → HasNoneHere s clocks (all_nets s.inputs) u
