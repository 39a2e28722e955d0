-- Pieces of cuts.
use Rattle.std.specs.Prelude.{◌≡◌, ℕ, ◌+◌, ◌-◌, ◌<◌, ◌≤◌, All, List, [], length, slice_index, slice_index_or}
use Rattle.rtl_kernel.specs.wakes.Woken.{AreDifferent}
use Rattle.rtl_net_groups.specs.Cuts.{AreCuts}
use Rattle.rtl_levels.specs.declared.schedule.Schedule.{Schedule}

-- The schedule has the cuts of this process, whose drivers have these nets, each once.
pub record AreCutFor (schedule : Schedule) (targets : List ℕ) (number : ℕ) : Type 0 where
  pub there : number < length schedule.cuts.cuts
  pub cuts : AreCuts schedule.readers.of_net targets (slice_index_or schedule.cuts.cuts number [])
      (slice_index_or schedule.cuts.numbers number [])
  pub once : AreDifferent targets
  pub nets : All (λ (n : ℕ). n < length schedule.readers.of_net) targets

-- the nets of the places from `first` on and before `beyond` stand one behind the other, in one
-- group
pub record IsPiece (of_net targets : List ℕ) (first end beyond : ℕ) : Type 0 where
  pub some : first < beyond
  pub to : beyond ≤ end
  pub within : beyond ≤ length targets
  pub nets : (k : ℕ) → k < beyond - first → slice_index targets (first + k) ≡ slice_index targets first + k
  pub in_group : (k : ℕ) → k < beyond - first
      → slice_index of_net (slice_index targets first + k) ≡ slice_index of_net (slice_index targets first)
