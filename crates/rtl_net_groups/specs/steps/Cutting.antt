-- Cuts of a process's drivers, up to some place.
use Rattle.std.specs.Prelude.{◌≡◌, ℕ, ◌+◌, ◌<◌, ◌≤◌, All, List, length, slice_index, slice_index_or}
use Rattle.std.specs.List.{range_with_len, flat_map}
use Rattle.rtl_net_groups.specs.declared.cuts.Cut.{Cut}
use Rattle.rtl_net_groups.specs.Cuts.{IsCut, HasPlace, places_of, no_cut}

-- so many places from this one on have nets that stand one behind the other in one group
pub record IsRun (of_net targets : List ℕ) (place len : ℕ) : Type 0 where
  pub some : 0 < len
  pub there : place + len ≤ length targets
  pub nets : (k : ℕ) → k < len → slice_index targets (place + k) ≡ slice_index targets place + k
  pub in_group : (k : ℕ) → k < len
      → slice_index of_net (slice_index targets place + k) ≡ slice_index of_net (slice_index targets place)

pub record AreCutsTo (of_net targets : List ℕ) (end : ℕ) (cuts : List Cut) (numbers : List ℕ) : Type 0 where
  pub within : end ≤ length targets
  pub are_cuts : All (IsCut of_net targets) cuts
  pub each_place : flat_map places_of cuts ≡ range_with_len 0 end
  pub each_number : length numbers ≡ end
  pub numbers_are : (place : ℕ) → place < end
      → (slice_index numbers place < length cuts)
      × HasPlace (slice_index_or cuts (slice_index numbers place) no_cut) place
