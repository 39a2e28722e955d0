-- Cuts. A cut is a run of a process's drivers, by their places, whose nets stand one behind the other in one group.
use Rattle.std.specs.Prelude.{◌≡◌, ℕ, ◌+◌, ◌<◌, ◌≤◌, All, List, [], length, slice_index, slice_index_or}
use Rattle.std.specs.List.{range_with_len, flat_map}
use Rattle.rtl_net_groups.specs.declared.cuts.Cut.{Cut}

-- of each process its cuts, and for each of its places the number of the cut that has it
pub record Cutting : Type 0 where
  pub cuts : List (List Cut)
  pub numbers : List (List ℕ)

-- the nets of the cut's places stand one behind the other, in its group
pub record IsCut (of_net targets : List ℕ) (cut : Cut) : Type 0 where
  pub some : 0 < cut.len
  pub there : cut.place + cut.len ≤ length targets
  pub nets : (k : ℕ) → k < cut.len → slice_index targets (cut.place + k) ≡ cut.net + k
  pub in_group : (k : ℕ) → k < cut.len → slice_index of_net (cut.net + k) ≡ cut.group

abbrev pub places_of : Cut → List ℕ
places_of cut = range_with_len cut.place cut.len

abbrev pub no_cut : Cut
no_cut = record { place = 0; net = 0; len = 0; group = 0 }

-- this cut has this place
pub record HasPlace (cut : Cut) (place : ℕ) : Type 0 where
  pub from : cut.place ≤ place
  pub before : place < cut.place + cut.len

-- the cuts of a process whose drivers have these nets: each place is in one cut, and its number says in which
pub record AreCuts (of_net targets : List ℕ) (cuts : List Cut) (numbers : List ℕ) : Type 0 where
  pub are_cuts : All (IsCut of_net targets) cuts
  pub each_place : flat_map places_of cuts ≡ range_with_len 0 (length targets)
  pub each_number : length numbers ≡ length targets
  pub numbers_are : (place : ℕ) → place < length targets
      → (slice_index numbers place < length cuts)
      × HasPlace (slice_index_or cuts (slice_index numbers place) no_cut) place

-- the cuts of processes, of which `targets` has the nets of their drivers
pub record AreCutsOf (of_net : List ℕ) (targets : List (List ℕ)) (c : Cutting) : Type 0 where
  pub each_process : length c.cuts ≡ length targets
  pub each_row : length c.numbers ≡ length targets
  pub each : (p : ℕ) → p < length targets
      → AreCuts of_net (slice_index_or targets p []) (slice_index_or c.cuts p []) (slice_index_or c.numbers p [])
