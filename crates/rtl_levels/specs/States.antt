-- The values of all nets, and what their changes mark (IEEE 1076-2008, 14.7.5.3).
use Rattle.std.specs.Prelude.{◌≡◌, ℕ, ◌+◌, ◌<◌, ◌≤◌, List, length, slice_index, Option}
use Rattle.rtl_kernel.specs.drivers.Updates.{IsTaken}
use Rattle.rtl_net_groups.specs.Written.{IsWritten}
use Rattle.rtl_kernel.specs.wakes.Woken.{wakers_of}
use Rattle.rtl_net_groups.specs.Groups.{Grouping}
use Rattle.rtl_net_groups.specs.Touching.{Touches}
use Rattle.rtl_levels.specs.declared.state.State.{State}
use Rattle.rtl_levels.specs.Marks.{AreBelow, GetsOther, Marks}
use Rattle.rtl_levels.specs.Running.{IsNew, TakesOver, TakesPart, at_targets}

-- each net has its readers, each reader a mark, and each net a chunk
pub record HaveReaders (readers : Grouping) (s : State) : Type 0 where
  pub each_net : length (wakers_of readers) ≡ length s.values.items
  pub below : AreBelow (wakers_of readers) (length s.dirty.items)
  pub each_chunk : s.touched.nets ≡ length s.values.items

-- From a to b the readers of each net that changes are marked, and no more than those of these nets.
-- The chunks of all nets that change are marked too.
pub record Advances (readers : Grouping) (nets : ℕ → Type 0) (a b : State) : Type 0 where
  pub as_many : length b.values.items ≡ length a.values.items
  pub marks : Marks (wakers_of readers) nets a.values.items b.values.items a.dirty.items b.dirty.items
  pub touched : Touches a.touched b.touched a.values.items b.values.items

-- so many nets from the first on, one behind the other, are in one group
pub record StandTogether (readers : Grouping) (first many : ℕ) (s : State) : Type 0 where
  pub have_readers : HaveReaders readers s
  pub there : first + many ≤ length s.values.items
  pub together : (k : ℕ) → k < many → slice_index readers.of_net (first + k) ≡ slice_index readers.of_net first

-- from a to b the nets from the first on get these values
pub record GetValues (readers : Grouping) (first : ℕ) (given : List ℕ) (a b : State) : Type 0 where
  pub written : IsWritten first given a.values.items b.values.items
  pub advances : Advances readers (GetsOther first given a.values.items) a b

-- from a to b the nets of these targets take over the entries of a run
pub record StateTakesOver (readers : Grouping) (targets : List ℕ) (entries : List (Option ℕ)) (a b : State)
    : Type 0 where
  pub taken : TakesOver targets entries a.values.items b.values.items
  pub advances : Advances readers (IsNew targets entries a.values.items) a b

-- the same of some targets, among which are those of the places from `from` on and before `end`
pub record StateTakesPart (readers : Grouping) (targets : List ℕ) (entries : List (Option ℕ)) (from end : ℕ)
    (a b : State) : Type 0 where
  pub part : TakesPart targets entries a.values.items b.values.items
  pub taken : (place : ℕ) → from ≤ place → place < end → IsTaken entries (at_targets targets b.values.items) place
  pub advances : Advances readers (IsNew targets entries a.values.items) a b
