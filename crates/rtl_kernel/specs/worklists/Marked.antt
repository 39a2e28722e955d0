-- A worklist: a mark for each number, and the list of the marked ones.
use Rattle.std.specs.Prelude.{ℕ, ◌≤◌, Bool, false, List, length}
use Rattle.std.specs.Vec.{vec_capacity}
use Rattle.rtl_drives.specs.Listed.{AreListed}
use Rattle.rtl_kernel.specs.worklists.Numbers.{Numbers}
use Rattle.rtl_kernel.specs.declared.worklist.Worklist.TheInside.{Inside}

-- these are the places of the marks, each once
abbrev pub AreMarked : List Bool → (places : List ℕ) → Type 0
AreMarked marks places = AreListed (λ b. b) false marks places

-- the list is that of the marked numbers, and has room for all
pub record IsMarked (w : Inside) : Type 0 where
  pub marked : AreMarked w.marks.items w.members.items
  pub reserved : length w.marks.items ≤ vec_capacity w.members

abbrev pub numbers_of : Inside → Numbers
numbers_of w = record { bound = length w.marks.items; members = w.members.items }
