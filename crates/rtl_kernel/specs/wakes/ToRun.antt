-- The processes that are still to run in a cycle.
use Rattle.std.specs.Prelude.{◌≤◌, ℕ, Bool, List, length, drop}
use Rattle.std.specs.List.Sorted.{IsStrictlyIncreasing}
use Rattle.std.specs.Vec.{vec_capacity}
use Rattle.rtl_kernel.specs.worklists.Marked.{AreMarked}
use Rattle.rtl_kernel.specs.declared.resumed.Resumed.TheInside.{Inside}

pub record ToRun : Type 0 where
  -- whether each process is to run
  pub waiting : List Bool
  -- those that are, in order of number
  pub order : List ℕ

abbrev pub to_run : Inside → ToRun
to_run r = record { waiting = r.waiting.items; order = drop r.first r.order.items }

pub record IsOrdered (r : Inside) : Type 0 where
  pub marked : AreMarked r.waiting.items (drop r.first r.order.items)
  pub rises : IsStrictlyIncreasing (drop r.first r.order.items)
  pub begins : r.first ≤ length r.order.items
  pub reserved : length r.waiting.items ≤ vec_capacity r.order
