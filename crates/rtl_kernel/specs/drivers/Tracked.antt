-- Drivers with the list of the processes that have active ones.
use Rattle.std.specs.Prelude.{◌≡◌, ℕ, [], length, slice_index_or, Contains}
use Rattle.rtl_kernel.specs.drivers.Rows.{rows}
use Rattle.rtl_kernel.specs.drivers.Transactions.{Transactions, IsActive, pending_of}
use Rattle.rtl_kernel.specs.declared.drivers.Drivers.TheInside.{Inside}
use Rattle.rtl_kernel.specs.worklists.Numbers.{Numbers}

abbrev pub transactions_of : Inside → Transactions
transactions_of d = record { drivers = rows d.drivers.items; outcomes = d.outcomes.items }

pub record AreTracked (t : Transactions) (active : Numbers) : Type 0 where
  pub as_many : length t.drivers ≡ length t.outcomes
  pub bound : active.bound ≡ length t.outcomes
  pub each_driver : (p : ℕ)
      → length (slice_index_or t.drivers p []) ≡ length (slice_index_or (pending_of t.outcomes) p [])
  pub all_active : (p : ℕ) → IsActive (pending_of t.outcomes) p → Contains active.members p
  pub no_other : (p : ℕ) → Contains active.members p → IsActive (pending_of t.outcomes) p
