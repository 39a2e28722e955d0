-- What drivers and outcomes are before the first run (IEEE 1076-2008, 14.7.5.2).
use Rattle.std.specs.Prelude.{◌≡◌, ◌≤◌, ℕ, ◌<◌, List, length, map, replicate, slice_index_or, Option, None}
use Rattle.rtl_model.specs.nets.FlatNetlist.{element_starts}
use Rattle.rtl_net.specs.Nets.{variable_view}
use Rattle.rtl_net.specs.declared.process.Driver as net
use Rattle.rtl_net.specs.declared.process.Process.{Process}
use Rattle.rtl_drives.specs.Outcomes.{Outcome}
use Rattle.rtl_kernel.specs.drivers.Transactions.{no_outcome, pending_of}

-- what these drivers start with
abbrev pub starts_of : List net.Driver → List ℕ
starts_of ds = map (λ (d : net.Driver). d.start) ds

abbrev pub start_row : Process → List ℕ
start_row p = starts_of p.drives.items

-- no entry for any driver
abbrev pub no_entries : Process → List (Option ℕ)
no_entries p = replicate (length p.drives.items) None

-- what the elements of the variables start each run with
abbrev pub elements_of : Process → List ℕ
elements_of p = element_starts (map variable_view p.variables.items)

-- the outcomes of these processes before any run, with the room that these bodies want
pub record AreFresh {E : Type 0} (most : E → ℕ) (processes : List Process)
    (bodies : List E) (outcomes : List Outcome) : Type 0 where
  pub entries : pending_of outcomes ≡ map no_entries processes
  pub starts : map (λ (o : Outcome). o.starts) outcomes ≡ map elements_of processes
  pub room : (k : ℕ) (e : E) → k < length outcomes → k < length bodies
      → most (slice_index_or bodies k e) ≤ (slice_index_or outcomes k no_outcome).room
