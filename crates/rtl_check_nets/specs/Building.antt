-- The steps by which the table of a netlist's nets is built: its nets, what processes drive of them, and hubs.
use Rattle.std.specs.Prelude.{◌≡◌, ◌≢◌, ℕ, ◌+◌, ◌<◌, Bool, true, false, List, [], ◌∷◌, ◌++◌, length, map, replicate, slice_index_or, Option, Some, None, nat_lt, if◌then◌else◌}
use Rattle.smallvec.specs.SmallVec.{SmallVec}
use Rattle.rtl_net.specs.declared.process.Driver.{Driver}
use Rattle.rtl_body_facts.specs.Reading.{is_in}
use Rattle.rtl_looks.specs.declared.hubs.Look.{Look}
use Rattle.rtl_looks.specs.declared.hubs.Look.TheVariants as l
use Rattle.rtl_looks.specs.declared.hubs.Hub.{Hub}
use Rattle.rtl_looks.specs.Denoting.{look_at}
use Rattle.rtl_check_levels.specs.Feeding.{Table, IsIn, feeders_of}
use Rattle.rtl_check_nets.specs.declared.table.NetTable.{NetTable}

-- the row of a look, where so many rows are nets: a net that isn't there has none
abbrev pub rows_at : (nets : ℕ) → Look → List ℕ
rows_at nets (l.Net net) = if nat_lt net nets then net ∷ [] else []
rows_at nets (l.Hub hub) = (nets + hub) ∷ []

-- what feeds a row that has this look
abbrev pub fed_by : (nets : ℕ) → Option Look → List ℕ
fed_by nets None = []
fed_by nets (Some look) = rows_at nets look

abbrev pub counts_at : NetTable → (row : ℕ) → Bool
counts_at table row = slice_index_or table.counts.items row false

-- nothing counts, and nothing feeds the nets
pub record BeginsNets (nets : ℕ) (table : NetTable) : Type 0 where
  pub each : length table.rows.items ≡ nets
  pub each_count : length table.counts.items ≡ nets
  pub there : (row : ℕ) → row < nets → IsIn table.rows.items row
  pub fed : (row : ℕ) → feeders_of table.rows.items row ≡ []
  pub counts : (row : ℕ) → counts_at table row ≡ false

-- net counts and is fed by this look; other rows are as they were
pub record AddsDriver (nets net : ℕ) (look : Option Look) (old new : NetTable) : Type 0 where
  pub each : length new.rows.items ≡ length old.rows.items
  pub each_count : length new.counts.items ≡ length old.counts.items
  pub there : IsIn new.rows.items net
  pub fed : feeders_of new.rows.items net ≡ fed_by nets look
  pub counts : counts_at new net ≡ true
  pub others : (row : ℕ) → row ≢ net → slice_index_or new.rows.items row None ≡ slice_index_or old.rows.items row None
  pub other_counts : (row : ℕ) → row ≢ net → counts_at new row ≡ counts_at old row

-- the same of the drivers of a process from a place on, one after another; these are what its places look at
pub data AddsDrivers (nets : ℕ) (looks : List (Option Look))
    : (place : ℕ) → List Driver → (old new : NetTable) → Type 0 where
  none : (place : ℕ) (table : NetTable) → AddsDrivers nets looks place [] table table
  more : (place : ℕ) (driver : Driver) (drivers : List Driver) (old next new : NetTable)
      → AddsDriver nets driver.net (look_at looks place) old next → AddsDrivers nets looks (place + 1) drivers next new
      → AddsDrivers nets looks place (driver ∷ drivers) old new

-- registers with these nets are driven by a reset with this net: they count, and it feeds them
pub record AddsRegisters (nets reset : ℕ) (registers : List ℕ) (old new : NetTable) : Type 0 where
  pub each : length new.rows.items ≡ length old.rows.items
  pub each_count : length new.counts.items ≡ length old.counts.items
  pub there : (row : ℕ) → IsIn old.rows.items row → IsIn new.rows.items row
  pub fed : (n : ℕ) → is_in n registers ≡ true → feeders_of new.rows.items n ≡ fed_by nets (Some (l.Net reset))
  pub counts : (n : ℕ) → is_in n registers ≡ true → counts_at new n ≡ true
  pub others : (n : ℕ) → is_in n registers ≡ false → feeders_of new.rows.items n ≡ feeders_of old.rows.items n
  pub other_counts : (n : ℕ) → is_in n registers ≡ false → counts_at new n ≡ counts_at old n

-- the hubs come behind, each fed by its two looks, and count nothing
abbrev pub hub_feeders : (nets : ℕ) → Hub → List ℕ
hub_feeders nets hub = rows_at nets hub.left ++ rows_at nets hub.right

pub record AddsHubs (nets : ℕ) (hubs : List Hub) (old new : NetTable) : Type 0 where
  pub rows : List (Option (SmallVec ℕ))
  pub are : new.rows.items ≡ old.rows.items ++ rows
  pub each : length rows ≡ length hubs
  pub fed : (k : ℕ) (hub : Hub) → slice_index_or (map Some hubs) k None ≡ Some hub
      → IsIn rows k × (feeders_of rows k ≡ hub_feeders nets hub)
  pub counts : new.counts ≡ old.counts
