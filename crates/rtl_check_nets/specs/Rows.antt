-- The table of a netlist's nets. Its first rows are the nets, then come hubs, which stand for several nets each.
use Rattle.std.specs.Prelude.{◌≡◌, ◌↔◌, ℕ, ◌<◌, ◌≤◌, Bool, List, length, Option, None, Some, IsSome, IsTrue}
use Rattle.rtl_model.specs.simulation.Netlist.{Netlist, process}
use Rattle.rtl_model.specs.simulation.Accepted.{LooksAt}
use Rattle.rtl_model.specs.simulation.NetLevels.{IsDerived, MayActLater}
use Rattle.rtl_check_levels.specs.declared.counting.Counting.{Counting}
use Rattle.rtl_check_levels.specs.declared.counting.Counting.TheVariants.{Each}
use Rattle.rtl_check_levels.specs.declared.highest.Highest.{Highest}
use Rattle.rtl_check_levels.specs.declared.order.Levels.{Levels}
use Rattle.rtl_check_levels.specs.Feeding.{Table, IsIn, Feeds, counts_in}
use Rattle.rtl_check_levels.specs.Levels.{AreLevelsBy, IsHighest, level_of}

-- a row stands for net n, where so many rows are nets: it is n, or a hub that is fed by a row that stands for n
pub data StandsFor (nets : ℕ) (table : Table) (n : ℕ) : (row : ℕ) → Type 0 where
  itself : n < nets → StandsFor nets table n n
  behind : (hub row : ℕ) → nets ≤ hub → Feeds table row hub → StandsFor nets table n row → StandsFor nets table n hub

-- The table of a netlist's nets, and which of its rows count as a level.
pub record IsNetTable (net : Netlist) (table : Table) (counted : ℕ → Bool) : Type 0 where
  pub each_net : length net.start ≤ length table
  pub each_row : (row : ℕ) → row < length table → IsIn table row
  pub within : (p row : ℕ) → Feeds table p row → p < length table
  -- hubs are fed by nets and by hubs before them
  pub hubs : (p hub : ℕ) → length net.start ≤ hub → Feeds table p hub → p < hub
  -- the nets count that may change behind others, and no other row
  pub counts : (row : ℕ) → IsTrue (counted row) ↔ IsDerived net row
  -- what feeds a net stands for all that it looks at; and nothing feeds a net that doesn't count
  pub looks : (n m : ℕ) → n < length net.start
      → LooksAt net n m ↔ ((row : ℕ) × Feeds table row n × StandsFor (length net.start) table m row)
  pub unfed : (n p : ℕ) → n < length net.start → Feeds table p n → IsDerived net n

-- ---- levels of the rows

-- these are the levels of the rows of such a table
pub record AreLevelsOfRows (net : Netlist) (rows : Levels) : Type 0 where
  pub table : Table
  pub counting : Counting
  pub is_table : IsNetTable net table (counts_in counting)
  pub are_levels : AreLevelsBy counting table rows.levels.items rows.from.items rows.greatest

-- each net has a level, which may be 0
abbrev pub HaveLevels : Netlist → Levels → Type 0
HaveLevels net rows =
    (length rows.from.items ≡ length rows.levels.items)
    × ((n : ℕ) → n < length net.start → IsSome (level_of rows.levels.items n))

-- of a process that may assign in a delta cycle the highest of the nets that it is sensitive to
abbrev pub IsBelow : Netlist → Levels → (p : ℕ) → Option Highest → Type 0
IsBelow net rows p None = MayActLater net p → ⊥
IsBelow net rows p (Some below) =
    MayActLater net p
    × IsHighest Each (process net p).wakes rows.levels.items rows.from.items below.level below.row
