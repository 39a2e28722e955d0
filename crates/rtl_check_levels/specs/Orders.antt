-- What the rows of a table have: levels, or a loop.
use Rattle.rtl_check_levels.specs.declared.counting.Counting.{Counting}
use Rattle.rtl_check_levels.specs.declared.counting.Counting.TheVariants.{Each}
use Rattle.rtl_check_levels.specs.declared.order.LevelOrder.{LevelOrder}
use Rattle.rtl_check_levels.specs.declared.order.LevelOrder.TheVariants.{Leveled, Looped}
use Rattle.rtl_check_levels.specs.Feeding.{Table}
use Rattle.rtl_check_levels.specs.Levels.{AreLevelsBy}
use Rattle.rtl_check_levels.specs.Rounds.{IsRound, IsListedOnce}

abbrev pub IsOrderBy : Counting → Table → LevelOrder → Type 0
IsOrderBy counting table (Leveled l) = AreLevelsBy counting table l.levels.items l.from.items l.greatest
IsOrderBy counting table (Looped round) = IsRound table round.items × IsListedOnce round.items

-- the same of processes, each of which counts as a level
abbrev pub IsOrder : Table → LevelOrder → Type 0
IsOrder = IsOrderBy Each
