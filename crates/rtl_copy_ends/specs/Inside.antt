-- Nets that don't come from outside (simulation/Calm of rtl_model): a process drives them, or they are clocks.
use Rattle.std.specs.Prelude.{ℕ, Bool, ◌||◌, List, length, map, filter_map, Option, Some, None, is_some}
use Rattle.std.specs.List.{range_with_len}
use Rattle.rtl_net.specs.Nets.{NetlistView}
use Rattle.rtl_body_facts.specs.Reading.{is_in}
use Rattle.rtl_body_facts.specs.declared.kinds.ProcessKind.{ProcessKind}
use Rattle.rtl_body_facts.specs.declared.kinds.ProcessKind.TheVariants as k
use Rattle.rtl_seen_nets.specs.Drivers.{seen_among}
use Rattle.rtl_copy_ends.specs.Ends.{driven_by, all_kinds}

abbrev pub clock_of : ProcessKind → Option ℕ
clock_of (k.Clocked c) = Some c.clock
clock_of _ = None

abbrev pub clocks : List ProcessKind → List ℕ
clocks = filter_map clock_of

abbrev pub is_inside : NetlistView → (n : ℕ) → Bool
is_inside net n = is_some (driven_by net n) || is_in n (clocks (all_kinds net))

-- of each net whether it is one
abbrev pub inside : NetlistView → List Bool
inside net = map (is_inside net) (range_with_len 0 (length net.types))

-- the lowest of them that the first driver of a net looks at
abbrev pub seen_by : NetlistView → (n : ℕ) → Option ℕ
seen_by net n = seen_among net (inside net) n
