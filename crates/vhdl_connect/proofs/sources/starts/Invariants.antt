use Rattle.std.proofs.Common.{◌≡◌, map, slice_index}
use Rattle.std.specs.List.{range_with_len}
use Rattle.vhdl_connect.specs.Held.{items_at, start_with}
use Rattle.vhdl_connect.proofs.sources.starts.Given as goal

-- what the nets so far start with
abbrev pub invariant-loop-net : goal.invariant-loop-net
invariant-loop-net l = l.starts.items ≡ map (λ n. start_with (slice_index l.defaults n) (items_at l.held n)) (range_with_len 0 l.net)
