use Rattle.std.proofs.Common.{◌≡◌, drop}
use Rattle.std.specs.List.{list_any}
use Rattle.rtl_check.specs.ListedClocks.{is_pair}
use Rattle.rtl_check.proofs.listed_clocks.is_listed.Given as goal

abbrev pub invariant-loop-pair : goal.invariant-loop-pair
invariant-loop-pair l = list_any (is_pair l.net l.edge) (drop l.pair-index l.clocks) ≡ list_any (is_pair l.net l.edge) l.clocks
