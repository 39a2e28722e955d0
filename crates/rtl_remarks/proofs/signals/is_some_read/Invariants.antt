use Rattle.std.proofs.Common.{◌≡◌, drop}
use Rattle.std.specs.List.{list_any}
use Rattle.rtl_remarks.specs.Remarks.{is_read}
use Rattle.rtl_remarks.proofs.signals.is_some_read.Given as goal

abbrev pub invariant-loop-number : goal.invariant-loop-number
invariant-loop-number l = list_any (is_read l.net) (drop l.number-index l.nets) ≡ list_any (is_read l.net) l.nets
