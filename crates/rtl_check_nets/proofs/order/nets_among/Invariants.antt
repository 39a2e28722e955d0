use Rattle.std.proofs.Common.{◌≡◌, nat_lt, filter, take}
use Rattle.rtl_check_nets.proofs.order.nets_among.Given as goal

abbrev pub invariant-loop-row : goal.invariant-loop-row
invariant-loop-row l = l.among.items ≡ filter (λ row. nat_lt row l.nets) (take l.row-index l.rows)
