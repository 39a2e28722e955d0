use Rattle.std.proofs.Common.{length, ◌-◌}
use Rattle.std.specs.Fn.{FnReturnsAt}
use Rattle.vhdl_parser_expressions.specs.reader.Lists.{Collects, FnReturnsAtMut}
use Rattle.vhdl_parser_expressions.proofs.list.many.Given as goal

-- what the turns that are left give, all turns give
abbrev pub invariant-loop-turn : goal.invariant-loop-turn
invariant-loop-turn g l = (r : _) (rest : _) → Collects (FnReturnsAt g.B.Fn l.begins) (FnReturnsAtMut g.I.Fn l.item) (l._turn-end - l._turn) l.found.items l.parser r rest → Collects (FnReturnsAt g.B.Fn l.begins) (FnReturnsAtMut g.I.Fn l.item) (length l.fn.parser) l.fn.found.items l.fn.parser r rest
