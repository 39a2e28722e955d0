use Rattle.std.proofs.Common.{◌≡◌, ◌-◌}
use Rattle.vhdl_parser_expressions.specs.reader.Input.{sees}
use Rattle.vhdl_parser_expressions.specs.reader.Lists.{Collects, Follows, Separates, FnReturnsAtMut}
use Rattle.vhdl_parser_expressions.proofs.list.separated.Given as goal

-- what the turns that are left give, all turns give
abbrev pub invariant-loop-turn : goal.invariant-loop-turn
invariant-loop-turn g l = (r : _) (rest : _) →
    Collects (λ vs b. b ≡ sees l.separator vs) (Follows l.separator (FnReturnsAtMut g.I.Fn l.item)) (l._turn-end - l._turn) l.found.items l.parser r rest →
    Separates l.separator (FnReturnsAtMut g.I.Fn l.item) l.fn.parser r rest
