use Rattle.std.proofs.Common.{◌∙◌, ap, get_or, arith}
use Rattle.vhdl_values.specs.declared.spreads.TheConstants.{SPREADS}
use Rattle.vhdl_values.proofs.Transposing.{spread-bits, spread_below}
use Rattle.vhdl_values.proofs.transposed.spread.Goals as goal

pub returns-clause-room : goal.returns-clause-room
returns-clause-room c = rw c.from.ensures (spread_below c.args.plane (omega arith))

pub returns-clause-bits : goal.returns-clause-bits
returns-clause-bits c = λ marked long is. rw c.from.ensures (ap (λ n. get_or SPREADS n 0) is ∙ spread-bits marked long)
