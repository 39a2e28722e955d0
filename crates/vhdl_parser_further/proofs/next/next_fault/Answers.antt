use Rattle.std.proofs.Common.{sym, subst}
use Rattle.vhdl_lexer.specs.Cut.{AreWithin}
use Rattle.vhdl_parser_further.proofs.Within.{within_left}
use Rattle.vhdl_parser_further.proofs.next.next_fault.Goals as goal

pub read-requires : goal.read-requires
read-requires c = subst (AreWithin c.args.source.now) (sym c.in-Ok.ensures) (within_left c.args.source.now c.args.tokens.now c.args.at c.requires)
