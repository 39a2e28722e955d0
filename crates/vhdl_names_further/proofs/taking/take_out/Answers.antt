use Rattle.std.proofs.Common.{None, arith}
use Rattle.vhdl_lexer.proofs.Reached.{cut_within}
use Rattle.vhdl_names_further.proofs.taking.take_out.Goals as goal

pub name_at-requires : goal.name_at-requires
name_at-requires c = cut_within c.args.source.now None 0 c.args.source.now c.args.tokens.now (omega arith) c.requires
