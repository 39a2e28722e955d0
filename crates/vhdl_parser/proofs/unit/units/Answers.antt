use Rattle.std.proofs.Common.{rules}
use Rattle.vhdl_tree.specs.View.{unit_view}
use Rattle.vhdl_parser_expressions.specs.reader.Input.{is_more}
use Rattle.vhdl_parser_expressions.proofs.Lists.{reads_many}
use Rattle.vhdl_parser.specs.reader.Units.{units, unit}
use Rattle.vhdl_parser.proofs.unit.units.Goals as goal

pub returns : goal.returns
unfolding units
returns c =
    let e = reads_many unit_view is_more (unit c.args.language) (λ ts b h. search rules) (λ ts r rest h. search rules) c.many.ensures in
    search rules
