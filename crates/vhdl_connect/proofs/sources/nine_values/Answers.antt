use Rattle.std.proofs.Common.{◌++◌, map, sym, ap}
use Rattle.vhdl_values.specs.Scalar.{value_of_code}
use Rattle.vhdl_connect_processes.proofs.Lists.{map_next, map_done}
use Rattle.vhdl_connect.proofs.sources.nine_values.Goals as goal

pub loop-code-init : goal.loop-code-init
loop-code-init c =
    ap (λ l. l ++ map (value_of_code) c.args.codes.now) (sym c.new-values.ensures.items)

pub loop-code-preserved : goal.loop-code-preserved
loop-code-preserved c =
    map_next (value_of_code) _ c.args.codes.now c.loop-code.values.items _ c.loop-code.code-index c.nine_value.result c.loop-code-test.true c.loop-code.invariant c.nine_value.ensures c.in_ok-push.ensures.items

pub returns : goal.returns
returns c =
    map_done (value_of_code) _ c.args.codes.now c.loop-code.values.items c.loop-code.code-index c.loop-code-test.false c.loop-code.invariant
