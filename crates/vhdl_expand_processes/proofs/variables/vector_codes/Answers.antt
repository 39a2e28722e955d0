use Rattle.vhdl_expand_processes.proofs.Codes.{codes_step}
use Rattle.vhdl_expand_processes.proofs.variables.vector_codes.Goals as goal

pub loop-place-preserved : goal.loop-place-preserved
loop-place-preserved c =
    let e = codes_step c.args.values c.loop-place.codes.items c.loop-place.place _ c.loop-place.invariant c.get-value.ensures in
    cc (c.in_ok-push.ensures.ok, c.code.ensures.code)
