use Rattle.std.proofs.Common.{refl}
use Rattle.rtlsim_commands.specs.Opened.{Writeless}
use Rattle.rtlsim_commands.proofs.Told.{serves_refused, serves_so}
use Rattle.rtlsim_commands.proofs.serving.serve.Goals as goal

pub returns-in-Ok : goal.returns-in-Ok
returns-in-Ok g c = serves_so Writeless _ _ c.args.telling.now _ _ _ c.serve_net-said.ensures

pub returns-in-Err : goal.returns-in-Err
returns-in-Err g c =
    serves_refused Writeless _ _ c.args.telling.now _ _ _ c.in-Err.fault c.in-Err.ensures.refused c.in-Err.ensures.told refl
    c.refuse_source.ensures.0 c.refuse_source.ensures.1 c.refuse_source.ensures.2
