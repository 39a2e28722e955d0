use Rattle.std.proofs.Common.{length}
use Rattle.rtlsim_command_faults.specs.Explanations.{files_of}
use Rattle.rtlsim_command_faults.specs.Refusal.{Describes}
use Rattle.rtlsim_commands.proofs.Told.{serves_refused, serves_so, told_so}
use Rattle.vhdl_front_rules.specs.Asking.{asked_view}
use Rattle.vhdl_front_rules.specs.Faults.{LiesIn}
use Rattle.vhdl_front_rules.specs.Refusals.{Refuses}
use Rattle.rtlsim_commands.proofs.serving.describe.Goals as goal

pub returns-in-Ok : goal.returns-in-Ok
returns-in-Ok g c =
    let telling = c.args.telling.now in
    let asked = asked_view c.args.asked in
    serves_so (Describes (files_of telling) asked) _ _ telling _ _ _ c.serve_net.ensures

pub returns-in-Err : goal.returns-in-Err
returns-in-Err g c =
    let telling = c.args.telling.now in
    let asked = asked_view c.args.asked in
    let fault = c.in-Err.fault in
    let told = c.describe_refusal-told.result in
    let either = c.describe_refusal-told.ensures.fault in
    serves_refused (Describes (files_of telling) asked) _ _ telling _ _ _ told (told_so (Refuses asked) fault told either tt c.in-Err.ensures.refused)
    (told_so (LiesIn (length asked.source)) fault told either tt c.in-Err.ensures.told) c.describe_refusal-told.ensures.described
    c.refuse_source.ensures.0 c.refuse_source.ensures.1 c.refuse_source.ensures.2
