use Rattle.rtl_run.specs.Faults.{of_stim}
use Rattle.rtl_simulation.proofs.Results.{fails_with}
use Rattle.rtl_run.proofs.Refusals.{refused_text}
use Rattle.rtl_run.proofs.admission.admit.Goals as goal

pub returns-in_err-acceptance-clause-refused : goal.returns-in_err-acceptance-clause-refused
returns-in_err-acceptance-clause-refused c =
    fails_with _ _ c.from_residual.result c.in_err-acceptance.field-0.0 c.from_residual.ensures.1 (c.in_err-acceptance.ensures.refused c.args.text.now)

pub returns-in_err-stimulus-clause-refused : goal.returns-in_err-stimulus-clause-refused
returns-in_err-stimulus-clause-refused c =
    let fault = c.in_err-stimulus.field-0.0 in
    fails_with _ _ c.from_residual-in_err-stimulus.result (of_stim fault) c.from_residual-in_err-stimulus.ensures.1
    (refused_text c.args.net.now c.args.text.now fault c.in_ok-acceptance.ensures.accepted.says.accepted c.in_err-stimulus.ensures)

pub without_race-requires-clause-inputs : goal.without_race-requires-clause-inputs
without_race-requires-clause-inputs c = c.in_ok-stimulus.ensures.0

pub returns-clause-admitted : goal.returns-clause-admitted
returns-clause-admitted c = c.without_race.ensures.admitted c.args.text.now c.in_ok-stimulus.ensures

pub returns-clause-refused : goal.returns-clause-refused
returns-clause-refused c = c.without_race.ensures.refused c.args.text.now c.in_ok-stimulus.ensures
