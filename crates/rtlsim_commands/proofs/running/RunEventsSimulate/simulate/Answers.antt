use Rattle.std.proofs.Common.{map, ap, inr, refl, ◌∙◌}
use Rattle.rtl_net.specs.Nets.{signal_view}
use Rattle.rtl_simulation.specs.declared.summary.Summary.{Summary}
use Rattle.rtl_run.proofs.Codes.{run_of, codes_run}
use Rattle.rtlsim_command_faults.specs.declared.faults.Fault.TheVariants.{Memory}
use Rattle.rtlsim_commands.specs.Simulated.{ShowsEvents}
use Rattle.rtlsim_commands.proofs.Runs.{began, failed_run, refused, refused_fault, refused_part, run_fault, unread, unread_fault, unread_part}
use Rattle.rtlsim_commands.proofs.Sights.{fault_by}
use Rattle.rtlsim_commands.proofs.Watched.{watched_failed, watched_so, run_part}
use Rattle.rtlsim_commands.proofs.running.RunEventsSimulate.simulate.Goals as goal

pub returns-in_err-refuse_stored-clause-does : goal.returns-in_err-refuse_stored-clause-does
returns-in_err-refuse_stored-clause-does g c =
    let text = c.args.self.now.stimulus.now in
    let fault = c.in_err-refuse_stored.field-0.0 in
    let why = c.in_err-refuse_stored.ensures in
    watched_so _ _ _ _ _ _ (watched_failed (ShowsEvents text (map signal_view c.args.shown.signals.now)) _ c.args.shown.net.now _ _ _ _ c.from_residual.ensures.1 (refused text (map signal_view c.args.shown.signals.now) c.args.shown.net.now fault _ why) (refused_part c.args.shown.net.now fault _ why))

pub returns-in_err-refuse_stored-clause-faults : goal.returns-in_err-refuse_stored-clause-faults
returns-in_err-refuse_stored-clause-faults g c =
    fault_by _ _ _ c.from_residual.ensures.1 (refused_fault c.args.self.now.stimulus.now _ c.args.shown.net.now c.in_err-refuse_stored.field-0.0 c.in_err-refuse_stored.ensures)

pub returns-in_err-stimulus-clause-does : goal.returns-in_err-stimulus-clause-does
returns-in_err-stimulus-clause-does g c =
    let text = c.args.self.now.stimulus.now in
    let fault = c.in_err-stimulus.field-0.0 in
    watched_so _ _ _ _ _ _ (watched_failed (ShowsEvents text (map signal_view c.args.shown.signals.now)) _ c.args.shown.net.now _ _ _ _ c.from_residual-in_err-stimulus.ensures.1
    (unread text (map signal_view c.args.shown.signals.now) c.args.shown.net.now fault _ c.in_ok-refuse_stored.ensures c.in_err-stimulus.ensures) (unread_part fault _))

pub returns-in_err-stimulus-clause-faults : goal.returns-in_err-stimulus-clause-faults
returns-in_err-stimulus-clause-faults g c =
    fault_by _ _ _ c.from_residual-in_err-stimulus.ensures.1 (unread_fault c.args.self.now.stimulus.now _ c.args.shown.net.now c.in_err-stimulus.field-0.0)

pub returns-in_err-bodies-clause-does : goal.returns-in_err-bodies-clause-does
returns-in_err-bodies-clause-does g c =
    watched_so _ _ _ _ _ _ (watched_failed (ShowsEvents c.args.self.now.stimulus.now (map signal_view c.args.shown.signals.now)) _ c.args.shown.net.now _ Memory _ _ c.from_residual-in_err-bodies.ensures.1 (inr refl) tt)

pub returns-in_err-bodies-clause-faults : goal.returns-in_err-bodies-clause-faults
returns-in_err-bodies-clause-faults g c = fault_by _ _ Memory c.from_residual-in_err-bodies.ensures.1 tt

pub run_watched-requires-clause-bodies : goal.run_watched-requires-clause-bodies
run_watched-requires-clause-bodies g c =
    codes_run c.args.shown.net.now c.deref.result.now (ap (map run_of) c.deref.ensures.value ∙ c.in_ok-bodies.ensures)

pub returns-in_err-summary-clause-does : goal.returns-in_err-summary-clause-does
returns-in_err-summary-clause-does g c =
    let text = c.args.self.now.stimulus.now in
    let began = began text (map signal_view c.args.shown.signals.now) c.args.shown.net.now c.in_ok-stimulus.stimulus _ _ _ c.in_ok-refuse_stored.ensures c.in_ok-stimulus.ensures c.in_err-summary.ensures.answers in
    watched_so _ _ _ _ _ _ (watched_failed (ShowsEvents text (map signal_view c.args.shown.signals.now)) _ c.args.shown.net.now _ _ _ _ c.from_residual-in_err-summary.ensures.1 (failed_run text (map signal_view c.args.shown.signals.now) c.args.shown.net.now _ _ _ began) (run_part Summary _ _))

pub returns-in_err-summary-clause-faults : goal.returns-in_err-summary-clause-faults
returns-in_err-summary-clause-faults g c =
    fault_by _ _ _ c.from_residual-in_err-summary.ensures.1
    (run_fault _ c.args.shown.net.now c.args.self.now.stimulus.now c.in_ok-stimulus.stimulus _ _ c.in_ok-stimulus.ensures c.in_err-summary.ensures.failing)

pub returns-clause-does : goal.returns-clause-does
returns-clause-does g c = record {
  does = began c.args.self.now.stimulus.now (map signal_view c.args.shown.signals.now) c.args.shown.net.now c.in_ok-stimulus.stimulus _ _ _ c.in_ok-refuse_stored.ensures c.in_ok-stimulus.ensures c.in_ok-summary.ensures.answers;
  sees = record { stimulus = c.in_ok-stimulus.stimulus; said = c.in_ok-stimulus.ensures; all = c.in_ok-summary.ensures.told };
}
