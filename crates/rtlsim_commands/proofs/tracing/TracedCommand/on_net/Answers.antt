use Rattle.std.proofs.Common.{map, inl, inr, refl}
use Rattle.rtlsim_command_faults.specs.declared.faults.Fault.TheVariants.{Memory}
use Rattle.rtlsim_commands.specs.Tracing.{Tracing, named, none, whole}
use Rattle.rtlsim_commands.proofs.Sights.{seeing_as, seeing_of}
use Rattle.rtlsim_commands.proofs.Watched.{watched_failed}
use Rattle.rtlsim_commands.proofs.tracing.TracedCommand.on_net.Goals as goal

pub returns-in-Whole-clause-does : goal.returns-in-Whole-clause-does
returns-in-Whole-clause-does g c =
    let run = c.args.self.now.run in
    let seen = rw (c.shown.ensures.net, c.shown.ensures.signals) at c.simulate.ensures.does in
    rw c.in-Whole.is (seeing_as (g.R.Simulate.sight run) _ (Tracing whole (g.R.Simulate.shows run)) _ c.args.site.net.now c.simulate.result _ _ _ _ (λ does. does) seen)

pub returns-in-Whole-clause-faults : goal.returns-in-Whole-clause-faults
returns-in-Whole-clause-faults g c = rw c.shown.ensures.net at c.simulate.ensures.faults

pub returns-in-Nothing-clause-does : goal.returns-in-Nothing-clause-does
returns-in-Nothing-clause-does g c =
    let run = c.args.self.now.run in
    let seen = rw (c.unshown.ensures.net, c.unshown.ensures.signals) at c.simulate-in-Nothing.ensures.does in
    rw c.in-Nothing.is (seeing_as (g.R.Simulate.sight run) _ (Tracing none (g.R.Simulate.shows run)) _ c.args.site.net.now c.simulate-in-Nothing.result _ _ _ _ (λ does. (does, refl)) seen)

pub returns-in-Nothing-clause-faults : goal.returns-in-Nothing-clause-faults
returns-in-Nothing-clause-faults g c = rw c.unshown.ensures.net at c.simulate-in-Nothing.ensures.faults

pub returns-in_err-chosen-in-Named-clause-does : goal.returns-in_err-chosen-in-Named-clause-does
returns-in_err-chosen-in-Named-clause-does g c =
    let run = c.args.self.now.run in
    let does = Tracing (named (map (λ name. name.now) c.in-Named.names.now)) (g.R.Simulate.shows run) in
    rw c.in-Named.is (seeing_of (g.R.Simulate.sight run) does _ c.args.site.net.now c.from_residual.result _ _ (watched_failed does _ c.args.site.net.now _ Memory _ _ c.from_residual.ensures.1 (inr (refl, refl)) tt))

pub returns-in-Ok-clause-does : goal.returns-in-Ok-clause-does
returns-in-Ok-clause-does g c =
    let run = c.args.self.now.run in
    let names = map (λ name. name.now) c.in-Named.names.now in
    let net = c.args.site.net.now in
    let found = rw c.in-Ok.is at c.in_ok-chosen-in-Named.ensures in
    let seen = rw (c.chosen_shown-shown.ensures.net, c.chosen_shown-shown.ensures.signals, c.deref.ensures.value) at c.simulate-in-Ok.ensures.does in
    rw c.in-Named.is (seeing_as (g.R.Simulate.sight run) _ (Tracing (named names) (g.R.Simulate.shows run)) _ net c.simulate-in-Ok.result _ _ _ _ (λ does. inl (rw (← found) does)) seen)

pub returns-in-Ok-clause-faults : goal.returns-in-Ok-clause-faults
returns-in-Ok-clause-faults g c = rw c.chosen_shown-shown.ensures.net at c.simulate-in-Ok.ensures.faults
