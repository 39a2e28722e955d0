use Rattle.std.proofs.Common.{ℕ, List, ◌∙◌}
use Rattle.rtl_levels.proofs.Alike.{each_machine_goes_on_alike}
use Rattle.rtl_levels.specs.Machine.{MachineView}
use Rattle.rtl_agenda.specs.Agenda.{Change}
use Rattle.rtl_simulation.specs.Engines.{CourseView, Follows}
use Rattle.rtl_run.specs.levels.Settled.{MachineSettled}
use Rattle.rtl_run.proofs.levels.Turns.{LeadsOn, leads_on}
use Rattle.rtl_run.proofs.level_engine.LevelEngineEngine.step.Goals as goal

lead : (r : CourseView) (m time : ℕ) (machine : MachineView) (changes : List Change) (A : MachineSettled r m machine) → Follows r m time changes machine.values
    → LeadsOn A.run m machine.net machine.values changes
lead r m time machine changes A F =
    leads_on each_machine_goes_on_alike r.net A.course.is_net A.accepted r.stimulus A.course.ports A.course.inputs r.limit A.run A.synchronous m time changes F.gives machine.values A.values
    A.raceless machine.net A.net

pub step-requires : goal.step-requires
step-requires g c =
    let on = lead c.requires.0 c.requires.1 _ c.args.self.now.machine c.args.changes.now c.requires.2 c.requires.3 in
    record { inputs = on.inputs; raceless = on.raceless }

pub returns-clause-steps : goal.returns-clause-steps
returns-clause-steps g c r m A F =
    let on = lead r m _ c.args.self.now.machine c.args.changes.now A F in
    record {
      course = A.course;
      accepted = A.accepted;
      raceless = A.raceless;
      run = A.run;
      synchronous = A.synchronous;
      net = c.step.ensures.net ∙ A.net;
      values = on.steps c.step.new.self.values c.step.ensures.step;
    }
