use Rattle.std.proofs.Common.{List, ap, subst, refl, ◌∙◌}
use Rattle.vhdl_values.specs.declared.scalar.Nine.{Nine}
use Rattle.rtl_model.specs.nets.CoreNetlist.{core_netlist}
use Rattle.rtl_model.specs.simulation.Cycle.{start_state}
use Rattle.rtl_model.specs.simulation.Moments.{HasRun}
use Rattle.rtl_model.proofs.simulation.Order.{HasRun-done}
use Rattle.rtl_net.specs.Core.{core}
use Rattle.rtl_net.specs.Nets.{flat}
use Rattle.rtl_kernel.specs.kernel.Simulation.{Simulation, initial_inputs}
use Rattle.rtl_simulation.proofs.Steps.{first_begun}
use Rattle.rtl_simulation.proofs.event_engine.EventEngine.new.Goals as goal

pub returns : goal.returns
returns g c =
    let net = c.args.course.now.shown.net.now in
    let s = c.args.course.now.stimulus.now in
    let is_net = c.is_elaborated.ensures in
    let state = c.start.new.self.state in
    let ran = subst (λ (k : Simulation). HasRun (core_netlist (flat k.net)) k.state state) c.in_ok-kernel.ensures c.start.ensures.ran in
    let run = subst (λ (vs : List Nine). HasRun (core net) (start_state (core net) (initial_inputs (flat net) vs)) state) c.initial.ensures ran in
    record {
      of = record {
        course = record { is_net = is_net; ports = c.requires.ports; inputs = c.requires.inputs };
        net = c.start.ensures.net ∙ ap (λ (k : Simulation). k.net) c.in_ok-kernel.ensures;
        limit_is = refl;
        ready = HasRun-done (core_netlist (flat c.in_ok-kernel.kernel.net)) c.in_ok-kernel.kernel.state state c.start.ensures.ran;
        nets = c.in_ok-touched.ensures.nets ∙ c.nets.ensures.count;
      };
      begun = first_begun net is_net s c.requires.ports c.requires.inputs state run;
    }
