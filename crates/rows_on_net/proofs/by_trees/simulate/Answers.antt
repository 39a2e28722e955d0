use Rattle.std.proofs.Common.{List, ap, sym, subst, refl, ◌∙◌}
use Rattle.rtl_net.specs.Nets.{NetlistView, flat}
use Rattle.rtl_kernel.specs.kernel.Kept.{RunBodies}
use Rattle.rtl_stim.specs.Ports.{HasOwnPorts, inputs_of}
use Rattle.rtl_eval.specs.Trees.{ProcessOf, process_of, processes_of}
use Rattle.rows_on_net.proofs.Trees.{trees_run}
use Rattle.rows_on_net.proofs.by_trees.simulate.Goals as goal

pub run_watched-requires-clause-bodies : goal.run_watched-requires-clause-bodies
run_watched-requires-clause-bodies g c =
    let net = c.args.net.now in
    subst (λ (n : NetlistView). RunBodies process_of (λ (t : ProcessOf). t.net.types) (flat n) c.deref.result.now) (sym c.shown.ensures.net)
    (subst (λ (bodies : List ProcessOf). RunBodies process_of (λ (t : ProcessOf). t.net.types) (flat net) bodies)
    (sym (c.deref.ensures.value ∙ c.in_ok-trees.ensures)) (trees_run net (processes_of net) refl))

pub run_watched-requires-clause-ports : goal.run_watched-requires-clause-ports
run_watched-requires-clause-ports g c = subst HasOwnPorts (sym c.shown.ensures.net) c.requires.ports

pub run_watched-requires-clause-inputs : goal.run_watched-requires-clause-inputs
run_watched-requires-clause-inputs g c = c.requires.inputs ∙ ap inputs_of (sym c.shown.ensures.net)
