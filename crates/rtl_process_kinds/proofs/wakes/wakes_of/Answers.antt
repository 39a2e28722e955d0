use Rattle.std.proofs.Common.{◌<◌, All, List, length, get_or, sym, ap, subst, ◌∙◌}
use Rattle.rtl_model.specs.simulation.Netlist as m
use Rattle.rtl_net.specs.declared.process.Process.{Process}
use Rattle.rtl_process_kinds.proofs.Processes.{process_is}
use Rattle.rtl_process_kinds.proofs.Sources.{nets_of_wakes}
use Rattle.rtl_process_kinds.proofs.wakes.wakes_of.Goals as goal

pub returns : goal.returns
returns c =
    let net = c.args.net.now in
    let x = c.index-processes-process.result in
    let at = c.index-processes-process.is ∙ ap (λ (ps : List Process). get_or ps c.args.process x) c.processes-processes.ensures in
    let are = c.as_slice.ensures ∙ sym (ap (λ (q : Process). q.wakes.items) c.index-processes-process.is) in
    record {
      value = are ∙ sym (ap (λ (q : m.Process). q.wakes) (process_is net c.args.process x c.requires at));
      there = subst (All (λ n. n < length net.types)) (sym are) (nets_of_wakes net c.is_elaborated.ensures c.args.process x c.requires at);
    }
