use Rattle.std.proofs.Common.{◌&&◌, Bool, ap, ◌∙◌}
use Rattle.rtl_net.specs.Nets.{SignalView}
use Rattle.rtl_remarks.specs.Remarks.{is_top_port, is_of}
use Rattle.rtl_stim_lines.specs.Inputs.{small}
use Rattle.rtl_undriven_inputs.proofs.Inserting.{if_ok}
use Rattle.rtl_undriven_inputs.proofs.ports.named_nets.Goals as goal

pub returns : goal.returns
returns c =
    let names = c.in_ok-names.ensures in
    if_ok _ _ c.nets_named.result
    (λ v those. record {
      rise = those.rise;
      are = λ n. those.are n ∙ ap (λ (f : SignalView → Bool). is_of f c.args.net.now.signals n) (λ i s. is_top_port s && names (small s.name) i);
    })
    c.nets_named.ensures
