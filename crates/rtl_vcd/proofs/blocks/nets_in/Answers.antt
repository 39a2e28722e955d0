use Rattle.std.proofs.Common.{◌<◌, ◌≤◌, ◌++◌, ◌∙◌, length, map, take, ap, sym, arith}
use Rattle.std.proofs.lemmas.List.{length-map, take_all}
use Rattle.rtl_net.specs.Nets.{signal_view}
use Rattle.rtl_vcd.proofs.Names.{name_at}
use Rattle.rtl_vcd.proofs.Listed.{all_nets, nets_more}
use Rattle.rtl_vcd.proofs.blocks.nets_in.Goals as goal

pub loop-name-preserved : goal.loop-name-preserved
loop-name-preserved c =
    let names = map signal_view c.args.names.now in
    let i = c.loop-name.name-index in
    let name = c.name-item.result in
    let within : i < length names = omega (arith, c.loop-name-test.true, length-map c.args.names.now signal_view) in
    let nets = c.deref.ensures in
    c.in_ok-extend_from_slice.ensures.items ∙ ap (λ ns. ns ++ c.deref.result.now) c.loop-name.invariant ∙ ap (λ ns. all_nets (take i names) ++ ns) nets
    ∙ sym (nets_more names i (signal_view name) within (name_at c.args.names.now i name c.loop-name-test.true c.name-item.is))

pub returns : goal.returns
returns c =
    let names = map signal_view c.args.names.now in
    let past : length names ≤ c.loop-name.name-index = omega (arith, c.loop-name-test.false, length-map c.args.names.now signal_view) in
    c.loop-name.invariant ∙ ap all_nets (take_all c.loop-name.name-index names past)
