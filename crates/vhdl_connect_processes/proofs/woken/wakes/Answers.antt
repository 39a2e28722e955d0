use Rattle.std.proofs.Common.{ap, ◌∙◌, slice_index}
use Rattle.vhdl_expand_tree.specs.Views.{sensitivity_view}
use Rattle.vhdl_connect_processes.proofs.Waking.{woken_listed, woken_every, woken_as_read}
use Rattle.vhdl_connect_processes.proofs.woken.wakes.Goals as goal

pub returns-in-Listed : goal.returns-in-Listed
returns-in-Listed c = λ p s same.
    woken_listed c.nets_in_order.result (λ v. v.items) (slice_index c.args.connection.now.nets.now) p _ c.in-Listed.elements.items c.deref.ensures.value (s ∙ ap sensitivity_view c.in-Listed.is)
    c.nets_in_order.ensures

pub returns-in-Every : goal.returns-in-Every
returns-in-Every c = λ p s same.
    woken_every c.nets_in_order-in-Every.result (λ v. v.items) (slice_index c.args.connection.now.nets.now) p _ c.in-Every.elements.items c.deref-in-Every.ensures.value (s ∙ ap sensitivity_view c.in-Every.is)
    c.nets_in_order-in-Every.ensures

pub returns-in-AsRead : goal.returns-in-AsRead
returns-in-AsRead c = λ p s same.
    woken_as_read c.short.result (λ v. v.items) (slice_index c.args.connection.now.nets.now) p c.args.nets_read.now c.requires.rise same (s ∙ ap sensitivity_view c.in-AsRead.is) c.short.ensures
