use Rattle.std.proofs.Common.{ap, ◌∙◌}
use Rattle.rtl_body_facts.specs.Reading.{is_in}
use Rattle.vhdl_connect_processes.proofs.Waking.{in_order_if}
use Rattle.vhdl_connect_processes.proofs.woken.nets_in_order.Goals as goal

pub returns : goal.returns
returns c =
    in_order_if c.short.result (λ v. v.items) _ c.order_once.new.numbers.items _ c.in_ok-order_once.ensures.rise (λ n. c.in_ok-order_once.ensures.same n ∙ ap (is_in n) c.in_ok-found.ensures)
    c.deref.ensures.value c.short.ensures
