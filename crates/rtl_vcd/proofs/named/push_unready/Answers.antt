use Rattle.std.proofs.Common.{false, true, sym, refl, ◌∙◌, append-nil}
use Rattle.rtl_net.specs.Nets.{signal_view}
use Rattle.rtl_vcd.specs.Trace.{printed}
use Rattle.rtl_vcd.proofs.Changes.{appended_change, some_change}
use Rattle.rtl_vcd.proofs.named.push_unready.Goals as goal

pub returns-then-not-prints_otherwise-clause-text : goal.returns-then-not-prints_otherwise-clause-text
returns-then-not-prints_otherwise-clause-text c =
    let name = signal_view c.args.signal.now in
    let new = c.args.step.now.new.now in
    appended_change c.args.number name c.args.step.now.old.now new false (sym c.if-not-prints_otherwise.true ∙ c.prints_otherwise.ensures)
    c.args.page.now c.args.page.now (printed c.args.number name new) refl (sym (append-nil c.args.page.now))

pub returns-then-not-prints_otherwise-clause-some : goal.returns-then-not-prints_otherwise-clause-some
returns-then-not-prints_otherwise-clause-some c =
    some_change c.args.number (signal_view c.args.signal.now) c.args.step.now.old.now c.args.step.now.new.now false
    (sym c.if-not-prints_otherwise.true ∙ c.prints_otherwise.ensures)

pub returns-clause-text : goal.returns-clause-text
returns-clause-text c =
    appended_change c.args.number (signal_view c.args.signal.now) c.args.step.now.old.now c.args.step.now.new.now true
    (sym c.if-not-prints_otherwise.false ∙ c.prints_otherwise.ensures)
    c.args.page.now c.push_all.new.self _ (c.deref.ensures.0 ∙ c.change_line.ensures) c.push_all.ensures.bytes

pub returns-clause-some : goal.returns-clause-some
returns-clause-some c =
    some_change c.args.number (signal_view c.args.signal.now) c.args.step.now.old.now c.args.step.now.new.now true
    (sym c.if-not-prints_otherwise.false ∙ c.prints_otherwise.ensures)
