use Rattle.std.proofs.Common.{◌<◌, length, ◌∙◌, arith}
use Rattle.rtl_signal_names.proofs.Choosing.{too_short, without_dot, with_dot}
use Rattle.rtl_signal_names.proofs.chosen.stands_below.Goals as goal

pub returns-then-name-end : goal.returns-then-name-end
returns-then-name-end c = too_short c.args.outer.now c.args.name.now c.if-name-end.true

pub returns-then-name-end-ne46 : goal.returns-then-name-end-ne46
returns-then-name-end-ne46 c =
    let within : length c.args.outer.now < length c.args.name.now = omega (arith, c.if-name-end.false) in
    without_dot c.args.outer.now c.args.name.now _ within c.if-name-end-ne46.true

pub returns : goal.returns
returns c =
    let within : length c.args.outer.now < length c.args.name.now = omega (arith, c.if-name-end.false) in
    c.are_alike.ensures ∙ with_dot c.args.outer.now c.args.name.now _ within c.if-name-end-ne46.false
