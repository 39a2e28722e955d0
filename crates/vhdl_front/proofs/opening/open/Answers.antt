use Rattle.vhdl_expand_rules.specs.views.Tops.{top_view}
use Rattle.vhdl_front_rules.specs.Asking.{asked_view}
use Rattle.vhdl_front.proofs.Layers.{is_spelled, untyped_refuses, untyped_lies, gives_opened, gives_refused, gives_told, refuses_along, lies_along}
use Rattle.vhdl_front.proofs.opening.open.Goals as goal

pub returns-in_err-file-clause-refused : goal.returns-in_err-file-clause-refused
returns-in_err-file-clause-refused c = refuses_along (asked_view c.args.asked) _ _ c.from_residual.ensures.1 (c.in_err-file.ensures.refused (top_view c.args.asked.top))

pub returns-in_err-units-clause-refused : goal.returns-in_err-units-clause-refused
returns-in_err-units-clause-refused c =
    refuses_along (asked_view c.args.asked) _ _ c.from_residual-in_err-units.ensures.1
    (untyped_refuses (asked_view c.args.asked) _ c.in_err-units.field-0.0 c.in_ok-file.ensures.file c.in_err-units.ensures.given)

pub returns-in_err-units-clause-told : goal.returns-in_err-units-clause-told
returns-in_err-units-clause-told c =
    lies_along c.args.asked.source.now _ _ c.from_residual-in_err-units.ensures.1
    (untyped_lies c.args.asked.language c.args.asked.source.now _ c.in_err-units.field-0.0 c.in_ok-file.ensures.file c.in_err-units.ensures.given)

pub net_of-requires : goal.net_of-requires
net_of-requires c =
    let read = c.in_ok-file.ensures.file in
    c.in_ok-units.ensures.ready read.well_formed (is_spelled c.args.asked.language c.args.asked.source.now _ read)

pub returns-clause-net : goal.returns-clause-net
returns-clause-net c =
    let read = c.in_ok-file.ensures.file in
    let ready = c.in_ok-units.ensures.ready read.well_formed (is_spelled c.args.asked.language c.args.asked.source.now _ read) in
    gives_opened (asked_view c.args.asked) _ _ read c.in_ok-units.ensures.given ready.sound _ c.net_of.ensures.given

pub returns-clause-refused : goal.returns-clause-refused
returns-clause-refused c = gives_refused (asked_view c.args.asked) _ _ c.in_ok-file.ensures.file c.in_ok-units.ensures.given _ c.net_of.ensures.given

pub returns-clause-told : goal.returns-clause-told
returns-clause-told c = gives_told (asked_view c.args.asked) _ _ c.in_ok-file.ensures.file c.in_ok-units.ensures.given _ c.net_of.ensures.given
