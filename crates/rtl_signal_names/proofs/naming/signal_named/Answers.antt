use Rattle.std.proofs.Common.{rules, ◌<◌, length, sym, ◌∙◌}
use Rattle.rtl_signal_names.proofs.Named.{found_from, found_signal, number_there}
use Rattle.rtl_signal_names.proofs.Labels.{width_there}
use Rattle.rtl_signal_names.proofs.naming.signal_named.Goals as goal

pub offset_bounds-signals-number : goal.offset_bounds-signals-number
offset_bounds-signals-number c =
    let net = c.args.net.now in
    let name = c.args.name.now in
    let found = found_from net.scopes 0 net.signals name c.in-Some.number (sym c.in-Some.is ∙ c.in_ok-number.ensures ∙ c.requires.table name) in
    let there : c.in-Some.number < length c.signals-signals.result.now =
    number_there net c.signals-signals.result.now name c.in-Some.number c.signals-signals.ensures found in
    search rules

pub bounds-signals-number : goal.bounds-signals-number
bounds-signals-number c =
    let net = c.args.net.now in
    let name = c.args.name.now in
    let found = found_from net.scopes 0 net.signals name c.in-Some.number (sym c.in-Some.is ∙ c.in_ok-number.ensures ∙ c.requires.table name) in
    number_there net c.signals-signals.result.now name c.in-Some.number c.signals-signals.ensures found

pub returns-clause-found : goal.returns-clause-found
returns-clause-found c =
    let net = c.args.net.now in
    let name = c.args.name.now in
    let found = found_from net.scopes 0 net.signals name c.in-Some.number (sym c.in-Some.is ∙ c.in_ok-number.ensures ∙ c.requires.table name) in
    found_signal net c.signals-signals.result.now name c.in-Some.number c.index-signals-number.result c.signals-signals.ensures found c.index-signals-number.is

pub returns-clause-width : goal.returns-clause-width
returns-clause-width c =
    let net = c.args.net.now in
    let name = c.args.name.now in
    let found = found_from net.scopes 0 net.signals name c.in-Some.number (sym c.in-Some.is ∙ c.in_ok-number.ensures ∙ c.requires.table name) in
    width_there net c.is_elaborated.ensures c.signals-signals.result.now c.signals-signals.ensures c.in-Some.number c.index-signals-number.result
    (number_there net c.signals-signals.result.now name c.in-Some.number c.signals-signals.ensures found) c.index-signals-number.is
