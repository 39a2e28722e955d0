use Rattle.std.proofs.Common.{◌≡◌, ◌<◌, List, [], ◌∷◌, length, get_or, true, false, sym, ap, subst, ◌∙◌, arith}
use Rattle.std.proofs.lemmas.List.{get_or_default}
use Rattle.rtl_model.proofs.nets.Connected.{connected_is_elaborated}
use Rattle.rtl_model.specs.simulation.Netlist.{Driver, sources_of}
use Rattle.rtl_net.specs.Nets.{flat}
use Rattle.rtl_net.specs.Core.{core}
use Rattle.rtl_process_kinds.proofs.Processes.{many_processes}
use Rattle.rtl_process_kinds.proofs.Sources.{sources_there}
use Rattle.rtl_calm_nets.specs.declared.origins.Origin.{Origin}
use Rattle.rtl_calm_nets.specs.declared.origins.Origin.TheVariants as o
use Rattle.rtl_calm_nets.specs.NetOrigins.{outside, driven, Gives, given_at, given_by}
use Rattle.rtl_calm_nets.proofs.Giving.{given_row}
use Rattle.rtl_calm_nets.proofs.Judging.{one_at, not_one, idle_one, place_there, odd_net}
use Rattle.rtl_calm_nets.proofs.Ranges.{start_net}
use Rattle.rtl_calm_nets.proofs.origins.origin_of.Goals as goal

pub returns-then-outside-number : goal.returns-then-outside-number
returns-then-outside-number c =
    let t : get_or c.args.outside.now c.args.number false ≡ true = c.if-outside-number.true in
    outside ((c.requires.outside.each c.args.number (start_net c.args.net.now c.is_elaborated.ensures c.args.number c.requires.there)).0 t)

pub returns-then-sources-ne1 : goal.returns-then-sources-ne1
returns-then-sources-ne1 c =
    let net = c.args.net.now in
    let odd = odd_net (core net) c.args.outside.now c.requires.outside c.args.number (start_net net c.is_elaborated.ensures c.args.number c.requires.there) c.if-outside-number.false in
    not_one (core net) c.args.number odd c.sources-sources.result.now (sources_there net c.args.number c.requires.there ∙ sym c.sources-sources.ensures) c.if-sources-ne1.true

pub offset_bounds-given-process : goal.offset_bounds-given-process
offset_bounds-given-process c =
    let net = c.args.net.now in
    let src : sources_of (core net) c.args.number ≡ Driver c.in-Driven.process c.in-Driven.place ∷ [] =
    sources_there net c.args.number c.requires.there ∙ (sym c.sources-sources.ensures ∙ one_at c.sources-sources.result.now _ _ c.if-sources-ne1.false c.in-Driven.is) in
    let (h, l) = place_there (core net) (connected_is_elaborated (flat net) c.is_elaborated.ensures.in_range c.is_elaborated.ensures.connected).wiring c.args.number c.in-Driven.process c.in-Driven.place src in
    let many = many_processes net in
    let few = c.is_elaborated.ensures.processes_limit in
    omega arith

pub bounds-given-process : goal.bounds-given-process
bounds-given-process c =
    let net = c.args.net.now in
    let src : sources_of (core net) c.args.number ≡ Driver c.in-Driven.process c.in-Driven.place ∷ [] =
    sources_there net c.args.number c.requires.there ∙ (sym c.sources-sources.ensures ∙ one_at c.sources-sources.result.now _ _ c.if-sources-ne1.false c.in-Driven.is) in
    let (h, l) = place_there (core net) (connected_is_elaborated (flat net) c.is_elaborated.ensures.in_range c.is_elaborated.ensures.connected).wiring c.args.number c.in-Driven.process c.in-Driven.place src in
    let many = many_processes net in
    let each = c.requires.each_process in
    omega arith

pub index-requires : goal.index-requires
index-requires c =
    let net = c.args.net.now in
    let p = c.in-Driven.process in
    let v = c.index-given-process.result in
    let src : sources_of (core net) c.args.number ≡ Driver p c.in-Driven.place ∷ [] =
    sources_there net c.args.number c.requires.there ∙ (sym c.sources-sources.ensures ∙ one_at c.sources-sources.result.now _ _ c.if-sources-ne1.false c.in-Driven.is) in
    let (h, l) = place_there (core net) (connected_is_elaborated (flat net) c.is_elaborated.ensures.in_range c.is_elaborated.ensures.connected).wiring c.args.number p c.in-Driven.place src in
    let many = many_processes net in
    let each = c.requires.each_process in
    let there : p < length c.args.given.now = omega arith in
    let row = given_row c.args.given.now p v there c.index-given-process.is in
    let drivers = (c.requires.given p there).each_driver in
    let same = ap (λ (xs : List Origin). length xs) row in
    let size = v.ok.0 in
    omega arith

pub returns-in-Driven : goal.returns-in-Driven
returns-in-Driven c =
    let net = c.args.net.now in
    let p = c.in-Driven.process in
    let v = c.index-given-process.result in
    let odd = odd_net (core net) c.args.outside.now c.requires.outside c.args.number (start_net net c.is_elaborated.ensures c.args.number c.requires.there) c.if-outside-number.false in
    let src : sources_of (core net) c.args.number ≡ Driver p c.in-Driven.place ∷ [] =
    sources_there net c.args.number c.requires.there ∙ (sym c.sources-sources.ensures ∙ one_at c.sources-sources.result.now _ _ c.if-sources-ne1.false c.in-Driven.is) in
    let (h, l) = place_there (core net) (connected_is_elaborated (flat net) c.is_elaborated.ensures.in_range c.is_elaborated.ensures.connected).wiring c.args.number p c.in-Driven.place src in
    let many = many_processes net in
    let each = c.requires.each_process in
    let there : p < length c.args.given.now = omega arith in
    let row = given_row c.args.given.now p v there c.index-given-process.is in
    let drivers = (c.requires.given p there).each_driver in
    let within : c.in-Driven.place < length (given_by c.args.given.now p) = omega arith in
    let same = ap (λ (xs : List Origin). length xs) row in
    let here : c.in-Driven.place < length v.items = omega arith in
    let gives = (c.requires.given p there).each c.in-Driven.place within in
    let is : given_at (given_by c.args.given.now p) c.in-Driven.place ≡ c.index.result.now = ap (λ (xs : List Origin). given_at xs c.in-Driven.place) row ∙ sym (c.index.ensures ∙ get_or_default v.items c.in-Driven.place c.index.result.now o.Other here) in
    driven p c.in-Driven.place c.index.result.now odd src (subst (Gives (core net) p c.in-Driven.place) is gives)

pub returns-in-Idle : goal.returns-in-Idle
returns-in-Idle c =
    let net = c.args.net.now in
    let odd = odd_net (core net) c.args.outside.now c.requires.outside c.args.number (start_net net c.is_elaborated.ensures c.args.number c.requires.there) c.if-outside-number.false in
    idle_one (core net) c.args.number odd c.in-Idle.start
    (sources_there net c.args.number c.requires.there ∙ (sym c.sources-sources.ensures ∙ one_at c.sources-sources.result.now _ _ c.if-sources-ne1.false c.in-Idle.is))
