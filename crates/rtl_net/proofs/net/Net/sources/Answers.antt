use Rattle.std.proofs.Common.{◌<◌, map, length, ap, ◌∙◌, arith}
use Rattle.std.proofs.lemmas.List.{length-map}
use Rattle.rtl_model.specs.nets.FlatNetlist.{flat_sources}
use Rattle.rtl_net.specs.Nets.{flat, type_of, source_view}
use Rattle.rtl_net.specs.NetOf.{net_of}
use Rattle.rtl_net.proofs.Tables.{tabled-at}
use Rattle.rtl_net.proofs.net.Net.sources.Goals as goal

pub returns : goal.returns
returns c =
    let i = c.self.inside in
    let l : c.args.net < length i.kinds.items = omega (arith, rw (← c.self.view_is) at c.requires.there, length-map i.kinds.items type_of) in
    let m = tabled-at (λ listed. map source_view listed.items) (flat_sources (flat (net_of i))) i.sources.items (length i.kinds.items) c.self.invariant.sources c.args.net c.index.result.now l in
    ap (map source_view) c.as_slice.ensures ∙ ap (λ s. map source_view s.items) c.index.ensures ∙ m ∙ ap (λ v. flat_sources (flat v) c.args.net) c.self.view_is
