use Rattle.std.proofs.Common.{◌≡◌, ◌++◌, length, map, ap, ◌∙◌, arith}
use Rattle.rtl_model.specs.simulation.Netlist.{Idle}
use Rattle.rtl_model.specs.nets.FlatNetlist.{all_drivers_of}
use Rattle.std.proofs.lemmas.List.{length-map}
use Rattle.rtl_net.specs.Nets.{type_of, process_view, signal_view}
use Rattle.rtl_net.specs.Names.{element_from}
use Rattle.rtl_net.specs.Parts.{idle_at, assembled}
use Rattle.rtl_net.proofs.Assembly.{drivers-there, signals-there, HasSources, made-view, made-kept}
use Rattle.rtl_net.proofs.net.Net.new.Goals as goal

pub sources-requires-clause-drivers : goal.sources-requires-clause-drivers
sources-requires-clause-drivers c =
    let count : c.len-nets.result ≡ length c.args.parts.kinds.items = c.len-nets.ensures ∙ c.args.parts.kinds.ok.0 in
    rw (c.deref.ensures.value) (λ k p l i d m. omega (arith, count, drivers-there (assembled c.args.parts) c.requires.elaborated k p l i d m, length-map c.args.parts.kinds.items type_of))

pub owners-requires : goal.owners-requires
owners-requires c =
    let count : c.len-nets.result ≡ length c.args.parts.kinds.items = c.len-nets.ensures ∙ c.args.parts.kinds.ok.0 in
    rw (c.deref-3.ensures.value) (λ k s l i d m. omega (arith, count, signals-there c.args.parts c.requires.elaborated k s l i d m))

has-sources : (c : goal.In_ok-owners) → HasSources c.args.parts c.in_ok-sources.sources c.in_ok-owners.owners
has-sources c n l =
    let count : c.len-nets.result ≡ length c.args.parts.kinds.items = c.len-nets.ensures ∙ c.args.parts.kinds.ok.0 in
    c.in_ok-sources.ensures.each n (omega (arith, l, count))
    ∙ ap (λ ps. all_drivers_of n 0 (map process_view ps) ++ map Idle (idle_at c.deref-2.result.now n)) c.deref.ensures.value
    ∙ ap (λ ports. all_drivers_of n 0 (map process_view c.args.parts.processes.items) ++ map Idle (idle_at ports n)) c.deref-2.ensures.value

pub invariant_of-result : goal.invariant_of-result
invariant_of-result c =
    let count : c.len-nets.result ≡ length c.args.parts.kinds.items = c.len-nets.ensures ∙ c.args.parts.kinds.ok.0 in
    made-kept c.args.parts c.in_ok-sources.sources c.in_ok-owners.owners (c.in_ok-sources.ensures.length ∙ count) (has-sources c) (c.in_ok-owners.ensures.length ∙ count) c.requires.elaborated
    (λ n e l h. c.in_ok-owners.ensures.each n e (omega (arith, l, count)) (ap (λ ss. element_from 0 (map signal_view ss) n) c.deref-3.ensures.value ∙ h))

pub returns : goal.returns
returns c =
    let count : c.len-nets.result ≡ length c.args.parts.kinds.items = c.len-nets.ensures ∙ c.args.parts.kinds.ok.0 in
    made-view c.args.parts c.in_ok-sources.sources c.in_ok-owners.owners (c.in_ok-sources.ensures.length ∙ count)
    (λ n l.
    c.in_ok-sources.ensures.each n (omega (arith, l, count))
    ∙ ap (λ ps. all_drivers_of n 0 (map process_view ps) ++ map Idle (idle_at c.deref-2.result.now n)) c.deref.ensures.value
    ∙ ap (λ ports. all_drivers_of n 0 (map process_view c.args.parts.processes.items) ++ map Idle (idle_at ports n)) c.deref-2.ensures.value)
