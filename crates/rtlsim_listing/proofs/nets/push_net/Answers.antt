use Rattle.std.proofs.Common.{◌≡◌, subst, ◌∙◌, sym, ap, slice_index, slice_index_or}
use Rattle.std.proofs.lemmas.Option.{get_or_from_slice_get}
use Rattle.rtl_model.specs.bodies.Types.{nine_valued}
use Rattle.rtl_model.specs.nets.FlatNetlist.{flat_sources}
use Rattle.byte_streams.specs.Written.{Goes}
use Rattle.byte_streams.proofs.Writing.{Goes-append}
use Rattle.rtl_net.specs.Nets.{flat, type_of}
use Rattle.rtl_body_facts.specs.Reading.{is_in}
use Rattle.rtlsim_listing.specs.NetText.{net_line, start_text, sources_text}
use Rattle.rtlsim_listing.proofs.Printing.{none, refused}
use Rattle.rtlsim_listing.proofs.nets.push_net.Goals as goal

pub returns-in_err-name : goal.returns-in_err-name
returns-in_err-name g c =
    refused c.from_residual.result _ _ _ (net_line c.args.net.now c.args.number) c.from_residual.ensures.1 (none _ (net_line c.args.net.now c.args.number))

pub returns : goal.returns
returns g c =
    let state = g.W.Sink.state in
    let net = c.args.net.now in
    let n = c.args.number in
    let name = subst (λ text. Goes (state c.push_text.new.sink) (state c.push_text-2.new.sink) text) (c.deref.ensures.value ∙ c.in_ok-name.ensures) c.push_text-2.ensures in
    let kind : type_of c.kind.result ≡ slice_index_or net.types n nine_valued = sym (get_or_from_slice_get net.types n _ nine_valued c.kind.ensures) in
    let value : c.start.result ≡ slice_index net.starts n = sym (get_or_from_slice_get net.starts n _ 0 c.start.ensures) in
    let start : Goes (state c.push_text-3.new.sink) (state c.push_start.new.out) (start_text (slice_index_or net.types n nine_valued) (slice_index net.starts n)) =
    rw (← kind, ← value) c.push_start.ensures in
    let input : c.contains_rising-is_input.result ≡ is_in n net.inputs = c.contains_rising-is_input.ensures ∙ ap (is_in n) c.inputs.ensures in
    let sources : Goes (state c.push_text-4.new.sink) (state c.push_sources.new.out) (sources_text (is_in n net.inputs) (flat_sources (flat net) n)) =
    rw (← input, ← c.sources.ensures) c.push_sources.ensures in
    let named = Goes-append _ _ _ _ _ (Goes-append _ _ _ _ _ c.push_number.ensures c.push_text.ensures) name in
    let started = Goes-append _ _ _ _ _ (Goes-append _ _ _ _ _ named c.push_text-3.ensures) start in
    Goes-append _ _ _ _ _ (Goes-append _ _ _ _ _ (Goes-append _ _ _ _ _ started c.push_text-4.ensures) sources) c.push_text-5.ensures
