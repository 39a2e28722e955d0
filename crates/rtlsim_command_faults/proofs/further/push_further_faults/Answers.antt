use Rattle.std.proofs.Common.{List, ◌++◌, map, ap, subst, ◌∙◌}
use Rattle.std.specs.Prelude.{flat_map}
use Rattle.byte_streams.specs.Written.{Goes}
use Rattle.byte_streams.proofs.Writing.{Goes-append}
use Rattle.rtlsim_refusals.specs.Explained.{Told, paragraph, told_view}
use Rattle.rtlsim_command_faults.specs.Behind.{end_text}
use Rattle.rtlsim_command_faults.specs.declared.search.End.{End}
use Rattle.rtlsim_command_faults.proofs.further.push_further_faults.Goals as goal

pub returns : goal.returns
returns g c =
    let state = g.S.Sink.state in
    let adds = c.find_further-end.ensures in
    let told = ap (map told_view) c.deref.ensures.value ∙ adds.grown ∙ ap (λ (none : List Told). none ++ adds.found.told) (ap (map told_view) c.new-told.ensures.items) in
    let texts = subst (λ (ts : List Told). Goes (state c.args.sink.now) (state c.push_paragraphs.new.sink) (flat_map paragraph ts)) told c.push_paragraphs.ensures in
    let line = subst (λ (e : End). Goes (state c.push_paragraphs.new.sink) (state c.push_end.new.sink) (end_text e)) adds.ends c.push_end.ensures in
    record { found = adds.found; is = adds.is; goes = Goes-append _ _ _ _ _ texts line }
