use Rattle.std.proofs.Common.{◌++◌, ap, ◌∙◌}
use Rattle.vhdl_source_files.specs.Files.{Spot, spot_view}
use Rattle.rtlsim_findings.proofs.Lists.{one_more}
use Rattle.rtlsim_findings_text.specs.Json.{spot_text}
use Rattle.rtlsim_findings_text.specs.Values.{string_text}
use Rattle.rtlsim_findings_text.proofs.refused.push_noted.Goals as goal

pub spot_text-requires : goal.spot_text-requires
spot_text-requires c = record { stands = c.placed.ensures.stands }

pub returns : goal.returns
returns c =
    let words = c.deref.ensures.value ∙ c.in_ok-push_string.ensures ∙ ap (λ t. t ++ string_text c.in-Some.note.words.now) c.new-words.ensures.items in
    rw c.in-Some.is
    (one_more _ _ _ _ c.in_ok-push.ensures.items (λ t. t.items) (c.in_ok-spot_text.ensures ∙ ap (spot_text (spot_view c.placed.result.byte)) words
    ∙ ap (λ (s : Spot). spot_text s (string_text c.in-Some.note.words.now)) c.placed.ensures.is))
