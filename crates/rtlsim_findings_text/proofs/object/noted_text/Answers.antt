use Rattle.std.proofs.Common.{◌++◌, ap, ◌∙◌}
use Rattle.std.proofs.lemmas.Result.{IfOk-weaker}
use Rattle.vhdl_source_files.specs.Files.{Spot, spot_view}
use Rattle.rtlsim_findings_text.specs.Json.{spot_text}
use Rattle.rtlsim_findings_text.specs.Values.{string_text}
use Rattle.rtlsim_findings_text.proofs.object.noted_text.Goals as goal

pub spot_text-requires : goal.spot_text-requires
spot_text-requires c = record { stands = c.place_at.ensures.stands }

pub returns : goal.returns
returns c =
    let said = c.in_ok-push_string.ensures ∙ ap (λ t. t ++ string_text c.deref.result.now) c.new-said.ensures.items ∙ ap string_text c.deref.ensures.value in
    IfOk-weaker c.spot_text.result _ _ (λ text is. is ∙ ap (spot_text (spot_view c.place_at.result.byte)) (c.deref-2.ensures.value ∙ said)
    ∙ ap (λ (s : Spot). spot_text s (string_text c.args.note.now.text.items)) c.place_at.ensures.is) c.spot_text.ensures
