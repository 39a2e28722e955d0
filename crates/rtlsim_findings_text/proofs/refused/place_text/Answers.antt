use Rattle.std.proofs.Common.{ap, ◌∙◌}
use Rattle.std.proofs.lemmas.Result.{IfOk-weaker}
use Rattle.vhdl_source_files.specs.Files.{Spot, spot_view}
use Rattle.rtlsim_findings_text.specs.Json.{spot_text}
use Rattle.rtlsim_findings_text.specs.Refusals.{note_text}
use Rattle.rtlsim_findings_text.proofs.refused.place_text.Goals as goal

pub spot_text-requires : goal.spot_text-requires
spot_text-requires c = record { stands = c.placed.ensures.stands }

pub returns : goal.returns
returns c =
    let note = c.deref-2.ensures.value ∙ c.in_ok-note.ensures ∙ ap note_text c.deref.ensures.value in
    IfOk-weaker c.spot_text.result _ _ (λ text is. is ∙ ap (spot_text (spot_view c.placed.result.byte)) note
    ∙ ap (λ (s : Spot). spot_text s (note_text c.args.told.now.below.items)) c.placed.ensures.is) c.spot_text.ensures
