use Rattle.std.proofs.Common.{ap, ◌∙◌}
use Rattle.vhdl_source_files.specs.Files.{Spot}
use Rattle.rtlsim_findings.proofs.Lists.{one_more}
use Rattle.rtlsim_findings_text.specs.Json.{spot_text}
use Rattle.rtlsim_findings_text.proofs.object.push_placed.Goals as goal

pub returns : goal.returns
returns c =
    rw c.in-Some.is
    (one_more _ _ _ _ c.in_ok-push.ensures.items (λ t. t.items) (c.in_ok-spot_text.ensures ∙ ap (λ (s : Spot). spot_text s c.args.note.now) c.place_at.ensures.is))
