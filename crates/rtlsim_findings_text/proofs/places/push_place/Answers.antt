use Rattle.std.proofs.Common.{◌≡◌, ◌++◌, subst}
use Rattle.std.specs.Prelude.{OnOk}
use Rattle.vhdl_source_files.specs.Files.{Spot}
use Rattle.rtlsim_findings_text.specs.Placed.{place_text, spot_text}
use Rattle.rtlsim_findings_text.proofs.places.push_place.Goals as goal

pub returns-in-Some : goal.returns-in-Some
unfolding place_text
returns-in-Some c =
    rw c.in-Some.is
    (subst (λ (s : Spot). OnOk c.push_spot.result (c.push_spot.new.text.items ≡ c.args.text.now.items ++ spot_text s)) c.place_at.ensures.is c.push_spot.ensures)
