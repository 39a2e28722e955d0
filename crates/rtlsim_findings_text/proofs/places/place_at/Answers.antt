use Rattle.std.proofs.Common.{◌≡◌, ℕ, ◌+◌, ◌-◌, ◌<◌, ◌∷◌, List, length, drop, map, get_or, inl, inr, ap, sym, ◌∙◌, arith}
use Rattle.std.proofs.lemmas.List.{drop_more, length-drop, length-map}
use Rattle.vhdl_source_files.specs.Files.{spot, spot_in}
use Rattle.rtlsim_findings_text.specs.declared.places.MarkedFile.{MarkedFile}
use Rattle.rtlsim_findings_text.specs.Marks.{view}
use Rattle.rtlsim_findings_text.proofs.Walking.{spot_last, spot_next, spot_within}
use Rattle.rtlsim_findings_text.proofs.places.place_at.Goals as goal

-- the files from this one on
apart : (files : List MarkedFile) (i : ℕ) (f : MarkedFile) → i < length files → f ≡ get_or files i f → drop i files ≡ f ∷ drop (i + 1) files
apart files i f there is = drop_more files i f there ∙ ap (λ (x : MarkedFile). x ∷ drop (i + 1) files) (sym is)

pub returns-then-number-files-clause-is : goal.returns-then-number-files-clause-is
returns-then-number-files-clause-is c =
    let files = c.args.files.now in
    let i = c.loop-number.number in
    let at = c.loop-number.at in
    let f = c.index-files-number.result in
    let rest = map view (drop (i + 1) files) in
    let told : spot (view f) at ≡ spot_in (view f ∷ rest) at =
    elim c.then-number-files.either [
      | inl e ↦ (spot_last (view f) rest at (omega (arith, e, length-map (drop (i + 1) files) view, length-drop (i + 1) files)))
      | inr w ↦ (spot_within (view f) rest at w.1)
    ] in
    c.placed_in.ensures.is ∙ told ∙ ap (λ (ms : List MarkedFile). spot_in (map view ms) at) (sym (apart files i f c.loop-number-test.true c.index-files-number.is))
    ∙ c.loop-number.invariant

pub loop-number-preserved : goal.loop-number-preserved
loop-number-preserved c =
    let files = c.args.files.now in
    let i = c.loop-number.number in
    let f = c.index-files-number.result in
    let rest = map view (drop (i + 1) files) in
    let some : 0 < length rest = omega (arith, length-map (drop (i + 1) files) view, length-drop (i + 1) files, c.loop-number-test.true, c.if-number-files.false) in
    spot_next (view f) rest c.loop-number.at (c.loop-number.at - (length f.file.text.now + 1)) some c.if-at-length.false (omega arith)
    ∙ ap (λ (ms : List MarkedFile). spot_in (map view ms) c.loop-number.at) (sym (apart files i f c.loop-number-test.true c.index-files-number.is)) ∙ c.loop-number.invariant
