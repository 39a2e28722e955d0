use Rattle.std.proofs.Common.{◌≡◌, ℕ, ◌+◌, ◌-◌, ◌*◌, ◌/◌, ◌<◌, ◌≤◌, List, length, take, ap, ◌∙◌, arith}
use Rattle.std.specs.Prelude.{slice_index_or}
use Rattle.std.proofs.lemmas.List.{take_min}
use Rattle.std.proofs.lemmas.Nat.{div-add-mod'}
use Rattle.rtlsim_refusals.specs.Places.{position_behind}
use Rattle.rtlsim_refusals.specs.declared.place.Position.{Position}
use Rattle.rtlsim_findings_text.specs.Marks.{AreMarks}
use Rattle.rtlsim_findings_text.proofs.Walking.{further, room}
use Rattle.rtlsim_findings_text.proofs.places.position_at.Goals as goal

-- the mark before a byte
before : (text : List ℕ) (marks : List Position) (at : ℕ) (here : Position) → AreMarks text marks → at ≤ length text → here ≡ slice_index_or marks (at / 1024) here
    → (here ≡ position_behind (take (at / 1024 * 1024) text)) × (at / 1024 * 1024 ≤ at)
before text marks at here are within is =
    let low : at / 1024 * 1024 ≤ at = omega (arith, div-add-mod' at 1024) in
    let there : at / 1024 < length marks = omega (arith, are.all, within, low) in (is ∙ are.each (at / 1024) here there, low)

pub position_from-requires : goal.position_from-requires
position_from-requires c =
    let at = c.min-at.result in
    let within : at ≤ length c.args.file.now.file.text.now = omega (arith, c.min-at.ensures) in
    let mark = before _ _ at c.index.result.now c.requires.marked within c.index.ensures in
    let r = room _ (at / 1024 * 1024) at c.index.result.now mark.0 mark.1 within in record { line = omega (arith, r.0); column = omega (arith, r.1) }

pub returns : goal.returns
returns c =
    let text = c.args.file.now.file.text.now in
    let at = c.min-at.result in
    let from = at / 1024 * 1024 in
    let mark = before text _ at c.index.result.now c.requires.marked (omega (arith, c.min-at.ensures)) c.index.ensures in
    let whole : from + (at - from) ≡ at = omega (arith, mark.1) in
    c.position_from.ensures ∙ further text from (at - from) c.index.result.now mark.0 ∙ ap (λ n. position_behind (take n text)) (whole ∙ c.min-at.ensures)
    ∙ ap position_behind (take_min c.args.at text)
