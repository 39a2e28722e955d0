use Rattle.std.proofs.Common.{◌≡◌, ℕ, suc, ◌+◌, ◌<◌, List, length, length-drop, drop, ap, sym, ◌∙◌, arith}
use Rattle.std.proofs.lemmas.List.{take_rest}
use Rattle.rtl_stim_lines.specs.Lines.{lines_of}
use Rattle.rtlsim_refusals.specs.Races.{line_among, line_sets}
use Rattle.rtlsim_refusals.proofs.Races.{set_behind, set_here, set_last}
use Rattle.rtlsim_refusals.proofs.race.setting_line.Goals as goal

pub returns-then-branch : goal.returns-then-branch
returns-then-branch c =
    let sets = ap (line_sets c.args.port.now c.args.asked) (sym c.without_return.ensures) ∙ sym c.in_ok-line_sets.ensures ∙ c.if-branch.true in
    sym (c.loop-end.invariant.0 ∙ set_here c.args.port.now c.args.asked c.loop-end.number c.loop-end.left.now c.in-Some.end (sym c.line_end.ensures.end ∙ c.in-Some.is) sets)

pub loop-end-preserved : goal.loop-end-preserved
loop-end-preserved c =
    let port = c.args.port.now in
    let asked = c.args.asked in
    let number = c.loop-end.number in
    let left = c.loop-end.left.now in
    let behind = c.in-Some.end + 1 in
    let sets = ap (line_sets port asked) (sym c.without_return.ensures) ∙ sym c.in_ok-line_sets.ensures ∙ c.if-branch.false in
    let one : suc number ≡ number + 1 = omega arith in
    let within : c.in-Some.end < length left = rw c.in-Some.is at c.line_end.ensures.within in
    let shorter = ap length (take_rest left behind) ∙ length-drop behind left in (
      c.loop-end.invariant.0 ∙ set_behind port asked number left c.in-Some.end (sym c.line_end.ensures.end ∙ c.in-Some.is) sets
          ∙ ap (λ (n : ℕ). line_among port asked n (lines_of (drop behind left))) one
          ∙ ap (λ (rest : List ℕ). line_among port asked (number + 1) (lines_of rest)) (sym (take_rest left behind)),
      omega (arith, shorter, within, c.loop-end.invariant.1),
    )

pub returns-then-branch-2 : goal.returns-then-branch-2
returns-then-branch-2 c =
    let sets = sym c.in_ok-line_sets-2.ensures ∙ c.if-branch-2.true in
    sym (c.loop-end.invariant.0 ∙ set_last c.args.port.now c.args.asked c.loop-end.number c.loop-end.left.now _ (sym c.line_end.ensures.end ∙ c.in_default.is) sets)

pub returns : goal.returns
returns c =
    let sets = sym c.in_ok-line_sets-2.ensures ∙ c.if-branch-2.false in
    sym (c.loop-end.invariant.0 ∙ set_last c.args.port.now c.args.asked c.loop-end.number c.loop-end.left.now _ (sym c.line_end.ensures.end ∙ c.in_default.is) sets)
