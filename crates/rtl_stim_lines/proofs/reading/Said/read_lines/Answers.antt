use Rattle.std.proofs.Common.{◌≡◌, ◌<◌, ◌-◌, Ok, length, drop, take, sym, ap, ◌∙◌, subst, arith}
use Rattle.std.proofs.lemmas.Grind.{common_steps}
use Rattle.rtl_stim_lines.specs.Lines.{without_return}
use Rattle.rtl_stim_lines.specs.Reading.{after_line, in_line}
use Rattle.rtl_stim_lines.specs.View.{inputs_view, said_view, Leads}
use Rattle.rtl_stim_lines.proofs.Parts.{on_from, wrong_from, last_from, leads_ok, leads_wrong}
use Rattle.rtl_stim_lines.proofs.reading.Said.read_lines.Goals as goal

pub loop-end-preserved : goal.loop-end-preserved
loop-end-preserved c =
    let inputs = inputs_view c.args.inputs.now in
    let s = said_view c.loop-end.self in
    let new = said_view c.read_line.new.self in
    let end = c.in-Some.end in
    let here = sym c.line_end.ensures.end ∙ c.in-Some.is in
    let within = rw c.in-Some.is at c.line_end.ensures.within in
    let within' : end < length c.args.text.now - c.loop-end.at = grind (arith, common_steps) in
    let says = ap (λ line. in_line c.loop-end.line (after_line inputs s line)) (sym c.without_return.ensures)
    ∙ leads_ok _ new c.in_ok-read_line.field-0 c.read_line.result c.in_ok-read_line.was c.read_line.ensures.said in (
      c.loop-end.invariant.0 ∙ on_from inputs c.loop-end.line c.args.text.now c.loop-end.at end s new here says,
      c.read_line.ensures.each ∙ c.loop-end.invariant.1,
      omega arith,
      omega arith,
    )

pub returns-in_err-read_line-clause-said : goal.returns-in_err-read_line-clause-said
returns-in_err-read_line-clause-said c =
    let inputs = inputs_view c.args.inputs.now in
    let s = said_view c.loop-end.self in
    let new = said_view c.read_line.new.self in
    let fault = c.in_err-read_line.field-0.0 in
    let here = sym c.line_end.ensures.end ∙ c.in-Some.is in
    leads_wrong (in_line c.loop-end.line (after_line inputs s c.without_return.result.now)) _ new new fault c.from_residual.result
    (rw c.in_err-read_line.was at c.read_line.ensures.said)
    (λ says. c.loop-end.invariant.0
    ∙ wrong_from inputs c.loop-end.line c.args.text.now c.loop-end.at c.in-Some.end s fault here
    (ap (λ line. in_line c.loop-end.line (after_line inputs s line)) (sym c.without_return.ensures) ∙ says))
    c.from_residual.ensures.1

pub returns-clause-said : goal.returns-clause-said
returns-clause-said c =
    let inputs = inputs_view c.args.inputs.now in
    let s = said_view c.loop-end.self in
    subst (λ said. Leads said (said_view c.read_line-2.new.self) c.read_line-2.result)
    (sym (c.loop-end.invariant.0 ∙ last_from inputs c.loop-end.line c.args.text.now c.loop-end.at s (sym c.line_end.ensures.end ∙ c.in_default.is)))
    c.read_line-2.ensures.said
