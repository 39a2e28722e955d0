use Rattle.std.proofs.Common.{Option, ℕ, ◌+◌, sym, ap, ◌∙◌}
use Rattle.std.specs.Prelude.{unwrap_or}
use Rattle.std.proofs.lemmas.List.{take_rest}
use Rattle.rtl_progress.specs.Stops.{stop_in, stop_of}
use Rattle.rtl_progress.proofs.Lines.{stop_here, stop_behind, stop_last}
use Rattle.rtl_progress.proofs.stops.stop_of.Goals as goal

pub returns-in-Some-stop_in : goal.returns-in-Some-stop_in
returns-in-Some-stop_in c =
    sym (c.loop-end.invariant ∙ stop_here c.loop-end.left.now c.in-Some.end c.in-Some-stop_in.stop (sym c.line_end.ensures.end ∙ c.in-Some.is)
    (ap stop_in (sym c.without_return.ensures) ∙ sym c.stop_in.ensures ∙ c.in-Some-stop_in.is))

pub loop-end-preserved : goal.loop-end-preserved
loop-end-preserved c =
    c.loop-end.invariant ∙ stop_behind c.loop-end.left.now c.in-Some.end (sym c.line_end.ensures.end ∙ c.in-Some.is)
    (ap stop_in (sym c.without_return.ensures) ∙ sym c.stop_in.ensures ∙ c.in_default-stop_in.is)
    ∙ ap stop_of (sym (take_rest c.loop-end.left.now (c.in-Some.end + 1)))

pub returns : goal.returns
returns c =
    c.unwrap_or.ensures ∙ ap (λ (o : Option ℕ). unwrap_or o 0) c.stop_in-2.ensures
    ∙ sym (c.loop-end.invariant ∙ stop_last c.loop-end.left.now (sym c.line_end.ensures.end ∙ c.in_default.is))
