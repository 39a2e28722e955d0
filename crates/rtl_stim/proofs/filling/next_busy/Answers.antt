use Rattle.std.proofs.Common.{◌≡◌, true, ap, sym, subst, ◌∙◌}
use Rattle.std.specs.Prelude.{IfSome}
use Rattle.rtl_stim_lines.specs.Courses.{is_busy}
use Rattle.rtl_stim_lines.specs.View.{course_view}
use Rattle.rtl_stim.proofs.Idle.{idle_ticks, toggles_found}
use Rattle.rtl_stim.proofs.filling.next_busy.Goals as goal

pub returns-in-Ticks-clause-idle : goal.returns-in-Ticks-clause-idle
returns-in-Ticks-clause-idle c =
    λ b after before. ap (λ k. is_busy (course_view k) b) c.in-Ticks.is
    ∙ idle_ticks c.in-Ticks.first c.in-Ticks.half c.args.now c.args.stop c.next_toggle.result c.next_toggle.ensures.next c.next_toggle.ensures.within b after before

pub returns-in-Ticks-clause-busy : goal.returns-in-Ticks-clause-busy
returns-in-Ticks-clause-busy c =
    let found = c.next_toggle.result in
    subst (λ k. IfSome found (λ t. is_busy (course_view k) t ≡ true)) (sym c.in-Ticks.is)
    (toggles_found c.in-Ticks.first c.in-Ticks.half c.args.now c.args.stop found c.next_toggle.ensures.next c.next_toggle.ensures.within)
