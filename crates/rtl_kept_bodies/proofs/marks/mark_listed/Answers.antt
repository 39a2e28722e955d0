use Rattle.std.proofs.Common.{ℕ, List, ◌==◌, subst}
use Rattle.std.specs.List.{list_any}
use Rattle.std.proofs.lemmas.List.{take_all}
use Rattle.rtl_kept_bodies.specs.Steps.{Marked}
use Rattle.rtl_kept_bodies.proofs.Marking.{marked_none, listed_more}
use Rattle.rtl_kept_bodies.proofs.marks.mark_listed.Goals as goal

pub loop-element-init : goal.loop-element-init
loop-element-init c = marked_none c.args.marks.now

pub loop-element-preserved : goal.loop-element-preserved
loop-element-preserved c =
    let l = c.loop-element in
    listed_more c.args.elements.now l.element-index _ _ _ c.loop-element-test.true l.invariant c.mark.ensures

pub returns : goal.returns
returns c =
    let l = c.loop-element in
    subst (λ (xs : List ℕ). Marked (λ e. list_any (λ d. d == e) xs) c.args.marks.now l.marks) (take_all l.element-index c.args.elements.now c.loop-element-test.false) l.invariant
