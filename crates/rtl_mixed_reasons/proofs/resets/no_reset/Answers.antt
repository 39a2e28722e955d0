use Rattle.std.proofs.Common.{Some, ap, sym, ◌∙◌}
use Rattle.std.specs.Prelude.{option_map}
use Rattle.rtl_mixed_reasons.proofs.Branching.{unlike-many, unlike-else}
use Rattle.rtl_mixed_reasons.proofs.resets.no_reset.Goals as goal
use Rattle.rtl_mixed_reasons.proofs.resets.no_reset.Goals.{then-branches-ne1-via-then-branches-ne1, then-branches-ne1-via-else-branches-ne1+then-is_some}

pub returns-then-branches-ne1 : goal.returns-then-branches-ne1
returns-then-branches-ne1 c =
    ap Some c.plain.ensures ∙ elim c.then-branches-ne1.branch [
      | then-branches-ne1-via-then-branches-ne1 w ↦ unlike-many c.args.at (option_map (λ v. v.items) c.args.otherwise.now) c.args.branches.now w.if-branches-ne1.true
      | then-branches-ne1-via-else-branches-ne1+then-is_some w ↦ unlike-else c.args.at c.args.otherwise.now c.args.branches.now (sym w.is_some.ensures ∙ w.if-is_some.true)
    ]
