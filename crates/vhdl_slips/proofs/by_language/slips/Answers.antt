use Rattle.std.proofs.Common.{[], ◌∷◌, ◌++◌, map, ◌∙◌}
use Rattle.vhdl_slips.specs.Forms.{slips}
use Rattle.vhdl_slips.specs.declared.table.TheConstants.{BEGUN, CONDITIONS, LISTS, TARGETS, SIGNS, VARIABLES, DECLARED, WIDE_DECLARED}
use Rattle.vhdl_slips.proofs.Tables.{told_by}
use Rattle.vhdl_slips.proofs.by_language.slips.Goals as goal

pub returns : goal.returns
unfolding slips
returns c =
    let declared = c.told_in.ensures ∙ told_by (map (λ w. (w.0.now, w.1, (w.2.0.now, w.2.1.now)))) c.args.language DECLARED WIDE_DECLARED in
    λ i. map (map (λ w. (w.0.now, w.1, (w.2.0.now, w.2.1.now)))) (BEGUN ∷ CONDITIONS ∷ LISTS ∷ TARGETS ∷ SIGNS ∷ VARIABLES ∷ []) ++ (declared i ∷ [])
