use Rattle.std.proofs.Common.{[], ◌∷◌, map, ◌∙◌}
use Rattle.vhdl_slips.specs.Forms.{unread}
use Rattle.vhdl_slips.specs.declared.table.TheConstants.{STATIC, WIDE_STATIC, AGGREGATES, WIDE_AGGREGATES, TYPES, UNITS, WAITS, STATEMENTS, LOGICAL, SHIFTS, ENDED}
use Rattle.vhdl_slips.proofs.Tables.{told_by}
use Rattle.vhdl_slips.proofs.by_language.unread.Goals as goal

pub returns : goal.returns
unfolding unread
returns c =
    let static = c.told_in.ensures ∙ told_by (map (λ w. (w.0.now, w.1, (w.2.0.now, w.2.1.now)))) c.args.language STATIC WIDE_STATIC in
    let aggregates = c.told_in-2.ensures ∙ told_by (map (λ w. (w.0.now, w.1, (w.2.0.now, w.2.1.now)))) c.args.language AGGREGATES WIDE_AGGREGATES in
    λ i. static i ∷ aggregates i ∷ map (map (λ w. (w.0.now, w.1, (w.2.0.now, w.2.1.now)))) (TYPES ∷ UNITS ∷ WAITS ∷ STATEMENTS ∷ LOGICAL ∷ SHIFTS ∷ ENDED ∷ [])
