use Rattle.std.proofs.Common.{[], ◌∷◌, ◌++◌, map, ◌∙◌}
use Rattle.vhdl_slips.specs.Forms.{left_out}
use Rattle.vhdl_slips.specs.declared.table.TheConstants.{VALUES, WIDE_VALUES, ELEMENTS, WIDE_ELEMENTS, RELATIONS, FUNCTIONS, NUMBERS, WIDE_NUMBERS, OTHER_TYPES, PLACES, WIDE_PLACES, DEFAULTS, WIDE_DEFAULTS}
use Rattle.vhdl_slips.proofs.Tables.{told_by}
use Rattle.vhdl_slips.proofs.by_language.left_out.Goals as goal

pub returns : goal.returns
unfolding left_out
returns c =
    let values = c.told_in.ensures ∙ told_by (map (λ w. (w.0.now, w.1, (w.2.0.now, w.2.1.now)))) c.args.language VALUES WIDE_VALUES in
    let elements = c.told_in-2.ensures ∙ told_by (map (λ w. (w.0.now, w.1, (w.2.0.now, w.2.1.now)))) c.args.language ELEMENTS WIDE_ELEMENTS in
    let numbers = c.told_in-3.ensures ∙ told_by (map (λ w. (w.0.now, w.1, (w.2.0.now, w.2.1.now)))) c.args.language NUMBERS WIDE_NUMBERS in
    let places = c.told_in-4.ensures ∙ told_by (map (λ w. (w.0.now, w.1, (w.2.0.now, w.2.1.now)))) c.args.language PLACES WIDE_PLACES in
    let defaults = c.told_in-5.ensures ∙ told_by (map (λ w. (w.0.now, w.1, (w.2.0.now, w.2.1.now)))) c.args.language DEFAULTS WIDE_DEFAULTS in
    λ i. values i ∷ elements i ∷ (map (map (λ w. (w.0.now, w.1, (w.2.0.now, w.2.1.now)))) (RELATIONS ∷ FUNCTIONS ∷ []) ++ (numbers i ∷ map (map (λ w. (w.0.now, w.1, (w.2.0.now, w.2.1.now)))) (OTHER_TYPES ∷ []) ++ (places i ∷ defaults i ∷ [])))
