use Rattle.std.proofs.Common.{[], ◌∷◌, ◌++◌, map, ◌∙◌}
use Rattle.vhdl_expected.specs.Told.{missing_tables, row}
use Rattle.vhdl_expected.specs.declared.closed.TheConstants.{CLOSED, UNENDED, PLACES, MODES}
use Rattle.vhdl_expected.specs.declared.names.TheConstants.{NAMES, MAPPED, TYPES, RANGES}
use Rattle.vhdl_expected.specs.declared.instead.TheConstants.{INSTEAD, SIGNALS, WIDE_SIGNALS, RELATED, PARTS, DIVIDED, UNPARTED}
use Rattle.vhdl_expected.specs.declared.table.TheConstants.{SLIPS, BLANKS, ENDED, ENDINGS, OPERANDS, VALUES, JOINTS, TARGETS, WIDE_TARGETS, VALUED, DECLARED, LISTS, HEADS, UNITS}
use Rattle.vhdl_expected.proofs.Tables.{told_by}
use Rattle.vhdl_expected.proofs.table.missing.Goals as goal

pub returns : goal.returns
unfolding missing_tables
returns c =
    let targets = c.told_in.ensures ∙ told_by (map (λ c. row c.0 c.1.now c.2.now c.3 (c.4.0.now, c.4.1.now))) c.args.language TARGETS WIDE_TARGETS in
    let signals = c.told_in-2.ensures ∙ told_by (map (λ c. row c.0 c.1.now c.2.now c.3 (c.4.0.now, c.4.1.now))) c.args.language SIGNALS WIDE_SIGNALS in
    λ i. map (map (λ c. row c.0 c.1.now c.2.now c.3 (c.4.0.now, c.4.1.now))) (SLIPS ∷ BLANKS ∷ ENDED ∷ ENDINGS ∷ OPERANDS ∷ VALUES ∷ JOINTS ∷ [])
    ++ (targets i ∷ (map (map (λ c. row c.0 c.1.now c.2.now c.3 (c.4.0.now, c.4.1.now))) (VALUED ∷ DECLARED ∷ LISTS ∷ HEADS ∷ UNITS ∷ CLOSED ∷ UNENDED ∷ PLACES ∷ MODES ∷ NAMES ∷ MAPPED ∷ TYPES ∷ RANGES ∷ INSTEAD ∷ [])
    ++ (signals i ∷ map (map (λ c. row c.0 c.1.now c.2.now c.3 (c.4.0.now, c.4.1.now))) (RELATED ∷ PARTS ∷ DIVIDED ∷ UNPARTED ∷ []))))
