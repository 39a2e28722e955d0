use Rattle.std.proofs.Common.{[], ◌∷◌, map, ◌∙◌}
use Rattle.vhdl_expected.specs.Told.{other_tables, row}
use Rattle.vhdl_expected.specs.declared.otherwise.TheConstants.{ATTRIBUTES, WIDE_ATTRIBUTES, OPERATORS, DELIMITERS, SPARES, STRAYS}
use Rattle.vhdl_expected.proofs.Tables.{told_by}
use Rattle.vhdl_expected.proofs.otherwise.otherwise.Goals as goal

pub returns : goal.returns
unfolding other_tables
returns c =
    let attributes = c.told_in.ensures ∙ told_by (map (λ c. row c.0 c.1.now c.2.now c.3 (c.4.0.now, c.4.1.now))) c.args.language ATTRIBUTES WIDE_ATTRIBUTES in
    λ i. attributes i ∷ map (map (λ c. row c.0 c.1.now c.2.now c.3 (c.4.0.now, c.4.1.now))) (OPERATORS ∷ DELIMITERS ∷ SPARES ∷ STRAYS ∷ [])
