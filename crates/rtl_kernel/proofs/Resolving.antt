-- Resolution value by value.
use Rattle.std.proofs.Common.{◌≡◌, ◌==◌, refl, sym, ap, ◌∙◌}
use Rattle.std.specs.List.{list_all}
use Rattle.std.proofs.lemmas.Bool.{eqb-true}
use Rattle.vhdl_values.specs.declared.scalar.Nine.{Nine}
use Rattle.vhdl_values.specs.declared.scalar.Nine.TheVariants.{Z}
use Rattle.vhdl_values.specs.Scalar.{nines, code_of, value_of_code}
use Rattle.vhdl_values.specs.Resolution.{resolution_table}
use Rattle.vhdl_values.proofs.Codes.{value_of_code-code_of}
use Rattle.vhdl_values.proofs.Tables.{each}

-- what the table gives stays when it is resolved with Z
pub stays_with_z : (a b : Nine) → resolution_table Z (resolution_table a b) ≡ resolution_table a b
stays_with_z a b =
    let test = λ (v w : Nine). code_of (resolution_table Z (resolution_table v w)) == code_of (resolution_table v w) in
    let held = each (test a) (each (λ v. list_all (test v) nines) refl a) b in
    sym (value_of_code-code_of (resolution_table Z (resolution_table a b))) ∙ ap value_of_code (eqb-true _ _ held) ∙ value_of_code-code_of (resolution_table a b)
