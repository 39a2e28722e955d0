use Rattle.std.specs.Prelude.{Contains}
use Rattle.std.proofs.lemmas.List.Elements.{All-contains_itself}
use Rattle.vhdl_names_rules.specs.units.Bytes.{units_bytes}
use Rattle.vhdl_names_registers.proofs.Standing.{written_stand}
use Rattle.vhdl_names_registers.proofs.register_laws.written_units_stand.Goals as goal

pub returns : goal.returns
returns c = λ units. written_stand (λ b. Contains (units_bytes units) b) units (All-contains_itself (units_bytes units))
