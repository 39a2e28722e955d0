-- Where a loop or generate may not take its turns.
use Rattle.std.specs.Prelude.{◌≡◌, ℕ, Result, Err, IsErrAnd}
use Rattle.vhdl_names_rules.specs.units.Expressions.{Range}
use Rattle.vhdl_expand_rules.specs.declared.fault.ElabFault.{ElabFault}
use Rattle.vhdl_expand_rules.specs.Elab.{Told, fault_told}
use Rattle.vhdl_expand_rules.specs.Integers.{Integers, turns}

-- what is refused of its range by itself is told, before any budget
abbrev pub TellsTurns : {X : Type 0} → Integers → (at : ℕ) → Range → Result X ElabFault → Type 0
TellsTurns here at r result =
    (told : Told) → turns here at r ≡ Err told → IsErrAnd result (λ fault. fault_told fault ≡ told)
