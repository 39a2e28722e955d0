-- What a call that expands answers.
use Rattle.std.specs.Prelude.{◌≡◌, ◌≢◌, ℕ, List, [], ◌∷◌, ◌++◌, Result, Ok, Err}
use Rattle.vhdl_expand_rules.specs.declared.fault.ElabFault.{ElabFault}
use Rattle.vhdl_expand_rules.specs.declared.fault.ElabFault.TheVariants.{NoMemory}
use Rattle.vhdl_expand_rules.specs.Elab.{Elab, fault_told, MayTell}

-- What is returned, as contracts see it, is what is given; and but for want of memory it is refused only where that is
-- refused, with the same problem at the same byte.
abbrev pub Expands : {X Y : Type 0} → (X → Y) → Elab Y → Result X ElabFault → Type 0
Expands view given (Ok x) = given ≡ Ok (view x)
Expands view given (Err fault) = fault ≢ NoMemory → given ≡ Err (fault_told fault)

-- The same of a call that charges budgets on its way, for what stands at these bytes.
abbrev pub Charges : {X Y : Type 0} → (bytes : List ℕ) → (X → Y) → Elab Y → Result X ElabFault → Type 0
Charges bytes view given (Ok x) = given ≡ Ok (view x)
Charges bytes view given (Err fault) = fault ≢ NoMemory → MayTell bytes given (fault_told fault)

-- One more thing stands behind others, where it is made. Where it isn't, its fault is told, and else only that there is
-- no memory.
abbrev pub Adds : {X : Type 0} → (old new : List X) → Result X ElabFault → Result (Unit {0}) ElabFault → Type 0
Adds old new (Ok made) (Ok u) = new ≡ old ++ made ∷ []
Adds old new (Ok made) (Err fault) = fault ≡ NoMemory
Adds old new (Err why) (Ok u) = ⊥
Adds old new (Err why) (Err fault) = fault ≡ why
