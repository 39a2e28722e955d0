-- Both sides of what an analysing function answers, in one clause.
use Rattle.std.specs.Prelude.{◌≡◌, ◌≢◌, Option, Some, None, Result, Ok, Err}
use Rattle.vhdl_names_rules.specs.declared.fault.NameFault.{NameFault}
use Rattle.vhdl_names_rules.specs.declared.fault.NameFault.TheVariants.{NoMemory}

-- What is returned, as contracts see it, is what the rules give; and but for want of memory it is refused only where
-- they give nothing.
abbrev pub Gives : {X Y : Type 0} → (X → Y) → Option Y → Result X NameFault → Type 0
Gives view given (Ok x) = given ≡ Some (view x)
Gives view given (Err fault) = fault ≢ NoMemory → given ≡ None
