-- What a reading finds: nothing, or the first rule that is broken.
use Rattle.std.specs.Prelude.{◌≡◌, ◌≢◌, Result, Ok, Err, IfErr}
use Rattle.vhdl_names_rules.specs.declared.fault.NameFault.{NameFault}
use Rattle.vhdl_names_rules.specs.declared.fault.NameFault.TheVariants.{At, NoMemory}
use Rattle.vhdl_names_rules.specs.problems.Broken.{Broken, Tells, nothing}

-- all is well only where nothing is broken, and a fault is the first
abbrev pub Finds : {X : Type 0} → Broken → Result X NameFault → Type 0
Finds broken (Ok x) = broken ≡ nothing
Finds broken (Err f) = Tells broken f

-- no memory was refused
abbrev pub HasMemory : {X : Type 0} → Result X NameFault → Type 0
HasMemory r = IfErr r (λ f. f ≢ NoMemory)

-- of two answers in order of the text the first that is refused; want of memory comes before all
abbrev pub first_of : {A : Type 0} → Result A NameFault → Result A NameFault → Result A NameFault
first_of (Ok x) next = next
first_of (Err NoMemory) next = Err NoMemory
first_of (Err (At p at)) (Ok x) = Err (At p at)
first_of (Err (At p at)) (Err NoMemory) = Err NoMemory
first_of (Err (At p at)) (Err (At q place)) = Err (At p at)
