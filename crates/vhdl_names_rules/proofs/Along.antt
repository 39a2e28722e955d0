-- What is given along an equation.
use Rattle.std.proofs.Common.{◌≡◌, Option, Result, Ok, Err, ◌∙◌}
use Rattle.vhdl_names_rules.specs.declared.fault.NameFault.{NameFault}
use Rattle.vhdl_names_rules.specs.Gives.{Gives}

pub gives_along : {X Y : Type 0} (view : X → Y) (given given' : Option Y) (r : Result X NameFault) → given ≡ given' → Gives view given' r → Gives view given r
gives_along view given given' (Ok x) e h = e ∙ h
gives_along view given given' (Err f) e h = λ n. e ∙ h n
