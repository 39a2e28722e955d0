-- Tests, taken apart.
use Rattle.std.specs.Prelude.{Bool, true, false, Option, Some, None, Result, Ok, Err}
use Rattle.vhdl_values.specs.declared.kinds.Logic.TheVariants.{And}
use Rattle.vhdl_names_rules.specs.units.Expressions as u
use Rattle.vhdl_names_rules.specs.units.Expressions.{SignalPart, Value, Test}

-- what `and` joins last, or else the whole
abbrev pub parted : Test → Result (Test × Test) Test
parted (u.Test.both And t r) = Ok (t, r)
parted t = Err t

abbrev pub ends_in_and : Test → Bool
ends_in_and (u.Test.both And t r) = true
ends_in_and t = false

-- an edge by a call
abbrev pub is_call : Test → Bool
is_call (u.edge kind p) = true
is_call _ = false

abbrev pub event_of : Test → Option SignalPart
event_of (u.event p) = Some p
event_of _ = None

abbrev pub values_alike : Test → Option (Value × Value)
values_alike (u.alike at x y) = Some (x, y)
values_alike _ = None
