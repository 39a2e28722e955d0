-- What holds of where assignments are left out.
use Rattle.std.specs.Prelude.{◌≡◌, true, false, Bool, List, IsSome}
use Rattle.rtl_model.specs.bodies.Assigns.{Target, must_assign, stmts_assign}
use Rattle.rtl_net.specs.Bodies.{statements_of}
use Rattle.rtl_net.specs.declared.body.Statement.{Statement}
use Rattle.rtl_latches.specs.Omissions.{omission_of}

-- where an assignment stands in a body, and not on all paths, a place is found
abbrev pub EachLatchHasAPlace : Type 0
EachLatchHasAPlace =
    (these : Target → Bool) (xs : List Statement) → stmts_assign these (statements_of xs) ≡ true
    → must_assign these (statements_of xs) ≡ false
    → IsSome (omission_of these xs)
