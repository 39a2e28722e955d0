-- What a process assigns on every syntactic path, by the nets of its drivers.
use Rattle.std.specs.Prelude.{ℕ, Bool, List, map}
use Rattle.rtl_net.specs.declared.process.Driver.{Driver}
use Rattle.rtl_net.specs.declared.body.Statement.{Statement}
use Rattle.rtl_net.specs.declared.body.Branch.{Branch}
use Rattle.rtl_net.specs.declared.body.Alternative.{Alternative}
use Rattle.rtl_net.specs.Bodies.{statement_view, statements_of}
use Rattle.rtl_model.specs.bodies.Assigns.{Target, of_drivers, must_assign, stmt_must_assign}
use Rattle.rtl_model.specs.nets.CoreNetlist.{drives_net}

-- the nets of these drivers
abbrev pub driven : List Driver → List ℕ
driven drives = map (λ (d : Driver). d.net) drives

-- the driver at this place is one of this net
abbrev pub covers : List Driver → (net place : ℕ) → Bool
covers drives net place = drives_net (driven drives) net place

abbrev pub to_net : List Driver → (net : ℕ) → Target → Bool
to_net drives net = of_drivers (covers drives net)

-- a statement of a sequence, a branch of an if, and an alternative of a case
abbrev pub statement_covers : List Driver → (net : ℕ) → Statement → Bool
statement_covers drives net s = stmt_must_assign (to_net drives net) (statement_view s)

abbrev pub branch_covers : List Driver → (net : ℕ) → Branch → Bool
branch_covers drives net b = must_assign (to_net drives net) (statements_of b.statements.items)

abbrev pub alternative_covers : List Driver → (net : ℕ) → Alternative → Bool
alternative_covers drives net a = must_assign (to_net drives net) (statements_of a.statements.items)
