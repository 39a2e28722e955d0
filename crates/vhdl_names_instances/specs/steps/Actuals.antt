-- Actuals in the order in which the code comes to them.
use Rattle.std.specs.Prelude.{ℕ, List, [], ◌∷◌, Option, Some, None, slice_get}
use Rattle.vhdl_tree.specs.Tree.{Expr}
use Rattle.vhdl_names_rules.specs.units.Expressions.{SignalPart}
use Rattle.vhdl_names_rules.specs.Rules.{◌>>=◌, if_any}
use Rattle.vhdl_names_rules.specs.Visibility.{Sight}
use Rattle.vhdl_names_rules.specs.Instances.{Formal, port_actual}
use Rattle.vhdl_names_instances.specs.declared.actuals.PortType.{PortType}

-- a formal that is a port of this mode and kind; nothing rests on its name
abbrev pub formal : PortType → Formal
formal p = record { name = []; mode = p.mode; type = p.object_type }

abbrev pub port_entry : Sight → PortType → Option Expr → Option (Option SignalPart)
port_entry sight p e = if_any (port_actual sight (formal p)) e

-- one thing for each formal, of its actual
abbrev pub each_of : {F X : Type 0} → (F → Option Expr → Option X) → List F → List (Option Expr) → Option (List X)
each_of one (f ∷ fs) (e ∷ es) = do
  x ← one f e
  xs ← each_of one fs es
  Some (x ∷ xs)
each_of one _ _ = Some []

-- that of one formal, where there are both
abbrev pub one_of : {F X : Type 0} → (F → Option Expr → Option X) → Option F → Option (Option Expr) → Option (Option X)
one_of one (Some f) (Some e) = one f e >>= λ x. Some (Some x)
one_of one _ _ = Some None

abbrev pub port_actuals : Sight → List PortType → List (Option Expr) → Option (List (Option SignalPart))
port_actuals sight ps es = each_of (port_entry sight) ps es

-- the actual of one port, where there are both
abbrev pub entry : Sight → List PortType → List (Option Expr) → ℕ → Option (Option (Option SignalPart))
entry sight ps es i = one_of (port_entry sight) (slice_get ps i) (slice_get es i)
