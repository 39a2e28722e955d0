-- What instances see of an entity, in the order in which the code comes to its declarations.
use Rattle.std.specs.Prelude.{ℕ, List, [], ◌∷◌, ◌++◌, Option, Some, None, slice_get}
use Rattle.vhdl_names_rules.specs.Rules.{◌>>=◌}
use Rattle.vhdl_names_rules.specs.Visibility as visibility
use Rattle.vhdl_names_rules.specs.Visibility.{Name, Meaning, Declared}
use Rattle.vhdl_names_units.specs.Once.{one_name}
use Rattle.vhdl_names_instances.specs.Table.{Seen}
use Rattle.vhdl_names_instances.specs.declared.generics.GenericKind.{GenericKind}
use Rattle.vhdl_names_instances.specs.declared.generics.GenericKind.TheVariants as k
use Rattle.vhdl_names_instances.specs.declared.actuals.PortType.{PortType}

abbrev pub port_type : Meaning → Option PortType
port_type (visibility.port k mode type) = Some (record { mode = mode; object_type = type })
port_type _ = None

abbrev pub generic_kind : Meaning → Option GenericKind
generic_kind (visibility.generic n) = Some k.Integer
generic_kind (visibility.boolean_generic n) = Some k.Boolean
generic_kind (visibility.constant n kind values) = Some (k.Elements kind)
generic_kind _ = None

abbrev pub with_generic : Seen → Name → GenericKind → Option Seen
with_generic f n kind =
    one_name f.generics n >>= λ ns. Some (record f { generics = ns; generic_kinds = f.generic_kinds ++ kind ∷ [] })

abbrev pub with_port : Seen → Name → PortType → Option Seen
with_port f n p = one_name f.ports n >>= λ ns. Some (record f { ports = ns; port_types = f.port_types ++ p ∷ [] })

abbrev pub with_any : Seen → Name → Option PortType → Option Seen
with_any f n None = Some f
with_any f n (Some p) = with_port f n p

abbrev pub with_declared : Seen → Declared → Option Seen
with_declared f d = by (generic_kind d.meaning)
  where
    by : Option GenericKind → Option Seen
    by (Some kind) = with_generic f d.name kind
    by None = with_any f d.name (port_type d.meaning)

abbrev pub with_entry : Seen → Option Declared → Option Seen
with_entry f None = Some f
with_entry f (Some d) = with_declared f d

abbrev pub with_declared_at : Seen → List Declared → ℕ → Option Seen
with_declared_at f ds i = with_entry f (slice_get ds i)

-- before any declaration
abbrev pub no_formals : Option Name → Seen
no_formals architecture =
    record { architecture = architecture; generics = []; generic_kinds = []; ports = []; port_types = [] }
