-- Maps, association by association.
use Rattle.std.specs.Prelude.{ℕ, suc, Bool, true, not, ◌||◌, List, [], ◌∷◌, map, Option, Some, None, is_some, bytes_eq, slice_get, if◌then◌else◌}
use Rattle.std.specs.List.{list_all}
use Rattle.vhdl_tree.specs.Tree.{Expr, Association}
use Rattle.vhdl_names_rules.specs.units.Expressions.{SignalPart}
use Rattle.vhdl_names_rules.specs.units.Units.{Fixed}
use Rattle.vhdl_names_rules.specs.Rules.{◌>>=◌, ◌>>◌, met}
use Rattle.vhdl_names_rules.specs.Visibility.{Name, Sight}
use Rattle.vhdl_names_rules.specs.Instances.{Formal, GenericFormal, is_named, expression_of, associated, generic_actual, port_actual}
use Rattle.vhdl_names_instances.specs.declared.actuals.PortType.{PortType}
use Rattle.vhdl_names_instances.specs.Table.{type_of, kind_of}
use Rattle.vhdl_names_instances.specs.declared.generics.GenericKind.{GenericKind}
use Rattle.vhdl_names_instances.specs.steps.Generics as steps
use Rattle.vhdl_names_instances.specs.steps.Actuals.{formal, port_actuals}
use Rattle.vhdl_names_instances.specs.steps.Associations.{formal_at, one_taken}

-- ---- what actuals are

-- open is no actual
abbrev pub holds_if_any : {A : Type 0} → (A → Bool) → Option A → Bool
holds_if_any holds None = true
holds_if_any holds (Some x) = holds x

-- what is associated with a name is an actual of a generic, if the generic has this name
abbrev pub suits_one : Sight → Name → Expr → GenericFormal → Bool
suits_one sight n e f = not (bytes_eq n f.name) || is_some (generic_actual sight f e)

abbrev pub suits : Sight → List GenericFormal → Name → Expr → Bool
suits sight fs n e = list_all (suits_one sight n e) fs

-- the kind of the generic at a place, if it has this name
abbrev pub generic_named : List GenericFormal → ℕ → Name → Option GenericKind
generic_named fs i n = slice_get fs i >>= λ f. if bytes_eq n f.name then Some (kind_of f) else None

abbrev pub suits_if_any : Sight → Option GenericKind → Expr → Bool
suits_if_any sight o e = holds_if_any (λ k. is_some (generic_actual sight (steps.formal k) e)) o

-- what is associated with a name is an actual of a port, if the port has this name
abbrev pub fits_one : Sight → Name → Expr → Formal → Bool
fits_one sight n e f = not (bytes_eq n f.name) || is_some (port_actual sight f e)

abbrev pub fits : Sight → List Formal → Name → Expr → Bool
fits sight fs n e = list_all (fits_one sight n e) fs

-- the type of the port at a place, if it has this name
abbrev pub port_named : List Formal → ℕ → Name → Option PortType
port_named fs i n = slice_get fs i >>= λ f. if bytes_eq n f.name then Some (type_of f) else None

abbrev pub fits_if_any : Sight → Option PortType → Expr → Bool
fits_if_any sight o e = holds_if_any (λ p. is_some (port_actual sight (formal p) e)) o

-- ---- one association behind others

module _ (formals : List Name) (holds : Name → Expr → Bool) where
  abbrev pub one_read : ℕ → Bool → List Name → Association → Option (List Name)
  one_read k behind taken a = do
    ns ← one_taken formals k behind taken a
    n ← formal_at formals k a.formal
    met (holds_if_any (holds n) (expression_of a.actual))
    Some ns

  abbrev pub reading : ℕ → Bool → List Name → List Association → Option (List Name)
  reading k behind taken [] = Some taken
  reading k behind taken (a ∷ as') = one_read k behind taken a >>= λ ns. reading (suc k) (is_named a) ns as'

-- ---- what is given by the rules

abbrev pub generics : Sight → List GenericFormal → List Association → Option (List (Option Fixed))
generics sight fs as' =
    associated (map (λ f. f.name) fs) as' >>= λ gs. steps.generic_actuals sight (map kind_of fs) gs

abbrev pub ports : Sight → List Formal → List Association → Option (List (Option SignalPart))
ports sight fs as' = associated (map (λ f. f.name) fs) as' >>= λ ps. port_actuals sight (map type_of fs) ps
