-- Locally static expressions (IEEE 1076-2008, 9.4.2): they name no generic and no parameter, themselves or through what
-- they name. All others that are static are globally static alone (9.4.3).
use Rattle.std.specs.Prelude.{Bool, true, false, not, ◌&&◌, Option, Some, None}
use Rattle.vhdl_tree.specs.Tree as t
use Rattle.vhdl_tree.specs.Tree.{Expr, Exprs, DiscreteRange}
use Rattle.vhdl_names_rules.specs.Visibility as visibility
use Rattle.vhdl_names_rules.specs.Visibility.{Meaning, Declared, Sight, declaration}

abbrev pub is_parameter : Meaning → Bool
is_parameter (visibility.generic k) = true
is_parameter (visibility.boolean_generic k) = true
is_parameter (visibility.generate_parameter k) = true
is_parameter (visibility.loop_parameter k) = true
is_parameter _ = false

-- what a name is, if it is declared
abbrev pub names_local : Option Declared → Bool
names_local None = false
names_local (Some d) = not d.is_global && not (is_parameter d.meaning)

-- of an expression that is an integer or a boolean
unfoldable mutual
  pub is_local : Sight → Expr → Bool
  is_local sight (t.named n suffix a) = names_local (declaration sight n.text) && suffix_is_local sight suffix
  is_local sight (t.parens at e) = is_local sight e
  is_local sight (t.negation at e) = is_local sight e
  is_local sight (t.absolute at e) = is_local sight e
  is_local sight (t.power e at n) = is_local sight e && is_local sight n
  is_local sight (t.signed sign at e) = is_local sight e
  is_local sight (t.binary begins op at d e) = is_local sight d && is_local sight e
  is_local sight e = true

  pub suffix_is_local : Sight → t.Suffix → Bool
  suffix_is_local sight t.plain = true
  suffix_is_local sight (t.arguments es) = are_local sight es
  suffix_is_local sight (t.sliced d direction e) = is_local sight d && is_local sight e

  pub are_local : Sight → Exprs → Bool
  are_local sight t.no_exprs = true
  are_local sight (t.expr e es) = is_local sight e && are_local sight es

abbrev pub range_is_local : Sight → DiscreteRange → Bool
range_is_local sight (t.bounds r) = is_local sight r.left && is_local sight r.right
range_is_local sight (t.range_named n) =
    names_local (declaration sight n.identifier.text) && suffix_is_local sight n.suffix

-- of a subtype indication, by its type's name and the range behind that
abbrev pub subtype_is_local : Sight → t.Subtype → Bool
subtype_is_local sight s = names_local (declaration sight s.mark.text) && constraint_is_local s.constraint
  where
    constraint_is_local : Option t.Constraint → Bool
    constraint_is_local None = true
    constraint_is_local (Some (t.index_range r)) = range_is_local sight r
    constraint_is_local (Some (t.value_range r)) = range_is_local sight r
