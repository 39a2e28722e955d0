-- Choices of case statements and selected assignments (IEEE 1076-2008, 10.9 and 11.6).
use Rattle.std.specs.Prelude.{ℕ, ◌==◌, Bool, true, false, not, ◌&&◌, ◌||◌, if◌then◌else◌, List, [], ◌∷◌, flat_map, Option, Some, None, option_map}
use Rattle.std.specs.List.{list_all, list_any, range_with_len}
use Rattle.vhdl_values.specs.Scalar.{are_same}
use Rattle.vhdl_tree.specs.Tree as t
use Rattle.vhdl_tree.specs.Tree.{Expr}
use Rattle.vhdl_names_rules.specs.declared.kind.ElementKind.TheVariants.{Element, LogicVector, Unsigned, OpenVector}
use Rattle.vhdl_names_rules.specs.declared.kind.ObjectType.{ObjectType}
use Rattle.vhdl_names_rules.specs.declared.kind.ObjectType.TheVariants.{Elements, Enumeration, Integers, Booleans}
use Rattle.vhdl_names_rules.specs.units.Expressions as u
use Rattle.vhdl_names_rules.specs.units.Expressions.{Value, Test}
use Rattle.vhdl_names_rules.specs.units.Statements.{Choice, values, position, numbers, Statement, null_of, if_of, case_of, Statements, done, step, Branches, otherwise, branch, Alternatives, others, complete, alternative}
use Rattle.vhdl_lexer.specs.declared.language.Language.{Language}
use Rattle.vhdl_names_rules.specs.declared.fault.NameProblem.TheVariants.{WrongKind, TypeMismatch, LeftOut, NoOthers, ChoiceTwice}
use Rattle.vhdl_names_rules.specs.Rules.{◌>>=◌, ◌>>◌, rule, each, given_that, wider}
use Rattle.vhdl_names_rules.specs.Visibility as visibility
use Rattle.vhdl_names_rules.specs.Visibility.{Meaning, Sight, meaning}
use Rattle.vhdl_names_rules.specs.Names.{position_of}
use Rattle.vhdl_names_rules.specs.Operators as operators
use Rattle.vhdl_names_rules.specs.Operators.{Typed, integer, computed, elements, enumerated, negated}
use Rattle.vhdl_names_rules.specs.Types as types
use Rattle.vhdl_names_rules.specs.Types.{TypedChoice, place}
use Rattle.vhdl_names_rules.specs.Expressions.{typed_choice}
use Rattle.vhdl_names_rules.specs.Subtypes.{literal_values}

-- ---- one choice

-- a constant of the same kind that a literal declares, or a literal of the same enumeration
abbrev pub named_choice : ObjectType → Meaning → Option Choice
named_choice (Elements Element) (visibility.constant k Element (Some vs)) = Some (values vs)
named_choice (Elements LogicVector) (visibility.constant k LogicVector (Some vs)) = Some (values vs)
named_choice (Elements Unsigned) (visibility.constant k Unsigned (Some vs)) = Some (values vs)
named_choice (Enumeration e count) (visibility.literal d size p) = given_that TypeMismatch (d == e) (position p)
named_choice Booleans (visibility.boolean_literal b) = Some (position (position_of b))
named_choice _ _ = None

abbrev pub literal_choice : ObjectType → Expr → Option Choice
literal_choice (Elements k) e = option_map values (literal_values k e)
literal_choice _ e = None

-- a literal as it stands, or a name with nothing behind it; no other expression
abbrev pub chosen : Sight → ObjectType → Expr → Option Choice
chosen sight type (t.named n t.plain None) = meaning sight n.text >>= named_choice type
chosen sight type e = literal_choice type e

-- ---- the choices of one alternative: others alone, or choices without others

-- an integer, or those of a range, locally static (9.4.2, 10.9)
abbrev pub numbers_of : TypedChoice → Option Choice
numbers_of (types.others at) = None
numbers_of (place is_local i) = given_that LeftOut is_local (numbers i)

abbrev pub choice : Sight → ObjectType → t.Choice → Option Choice
choice sight Integers c = typed_choice sight c >>= numbers_of
choice sight type (t.chosen e) = chosen sight type e
choice sight type (t.chosen_range d direction e) = None
choice sight type (t.otherwise at) = None

abbrev pub is_others : List t.Choice → Bool
is_others (t.otherwise at ∷ []) = true
is_others _ = false

abbrev pub choices : Sight → ObjectType → List t.Choice → Option (List Choice)
choices sight type (t.otherwise at ∷ []) = Some []
choices sight type cs = each (choice sight type) cs

-- ---- the choices of all alternatives

-- equality of the nine values, also for unsigned
abbrev pub same_choice : Choice → Choice → Bool
same_choice (values vs) (values ws) = are_same vs ws
same_choice (position p) (position q) = p == q
same_choice _ _ = false

abbrev pub are_distinct_choices : List Choice → Bool
are_distinct_choices [] = true
are_distinct_choices (c ∷ cs) = not (list_any (same_choice c) cs) && are_distinct_choices cs

abbrev pub is_last_others : List (List t.Choice) → Bool
is_last_others [] = false
is_last_others (cs ∷ []) = is_others cs
is_last_others (cs ∷ ds ∷ rest) = is_last_others (ds ∷ rest)

-- others stands in no alternative but the last
abbrev pub only_last_others : List (List t.Choice) → Bool
only_last_others [] = true
only_last_others (cs ∷ []) = true
only_last_others (cs ∷ ds ∷ rest) = not (is_others cs) && only_last_others (ds ∷ rest)

-- each literal of an enumeration, as boolean is one, has its choice; of integers that is known where they are computed
abbrev pub are_named : (count : ℕ) → List Choice → Bool
are_named count cs = list_all (λ p. list_any (same_choice (position p)) cs) (range_with_len 0 count)

abbrev pub names_all : ObjectType → List Choice → Bool
names_all (Elements k) cs = false
names_all (Enumeration e count) cs = are_named count cs
names_all Booleans cs = are_named 2 cs
names_all Integers cs = true

-- the choices of each alternative
abbrev pub covered : Sight → ObjectType → List (List t.Choice) → Option (List (List Choice))
covered sight type alternatives = do
  rule WrongKind (only_last_others alternatives)
  css ← each (choices sight type) alternatives
  rule ChoiceTwice (are_distinct_choices (flat_map (λ cs. cs) css))
  rule NoOthers (is_last_others alternatives || names_all type (flat_map (λ cs. cs) css))
  Some css

-- ---- selectors and alternatives

-- what a case is on: a value, or a truth
pub data Selector : Type 0 where
  value : Value → Selector
  truth : Test → Selector

-- a case is on elements of the nine values, an integer, an enumeration or a truth; on an open vector it is one on
-- std_logic_vector
abbrev pub selector : Language → Typed → Option (ObjectType × Selector)
selector language (elements OpenVector x) = Some (Elements LogicVector, value (u.elements x))
selector language (elements k x) = Some (Elements k, value (u.elements x))
selector language (enumerated e count x) = Some (Enumeration e count, value x)
selector language (integer s) = wider language (Some (Integers, value (u.Value.computed (u.static s))))
selector language (computed x) = Some (Integers, value (u.Value.computed x))
selector language (operators.truth t) = wider language (Some (Booleans, truth t))
selector language _ = None

-- the last alternative is done otherwise; where it chooses integers, these are kept
abbrev pub last_by : List Choice → Statements → Alternatives
last_by (numbers i ∷ cs) s = complete (numbers i ∷ cs) s
last_by cs s = others s

-- alternatives with what each does
abbrev pub arranged : List (List Choice) → List Statements → Option Alternatives
arranged (cs ∷ []) (s ∷ []) = Some (last_by cs s)
arranged (cs ∷ ds ∷ css) (s ∷ ss) = option_map (alternative cs s) (arranged (ds ∷ css) ss)
arranged _ _ = None

-- ---- the statement that selects

abbrev pub always : (at : ℕ) → Test
always at = u.Test.fixed (u.known at (u.number 1))

-- the alternatives as branches, of which the first is done where this holds, and behind it the next
abbrev pub branches_by : (at : ℕ) → Test → Alternatives → Branches
branches_by at t (others s) = otherwise s
branches_by at t (complete cs s) = otherwise s
branches_by at t (alternative cs s alts) = branch t s (branches_by at (always at) alts)

abbrev pub nothing_done : Statements
nothing_done = step null_of done

-- a truth is read, and nothing hangs on it
abbrev pub read_only : (at : ℕ) → Test → Statement
read_only at t = if_of at (branch t nothing_done (otherwise nothing_done))

-- on a truth: an if of it, or of its negation, where the first alternative is for one of both; else the first is done
abbrev pub deciding : (at : ℕ) → Test → Alternatives → Statement
deciding at t (alternative (position p ∷ []) s alts) =
    if_of at (branches_by at (if p == 1 then t else negated t) (alternative (position p ∷ []) s alts))
deciding at t alts =
    if_of at (otherwise (step (read_only at t) (step (if_of at (branches_by at (always at) alts)) done)))

abbrev pub selecting : (at : ℕ) → Selector → Alternatives → Statement
selecting at (value v) alts = case_of at v alts
selecting at (truth t) alts = deciding at t alts
