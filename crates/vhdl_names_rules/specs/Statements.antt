-- Sequential statements (IEEE 1076-2008, clause 10), with the declarations in sight.
use Rattle.std.specs.Prelude.{ℕ, Bool, true, false, not, List, [], ◌∷◌, ◌++◌, Option, Some, None, option_map, is_none}
use Rattle.vhdl_values.specs.declared.scalar.Nine.{Nine}
use Rattle.vhdl_values.specs.declared.scalar.Nine.TheVariants.{One, Zero}
use Rattle.vhdl_tree.specs.declared.declaration.Mode.{Mode}
use Rattle.vhdl_tree.specs.declared.declaration.Mode.TheVariants.{In, Out}
use Rattle.vhdl_tree.specs.Tree as t
use Rattle.vhdl_tree.specs.Tree.{Ident}
use Rattle.vhdl_names_rules.specs.declared.kind.ObjectType.{ObjectType}
use Rattle.vhdl_names_rules.specs.units.Expressions as u
use Rattle.vhdl_names_rules.specs.units.Expressions.{Part, SignalPart, Signal}
use Rattle.vhdl_names_rules.specs.units.Statements as s
use Rattle.vhdl_names_rules.specs.declared.fault.NameProblem.TheVariants.{WrongKind, WriteOfIn, LeftOut}
use Rattle.vhdl_names_rules.specs.Rules.{◌>>=◌, ◌>>◌, rule}
use Rattle.vhdl_names_rules.specs.Visibility as visibility
use Rattle.vhdl_names_rules.specs.Visibility.{Name, Meaning, DeclaredRange, Declared, Sight, declaration, label_ends, within_loop}
use Rattle.vhdl_names_rules.specs.Names.{Suffix, part_of, AnyPart, fixed, free, any_part_of, place_of}
use Rattle.vhdl_names_rules.specs.Ranges.{declared_range}
use Rattle.vhdl_names_rules.specs.Expressions.{typed, typed_suffix, static_range, condition, Assigned, given, truth_of, value_assigned}
use Rattle.vhdl_names_rules.specs.Choices.{covered, selector, arranged, selecting}

-- ---- names of signals and variables

-- the range of a part: that of its declaration, or of the slice
abbrev pub part_range : Option DeclaredRange → Part → Option u.Range
part_range r u.whole = option_map declared_range r
part_range r (u.Part.element s) = None
part_range r (u.slice x) = Some x

-- a signal, port, or part of one, with its mode if it is a port, its type, and its range if it is a vector
pub record SignalName : Type 0 where
  pub place : SignalPart
  pub mode : Option Mode
  pub type : ObjectType
  pub range : Option u.Range

abbrev pub named_part : (at : ℕ) → Signal → Option Mode → Option DeclaredRange → Part × ObjectType → SignalName
named_part at x mode r p = record { place = place_of at x p.0; mode = mode; type = p.1; range = part_range r p.0 }

abbrev pub as_signal : (at : ℕ) → Declared → Suffix → Option SignalName
as_signal at d suffix = by d.meaning
  where
    by : Meaning → Option SignalName
    by (visibility.port k mode kind) =
        option_map (named_part at (u.port k) (Some mode) d.range) (part_of kind suffix)
    by (visibility.signal k type) =
        option_map (named_part at (u.Signal.signal k) None d.range) (part_of type suffix)
    by _ = None

-- the signal that a name is
unfoldable pub signal : Sight → t.Name → Option SignalName
signal sight n = do
  rule LeftOut (is_none n.attribute)
  suffix ← typed_suffix sight n.suffix
  d ← declaration sight n.identifier.text
  as_signal n.identifier.at d suffix

abbrev pub is_input : Option Mode → Bool
is_input (Some In) = true
is_input (Some Out) = false
is_input None = false

-- ---- targets (10.5, 10.6): where the name starts, its type, its range if it has a static one, and the statement that
-- gives it a value

pub record Target : Type 0 where
  pub at : ℕ
  pub type : ObjectType
  pub range : Option u.Range
  pub assigned : s.Given → s.Statement

-- the bounds of what a run chooses aren't known before
abbrev pub any_part_range : Option DeclaredRange → AnyPart → Option u.Range
any_part_range r (fixed p) = part_range r p
any_part_range r (free c) = None

-- a part of an object, with its type
abbrev pub part_target : (at : ℕ) → Option DeclaredRange → (AnyPart → s.Given → s.Statement) → AnyPart × ObjectType
    → Target
part_target at r assigned p = record { at = at; type = p.1; range = any_part_range r p.0; assigned = assigned p.0 }

-- of an object of this type, with what follows its name
abbrev pub target_of : (at : ℕ) → Option DeclaredRange → ObjectType → Suffix
    → (AnyPart → s.Given → s.Statement) → Option Target
target_of at r type suffix assigned = option_map (part_target at r assigned) (any_part_of type suffix)

abbrev pub assigned_signal : (at : ℕ) → Signal → AnyPart → s.Given → s.Statement
assigned_signal at x (fixed p) = s.assign (place_of at x p)
assigned_signal at x (free c) = s.assign_in at x c

abbrev pub assigned_variable : (at : ℕ) → ℕ → AnyPart → s.Given → s.Statement
assigned_variable at k (fixed p) = s.set at k p
assigned_variable at k (free c) = s.set_in at k c

-- a signal or port
abbrev pub as_signal_target : (at : ℕ) → Declared → Suffix → Option Target
as_signal_target at d suffix = by d.meaning
  where
    by : Meaning → Option Target
    by (visibility.port k mode type) = target_of at d.range type suffix (assigned_signal at (u.port k))
    by (visibility.signal k type) = target_of at d.range type suffix (assigned_signal at (u.Signal.signal k))
    by _ = None

abbrev pub as_variable_target : (at : ℕ) → Declared → Suffix → Option Target
as_variable_target at d suffix = by d.meaning
  where
    by : Meaning → Option Target
    by (visibility.variable k type) = target_of at d.range type suffix (assigned_variable at k)
    by _ = None

abbrev pub mode_of : Meaning → Option Mode
mode_of (visibility.port k mode kind) = Some mode
mode_of _ = None

-- an in port is never assigned (6.5.2)
unfoldable pub signal_target : Sight → t.Name → Option Target
signal_target sight n = do
  rule LeftOut (is_none n.attribute)
  suffix ← typed_suffix sight n.suffix
  d ← declaration sight n.identifier.text
  x ← as_signal_target n.identifier.at d suffix
  rule WriteOfIn (not (is_input (mode_of d.meaning)))
  Some x

unfoldable pub variable_target : Sight → t.Name → Option Target
variable_target sight n = do
  rule LeftOut (is_none n.attribute)
  suffix ← typed_suffix sight n.suffix
  d ← declaration sight n.identifier.text
  as_variable_target n.identifier.at d suffix

-- ---- assignments

abbrev pub alone : s.Statement → s.Statements
alone statement = s.step statement s.done

-- '1' where a boolean is true, and '0' where it is false
abbrev pub boolean_assigned : Target → Nine → s.Statements
boolean_assigned x v = alone (x.assigned (s.single (u.Value.elements (u.enclosed_character v))))

-- a truth that a run decides is assigned by an if
abbrev pub assigned_to : Target → Assigned → s.Statement
assigned_to x (given g) = x.assigned g
assigned_to x (truth_of t) =
    s.if_of x.at (s.branch t (boolean_assigned x One) (s.otherwise (boolean_assigned x Zero)))

abbrev pub assignment : Sight → Target → t.Value → Option s.Statement
assignment sight x v = option_map (assigned_to x) (value_assigned sight x.type x.range v)

-- value when condition else .. is an if (10.5.3, 10.6.3); without a last else it has none
abbrev pub last_branch : Sight → Target → Option t.Value → Option s.Branches
last_branch sight x None = Some s.no_else
last_branch sight x (Some v) = option_map (λ y. s.otherwise (alone y)) (assignment sight x v)

abbrev pub branches : Sight → Target → List t.Branch → Option t.Value → Option s.Branches
branches sight x [] o = last_branch sight x o
branches sight x (b ∷ bs) o = do
  y ← assignment sight x b.value
  c ← condition sight b.condition
  rest ← branches sight x bs o
  Some (s.branch c (alone y) rest)

-- a value alone is assigned as it is
abbrev pub conditional : Sight → Target → List t.Branch → Option t.Value → Option s.Statement
conditional sight x [] (Some v) = assignment sight x v
conditional sight x bs o = option_map (s.if_of x.at) (branches sight x bs o)

-- of a signal, or of a variable
abbrev pub target_by : Sight → (is_variable : Bool) → t.Name → Option Target
target_by sight false n = signal_target sight n
target_by sight true n = variable_target sight n

-- ---- statements

-- a statement, as it is analysed, before others; assert and report stand before none
abbrev pub before : t.Statement → s.Statement → s.Statements → s.Statements
before (t.asserted text) x xs = xs
before (t.reported text) x xs = xs
before y x xs = s.step x xs

-- the choices of each alternative
abbrev pub choice_lists : t.Alternatives → List (List t.Choice)
choice_lists t.no_alternatives = []
choice_lists (t.alternative cs body more) = cs ∷ choice_lists more

unfoldable mutual
  -- a statement behind its label
  pub statement : Sight → Option Ident → t.Statement → Option s.Statement
  -- null (10.14)
  statement sight label (t.null_of at) = Some s.null_of
  -- a signal assignment (10.5), and a variable assignment (10.6)
  statement sight label (t.assigned n v) = signal_target sight n >>= λ x. assignment sight x v
  statement sight label (t.variable_assigned n v) = variable_target sight n >>= λ x. assignment sight x v
  statement sight label (t.assigned_when is_variable n bs o) =
      target_by sight is_variable n >>= λ x. conditional sight x bs o
  -- assert and report (10.3, 10.4), which are dropped
  statement sight label (t.asserted text) = Some s.null_of
  statement sight label (t.reported text) = Some s.null_of
  -- if (10.8)
  statement sight label (t.if_of at bs o end) = do
    rule WrongKind (label_ends label end)
    last ← otherwise sight o
    branches ← conditionals sight last bs
    Some (s.if_of at branches)
  -- case (10.9)
  statement sight label (t.case_of at e alts end) = do
    rule WrongKind (label_ends label end)
    x ← typed sight e
    by ← selector sight.language x
    choices ← covered sight by.0 (choice_lists alts)
    bodies ← alternatives sight alts
    all ← arranged choices bodies
    Some (selecting at by.1 all)
  -- a for loop (10.10); its parameter's range has the outer names in sight
  statement sight label (t.for_of at n r body end) = do
    rule WrongKind (label_ends label end)
    range ← static_range sight r
    turn ← statements (within_loop sight n) body
    Some (s.for_of at range turn)

  pub statements : Sight → t.Statements → Option s.Statements
  statements sight t.done = Some s.done
  statements sight (t.step label x xs) = do
    y ← statement sight label x
    ys ← statements sight xs
    Some (before x y ys)

  pub conditionals : Sight → s.Branches → t.Conditionals → Option s.Branches
  conditionals sight last t.no_conditionals = Some last
  conditionals sight last (t.guarded e body bs) = do
    c ← condition sight e
    x ← statements sight body
    rest ← conditionals sight last bs
    Some (s.branch c x rest)

  pub otherwise : Sight → t.Otherwise → Option s.Branches
  otherwise sight t.no_else = Some s.no_else
  otherwise sight (t.else_do body) = option_map s.otherwise (statements sight body)

  -- what each alternative of a case does
  pub alternatives : Sight → t.Alternatives → Option (List s.Statements)
  alternatives sight t.no_alternatives = Some []
  alternatives sight (t.alternative cs body more) = do
    x ← statements sight body
    xs ← alternatives sight more
    Some (x ∷ xs)

-- ---- the labels inside a process, however deep they stand

abbrev pub label_names : Option Ident → List Name
label_names None = []
label_names (Some l) = l.text ∷ []

abbrev mutual
  pub inner_labels : t.Statement → List Name
  inner_labels (t.null_of at) = []
  inner_labels (t.assigned n v) = []
  inner_labels (t.variable_assigned n v) = []
  inner_labels (t.assigned_when is_variable n bs o) = []
  inner_labels (t.asserted text) = []
  inner_labels (t.reported text) = []
  inner_labels (t.if_of at bs o end) = conditional_labels bs ++ otherwise_labels o
  inner_labels (t.case_of at e alts end) = alternative_labels alts
  inner_labels (t.for_of at n r body end) = statement_labels body

  pub statement_labels : t.Statements → List Name
  statement_labels t.done = []
  statement_labels (t.step label x xs) = label_names label ++ (inner_labels x ++ statement_labels xs)

  pub conditional_labels : t.Conditionals → List Name
  conditional_labels t.no_conditionals = []
  conditional_labels (t.guarded e body bs) = statement_labels body ++ conditional_labels bs

  pub otherwise_labels : t.Otherwise → List Name
  otherwise_labels t.no_else = []
  otherwise_labels (t.else_do body) = statement_labels body

  pub alternative_labels : t.Alternatives → List Name
  alternative_labels t.no_alternatives = []
  alternative_labels (t.alternative cs body more) = statement_labels body ++ alternative_labels more
