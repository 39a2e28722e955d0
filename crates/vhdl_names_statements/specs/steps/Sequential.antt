-- Sequential statements in the order in which the code comes to their parts.
use Rattle.std.specs.Prelude.{ℕ, Bool, true, false, if◌then◌else◌, List, [], ◌∷◌, Option, Some, option_map}
use Rattle.vhdl_tree.specs.Tree as t
use Rattle.vhdl_tree.specs.Tree.{Ident}
use Rattle.vhdl_names_rules.specs.units.Statements as s
use Rattle.vhdl_names_rules.specs.declared.fault.NameProblem.TheVariants.{WrongKind}
use Rattle.vhdl_names_rules.specs.Rules.{◌>>=◌, ◌>>◌, rule, each, if_any}
use Rattle.vhdl_names_rules.specs.Visibility.{Sight, Declared, label_ends, within_loop}
use Rattle.vhdl_names_rules.specs.Expressions.{static_range, condition, value_assigned}
use Rattle.vhdl_names_rules.specs.Statements.{statement, assigned_to, target_by}
use Rattle.vhdl_names_units.specs.views.Sequential.{Guarded, guarded_by, statements_of, branches_of, last_of}

-- ---- assignments

abbrev pub assigned : Sight → (is_variable : Bool) → t.Name → t.Value → Option s.Statement
assigned sight is_variable n v = do
  x ← target_by sight is_variable n
  g ← value_assigned sight x.type x.range v
  Some (assigned_to x g)

-- an assignment alone
abbrev pub alone : Sight → (is_variable : Bool) → t.Name → t.Value → Option (List s.Statement)
alone sight is_variable n v = assigned sight is_variable n v >>= λ y. Some (y ∷ [])

-- value when condition
abbrev pub waveform : Sight → (is_variable : Bool) → t.Name → t.Branch → Option Guarded
waveform sight is_variable n b = do
  xs ← alone sight is_variable n b.value
  c ← condition sight b.condition
  Some (guarded_by c xs)

abbrev pub is_target : Sight → (is_variable : Bool) → t.Name → Option (Unit {0})
is_target sight is_variable n = option_map (λ x. tt) (target_by sight is_variable n)

-- values under conditions, or where none holds
abbrev pub branched : Sight → (is_variable : Bool) → t.Name → List t.Branch → Option t.Value → Option s.Statement
branched sight is_variable n bs o = do
  gs ← each (waveform sight is_variable n) bs
  last ← if_any (alone sight is_variable n) o
  Some (s.if_of n.identifier.at (branches_of gs (last_of last)))

abbrev pub conditionally : Sight → (is_variable : Bool) → t.Name → List t.Branch → Option t.Value → Option s.Statement
conditionally sight is_variable n [] (Some v) = assigned sight is_variable n v
conditionally sight is_variable n bs o = is_target sight is_variable n >> branched sight is_variable n bs o

-- ---- lists of statements

abbrev pub labelled : Sight → t.Sequential → Option s.Statement
labelled sight q = statement sight q.label q.statement

-- assert and report are dropped
abbrev pub is_dropped : t.Statement → Bool
is_dropped (t.asserted text) = true
is_dropped (t.reported text) = true
is_dropped _ = false

abbrev pub all_labelled : Sight → List t.Sequential → Option (List s.Statement)
all_labelled sight [] = Some []
all_labelled sight (q ∷ qs) = do
  y ← labelled sight q
  ys ← all_labelled sight qs
  Some (if is_dropped q.statement then ys else y ∷ ys)

-- ---- statements with statements in them

abbrev pub guarded : Sight → t.Conditional → Option Guarded
guarded sight b = do
  c ← condition sight b.condition
  xs ← all_labelled sight b.statements
  Some (guarded_by c xs)

-- an if that starts at this byte
abbrev pub conditional : Sight → Option Ident → (at : ℕ) → List t.Conditional
    → Option (List t.Sequential) → Option Ident → Option s.Statement
conditional sight label at bs o end = do
  gs ← each (guarded sight) bs
  last ← if_any (all_labelled sight) o
  rule WrongKind (label_ends label end)
  Some (s.if_of at (branches_of gs (last_of last)))

-- what a loop over this parameter does in a turn
abbrev pub turn : Sight → Ident → List t.Sequential → Option (List s.Statement)
turn sight n body = all_labelled (within_loop sight n) body

-- a loop that starts at this byte
abbrev pub repetition : Sight → Option Ident → (at : ℕ) → Ident
    → t.DiscreteRange → List t.Sequential → Option Ident → Option s.Statement
repetition sight label at n r body end = do
  range ← static_range sight r
  found ← turn sight n body
  rule WrongKind (label_ends label end)
  Some (s.for_of at range (statements_of found))

-- with one more parameter, the innermost
abbrev pub in_loop : Sight → Declared → Sight
in_loop sight d = record sight { loops = d ∷ sight.loops }
