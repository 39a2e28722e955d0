-- Concurrent statements (IEEE 1076-2008, clause 11), with the declarations in sight.
use Rattle.std.specs.Prelude.{ℕ, Bool, List, [], ◌∷◌, ◌++◌, map, Option, Some, None, option_map, is_some}
use Rattle.vhdl_tree.specs.Tree as t
use Rattle.vhdl_tree.specs.Tree.{Ident}
use Rattle.vhdl_names_rules.specs.units.Statements as s
use Rattle.vhdl_names_rules.specs.units.Units as u
use Rattle.vhdl_names_rules.specs.declared.fault.NameProblem.TheVariants.{Twice, WrongKind, NoSensitivity}
use Rattle.vhdl_names_rules.specs.Rules.{◌>>=◌, ◌>>◌, rule, given_that, each}
use Rattle.vhdl_names_rules.specs.Visibility.{Name, Sight, are_distinct, ends, label_ends, within_generate, with_variables}
use Rattle.vhdl_names_rules.specs.Edges.{Edge, at_edge, waited_edge}
use Rattle.vhdl_names_rules.specs.Expressions.{typed, static_range, condition, as_static_test}
use Rattle.vhdl_names_rules.specs.Choices.{covered, selector, arranged, selecting}
use Rattle.vhdl_names_rules.specs.Declarations.{in_order, process_declaration}
use Rattle.vhdl_names_rules.specs.Interfaces.{EntityView, declared_names}
use Rattle.vhdl_names_rules.specs.Instances.{instance}
use Rattle.vhdl_names_rules.specs.Statements as sequential
use Rattle.vhdl_names_rules.specs.Statements.{signal, signal_target, conditional, alone, statements, label_names, statement_labels}

abbrev pub label_of : Option Ident → Option Name
label_of = option_map (λ l. l.text)

-- a concurrent assignment is a process that is sensitive to what it reads, and starts where the assignment does behind
-- its label (11.6)
abbrev pub assigning : (at : ℕ) → Option Ident → s.Statement → u.Concurrent
assigning at label statement =
    u.process (record {
      at = at;
      label = label_of label;
      declarations = [];
      sensitivity = u.as_read;
      body = s.step statement s.done;
    })

-- ---- conditional and selected assignments (11.6)

unfoldable pub assignment : Sight → t.Assignment → Option u.Concurrent
assignment sight a = do
  x ← signal_target sight a.target
  body ← conditional sight x a.branches a.otherwise
  Some (assigning a.target.identifier.at a.label body)

-- with selector select target <= value when choices, .., as a case
unfoldable pub selected : Sight → Option Ident → t.SelectedAssignment → Option u.Concurrent
selected sight label a = do
  e ← typed sight a.selector
  by ← selector sight.language e
  x ← signal_target sight a.target
  choices ← covered sight by.0 (map (λ w. w.choices) a.waveforms)
  bodies ← each (λ w. option_map alone (sequential.assignment sight x w.value)) a.waveforms
  all ← arranged choices bodies
  Some (assigning a.at label (selecting a.at by.1 all))

-- ---- processes (11.3)

-- A process has a sensitivity list, whose names mean what they mean outside it; or it waits first, and nothing else
-- resumes it.
abbrev pub sensitivity : Sight → t.Sensitivity → (waits : Bool) → Option u.Sensitivity
sensitivity sight t.absent waits = given_that NoSensitivity waits (u.listed [])
sensitivity sight t.every waits = Some u.every
sensitivity sight (t.listed ns) waits =
    option_map (λ xs. u.listed (map (λ x. x.place) xs)) (each (signal sight) ns)

-- What it waits for before its statements: an edge, and behind no sensitivity list (10.2).
abbrev pub awaited : Sight → t.Sensitivity → Option t.Wait → Option (Option Edge)
awaited sight list None = Some None
awaited sight t.absent (Some w) = condition sight w.condition >>= λ c. option_map Some (waited_edge c)
awaited sight list (Some w) = None

-- that edge resumes it,
abbrev pub resumed_by : Option Edge → u.Sensitivity → u.Sensitivity
resumed_by None list = list
resumed_by (Some e) list = u.listed (e.place ∷ [])

-- and its statements are run then: in an if that starts where the wait does
abbrev pub behind_wait : Option t.Wait → Option Edge → s.Statements → s.Statements
behind_wait (Some w) (Some e) xs = alone (s.if_of w.at (at_edge e xs))
behind_wait _ _ xs = xs

-- its declarations are a region that hides outer names, and so are its labels, which hide none
unfoldable pub process : Sight → Option Ident → t.Process → Option u.Process
process sight label p = do
  on ← sensitivity sight p.sensitivity (is_some p.wait)
  ds ← in_order with_variables process_declaration sight p.declarations
  rule Twice (are_distinct (declared_names ds.declared))
  rule Twice (are_distinct (statement_labels (t.statements_of p.statements)))
  edge ← awaited (with_variables sight ds.declared) p.sensitivity p.wait
  body ← statements (with_variables sight ds.declared) (t.statements_of p.statements)
  rule WrongKind (label_ends label p.end_label)
  Some (record {
    at = p.at;
    label = label_of label;
    declarations = ds.analysed;
    sensitivity = resumed_by edge on;
    body = behind_wait p.wait edge body;
  })

-- ---- the labels that stand directly among concurrent statements

abbrev pub concurrent_label : t.Concurrent → List Name
concurrent_label (t.assignment a) = label_names a.label
concurrent_label (t.selected label a) = label_names label
concurrent_label (t.process label p) = label_names label
concurrent_label (t.instance label i) = label.text ∷ []
concurrent_label (t.generated label at scheme word cs end) = label.text ∷ []
concurrent_label (t.assertion a) = label_names a.label

abbrev pub concurrent_labels : t.Concurrents → List Name
concurrent_labels t.no_concurrents = []
concurrent_labels (t.concurrent c cs) = concurrent_label c ++ concurrent_labels cs

-- ---- all statements, with the entities of the file

-- for-generate, whose parameter hides outer names, and if-generate, whose condition is over static integers (11.9)
abbrev pub sight_within : Sight → t.Scheme → Sight
sight_within sight (t.for_each n r) = within_generate sight n
sight_within sight (t.if_holds e) = sight

abbrev pub generated : Sight → Name → (at : ℕ) → t.Scheme → u.Concurrents → Option u.Concurrent
generated sight label at (t.for_each n r) body =
    option_map (λ range. u.generate_for at label range body) (static_range sight r)
generated sight label at (t.if_holds e) body =
    option_map (λ test. u.generate_if at label test body) (typed sight e >>= as_static_test)

module _ (entities : List EntityView) where
  unfoldable mutual
    pub concurrent : Sight → t.Concurrent → Option u.Concurrent
    concurrent sight (t.assignment a) = assignment sight a
    concurrent sight (t.selected label a) = selected sight label a
    concurrent sight (t.process label p) = option_map u.process (process sight label p)
    concurrent sight (t.instance label i) = option_map u.instance (instance entities sight label i)
    concurrent sight (t.generated label at scheme word cs end) = do
      rule WrongKind (ends label.text end)
      rule Twice (are_distinct (concurrent_labels cs))
      body ← concurrents (sight_within sight scheme) cs
      generated sight label.text at scheme body
    concurrent sight (t.assertion a) = None

    pub concurrents : Sight → t.Concurrents → Option u.Concurrents
    concurrents sight t.no_concurrents = Some u.no_concurrents
    -- assert (11.5) is dropped
    concurrents sight (t.concurrent (t.assertion a) cs) = concurrents sight cs
    concurrents sight (t.concurrent c cs) = do
      x ← concurrent sight c
      xs ← concurrents sight cs
      Some (u.concurrent x xs)
