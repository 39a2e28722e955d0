-- The labels of statements, each with its byte (IEEE 1076-2008, 11.1).
use Rattle.std.specs.Prelude.{List, [], ◌∷◌, ◌++◌, Option, Some, None}
use Rattle.vhdl_tree.specs.Tree as t
use Rattle.vhdl_tree.specs.Tree.{Ident}

-- ---- directly among concurrent statements

abbrev pub label_if_any : Option Ident → List Ident
label_if_any None = []
label_if_any (Some l) = l ∷ []

abbrev pub label_of : t.Concurrent → List Ident
label_of (t.assignment a) = label_if_any a.label
label_of (t.selected label a) = label_if_any label
label_of (t.process label p) = label_if_any label
label_of (t.instance label i) = label ∷ []
label_of (t.generated label at scheme word cs end) = label ∷ []
label_of (t.assertion a) = label_if_any a.label

abbrev pub labels_of : t.Concurrents → List Ident
labels_of t.no_concurrents = []
labels_of (t.concurrent c cs) = label_of c ++ labels_of cs

-- ---- inside a process, however deep they stand (10.1)

abbrev mutual
  pub inner_labels : t.Statement → List Ident
  inner_labels (t.null_of at) = []
  inner_labels (t.assigned n v) = []
  inner_labels (t.variable_assigned n v) = []
  inner_labels (t.assigned_when is_variable n bs o) = []
  inner_labels (t.asserted text) = []
  inner_labels (t.reported text) = []
  inner_labels (t.if_of at bs o end) = conditional_labels bs ++ otherwise_labels o
  inner_labels (t.case_of at e alts end) = alternative_labels alts
  inner_labels (t.for_of at n r body end) = statement_labels body

  pub statement_labels : t.Statements → List Ident
  statement_labels t.done = []
  statement_labels (t.step label x xs) = label_if_any label ++ (inner_labels x ++ statement_labels xs)

  pub conditional_labels : t.Conditionals → List Ident
  conditional_labels t.no_conditionals = []
  conditional_labels (t.guarded e body bs) = statement_labels body ++ conditional_labels bs

  pub otherwise_labels : t.Otherwise → List Ident
  otherwise_labels t.no_else = []
  otherwise_labels (t.else_do body) = statement_labels body

  pub alternative_labels : t.Alternatives → List Ident
  alternative_labels t.no_alternatives = []
  alternative_labels (t.alternative cs body more) = statement_labels body ++ alternative_labels more
