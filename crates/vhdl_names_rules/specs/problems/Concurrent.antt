-- Which rules concurrent statements break (IEEE 1076-2008, clause 11), with the declarations in sight.
use Rattle.std.specs.Prelude.{ℕ, Bool, false, List, [], map, Option, Some, None, is_some}
use Rattle.vhdl_tree.specs.Tree as t
use Rattle.vhdl_tree.specs.Tree.{Ident}
use Rattle.vhdl_names_rules.specs.declared.kind.ObjectType.{ObjectType}
use Rattle.vhdl_names_rules.specs.declared.fault.NameProblem.TheVariants.{NoSensitivity, LeftOut}
use Rattle.vhdl_names_rules.specs.Visibility.{Sight, with_variables}
use Rattle.vhdl_names_rules.specs.Edges.{waited_edge}
use Rattle.vhdl_names_rules.specs.Expressions as expressions
use Rattle.vhdl_names_rules.specs.Declarations as declarations
use Rattle.vhdl_names_rules.specs.Interfaces.{EntityView}
use Rattle.vhdl_names_rules.specs.Concurrent.{sight_within}
use Rattle.vhdl_names_rules.specs.problems.Broken.{Broken, nothing, refused, ◌▸◌, unless, lacking, earlier, where_given, any_of}
use Rattle.vhdl_names_rules.specs.problems.Twice.{twice}
use Rattle.vhdl_names_rules.specs.problems.Labels.{labels_of, statement_labels}
use Rattle.vhdl_names_rules.specs.problems.Expressions.{static_range, condition, static_condition}
use Rattle.vhdl_names_rules.specs.problems.Choices.{choices}
use Rattle.vhdl_names_rules.specs.problems.Covered.{covered, any_alternative}
use Rattle.vhdl_names_rules.specs.problems.Statements.{signal, target, assigned, conditional, end_label, by_selector, statements}
use Rattle.vhdl_names_rules.specs.problems.Declarations.{end_name, in_order, process_declaration}
use Rattle.vhdl_names_rules.specs.problems.Instances.{instance}

-- ---- conditional and selected assignments (11.6)

abbrev pub assignment : Sight → t.Assignment → Broken
assignment sight a = conditional sight false a.target a.branches a.otherwise

-- value when choices
abbrev pub waveform : Sight → ObjectType → t.Name → t.Waveform → Broken
waveform sight type n w = assigned sight n w.value ▸ choices sight type w.choices

abbrev pub waveforms : Sight → ObjectType → t.SelectedAssignment → Broken
waveforms sight type a =
    target sight a.target
    ▸ covered sight type a.at (map (λ w. w.choices) a.waveforms) (any_of (waveform sight type a.target) a.waveforms)
    ▸ any_alternative a.at a.waveforms

abbrev pub selected : Sight → t.SelectedAssignment → Broken
selected sight a = by_selector sight a.selector (λ type. waveforms sight type a)

-- ---- processes (11.3)

-- the process starts at this byte
abbrev pub sensitivity : Sight → ℕ → t.Sensitivity → (waits : Bool) → Broken
sensitivity sight at t.absent waits = unless NoSensitivity at waits
sensitivity sight at t.every waits = nothing
sensitivity sight at (t.listed ns) waits = any_of (signal sight) ns

-- A wait for no edge resumes nothing: the process has no sensitivity list, which is told at the wait, though a
-- condition that is wrong is told behind it. Behind a list a wait is left out.
abbrev pub awaited : Sight → t.Sensitivity → Option t.Wait → Broken
awaited sight list None = nothing
awaited sight t.absent (Some w) =
    condition sight w.condition
    ▸ where_given (expressions.condition sight w.condition) (λ c. lacking NoSensitivity w.at (waited_edge c))
awaited sight list (Some w) = refused LeftOut w.at

-- its labels stand among its statements
abbrev pub body : Sight → t.Statements → Broken
body sight xs = earlier (twice [] (statement_labels xs)) (statements sight xs)

abbrev pub process : Sight → Option Ident → t.Process → Broken
process sight label p =
    sensitivity sight p.at p.sensitivity (is_some p.wait)
    ▸ in_order with_variables declarations.process_declaration process_declaration sight p.declarations
    ▸ where_given (declarations.in_order with_variables declarations.process_declaration sight p.declarations)
    (λ ds. awaited (with_variables sight ds.declared) p.sensitivity p.wait
    ▸ body (with_variables sight ds.declared) (t.statements_of p.statements))
    ▸ end_label label p.end_label

-- ---- all statements, with the entities of the file

abbrev pub scheme : Sight → t.Scheme → Broken
scheme sight (t.for_each n r) = static_range sight r
scheme sight (t.if_holds e) = static_condition sight e

module _ (entities : List EntityView) where
  unfoldable mutual
    pub concurrent : Sight → t.Concurrent → Broken
    concurrent sight (t.assignment a) = assignment sight a
    concurrent sight (t.selected label a) = selected sight a
    concurrent sight (t.process label p) = process sight label p
    concurrent sight (t.instance label i) = instance entities sight label i
    concurrent sight (t.generated label at s word cs end) =
        scheme sight s ▸ earlier (twice [] (labels_of cs)) (concurrents (sight_within sight s) cs) ▸ end_name label end
    concurrent sight (t.assertion a) = nothing

    pub concurrents : Sight → t.Concurrents → Broken
    concurrents sight t.no_concurrents = nothing
    concurrents sight (t.concurrent c cs) = concurrent sight c ▸ concurrents sight cs
