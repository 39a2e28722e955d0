-- What is told of concurrent statements stands at a piece of them.
use Rattle.std.proofs.Common.{ℕ, Bool, false, List, [], ◌∷◌, map, Option, Some, None}
use Rattle.std.specs.List.{AllByRecursion}
use Rattle.std.specs.Option.{is_some}
use Rattle.vhdl_lexer.specs.declared.token.TokenKind.TheVariants as k
use Rattle.vhdl_tree.specs.Tree as t
use Rattle.vhdl_tree.specs.Tree.{Ident}
use Rattle.vhdl_tree.specs.Pieces.{spell_ident, spell_option, spell_word, spell_each, spell_list}
use Rattle.vhdl_tree.specs.grammar.Expressions.{spell, spell_name, spell_value, spell_choice}
use Rattle.vhdl_tree.specs.grammar.Waveforms.{spell_waveforms}
use Rattle.vhdl_tree.specs.grammar.Sequential.{spell_label, spell_statements}
use Rattle.vhdl_tree.specs.grammar.Process.{spell_sensitivity, spell_process_declaration, spell_wait, spell_process, spell_waveform, spell_selected}
use Rattle.vhdl_tree.specs.grammar.Concurrent.{spell_assignment, spell_scheme, spell_concurrent, spell_concurrents}
use Rattle.vhdl_names_rules.specs.declared.kind.ObjectType.{ObjectType}
use Rattle.vhdl_names_rules.specs.declared.fault.NameProblem.TheVariants.{NoSensitivity, LeftOut}
use Rattle.vhdl_names_rules.specs.Visibility.{Sight, with_variables}
use Rattle.vhdl_names_rules.specs.Edges.{waited_edge}
use Rattle.vhdl_names_rules.specs.Expressions as expressions
use Rattle.vhdl_names_rules.specs.Declarations as declarations
use Rattle.vhdl_names_rules.specs.Interfaces.{EntityView}
use Rattle.vhdl_names_rules.specs.Concurrent.{sight_within}
use Rattle.vhdl_names_rules.specs.problems.Labels.{labels_of, statement_labels}
use Rattle.vhdl_names_rules.specs.problems.Broken.{◌▸◌, lacking, any_of}
use Rattle.vhdl_names_rules.specs.problems.Statements.{signal}
use Rattle.vhdl_names_rules.specs.problems.Declarations.{process_declaration}
use Rattle.vhdl_names_rules.specs.problems.Concurrent as broken
use Rattle.vhdl_names_laws.proofs.placed.Told.{Stand, EachStands, first, behind, Told, told_nothing, told_refused, told_unless, told_lacking, told_given, told_behind, told_earlier, told_any, each_stands, list_stands}
use Rattle.vhdl_names_laws.proofs.placed.Expressions.{static_range_told, condition_told, static_condition_told}
use Rattle.vhdl_names_laws.proofs.placed.Choices.{ChoicesStand, choices_told, covered_told, any_alternative_told}
use Rattle.vhdl_names_laws.proofs.placed.Statements.{signal_told, target_told, assigned_told, conditional_told, end_told, by_selector_told, statements_told}
use Rattle.vhdl_names_laws.proofs.placed.Declarations.{twice_told, end_name_told, in_order_told, process_declaration_told}
use Rattle.vhdl_names_laws.proofs.placed.Instances.{instance_told}
use Rattle.vhdl_names_laws.proofs.placed.Labels.{labels_stand, statements_stand}

-- ---- conditional and selected assignments

assignment_told : (P : ℕ → Type 0) (sight : Sight) (a : t.Assignment) → Stand P (spell_assignment a) → Told P (broken.assignment sight a)
assignment_told P sight a h =
    let all = behind P (spell_option spell_label a.label) _ h in
    conditional_told P sight false a.target a.branches a.otherwise (first P (spell_name a.target) _ all) (first P (spell_waveforms a.branches a.otherwise) _ (behind P (spell_name a.target) _ all).1)

pub waveform_choices : (P : ℕ → Type 0) (ws : List t.Waveform) → EachStands P spell_waveform ws → AllByRecursion (ChoicesStand P) (map (λ w. w.choices) ws)
waveform_choices P [] h = tt
waveform_choices P (w ∷ ws) h = (list_stands P k.Bar spell_choice w.choices (behind P (spell_value w.value) _ h.0).1, waveform_choices P ws h.1)

waveform_told : (P : ℕ → Type 0) (sight : Sight) (type : ObjectType) (n : t.Name) → Stand P (spell_name n) → (w : t.Waveform) → Stand P (spell_waveform w) → Told P (broken.waveform sight type n w)
waveform_told P sight type n h w g =
    told_behind (assigned_told P sight n w.value h (first P (spell_value w.value) _ g))
    (choices_told P sight type w.choices (list_stands P k.Bar spell_choice w.choices (behind P (spell_value w.value) _ g).1))

selected_told : (P : ℕ → Type 0) (sight : Sight) (a : t.SelectedAssignment) → Stand P (spell_selected a) → Told P (broken.selected sight a)
selected_told P sight a h =
    let all = (behind P (spell a.selector) _ h.1).1 in
    let n = first P (spell_name a.target) _ all in
    let ws = list_stands P k.Comma spell_waveform a.waveforms (first P (spell_list k.Comma spell_waveform a.waveforms) _ (behind P (spell_name a.target) _ all).1) in
    by_selector_told P sight a.selector (λ type. broken.waveforms sight type a) (first P (spell a.selector) _ h.1)
    (λ type. told_behind (target_told P sight a.target n)
    (told_behind (covered_told P sight type a.at (map (λ w. w.choices) a.waveforms) (any_of (broken.waveform sight type a.target) a.waveforms) h.0 (waveform_choices P a.waveforms ws)
    (told_any (λ w. Stand P (spell_waveform w)) (broken.waveform sight type a.target) (waveform_told P sight type a.target n) a.waveforms ws))
    (any_alternative_told P a.at a.waveforms h.0)))

-- ---- processes

sensitivity_told : (P : ℕ → Type 0) (sight : Sight) (at : ℕ) (s : t.Sensitivity) (waits : Bool) → P at → Stand P (spell_sensitivity s) → Told P (broken.sensitivity sight at s waits)
sensitivity_told P sight at t.absent waits h g = told_unless NoSensitivity at waits h
sensitivity_told P sight at t.every waits h g = told_nothing
sensitivity_told P sight at (t.listed ns) waits h g =
    told_any (λ n. Stand P (spell_name n)) (signal sight) (signal_told P sight) ns (list_stands P k.Comma spell_name ns (first P (spell_list k.Comma spell_name ns) _ g.1))

awaited_told : (P : ℕ → Type 0) (sight : Sight) (s : t.Sensitivity) (wait : Option t.Wait) → Stand P (spell_option spell_wait wait) → Told P (broken.awaited sight s wait)
awaited_told P sight s None h = told_nothing
awaited_told P sight t.absent (Some w) h =
    told_behind (condition_told P sight w.condition (first P (spell w.condition) _ h.1.1))
    (told_given (expressions.condition sight w.condition) (λ x. lacking NoSensitivity w.at (waited_edge x)) (λ x. told_lacking NoSensitivity w.at (waited_edge x) h.0))
awaited_told P sight _ (Some w) h = told_refused LeftOut w.at h.0

process_told : (P : ℕ → Type 0) (sight : Sight) (label : Option Ident) (p : t.Process) → Stand P (spell_process p) → Told P (broken.process sight label p)
process_told P sight label p h =
    let word = behind P (spell_sensitivity p.sensitivity) _ h.1 in
    let declared = behind P (spell_word k.Is p.is_word) _ word in
    let ds = each_stands P spell_process_declaration p.declarations (first P (spell_each spell_process_declaration p.declarations) _ declared) in
    let inner = (behind P (spell_each spell_process_declaration p.declarations) _ declared).1 in
    let waits = first P (spell_option spell_wait p.wait) _ inner in
    let body = behind P (spell_option spell_wait p.wait) _ inner in
    let xs = t.statements_of p.statements in
    let stands = first P (spell_statements xs) _ body in
    told_behind (sensitivity_told P sight p.at p.sensitivity (is_some p.wait) h.0 (first P (spell_sensitivity p.sensitivity) _ h.1))
    (told_behind (in_order_told P (λ d. Stand P (spell_process_declaration d)) with_variables declarations.process_declaration process_declaration (process_declaration_told P) p.declarations sight ds)
    (told_behind (told_given (declarations.in_order with_variables declarations.process_declaration sight p.declarations)
    (λ ds. broken.awaited (with_variables sight ds.declared) p.sensitivity p.wait ▸ broken.body (with_variables sight ds.declared) xs)
    (λ x. told_behind (awaited_told P (with_variables sight x.declared) p.sensitivity p.wait waits)
    (told_earlier (twice_told P (statement_labels xs) [] (statements_stand xs P stands)) (statements_told xs P (with_variables sight x.declared) stands))))
    (end_told P k.Process label p.end_label (behind P (spell_statements xs) _ body))))

-- ---- all statements

scheme_told : (P : ℕ → Type 0) (sight : Sight) (at : ℕ) (s : t.Scheme) → Stand P (spell_scheme at s) → Told P (broken.scheme sight s)
scheme_told P sight at (t.for_each n r) h = static_range_told P sight r h.1.1.1
scheme_told P sight at (t.if_holds e) h = static_condition_told P sight e h.1

mutual
  unfolding broken.concurrent

  concurrent_told : (c : t.Concurrent) (P : ℕ → Type 0) (entities : List EntityView) (sight : Sight) → Stand P (spell_concurrent c) → Told P (broken.concurrent entities sight c)
  concurrent_told (t.assignment a) P entities sight h = assignment_told P sight a h
  concurrent_told (t.selected label a) P entities sight h = selected_told P sight a (behind P (spell_option spell_label label) (spell_selected a) h)
  concurrent_told (t.process label p) P entities sight h = process_told P sight label p (behind P (spell_option spell_label label) (spell_process p) h)
  concurrent_told (t.instance label i) P entities sight h = instance_told P entities sight label i h.0 h.1.1
  concurrent_told (t.generated label at s word cs end) P entities sight h =
      let g = (behind P (spell_scheme at s) _ h.1.1).1 in
      let body = behind P (spell_word k.Begin word) _ g in
      let inner = first P (spell_concurrents cs) _ body in
      told_behind (scheme_told P sight at s (first P (spell_scheme at s) _ h.1.1))
      (told_behind (told_earlier (twice_told P (labels_of cs) [] (labels_stand P cs inner)) (concurrents_told cs P entities (sight_within sight s) inner))
      (end_name_told P label end (first P (spell_option spell_ident end) _ (behind P (spell_concurrents cs) _ body).1.1)))
  concurrent_told (t.assertion a) P entities sight h = told_nothing

  pub concurrents_told : (cs : t.Concurrents) (P : ℕ → Type 0) (entities : List EntityView) (sight : Sight) → Stand P (spell_concurrents cs) → Told P (broken.concurrents entities sight cs)
  concurrents_told t.no_concurrents P entities sight h = told_nothing
  concurrents_told (t.concurrent c cs) P entities sight h =
      told_behind (concurrent_told c P entities sight (first P (spell_concurrent c) (spell_concurrents cs) h))
      (concurrents_told cs P entities sight (behind P (spell_concurrent c) (spell_concurrents cs) h))
