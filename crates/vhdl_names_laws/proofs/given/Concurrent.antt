-- Concurrent statements that break no rule are given (IEEE 1076-2008, clause 11).
use Rattle.std.proofs.Common.{◌≡◌, ℕ, Bool, true, false, List, [], ◌∷◌, ◌++◌, map, Option, Some, None, refl, ap, sym, ◌∙◌}
use Rattle.std.specs.Prelude.{option_map, is_some}
use Rattle.std.proofs.lemmas.List.{length-map}
use Rattle.vhdl_tree.specs.Tree as t
use Rattle.vhdl_tree.specs.Tree.{Ident}
use Rattle.vhdl_names_rules.specs.declared.kind.ObjectType.{ObjectType}
use Rattle.vhdl_names_rules.specs.units.Units as u
use Rattle.vhdl_names_rules.specs.Rules.{◌>>=◌, each}
use Rattle.vhdl_names_rules.specs.Visibility.{Name, Sight, are_distinct, ends, label_ends, with_variables}
use Rattle.vhdl_names_rules.specs.declared.fault.NameProblem.TheVariants.{NoSensitivity}
use Rattle.vhdl_names_rules.specs.Edges.{waited_edge}
use Rattle.vhdl_names_rules.specs.Expressions.{typed, static_range, condition, as_static_test}
use Rattle.vhdl_names_rules.specs.Choices.{choices, covered, selector, arranged, selecting}
use Rattle.vhdl_names_rules.specs.Declarations.{in_order, process_declaration}
use Rattle.vhdl_names_rules.specs.Interfaces.{EntityView, declared_names}
use Rattle.vhdl_names_rules.specs.Instances.{instance}
use Rattle.vhdl_names_rules.specs.Statements.{SignalName, signal, Target, signal_target, assignment, alone, conditional, statements, statement_labels}
use Rattle.vhdl_names_rules.specs.Concurrent as are
use Rattle.vhdl_names_rules.specs.Concurrent.{assigning, sight_within, concurrent_labels}
use Rattle.vhdl_names_rules.specs.problems.Broken.{◌▸◌, lacking, any_of}
use Rattle.vhdl_names_rules.specs.problems.Twice.{twice}
use Rattle.vhdl_names_rules.specs.problems.Labels as labels
use Rattle.vhdl_names_rules.specs.problems.Statements as sequential
use Rattle.vhdl_names_rules.specs.problems.Concurrent as broken
use Rattle.vhdl_names_rules.proofs.Telling.{IsKept}
use Rattle.vhdl_names_rules.proofs.kept.Keeping.{among_left, among_right}
use Rattle.vhdl_names_rules.proofs.kept.Twice.{once_distinct}
use Rattle.vhdl_names_rules.proofs.kept.Labels.{labels_named, statements_named}
use Rattle.vhdl_names_laws.proofs.given.Giving.{IsGiven, this, bound, bound_behind, ruled, mapped_given, parts, given, of_given, each_given}
use Rattle.vhdl_names_laws.proofs.given.Expressions.{static_range_given, condition_given, static_condition_given}
use Rattle.vhdl_names_laws.proofs.given.Choices.{choices_given, covered_is, of_alternatives, each_length, arranged_given, selected_given}
use Rattle.vhdl_names_laws.proofs.given.Statements.{signal_given, signal_target_given, assigned_given, conditional_given, statements_given, end_label_given}
use Rattle.vhdl_names_laws.proofs.given.Declarations.{process_declarations_given, end_name_given}
use Rattle.vhdl_names_laws.proofs.given.Instances.{instance_given}

-- ---- conditional and selected assignments

assignment_given : (sight : Sight) (a : t.Assignment) → IsKept (broken.assignment sight a) → IsGiven (are.assignment sight a)
unfolding are.assignment
assignment_given sight a h =
    bound_behind (signal_target sight a.target) (λ x. conditional sight x a.branches a.otherwise) (λ body. Some (assigning a.target.identifier.at a.label body))
    (conditional_given sight false a.target a.branches a.otherwise h) (λ body. this (assigning a.target.identifier.at a.label body))

waveforms_given : (sight : Sight) (n : t.Name) (x : Target) (is : signal_target sight n ≡ Some x) (type : ObjectType) (ws : List t.Waveform) → IsKept (any_of (broken.waveform sight type n) ws)
    → IsGiven (each (λ (w : t.Waveform). option_map alone (assignment sight x w.value)) ws)
waveforms_given sight n x is type [] h = this []
waveforms_given sight n x is type (w ∷ ws) h =
    let k = parts _ _ h in
    let y = mapped_given alone (assignment sight x w.value) (assigned_given sight n w.value x is (parts _ _ k.0).0) in
    let ys = waveforms_given sight n x is type ws k.1 in
    bound (option_map alone (assignment sight x w.value)) _ y.value y.is
    (bound (each (λ (w : t.Waveform). option_map alone (assignment sight x w.value)) ws) (λ ys. Some (y.value ∷ ys)) ys.value ys.is (this (y.value ∷ ys.value)))

-- the choices of waveforms
choices_of_waveforms : (sight : Sight) (type : ObjectType) (n : t.Name) (ws : List t.Waveform) → IsKept (any_of (broken.waveform sight type n) ws)
    → IsGiven (each (choices sight type) (map (λ (w : t.Waveform). w.choices) ws))
choices_of_waveforms sight type n [] h = this []
choices_of_waveforms sight type n (w ∷ ws) h =
    let k = parts _ _ h in
    let c = choices_given sight type w.choices (parts _ _ k.0).1 in
    let cs = choices_of_waveforms sight type n ws k.1 in
    bound (choices sight type w.choices) _ c.value c.is
    (bound (each (choices sight type) (map (λ (w : t.Waveform). w.choices) ws)) (λ cs. Some (c.value ∷ cs)) cs.value cs.is (this (c.value ∷ cs.value)))

selected_is : (sight : Sight) (label : Option Ident) (a : t.SelectedAssignment) → IsKept (broken.selected sight a) → IsGiven (are.selected sight label a)
unfolding are.selected
selected_is sight label a h =
    let lists : List (List t.Choice) = map (λ (w : t.Waveform). w.choices) a.waveforms in
    let c = selected_given sight a.selector (λ type. broken.waveforms sight type a) h in
    let type : ObjectType = c.by.0 in
    let k = parts _ _ c.rest in
    let l = parts _ _ k.1 in
    let x = signal_target_given sight a.target k.0 in
    let whole = of_alternatives sight type a.at lists (any_of (broken.waveform sight type a.target) a.waveforms) l.0 in
    let cs = choices_of_waveforms sight type a.target a.waveforms whole in
    let bodies = waveforms_given sight a.target x.value x.is type a.waveforms whole in
    let all = arranged_given a.at a.waveforms cs.value bodies.value l.1
    (each_length (choices sight type) lists cs.value cs.is ∙ length-map a.waveforms (λ (w : t.Waveform). w.choices))
    (each_length (λ (w : t.Waveform). option_map alone (assignment sight x.value w.value)) a.waveforms bodies.value bodies.is) in
    bound (typed sight a.selector) _ c.operand c.typed_is
    (bound (selector sight.language c.operand) _ c.by c.selected
    (bound (signal_target sight a.target) _ x.value x.is
    (bound (covered sight type lists) _ cs.value (covered_is sight type a.at lists (any_of (broken.waveform sight type a.target) a.waveforms) cs.value cs.is l.0)
    (bound (each (λ (w : t.Waveform). option_map alone (assignment sight x.value w.value)) a.waveforms) _ bodies.value bodies.is
    (bound (arranged cs.value bodies.value) (λ all. Some (assigning a.at label (selecting a.at c.by.1 all))) all.value all.is (this (assigning a.at label (selecting a.at c.by.1 all.value))))))))

-- ---- processes

sensitivity_given : (sight : Sight) (p : t.Process) (o : t.Sensitivity) (waits : Bool) → IsKept (broken.sensitivity sight p.at o waits) → IsGiven (are.sensitivity sight o waits)
sensitivity_given sight p t.absent true h = this (u.listed [])
sensitivity_given sight p t.absent false h = absurd cc
sensitivity_given sight p t.every waits h = this u.every
sensitivity_given sight p (t.listed ns) waits h =
    let places : List SignalName → u.Sensitivity = λ xs. u.listed (map (λ (x : SignalName). x.place) xs) in
    mapped_given places (each (signal sight) ns) (each_given (sequential.signal sight) (signal sight) (signal_given sight) ns h)

awaited_given : (sight : Sight) (o : t.Sensitivity) (wait : Option t.Wait) → IsKept (broken.awaited sight o wait) → IsGiven (are.awaited sight o wait)
awaited_given sight o None h = this None
awaited_given sight t.absent (Some w) h =
    let k = parts _ _ h in
    let c = condition_given sight w.condition k.0 in
    let l = of_given (λ x. lacking NoSensitivity w.at (waited_edge x)) (condition sight w.condition) c.value c.is k.1 in
    bound (condition sight w.condition) _ c.value c.is (mapped_given Some (waited_edge c.value) (given NoSensitivity w.at (waited_edge c.value) l))
awaited_given sight _ (Some w) h = absurd cc

inner_labels_distinct : (xs : t.Statements) → IsKept (twice [] (labels.statement_labels xs)) → are_distinct (statement_labels xs) ≡ true
inner_labels_distinct xs h = ap are_distinct (sym (statements_named xs)) ∙ once_distinct [] (labels.statement_labels xs) refl h

labels_distinct : (cs : t.Concurrents) → IsKept (twice [] (labels.labels_of cs)) → are_distinct (concurrent_labels cs) ≡ true
labels_distinct cs h = ap are_distinct (sym (labels_named cs)) ∙ once_distinct [] (labels.labels_of cs) refl h

process_given : (sight : Sight) (label : Option Ident) (p : t.Process) → sight.variables ≡ [] → IsKept (broken.process sight label p) → IsGiven (are.process sight label p)
unfolding are.process
process_given sight label p none h =
    let xs : t.Statements = t.statements_of p.statements in
    let k = parts _ _ h in
    let l = parts _ _ k.1 in
    let m = parts _ _ l.1 in
    let on = sensitivity_given sight p p.sensitivity (is_some p.wait) k.0 in
    let vs = process_declarations_given p.declarations sight (ap (λ r. are_distinct (declared_names r)) none) l.0 in
    let distinct : are_distinct (declared_names vs.value.declared) ≡ true = ap (λ r. are_distinct (declared_names (r ++ vs.value.declared))) (sym none) ∙ vs.distinct in
    let inner : Sight = with_variables sight vs.value.declared in
    let both =
    parts _ _ (of_given (λ vs. broken.awaited (with_variables sight vs.declared) p.sensitivity p.wait ▸ broken.body (with_variables sight vs.declared) xs)
    (in_order with_variables process_declaration sight p.declarations) vs.value vs.is m.0) in
    let edge = awaited_given inner p.sensitivity p.wait both.0 in
    let whole = both.1 in
    let body = statements_given xs inner (among_right (twice [] (labels.statement_labels xs)) (sequential.statements inner xs) whole) in
    bound (are.sensitivity sight p.sensitivity (is_some p.wait)) _ on.value on.is
    (bound (in_order with_variables process_declaration sight p.declarations) _ vs.value vs.is
    (ruled (are_distinct (declared_names vs.value.declared)) _ distinct
    (ruled (are_distinct (statement_labels xs)) _
    (inner_labels_distinct xs (among_left (twice [] (labels.statement_labels xs)) (sequential.statements inner xs) whole))
    (bound (are.awaited inner p.sensitivity p.wait) _ edge.value edge.is
    (bound (statements inner xs) _ body.value body.is
    (ruled (label_ends label p.end_label) _ (end_label_given label p.end_label m.1) (this _)))))))

-- ---- all statements

generated_given : (sight : Sight) (label : Name) (at : ℕ) (o : t.Scheme) (body : u.Concurrents) → IsKept (broken.scheme sight o) → IsGiven (are.generated sight label at o body)
generated_given sight label at (t.for_each n r) body h = mapped_given (λ range. u.generate_for at label range body) (static_range sight r) (static_range_given sight r h)
generated_given sight label at (t.if_holds e) body h =
    mapped_given (λ test. u.generate_if at label test body) (typed sight e >>= as_static_test) (static_condition_given sight e h)

-- a generate has no variables in sight
variables_within : (sight : Sight) (s : t.Scheme) → sight.variables ≡ [] → (sight_within sight s).variables ≡ []
variables_within sight (t.for_each n r) none = none
variables_within sight (t.if_holds e) none = none

-- an assertion is dropped
abbrev is_assertion : t.Concurrent → Bool
is_assertion (t.assertion a) = true
is_assertion _ = false

mutual
  unfolding are.concurrent broken.concurrent

  concurrent_given : (c : t.Concurrent) (entities : List EntityView) (sight : Sight) → is_assertion c ≡ false → sight.variables ≡ [] → IsKept (broken.concurrent entities sight c)
      → IsGiven (are.concurrent entities sight c)
  concurrent_given (t.assignment a) entities sight e none h = assignment_given sight a h
  concurrent_given (t.selected label a) entities sight e none h = selected_is sight label a h
  concurrent_given (t.process label p) entities sight e none h = mapped_given u.process (are.process sight label p) (process_given sight label p none h)
  concurrent_given (t.instance label i) entities sight e none h = mapped_given u.instance (instance entities sight label i) (instance_given entities sight label i h)
  concurrent_given (t.generated label at scheme word cs end) entities sight e none h =
      let k = parts _ _ h in
      let l = parts _ _ k.1 in
      let inner : Sight = sight_within sight scheme in
      let body = concurrents_given cs entities inner (variables_within sight scheme none) (among_right (twice [] (labels.labels_of cs)) (broken.concurrents entities inner cs) l.0) in
      ruled (ends label.text end) _ (end_name_given label end l.1)
      (ruled (are_distinct (concurrent_labels cs)) _ (labels_distinct cs (among_left (twice [] (labels.labels_of cs)) (broken.concurrents entities inner cs) l.0))
      (bound (are.concurrents entities inner cs) (are.generated sight label.text at scheme) body.value body.is
      (generated_given sight label.text at scheme body.value k.0)))
  concurrent_given (t.assertion a) entities sight e none h = absurd cc

  pub concurrents_given : (cs : t.Concurrents) (entities : List EntityView) (sight : Sight) → sight.variables ≡ [] → IsKept (broken.concurrents entities sight cs)
      → IsGiven (are.concurrents entities sight cs)
  concurrents_given t.no_concurrents entities sight none h = this u.no_concurrents
  concurrents_given (t.concurrent (t.assertion a) cs) entities sight none h = concurrents_given cs entities sight none (parts (broken.concurrent entities sight (t.assertion a)) _ h).1
  concurrents_given (t.concurrent c cs) entities sight none h =
      let k = parts _ _ h in
      let x = concurrent_given c entities sight refl none k.0 in
      let xs = concurrents_given cs entities sight none k.1 in
      bound (are.concurrent entities sight c) (λ x. are.concurrents entities sight cs >>= λ xs. Some (u.concurrent x xs)) x.value x.is
      (bound (are.concurrents entities sight cs) (λ xs. Some (u.concurrent x.value xs)) xs.value xs.is (this (u.concurrent x.value xs.value)))
