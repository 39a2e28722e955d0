-- Concurrent statements that are given break no rule (IEEE 1076-2008, clause 11).
use Rattle.std.proofs.Common.{◌≡◌, ℕ, Bool, true, false, List, [], ◌∷◌, ◌++◌, map, Option, Some, None, ap, ◌∙◌}
use Rattle.std.specs.Prelude.{option_map, is_some}
use Rattle.vhdl_tree.specs.Tree as t
use Rattle.vhdl_tree.specs.Tree.{Ident}
use Rattle.vhdl_names_rules.specs.declared.kind.ObjectType.{ObjectType}
use Rattle.vhdl_names_rules.specs.units.Statements as s
use Rattle.vhdl_names_rules.specs.units.Units as u
use Rattle.vhdl_names_rules.specs.Rules.{◌>>=◌, each}
use Rattle.vhdl_names_rules.specs.Visibility.{Name, Sight, are_distinct, ends, with_variables}
use Rattle.vhdl_names_rules.specs.declared.fault.NameProblem.TheVariants.{NoSensitivity}
use Rattle.vhdl_names_rules.specs.Edges.{Edge, waited_edge}
use Rattle.vhdl_names_rules.specs.Expressions.{typed, static_range, condition, as_static_test}
use Rattle.vhdl_names_rules.specs.Choices.{choices}
use Rattle.vhdl_names_rules.specs.Declarations.{in_order, process_declaration}
use Rattle.vhdl_names_rules.specs.Interfaces.{EntityView, declared_names}
use Rattle.vhdl_names_rules.specs.Instances.{instance}
use Rattle.vhdl_names_rules.specs.Statements as given
use Rattle.vhdl_names_rules.specs.Statements.{SignalName, Target, signal, signal_target, target_by, conditional, alone, statement_labels}
use Rattle.vhdl_names_rules.specs.Concurrent as are
use Rattle.vhdl_names_rules.specs.Concurrent.{sight_within, concurrent_labels}
use Rattle.vhdl_names_rules.specs.problems.Broken.{◌▸◌, lacking, any_of}
use Rattle.vhdl_names_rules.specs.problems.Twice.{twice}
use Rattle.vhdl_names_rules.specs.problems.Labels as labels
use Rattle.vhdl_names_rules.specs.problems.Covered.{any_alternative}
use Rattle.vhdl_names_rules.specs.problems.Statements as sequential
use Rattle.vhdl_names_rules.specs.problems.Concurrent as broken
use Rattle.vhdl_names_rules.proofs.laws.Rules.{comes, kept}
use Rattle.vhdl_names_rules.proofs.laws.Parts.{selected_parts, process_parts}
use Rattle.vhdl_names_rules.proofs.Telling.{IsKept, both_kept, lacking_kept, given_kept}
use Rattle.vhdl_names_rules.proofs.kept.Keeping.{nothing_kept, mapped, each_kept, among_kept}
use Rattle.vhdl_names_rules.proofs.kept.Twice.{twice_kept}
use Rattle.vhdl_names_rules.proofs.kept.Labels.{labels_named, statements_named}
use Rattle.vhdl_names_rules.proofs.kept.Expressions.{static_range_kept, condition_kept, static_condition_kept}
use Rattle.vhdl_names_rules.proofs.kept.Choices.{choices_kept}
use Rattle.vhdl_names_rules.proofs.kept.Covered.{covered_kept, any_alternative_kept, choices_of_covered}
use Rattle.vhdl_names_rules.proofs.kept.Statements.{signal_kept, signal_target_kept, target_by_kept, assigned_kept, conditional_kept, end_label_kept, by_selector_kept, statements_kept}
use Rattle.vhdl_names_rules.proofs.kept.Declarations.{process_declarations_kept, end_name_kept}
use Rattle.vhdl_names_rules.proofs.kept.Instances.{instance_kept}

-- ---- conditional and selected assignments

pub assignment_kept : (sight : Sight) (a : t.Assignment) (y : u.Concurrent) → are.assignment sight a ≡ Some y → IsKept (broken.assignment sight a)
unfolding are.assignment
assignment_kept sight a y h =
    let x = comes (signal_target sight a.target) _ y h in
    let body = comes (conditional sight x.value a.branches a.otherwise) _ y x.rest in
    both_kept _ _ (target_by_kept sight false a.target x.value x.is)
    (conditional_kept sight (target_by sight false a.target) x.value x.is a.branches a.otherwise body.value body.is)

pub waveforms_kept : (sight : Sight) (type : ObjectType) (n : t.Name) (x : Target) (ws : List t.Waveform) (css : List (List s.Choice)) (ys : List s.Statements)
    → signal_target sight n ≡ Some x → each (choices sight type) (map (λ (w : t.Waveform). w.choices) ws) ≡ Some css
    → each (λ (w : t.Waveform). option_map alone (given.assignment sight x w.value)) ws ≡ Some ys → IsKept (any_of (broken.waveform sight type n) ws)
waveforms_kept sight type n x [] css ys is g h = nothing_kept
waveforms_kept sight type n x (w ∷ ws) css ys is g h =
    let a = comes (choices sight type w.choices) _ css g in
    let b = comes (each (choices sight type) (map (λ (w : t.Waveform). w.choices) ws)) _ css a.rest in
    let c = comes (option_map alone (given.assignment sight x w.value)) _ ys h in
    let m = mapped alone (given.assignment sight x w.value) c.value c.is in
    let d = comes (each (λ (w : t.Waveform). option_map alone (given.assignment sight x w.value)) ws) _ ys c.rest in
    both_kept _ _ (both_kept _ _ (assigned_kept sight n w.value x m.value is m.from) (choices_kept sight type w.choices a.value a.is))
    (waveforms_kept sight type n x ws b.value d.value is b.is d.is)

-- there are waveforms where there are lists of their choices
any_waveform : (at : ℕ) (ws : List t.Waveform) → IsKept (any_alternative at (map (λ (w : t.Waveform). w.choices) ws)) → IsKept (any_alternative at ws)
any_waveform at [] h = h
any_waveform at (w ∷ ws) h = h

pub selected_kept : (sight : Sight) (label : Option Ident) (a : t.SelectedAssignment) (y : u.Concurrent) → are.selected sight label a ≡ Some y → IsKept (broken.selected sight a)
selected_kept sight label a y h =
    let lists : List (List t.Choice) = map (λ (w : t.Waveform). w.choices) a.waveforms in
    let p = selected_parts sight label a y h in
    let type : ObjectType = p.chosen.by.value.0 in
    by_selector_kept sight a.selector (λ type. broken.waveforms sight type a) p.chosen.operand.value p.chosen.by.value p.chosen.operand.is p.chosen.by.is
    (both_kept _ _ (signal_target_kept sight a.target p.to.value p.to.is)
    (both_kept _ _
    (covered_kept sight type a.at lists (any_of (broken.waveform sight type a.target) a.waveforms) p.chosen.choices.value p.chosen.choices.is
    (waveforms_kept sight type a.target p.to.value a.waveforms p.chosen.choices.value p.chosen.bodies.value p.to.is (choices_of_covered sight type lists p.chosen.choices.value p.chosen.choices.is) p.chosen.bodies.is))
    (any_waveform a.at a.waveforms (any_alternative_kept sight type a.at lists p.chosen.choices.value p.chosen.bodies.value p.chosen.all.value p.chosen.choices.is p.chosen.all.is))))

-- ---- processes

pub sensitivity_kept : (sight : Sight) (at : ℕ) (o : t.Sensitivity) (waits : Bool) (y : u.Sensitivity) → are.sensitivity sight o waits ≡ Some y
    → IsKept (broken.sensitivity sight at o waits)
sensitivity_kept sight at t.absent true y h = nothing_kept
sensitivity_kept sight at t.absent false y h = absurd cc
sensitivity_kept sight at t.every waits y h = nothing_kept
sensitivity_kept sight at (t.listed ns) waits y h =
    let places : List SignalName → u.Sensitivity = λ xs. u.listed (map (λ (x : SignalName). x.place) xs) in
    let m = mapped places (each (signal sight) ns) y h in
    each_kept (sequential.signal sight) (signal sight) (signal_kept sight) ns m.value m.from

pub awaited_kept : (sight : Sight) (o : t.Sensitivity) (wait : Option t.Wait) (y : Option Edge) → are.awaited sight o wait ≡ Some y → IsKept (broken.awaited sight o wait)
awaited_kept sight o None y h = nothing_kept
awaited_kept sight t.absent (Some w) y h =
    let c = comes (condition sight w.condition) _ y h in
    let m = mapped Some (waited_edge c.value) y c.rest in
    both_kept _ _ (condition_kept sight w.condition c.value c.is)
    (given_kept (λ x. lacking NoSensitivity w.at (waited_edge x)) (condition sight w.condition) c.value c.is
    (lacking_kept NoSensitivity w.at (waited_edge c.value) m.value m.from))
awaited_kept sight _ (Some w) y h = absurd cc

-- labels that are distinct stand once
pub inner_labels_kept : (xs : t.Statements) → are_distinct (statement_labels xs) ≡ true → IsKept (twice [] (labels.statement_labels xs))
inner_labels_kept xs h = twice_kept [] (labels.statement_labels xs) (ap are_distinct (statements_named xs) ∙ h)

pub labels_kept : (cs : t.Concurrents) → are_distinct (concurrent_labels cs) ≡ true → IsKept (twice [] (labels.labels_of cs))
labels_kept cs h = twice_kept [] (labels.labels_of cs) (ap are_distinct (labels_named cs) ∙ h)

-- no variables are in sight of a process but its own
pub process_kept : (sight : Sight) (label : Option Ident) (p : t.Process) (y : u.Process) → sight.variables ≡ [] → are.process sight label p ≡ Some y
    → IsKept (broken.process sight label p)
process_kept sight label p y none h =
    let d = process_parts sight label p y h in
    both_kept _ _ (sensitivity_kept sight p.at p.sensitivity (is_some p.wait) d.on.value d.on.is)
    (both_kept _ _ (process_declarations_kept p.declarations sight d.own.value d.own.is (ap (λ r. are_distinct (declared_names (r ++ d.own.value.declared))) none ∙ d.own_distinct))
    (both_kept _ _
    (given_kept
    (λ vs. broken.awaited (with_variables sight vs.declared) p.sensitivity p.wait ▸ broken.body (with_variables sight vs.declared) (t.statements_of p.statements))
    (in_order with_variables process_declaration sight p.declarations) d.own.value d.own.is
    (both_kept _ _ (awaited_kept (with_variables sight d.own.value.declared) p.sensitivity p.wait d.edge.value d.edge.is)
    (among_kept _ _ (inner_labels_kept (t.statements_of p.statements) d.labels_distinct)
    (statements_kept (t.statements_of p.statements) (with_variables sight d.own.value.declared) d.body.value d.body.is))))
    (end_label_kept label p.end_label d.ended)))

-- ---- all statements

pub scheme_kept : (sight : Sight) (label : Name) (at : ℕ) (o : t.Scheme) (body : u.Concurrents) (y : u.Concurrent) → are.generated sight label at o body ≡ Some y
    → IsKept (broken.scheme sight o)
scheme_kept sight label at (t.for_each n r) body y h =
    let m = mapped (λ range. u.generate_for at label range body) (static_range sight r) y h in
    static_range_kept sight r m.value m.from
scheme_kept sight label at (t.if_holds e) body y h =
    let m = mapped (λ test. u.generate_if at label test body) (typed sight e >>= as_static_test) y h in
    static_condition_kept sight e m.value m.from

variables_within : (sight : Sight) (s : t.Scheme) → sight.variables ≡ [] → (sight_within sight s).variables ≡ []
variables_within sight (t.for_each n r) none = none
variables_within sight (t.if_holds e) none = none

mutual
  unfolding are.concurrent broken.concurrent

  pub concurrent_kept : (c : t.Concurrent) (entities : List EntityView) (sight : Sight) (x : u.Concurrent) → sight.variables ≡ [] → are.concurrent entities sight c ≡ Some x
      → IsKept (broken.concurrent entities sight c)
  concurrent_kept (t.assignment a) entities sight x none h = assignment_kept sight a x h
  concurrent_kept (t.selected label a) entities sight x none h = selected_kept sight label a x h
  concurrent_kept (t.process label p) entities sight x none h =
      let m = mapped u.process (are.process sight label p) x h in
      process_kept sight label p m.value none m.from
  concurrent_kept (t.instance label i) entities sight x none h =
      let m = mapped u.instance (instance entities sight label i) x h in
      instance_kept entities sight label i m.value m.from
  concurrent_kept (t.generated label at s word cs end) entities sight x none h =
      let a = kept (ends label.text end) _ x h in
      let b = kept (are_distinct (concurrent_labels cs)) _ x a.1 in
      let body = comes (are.concurrents entities (sight_within sight s) cs) _ x b.1 in
      both_kept _ _ (scheme_kept sight label.text at s body.value x body.rest)
      (both_kept _ _
      (among_kept _ _ (labels_kept cs b.0) (concurrents_kept cs entities (sight_within sight s) body.value (variables_within sight s none) body.is))
      (end_name_kept label end a.0))
  concurrent_kept (t.assertion a) entities sight x none h = absurd cc

  pub concurrents_kept : (cs : t.Concurrents) (entities : List EntityView) (sight : Sight) (xs : u.Concurrents) → sight.variables ≡ []
      → are.concurrents entities sight cs ≡ Some xs → IsKept (broken.concurrents entities sight cs)
  concurrents_kept t.no_concurrents entities sight xs none h = nothing_kept
  concurrents_kept (t.concurrent (t.assertion a) cs) entities sight xs none h = both_kept _ _ nothing_kept (concurrents_kept cs entities sight xs none h)
  concurrents_kept (t.concurrent c cs) entities sight xs none h =
      let a = comes (are.concurrent entities sight c) _ xs h in
      let b = comes (are.concurrents entities sight cs) _ xs a.rest in
      both_kept _ _ (concurrent_kept c entities sight a.value none a.is) (concurrents_kept cs entities sight b.value none b.is)
