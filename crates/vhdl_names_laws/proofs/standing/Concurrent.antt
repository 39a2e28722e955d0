-- The bytes of an analysed concurrent statement are those of pieces of the statement.
use Rattle.std.proofs.Common.{◌≡◌, ℕ, Bool, true, false, List, [], ◌∷◌, ◌++◌, map, Option, Some, None, subst}
use Rattle.std.specs.List.{flat_map}
use Rattle.std.specs.Option.{option_map, is_some}
use Rattle.vhdl_lexer.specs.declared.token.TokenKind.TheVariants as k
use Rattle.vhdl_tree.specs.Tree as t
use Rattle.vhdl_tree.specs.Tree.{Ident}
use Rattle.vhdl_tree.specs.Pieces.{spell_option, spell_word, spell_each, spell_list}
use Rattle.vhdl_tree.specs.grammar.Expressions.{spell, spell_name, spell_value}
use Rattle.vhdl_tree.specs.grammar.Waveforms.{spell_waveforms}
use Rattle.vhdl_tree.specs.grammar.Sequential.{spell_label, spell_statements}
use Rattle.vhdl_tree.specs.grammar.Process.{spell_sensitivity, spell_process_declaration, spell_wait, spell_process, spell_waveform, spell_selected}
use Rattle.vhdl_tree.specs.grammar.Concurrent.{spell_assignment, spell_scheme, spell_concurrent, spell_concurrents}
use Rattle.vhdl_names_rules.specs.units.Expressions.{SignalPart}
use Rattle.vhdl_names_rules.specs.units.Statements as s
use Rattle.vhdl_names_rules.specs.units.Units as u
use Rattle.vhdl_names_rules.specs.units.Bytes.{range_bytes, static_test_bytes, place_bytes, statement_bytes, statements_bytes, declaration_bytes, sensitivity_bytes, process_bytes, concurrent_bytes, concurrents_bytes}
use Rattle.vhdl_names_rules.specs.Rules.{◌>>=◌, each}
use Rattle.vhdl_names_rules.specs.Visibility.{Name, Sight, with_variables, are_distinct, ends}
use Rattle.vhdl_names_rules.specs.Expressions.{typed, static_range, condition, as_static_test}
use Rattle.vhdl_names_rules.specs.Choices.{selecting}
use Rattle.vhdl_names_rules.specs.Declarations.{process_declaration}
use Rattle.vhdl_names_rules.specs.Interfaces.{EntityView}
use Rattle.vhdl_names_rules.specs.Instances.{instance}
use Rattle.vhdl_names_rules.specs.Statements as sequential
use Rattle.vhdl_names_rules.specs.Statements.{SignalName, signal, Target, signal_target, alone, conditional}
use Rattle.vhdl_names_rules.specs.Concurrent.{assigning, assignment, selected, sensitivity, awaited, resumed_by, behind_wait, process, concurrent_labels, sight_within, generated, concurrent, concurrents}
use Rattle.vhdl_names_rules.specs.Edges.{Edge, waited_edge}
use Rattle.vhdl_names_rules.proofs.laws.Rules.{comes, kept}
use Rattle.vhdl_names_rules.proofs.laws.Edges.{waited_holds}
use Rattle.vhdl_names_rules.proofs.laws.Parts.{process_parts, selected_parts}
use Rattle.vhdl_names_rules.proofs.kept.Keeping.{mapped}
use Rattle.vhdl_names_laws.proofs.Statics.{some_same}
use Rattle.vhdl_names_laws.proofs.Words.{all_in_order}
use Rattle.vhdl_names_laws.proofs.placed.Told.{Stand, EachStands, first, behind, each_stands, list_stands}
use Rattle.vhdl_names_laws.proofs.placed.Concurrent.{waveform_choices}
use Rattle.vhdl_names_laws.proofs.standing.Holding.{Hold, hold_both, hold_each}
use Rattle.vhdl_names_laws.proofs.standing.Expressions.{typed_holds, static_range_holds, condition_holds, static_condition_holds}
use Rattle.vhdl_names_laws.proofs.standing.Statements.{signal_holds, TargetHolds, target_holds, assignment_holds, alone_holds, conditional_holds, statements_hold}
use Rattle.vhdl_names_laws.proofs.standing.Choices.{selector_holds, covered_holds, BodiesHold, arranged_holds, selecting_holds}
use Rattle.vhdl_names_laws.proofs.standing.Declarations.{EachHolds, process_declaration_holds}
use Rattle.vhdl_names_laws.proofs.standing.Instances.{instance_holds}

-- ---- assignments

-- a process of one statement
assigning_holds : (P : ℕ → Type 0) (at : ℕ) (label : Option Ident) (y : s.Statement) → P at → Hold P (statement_bytes y) → Hold P (concurrent_bytes (assigning at label y))
assigning_holds P at label y h g = (h, hold_both P (statement_bytes y) [] g tt)

concurrent_assignment_holds : (P : ℕ → Type 0) (sight : Sight) (a : t.Assignment) (x : u.Concurrent) → Stand P (spell_assignment a) → assignment sight a ≡ Some x → Hold P (concurrent_bytes x)
unfolding assignment
concurrent_assignment_holds P sight a x h q =
    let all = behind P (spell_option spell_label a.label) _ h in
    let n = first P (spell_name a.target) _ all in
    let b = comes (signal_target sight a.target) _ x q in
    let c = comes (conditional sight b.value a.branches a.otherwise) _ x b.rest in
    subst (λ x. Hold P (concurrent_bytes x)) (some_same _ x c.rest)
    (assigning_holds P a.target.identifier.at a.label c.value n.0
    (conditional_holds P sight b.value (target_holds P sight false a.target b.value n b.is) a.branches a.otherwise c.value (first P (spell_waveforms a.branches a.otherwise) _ (behind P (spell_name a.target) _ all).1) c.is))

-- ---- selected assignments

waveforms_hold : (P : ℕ → Type 0) (sight : Sight) (x : Target) (ws : List t.Waveform) (ys : List s.Statements) → TargetHolds P x → EachStands P spell_waveform ws
    → each (λ (w : t.Waveform). option_map alone (sequential.assignment sight x w.value)) ws ≡ Some ys → BodiesHold P ys
waveforms_hold P sight x [] ys h f q = subst (BodiesHold P) (some_same [] ys q) tt
waveforms_hold P sight x (w ∷ ws) ys h f q =
    let a = comes (option_map alone (sequential.assignment sight x w.value)) _ ys q in
    let b = comes (each (λ (w : t.Waveform). option_map alone (sequential.assignment sight x w.value)) ws) _ ys a.rest in
    let c = mapped alone (sequential.assignment sight x w.value) a.value a.is in
    subst (BodiesHold P) (some_same (a.value ∷ b.value) ys b.rest) (
      subst (λ y. Hold P (statements_bytes y)) c.is (alone_holds P sight x h c.value (assignment_holds P sight x h w.value c.value (first P (spell_value w.value) _ f.0) c.from)),
      waveforms_hold P sight x ws b.value h f.1 b.is,
    )

selected_holds : (P : ℕ → Type 0) (sight : Sight) (label : Option Ident) (a : t.SelectedAssignment) (x : u.Concurrent) → Stand P (spell_selected a) → selected sight label a ≡ Some x
    → Hold P (concurrent_bytes x)
selected_holds P sight label a x h q =
    let all = (behind P (spell a.selector) _ h.1).1 in
    let n = first P (spell_name a.target) _ all in
    let ws = list_stands P k.Comma spell_waveform a.waveforms (first P (spell_list k.Comma spell_waveform a.waveforms) _ (behind P (spell_name a.target) _ all).1) in
    let p = selected_parts sight label a x q in
    subst (λ x. Hold P (concurrent_bytes x)) p.is
    (assigning_holds P a.at label (selecting a.at p.chosen.by.value.1 p.chosen.all.value) h.0
    (selecting_holds P a.at p.chosen.by.value.1 p.chosen.all.value h.0
    (selector_holds P sight.language p.chosen.operand.value p.chosen.by.value (typed_holds a.selector P sight p.chosen.operand.value (first P (spell a.selector) _ h.1) p.chosen.operand.is) p.chosen.by.is)
    (arranged_holds P p.chosen.choices.value p.chosen.bodies.value p.chosen.all.value
    (covered_holds P sight p.chosen.by.value.0 (map (λ (w : t.Waveform). w.choices) a.waveforms) p.chosen.choices.value (waveform_choices P a.waveforms ws) p.chosen.choices.is)
    (waveforms_hold P sight p.to.value a.waveforms p.chosen.bodies.value (target_holds P sight false a.target p.to.value n p.to.is) ws p.chosen.bodies.is) p.chosen.all.is)))

-- ---- processes

abbrev place : SignalName → SignalPart
place x = x.place

signals_hold : (P : ℕ → Type 0) (sight : Sight) (ns : List t.Name) (xs : List SignalName) → EachStands P spell_name ns → each (signal sight) ns ≡ Some xs
    → EachHolds P place_bytes (map place xs)
signals_hold P sight [] xs h q = subst (λ xs. EachHolds P place_bytes (map place xs)) (some_same [] xs q) tt
signals_hold P sight (n ∷ ns) xs h q =
    let a = comes (signal sight n) _ xs q in
    let b = comes (each (signal sight) ns) _ xs a.rest in
    subst (λ xs. EachHolds P place_bytes (map place xs)) (some_same (a.value ∷ b.value) xs b.rest)
    ((signal_holds P sight n a.value h.0 a.is).place, signals_hold P sight ns b.value h.1 b.is)

sensitivity_holds : (P : ℕ → Type 0) (sight : Sight) (w : t.Sensitivity) (waits : Bool) (x : u.Sensitivity) → Stand P (spell_sensitivity w) → sensitivity sight w waits ≡ Some x
    → Hold P (sensitivity_bytes x)
sensitivity_holds P sight t.absent true x h q = subst (λ x. Hold P (sensitivity_bytes x)) (some_same (u.listed []) x q) tt
sensitivity_holds P sight t.absent false x h q = absurd cc
sensitivity_holds P sight t.every waits x h q = subst (λ x. Hold P (sensitivity_bytes x)) (some_same u.every x q) tt
sensitivity_holds P sight (t.listed ns) waits x h q =
    let a = mapped (λ xs. u.listed (map place xs)) (each (signal sight) ns) x q in
    let names = list_stands P k.Comma spell_name ns (first P (spell_list k.Comma spell_name ns) _ h.1) in
    subst (λ x. Hold P (sensitivity_bytes x)) a.is (hold_each P place_bytes (map place a.value) (signals_hold P sight ns a.value names a.from))

abbrev EdgeHolds : (ℕ → Type 0) → Option Edge → Type 0
EdgeHolds P None = Unit {0}
EdgeHolds P (Some edge) = Hold P (place_bytes edge.place)

awaited_holds : (P : ℕ → Type 0) (sight : Sight) (o : t.Sensitivity) (wait : Option t.Wait) (edge : Option Edge) → Stand P (spell_option spell_wait wait) → awaited sight o wait ≡ Some edge
    → EdgeHolds P edge
awaited_holds P sight o None edge h q = subst (EdgeHolds P) (some_same None edge q) tt
awaited_holds P sight t.absent (Some w) edge h q =
    let c = comes (condition sight w.condition) _ edge q in
    let m = mapped Some (waited_edge c.value) edge c.rest in
    subst (EdgeHolds P) m.is (waited_holds P c.value m.value (condition_holds P sight w.condition c.value (first P (spell w.condition) _ h.1.1) c.is) m.from)
awaited_holds P sight _ (Some w) edge h q = absurd cc

resumed_holds : (P : ℕ → Type 0) (edge : Option Edge) (on : u.Sensitivity) → EdgeHolds P edge → Hold P (sensitivity_bytes on) → Hold P (sensitivity_bytes (resumed_by edge on))
resumed_holds P None on h g = g
resumed_holds P (Some edge) on h g = hold_both P (place_bytes edge.place) [] h tt

behind_holds : (P : ℕ → Type 0) (wait : Option t.Wait) (edge : Option Edge) (xs : s.Statements) → Stand P (spell_option spell_wait wait) → EdgeHolds P edge → Hold P (statements_bytes xs)
    → Hold P (statements_bytes (behind_wait wait edge xs))
behind_holds P None edge xs h g k = k
behind_holds P (Some w) None xs h g k = k
behind_holds P (Some w) (Some edge) xs h g k =
    hold_both P (w.at ∷ (place_bytes edge.place ++ (statements_bytes xs ++ []))) []
    (h.0, hold_both P (place_bytes edge.place) (statements_bytes xs ++ []) g (hold_both P (statements_bytes xs) [] k tt)) tt

process_holds : (P : ℕ → Type 0) (sight : Sight) (label : Option Ident) (p : t.Process) (x : u.Process) → Stand P (spell_process p) → process sight label p ≡ Some x
    → Hold P (process_bytes x)
process_holds P sight label p x h q =
    let word = behind P (spell_sensitivity p.sensitivity) _ h.1 in
    let declared = behind P (spell_word k.Is p.is_word) _ word in
    let ds = each_stands P spell_process_declaration p.declarations (first P (spell_each spell_process_declaration p.declarations) _ declared) in
    let xs = t.statements_of p.statements in
    let body = (behind P (spell_each spell_process_declaration p.declarations) _ declared).1 in
    let waits = first P (spell_option spell_wait p.wait) _ body in
    let inner = first P (spell_statements xs) _ (behind P (spell_option spell_wait p.wait) _ body) in
    let d = process_parts sight label p x q in
    let edge = awaited_holds P (with_variables sight d.own.value.declared) p.sensitivity p.wait d.edge.value waits d.edge.is in
    subst (λ (x : u.Process). Hold P (process_bytes x)) d.is (
      h.0,
      hold_both P (flat_map declaration_bytes d.own.value.analysed)
          (sensitivity_bytes (resumed_by d.edge.value d.on.value) ++ statements_bytes (behind_wait p.wait d.edge.value d.body.value))
          (hold_each P declaration_bytes d.own.value.analysed
          (all_in_order with_variables process_declaration (λ (d : t.ProcessDeclaration). Stand P (spell_process_declaration d)) (λ (o : u.Declaration). Hold P (declaration_bytes o))
          (λ sight d y g e. process_declaration_holds P sight d y g e) p.declarations sight d.own.value ds d.own.is))
          (hold_both P (sensitivity_bytes (resumed_by d.edge.value d.on.value)) (statements_bytes (behind_wait p.wait d.edge.value d.body.value))
          (resumed_holds P d.edge.value d.on.value edge
          (sensitivity_holds P sight p.sensitivity (is_some p.wait) d.on.value (first P (spell_sensitivity p.sensitivity) _ h.1) d.on.is))
          (behind_holds P p.wait d.edge.value d.body.value waits edge
          (statements_hold xs P (with_variables sight d.own.value.declared) d.body.value inner d.body.is))),
    )

-- ---- all statements

generated_holds : (P : ℕ → Type 0) (sight : Sight) (label : Name) (at : ℕ) (o : t.Scheme) (body : u.Concurrents) (x : u.Concurrent) → Stand P (spell_scheme at o)
    → Hold P (concurrents_bytes body) → generated sight label at o body ≡ Some x → Hold P (concurrent_bytes x)
generated_holds P sight label at (t.for_each n r) body x h g q =
    let a = mapped (λ range. u.generate_for at label range body) (static_range sight r) x q in
    subst (λ x. Hold P (concurrent_bytes x)) a.is
    (h.0, hold_both P (range_bytes a.value) (concurrents_bytes body) (static_range_holds P sight r a.value h.1.1.1 a.from) g)
generated_holds P sight label at (t.if_holds d) body x h g q =
    let a = mapped (λ test. u.generate_if at label test body) (typed sight d >>= as_static_test) x q in
    let b = comes (typed sight d) as_static_test a.value a.from in
    subst (λ x. Hold P (concurrent_bytes x)) a.is
    (h.0, hold_both P (static_test_bytes a.value) (concurrents_bytes body) (static_condition_holds P b.value a.value (typed_holds d P sight b.value h.1 b.is) b.rest) g)

-- one, and those behind it
one_and_others : (P : ℕ → Type 0) (entities : List EntityView) (sight : Sight) (c : t.Concurrent) (cs : t.Concurrents) (xs : u.Concurrents)
    → ((x : u.Concurrent) → concurrent entities sight c ≡ Some x → Hold P (concurrent_bytes x)) → ((xs : u.Concurrents) → concurrents entities sight cs ≡ Some xs → Hold P (concurrents_bytes xs))
    → (concurrent entities sight c >>= λ x. concurrents entities sight cs >>= λ xs. Some (u.concurrent x xs)) ≡ Some xs → Hold P (concurrents_bytes xs)
one_and_others P entities sight c cs xs one more q =
    let a = comes (concurrent entities sight c) _ xs q in
    let b = comes (concurrents entities sight cs) _ xs a.rest in
    subst (λ xs. Hold P (concurrents_bytes xs)) (some_same (u.concurrent a.value b.value) xs b.rest)
    (hold_both P (concurrent_bytes a.value) (concurrents_bytes b.value) (one a.value a.is) (more b.value b.is))

mutual
  unfolding concurrent

  concurrent_holds : (c : t.Concurrent) (P : ℕ → Type 0) (entities : List EntityView) (sight : Sight) (x : u.Concurrent) → Stand P (spell_concurrent c)
      → concurrent entities sight c ≡ Some x → Hold P (concurrent_bytes x)
  concurrent_holds (t.assignment a) P entities sight x h q = concurrent_assignment_holds P sight a x h q
  concurrent_holds (t.selected label a) P entities sight x h q = selected_holds P sight label a x (behind P (spell_option spell_label label) (spell_selected a) h) q
  concurrent_holds (t.process label p) P entities sight x h q =
      let a = mapped u.process (process sight label p) x q in
      subst (λ x. Hold P (concurrent_bytes x)) a.is (process_holds P sight label p a.value (behind P (spell_option spell_label label) (spell_process p) h) a.from)
  concurrent_holds (t.instance label i) P entities sight x h q =
      let a = mapped u.instance (instance entities sight label i) x q in
      subst (λ x. Hold P (concurrent_bytes x)) a.is (instance_holds P entities sight label i a.value h.0 h.1.1 a.from)
  concurrent_holds (t.generated label at scheme word cs end) P entities sight x h q =
      let g = (behind P (spell_scheme at scheme) _ h.1.1).1 in
      let inner = first P (spell_concurrents cs) _ (behind P (spell_word k.Begin word) _ g) in
      let a = kept (ends label.text end) _ x q in
      let b = kept (are_distinct (concurrent_labels cs)) _ x a.1 in
      let body = comes (concurrents entities (sight_within sight scheme) cs) _ x b.1 in
      generated_holds P sight label.text at scheme body.value x (first P (spell_scheme at scheme) _ h.1.1)
      (concurrents_hold cs P entities (sight_within sight scheme) body.value inner body.is) body.rest
  concurrent_holds (t.assertion a) P entities sight x h q = absurd cc

  pub concurrents_hold : (cs : t.Concurrents) (P : ℕ → Type 0) (entities : List EntityView) (sight : Sight) (xs : u.Concurrents) → Stand P (spell_concurrents cs)
      → concurrents entities sight cs ≡ Some xs → Hold P (concurrents_bytes xs)
  concurrents_hold t.no_concurrents P entities sight xs h q = subst (λ xs. Hold P (concurrents_bytes xs)) (some_same u.no_concurrents xs q) tt
  concurrents_hold (t.concurrent (t.assertion a) cs) P entities sight xs h q = concurrents_hold cs P entities sight xs (behind P (spell_concurrent (t.assertion a)) (spell_concurrents cs) h) q
  concurrents_hold (t.concurrent c cs) P entities sight xs h q =
      one_and_others P entities sight c cs xs (λ x q. concurrent_holds c P entities sight x (first P (spell_concurrent c) (spell_concurrents cs) h) q)
      (λ xs q. concurrents_hold cs P entities sight xs (behind P (spell_concurrent c) (spell_concurrents cs) h) q) q
