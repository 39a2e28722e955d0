-- What is refused of vectors, values and tests is told at one of their bytes, or at the byte that is given.
use Rattle.std.proofs.Common.{ℕ, ◌==◌, List, [], ◌++◌, length, Option, Some, All}
use Rattle.std.specs.Prelude.{ℤ, flat_map}
use Rattle.std.proofs.lemmas.List.Elements.{All-nil, All-head, All-tail}
use Rattle.rtl_model.specs.bodies.Body as bodies
use Rattle.rtl_model.specs.bodies.Fits.{width, value_width}
use Rattle.vhdl_values.specs.Numbers.{digits_of}
use Rattle.vhdl_names_rules.specs.units.Expressions as u
use Rattle.vhdl_names_rules.specs.units.Expressions.{SignalPart, Computed, Chosen, Vector, Elements, Value, Test}
use Rattle.vhdl_names_rules.specs.units.Statements as s
use Rattle.vhdl_names_rules.specs.units.Bytes.{if_any_bytes, given_bytes, static_bytes, range_bytes, part_bytes, place_bytes, index_bytes, computed_bytes, chosen_bytes, vector_bytes, elements_bytes, value_bytes, test_bytes}
use Rattle.vhdl_expand_rules.specs.declared.fault.ElabProblem.TheVariants.{Length, TooWide}
use Rattle.vhdl_expand_rules.specs.Elab.{Told, same_length}
use Rattle.vhdl_expand_rules.specs.Integers.{IntegerRange, of_range, integer, natural, integer_among, decision}
use Rattle.vhdl_expand_rules.specs.Kinds as kinds
use Rattle.vhdl_expand_rules.specs.Kinds.{ObjectKind, Bounds, as_size, size_of, count_of, declared_bounds, bounds_size}
use Rattle.vhdl_expand_rules.specs.Aggregates.{given_indexes, chosen_indexes}
use Rattle.vhdl_expand_rules.specs.Site.{Site, place_elements, signal_elements, variable_elements, constant_values, signal_bounds, variable_bounds, constant_bounds, the_element}
use Rattle.vhdl_expand_rules.specs.Expressions as x
use Rattle.vhdl_expand_rules.specs.Expressions.{operands_fit, operation_on, numeric, operator, slice_length, alike}
use Rattle.vhdl_expand_rules.specs.Computed.{number_read, natural_digits}
use Rattle.vhdl_expand_rules.specs.Statements.{value_given, number_given, given_to, elements_given}
use Rattle.vhdl_expand_rules.proofs.Tells.{Tells, At, tells_none, tells_refused, tells_then, tells_unless, all_flat}
use Rattle.vhdl_expand_rules.proofs.laws.Targets.{all_left, all_right}
use Rattle.vhdl_expand_rules.proofs.laws.told.Aggregates.{bounds_tell, chosen_tells, composed_tells}
use Rattle.vhdl_expand_rules.proofs.laws.told.Sums.{read_tells, number_operation_tells, negative_tells, measured_operation_tells, slice_tells}
use Rattle.vhdl_expand_rules.proofs.laws.told.Static.{integer_tells, natural_tells, among_tells, decision_tells, bounds_tells, size_tells, size_of_tells, count_tells, signal_tells, place_tells, variable_tells, constant_tells, signal_bounds_tell, variable_bounds_tell, constant_bounds_tell, signal_number_tells, variable_number_tells, element_tells}

module _ (P : Told → Type 0) where
  -- ---- vectors

  fit-tells : (at : ℕ) (op : bodies.Operator) (m n : ℕ) → At P at → Tells P (operands_fit at op m n)
  fit-tells at (bodies.logical op) m n h = tells_unless P (Length m n) tt at _ h
  fit-tells at bodies.plus m n h = tells_none P tt
  fit-tells at bodies.minus m n h = tells_none P tt
  fit-tells at _ m n h = tells_unless P TooWide tt at _ h

  operation-tells : (at : ℕ) (op : bodies.Operator) (d e : bodies.Expr) → At P at → Tells P (operation_on at op d e)
  operation-tells at op d e h = tells_then P (operands_fit at op (width d) (width e)) _ (fit-tells at op (width d) (width e) h) (λ fit. tells_none P _)

  mutual
    unfolding x.vector

    pub computed_tells : (here : Site) (at : ℕ) (c : Computed) → At P at → All (At P) (computed_bytes c) → Tells P (x.computed here at c)
    computed_tells here at (u.static s) own k = tells_then P (integer here.integers at s) _ (integer_tells P here.integers at s own k) (λ n. tells_none P _)
    computed_tells here at (u.number_of place v) own k =
        tells_then P (x.vector here v) _ (vector_tells here v (All-tail (At P) place (vector_bytes v) k)) (λ e. read_tells P place (All-head (At P) place (vector_bytes v) k) e)
    computed_tells here at (u.signal_number y) own k = signal_number_tells P here at y own
    computed_tells here at (u.variable_number n) own k = variable_number_tells P here at n own
    computed_tells here at (u.Computed.negated place c) own k =
        tells_then P (x.computed here place c) _ (computed_tells here place c (All-head (At P) place (computed_bytes c) k) (All-tail (At P) place (computed_bytes c) k)) (λ a. tells_none P _)
    computed_tells here at (u.magnitude place c) own k =
        tells_then P (x.computed here place c) _ (computed_tells here place c (All-head (At P) place (computed_bytes c) k) (All-tail (At P) place (computed_bytes c) k)) (λ a. tells_none P _)
    computed_tells here at (u.calculated place op c d) own k =
        let there : At P place = All-head (At P) place (computed_bytes c ++ computed_bytes d) k in
        let rest : All (At P) (computed_bytes c ++ computed_bytes d) = All-tail (At P) place (computed_bytes c ++ computed_bytes d) k in
        tells_then P (x.computed here place c) _ (computed_tells here place c there (all_left (At P) (computed_bytes c) (computed_bytes d) rest)) (λ a.
        tells_then P (x.computed here place d) _ (computed_tells here place d there (all_right (At P) (computed_bytes c) (computed_bytes d) rest)) (λ b.
        number_operation_tells P place there op a b))

    measured-tells : (here : Site) (at : ℕ) (c : Computed) → At P at → All (At P) (computed_bytes c) → Tells P (x.measured here at c)
    measured-tells here at (u.static s) own k = tells_then P (integer here.integers at s) _ (integer_tells P here.integers at s own k) (λ n. tells_none P _)
    measured-tells here at (u.number_of place v) own k =
        tells_then P (x.vector here v) _ (vector_tells here v (All-tail (At P) place (vector_bytes v) k)) (λ e.
        tells_then P (number_read place e) _ (read_tells P place (All-head (At P) place (vector_bytes v) k) e) (λ n. tells_none P _))
    measured-tells here at (u.signal_number y) own k = tells_then P (x.signal_number here at y) _ (signal_number_tells P here at y own) (λ n. tells_none P _)
    measured-tells here at (u.variable_number v) own k = tells_then P (x.variable_number here at v) _ (variable_number_tells P here at v own) (λ n. tells_none P _)
    measured-tells here at (u.Computed.negated place c) own k =
        let there : At P place = All-head (At P) place (computed_bytes c) k in
        tells_then P (x.measured here place c) _ (measured-tells here place c there (All-tail (At P) place (computed_bytes c) k)) (λ a. negative_tells P place there a)
    measured-tells here at (u.magnitude place c) own k =
        tells_then P (x.computed here place c) _ (computed_tells here place c (All-head (At P) place (computed_bytes c) k) (All-tail (At P) place (computed_bytes c) k)) (λ a. tells_none P _)
    measured-tells here at (u.calculated place op c d) own k =
        let there : At P place = All-head (At P) place (computed_bytes c ++ computed_bytes d) k in
        let rest : All (At P) (computed_bytes c ++ computed_bytes d) = All-tail (At P) place (computed_bytes c ++ computed_bytes d) k in
        tells_then P (x.measured here place c) _ (measured-tells here place c there (all_left (At P) (computed_bytes c) (computed_bytes d) rest)) (λ a.
        tells_then P (x.measured here place d) _ (measured-tells here place d there (all_right (At P) (computed_bytes c) (computed_bytes d) rest)) (λ b.
        measured_operation_tells P place there op a b))

    pub row_tells : (here : Site) (at : ℕ) (b : Bounds) (c : Chosen) → At P at → All (At P) (chosen_bytes c) → Tells P (x.chosen_row here at b c)
    row_tells here at b (u.element_at c) own k = tells_then P (x.computed here at c) _ (computed_tells here at c own k) (λ i. tells_none P _)
    row_tells here at b (u.slice_at c direction d) own k =
        tells_then P (x.measured here at c) _ (measured-tells here at c own (all_left (At P) (computed_bytes c) (computed_bytes d) k)) (λ l.
        tells_then P (x.measured here at d) _ (measured-tells here at d own (all_right (At P) (computed_bytes c) (computed_bytes d) k)) (λ r.
        tells_then P (slice_length b at direction l.linear r.linear) _ (slice_tells P at own b direction l.linear r.linear) (λ len. tells_none P _)))

    pub vector_tells : (here : Site) (v : Vector) → All (At P) (vector_bytes v) → Tells P (x.vector here v)
    vector_tells here (u.of_signal p) k = tells_then P (place_elements here p) _ (place_tells P here p k) (λ es. tells_none P _)
    vector_tells here (u.of_variable at n part) k =
        tells_then P (variable_elements here at n part) _ (variable_tells P here at n part (All-head (At P) at (part_bytes part) k) (All-tail (At P) at (part_bytes part) k)) (λ es. tells_none P _)
    vector_tells here (u.of_constant at n part) k =
        tells_then P (constant_values here at n part) _ (constant_tells P here at n part (All-head (At P) at (part_bytes part) k) (All-tail (At P) at (part_bytes part) k)) (λ vs. tells_none P _)
    vector_tells here (u.in_signal at y c) k =
        let own : At P at = All-head (At P) at (chosen_bytes c) k in
        tells_then P (signal_elements here at y u.whole) _ (signal_tells P here at y u.whole own (All-nil (At P))) (λ es.
        tells_then P (signal_bounds here at y) _ (signal_bounds_tell P here at y own) (λ b.
        tells_then P (x.chosen_row here at b c) _ (row_tells here at b c own (All-tail (At P) at (chosen_bytes c) k)) (λ r. tells_none P _)))
    vector_tells here (u.in_variable at n c) k =
        let own : At P at = All-head (At P) at (chosen_bytes c) k in
        tells_then P (variable_elements here at n u.whole) _ (variable_tells P here at n u.whole own (All-nil (At P))) (λ es.
        tells_then P (variable_bounds here at n) _ (variable_bounds_tell P here at n own) (λ b.
        tells_then P (x.chosen_row here at b c) _ (row_tells here at b c own (All-tail (At P) at (chosen_bytes c) k)) (λ r. tells_none P _)))
    vector_tells here (u.in_constant at n c) k =
        let own : At P at = All-head (At P) at (chosen_bytes c) k in
        tells_then P (constant_values here at n u.whole) _ (constant_tells P here at n u.whole own (All-nil (At P))) (λ vs.
        tells_then P (constant_bounds here at n) _ (constant_bounds_tell P here at n own) (λ b.
        tells_then P (x.chosen_row here at b c) _ (row_tells here at b c own (All-tail (At P) at (chosen_bytes c) k)) (λ r. tells_none P _)))
    vector_tells here (u.Vector.literal at ys) k = tells_then P (as_size at (length ys)) _ (size_tells P at (length ys) (All-head (At P) at [] k)) (λ n. tells_none P _)
    vector_tells here (u.Vector.inverse v) k = tells_then P (x.vector here v) _ (vector_tells here v k) (λ e. tells_none P _)
    vector_tells here (u.Vector.binary at op v w) k =
        let rest : All (At P) (vector_bytes v ++ vector_bytes w) = All-tail (At P) at (vector_bytes v ++ vector_bytes w) k in
        tells_then P (x.vector here v) _ (vector_tells here v (all_left (At P) (vector_bytes v) (vector_bytes w) rest)) (λ d.
        tells_then P (x.vector here w) _ (vector_tells here w (all_right (At P) (vector_bytes v) (vector_bytes w) rest)) (λ e.
        operation-tells at (operator op) d e (All-head (At P) at (vector_bytes v ++ vector_bytes w) k)))
    vector_tells here (u.with_integer at op v s) k =
        let own : At P at = All-head (At P) at (vector_bytes v ++ static_bytes s) k in
        let rest : All (At P) (vector_bytes v ++ static_bytes s) = All-tail (At P) at (vector_bytes v ++ static_bytes s) k in
        tells_then P (x.vector here v) _ (vector_tells here v (all_left (At P) (vector_bytes v) (static_bytes s) rest)) (λ e.
        tells_then P (natural here.integers at s) _ (natural_tells P here.integers at s own (all_right (At P) (vector_bytes v) (static_bytes s) rest)) (λ n.
        operation-tells at (numeric op) e (bodies.constant (digits_of (width e) n)) own))
    vector_tells here (u.integer_with at op s v) k =
        let own : At P at = All-head (At P) at (static_bytes s ++ vector_bytes v) k in
        let rest : All (At P) (static_bytes s ++ vector_bytes v) = All-tail (At P) at (static_bytes s ++ vector_bytes v) k in
        tells_then P (natural here.integers at s) _ (natural_tells P here.integers at s own (all_left (At P) (static_bytes s) (vector_bytes v) rest)) (λ n.
        tells_then P (x.vector here v) _ (vector_tells here v (all_right (At P) (static_bytes s) (vector_bytes v) rest)) (λ e.
        operation-tells at (numeric op) (bodies.constant (digits_of (width e) n)) e own))
    vector_tells here (u.Vector.encoded at s t) k =
        let own : At P at = All-head (At P) at (static_bytes s ++ static_bytes t) k in
        let rest : All (At P) (static_bytes s ++ static_bytes t) = All-tail (At P) at (static_bytes s ++ static_bytes t) k in
        tells_then P (natural here.integers at s) _ (natural_tells P here.integers at s own (all_left (At P) (static_bytes s) (static_bytes t) rest)) (λ n.
        tells_then P (size_of here.integers at t) _ (size_of_tells P here.integers at t own (all_right (At P) (static_bytes s) (static_bytes t) rest)) (λ m. tells_none P _))
    vector_tells here (u.with_computed at op v c) k =
        let own : At P at = All-head (At P) at (vector_bytes v ++ computed_bytes c) k in
        let rest : All (At P) (vector_bytes v ++ computed_bytes c) = All-tail (At P) at (vector_bytes v ++ computed_bytes c) k in
        tells_then P (x.vector here v) _ (vector_tells here v (all_left (At P) (vector_bytes v) (computed_bytes c) rest)) (λ e.
        tells_then P (x.computed here at c) _ (computed_tells here at c own (all_right (At P) (vector_bytes v) (computed_bytes c) rest)) (λ n.
        operation-tells at (numeric op) e (natural_digits (width e) n) own))
    vector_tells here (u.computed_with at op c v) k =
        let own : At P at = All-head (At P) at (computed_bytes c ++ vector_bytes v) k in
        let rest : All (At P) (computed_bytes c ++ vector_bytes v) = All-tail (At P) at (computed_bytes c ++ vector_bytes v) k in
        tells_then P (x.computed here at c) _ (computed_tells here at c own (all_left (At P) (computed_bytes c) (vector_bytes v) rest)) (λ n.
        tells_then P (x.vector here v) _ (vector_tells here v (all_right (At P) (computed_bytes c) (vector_bytes v) rest)) (λ e.
        operation-tells at (numeric op) (natural_digits (width e) n) e own))
    vector_tells here (u.computed_encoded at c t) k =
        let own : At P at = All-head (At P) at (computed_bytes c ++ static_bytes t) k in
        let rest : All (At P) (computed_bytes c ++ static_bytes t) = All-tail (At P) at (computed_bytes c ++ static_bytes t) k in
        tells_then P (x.computed here at c) _ (computed_tells here at c own (all_left (At P) (computed_bytes c) (static_bytes t) rest)) (λ n.
        tells_then P (size_of here.integers at t) _ (size_of_tells P here.integers at t own (all_right (At P) (computed_bytes c) (static_bytes t) rest)) (λ m. tells_none P _))
    vector_tells here (u.shifted at by v c) k =
        let own : At P at = All-head (At P) at (vector_bytes v ++ computed_bytes c) k in
        let rest : All (At P) (vector_bytes v ++ computed_bytes c) = All-tail (At P) at (vector_bytes v ++ computed_bytes c) k in
        tells_then P (x.vector here v) _ (vector_tells here v (all_left (At P) (vector_bytes v) (computed_bytes c) rest)) (λ e.
        tells_then P (x.computed here at c) _ (computed_tells here at c own (all_right (At P) (vector_bytes v) (computed_bytes c) rest)) (λ n. tells_none P _))
    vector_tells here (u.counted at op v s) k =
        let own : At P at = All-head (At P) at (vector_bytes v ++ static_bytes s) k in
        let rest : All (At P) (vector_bytes v ++ static_bytes s) = All-tail (At P) at (vector_bytes v ++ static_bytes s) k in
        tells_then P (x.vector here v) _ (vector_tells here v (all_left (At P) (vector_bytes v) (static_bytes s) rest)) (λ e.
        tells_then P (count_of op here.integers at s) _ (count_tells P op here.integers at s own (all_right (At P) (vector_bytes v) (static_bytes s) rest)) (λ n. tells_none P _))
    vector_tells here (u.aggregate at r es) k =
        let own : At P at = All-head (At P) at (if_any_bytes range_bytes r ++ elements_bytes es) k in
        let rest : All (At P) (if_any_bytes range_bytes r ++ elements_bytes es) = All-tail (At P) at (if_any_bytes range_bytes r ++ elements_bytes es) k in
        tells_then P (given_indexes here.integers at r) _ (bounds_tell P here.integers at r own (all_left (At P) (if_any_bytes range_bytes r) (elements_bytes es) rest)) (λ all.
        tells_then P (x.elements here at all [] es) _ (elements_tells here at all [] es own (all_right (At P) (if_any_bytes range_bytes r) (elements_bytes es) rest)) (λ ys.
        composed_tells P at all ys own))
    vector_tells here (u.sized at r v) k =
        let own : At P at = All-head (At P) at (range_bytes r ++ vector_bytes v) k in
        let rest : All (At P) (range_bytes r ++ vector_bytes v) = All-tail (At P) at (range_bytes r ++ vector_bytes v) k in
        tells_then P (x.vector here v) _ (vector_tells here v (all_right (At P) (range_bytes r) (vector_bytes v) rest)) (λ e.
        tells_then P (declared_bounds here.integers at r) _ (bounds_tells P here.integers at r own (all_left (At P) (range_bytes r) (vector_bytes v) rest)) (λ b.
        tells_then P (same_length at (width e) (bounds_size b)) _ (tells_unless P (Length (width e) (bounds_size b)) tt at (width e == bounds_size b) own) (λ same. tells_none P e)))
    vector_tells here _ k = tells_none P _

    elements_tells : (here : Site) (at : ℕ) (all : Option (List ℤ)) (taken : List ℤ) (es : Elements) → At P at → All (At P) (elements_bytes es) → Tells P (x.elements here at all taken es)
    elements_tells here at all taken u.no_elements own k = tells_none P []
    elements_tells here at all taken (u.next v es) own k =
        tells_then P (x.vector here v) _ (vector_tells here v (all_left (At P) (vector_bytes v) (elements_bytes es) k)) (λ e.
        tells_then P (x.elements here at all taken es) _ (elements_tells here at all taken es own (all_right (At P) (vector_bytes v) (elements_bytes es) k)) (λ ys. tells_none P _))
    elements_tells here at all taken (u.chosen cs v es) own k =
        let is : List ℕ = flat_map index_bytes cs in
        let rest : All (At P) (vector_bytes v ++ elements_bytes es) = all_right (At P) is (vector_bytes v ++ elements_bytes es) k in
        tells_then P (chosen_indexes here.integers all taken cs) _ (chosen_tells P here.integers all taken cs (all_flat (At P) index_bytes cs (all_left (At P) is (vector_bytes v ++ elements_bytes es) k))) (λ js.
        tells_then P (x.vector here v) _ (vector_tells here v (all_left (At P) (vector_bytes v) (elements_bytes es) rest)) (λ e.
        tells_then P (same_length at (width e) 1) _ (tells_unless P (Length (width e) 1) tt at (width e == 1) own) (λ one.
        tells_then P (x.elements here at all (taken ++ js) es) _ (elements_tells here at all (taken ++ js) es own (all_right (At P) (vector_bytes v) (elements_bytes es) rest)) (λ ys. tells_none P _))))
    elements_tells here at all taken (u.Elements.others v) own k =
        tells_then P (x.vector here v) _ (vector_tells here v k) (λ e.
        tells_then P (same_length at (width e) 1) _ (tells_unless P (Length (width e) 1) tt at (width e == 1) own) (λ one. tells_none P _))

  -- ---- values

  pub value_tells : (here : Site) (at : ℕ) (v : Value) → At P at → All (At P) (value_bytes v) → Tells P (x.value here at v)
  unfolding x.value
  value_tells here at (u.Value.elements v) h k = tells_then P (x.vector here v) _ (vector_tells here v k) (λ e. tells_none P _)
  value_tells here at (u.Value.position n) h k = tells_none P _
  value_tells here at (u.Value.computed c) h k = tells_then P (x.computed here at c) _ (computed_tells here at c h k) (λ n. tells_none P _)
  value_tells here at (u.static_truth t) h k = tells_then P (decision here.integers t) _ (decision_tells P here.integers t k) (λ b. tells_none P _)
  value_tells here at (u.state_of s) h k =
      tells_then P (the_element at (signal_elements here at s u.whole)) _ (element_tells P at _ h (signal_tells P here at s u.whole h k)) (λ e. tells_none P _)
  value_tells here at (u.state_of_variable n) h k =
      tells_then P (the_element at (variable_elements here at n u.whole)) _ (element_tells P at _ h (variable_tells P here at n u.whole h k)) (λ e. tells_none P _)

  -- ---- truths

  alike-tells : (here : Site) (at : ℕ) (v w : Value) → At P at → All (At P) (value_bytes v) → All (At P) (value_bytes w) → Tells P (alike here at v w)
  alike-tells here at (u.Value.elements (u.of_signal p)) (u.Value.elements (u.character y)) h k m = tells_then P (place_elements here p) _ (place_tells P here p k) (λ es. tells_none P _)
  alike-tells here at (u.Value.elements (u.of_signal p)) (u.Value.elements (u.enclosed_character y)) h k m = tells_then P (place_elements here p) _ (place_tells P here p k) (λ es. tells_none P _)
  alike-tells here at (u.Value.elements (u.character y)) (u.Value.elements (u.of_signal p)) h k m = tells_then P (place_elements here p) _ (place_tells P here p m) (λ es. tells_none P _)
  alike-tells here at (u.Value.elements (u.enclosed_character y)) (u.Value.elements (u.of_signal p)) h k m = tells_then P (place_elements here p) _ (place_tells P here p m) (λ es. tells_none P _)
  alike-tells here at v w h k m =
      tells_then P (x.value here at v) _ (value_tells here at v h k) (λ d.
      tells_then P (x.value here at w) _ (value_tells here at w h m) (λ e. tells_none P _))

  edge-tells : (here : Site) (p : SignalPart) → All (At P) (place_bytes p) → Tells P (the_element p.at (place_elements here p))
  edge-tells here p k = element_tells P p.at _ (All-head (At P) p.at (part_bytes p.part) k) (place_tells P here p k)

  pub test_tells : (here : Site) (t : Test) → All (At P) (test_bytes t) → Tells P (x.test here t)
  unfolding x.test
  test_tells here (u.holds v) k = tells_then P (x.vector here v) _ (vector_tells here v k) (λ e. tells_none P _)
  test_tells here (u.Test.fixed t) k = tells_then P (decision here.integers t) _ (decision_tells P here.integers t k) (λ b. tells_none P _)
  test_tells here (u.alike at v w) k =
      let rest : All (At P) (value_bytes v ++ value_bytes w) = All-tail (At P) at (value_bytes v ++ value_bytes w) k in
      alike-tells here at v w (All-head (At P) at (value_bytes v ++ value_bytes w) k) (all_left (At P) (value_bytes v) (value_bytes w) rest) (all_right (At P) (value_bytes v) (value_bytes w) rest)
  test_tells here (u.unlike at v w) k =
      let own : At P at = All-head (At P) at (value_bytes v ++ value_bytes w) k in
      let rest : All (At P) (value_bytes v ++ value_bytes w) = All-tail (At P) at (value_bytes v ++ value_bytes w) k in
      tells_then P (x.value here at v) _ (value_tells here at v own (all_left (At P) (value_bytes v) (value_bytes w) rest)) (λ d.
      tells_then P (x.value here at w) _ (value_tells here at w own (all_right (At P) (value_bytes v) (value_bytes w) rest)) (λ e. tells_none P _))
  test_tells here (u.Test.compared at op v w) k =
      let rest : All (At P) (vector_bytes v ++ vector_bytes w) = All-tail (At P) at (vector_bytes v ++ vector_bytes w) k in
      tells_then P (x.vector here v) _ (vector_tells here v (all_left (At P) (vector_bytes v) (vector_bytes w) rest)) (λ d.
      tells_then P (x.vector here w) _ (vector_tells here w (all_right (At P) (vector_bytes v) (vector_bytes w) rest)) (λ e. tells_none P _))
  test_tells here (u.compared_to at op v s) k =
      let own : At P at = All-head (At P) at (vector_bytes v ++ static_bytes s) k in
      let rest : All (At P) (vector_bytes v ++ static_bytes s) = All-tail (At P) at (vector_bytes v ++ static_bytes s) k in
      tells_then P (x.vector here v) _ (vector_tells here v (all_left (At P) (vector_bytes v) (static_bytes s) rest)) (λ e.
      tells_then P (natural here.integers at s) _ (natural_tells P here.integers at s own (all_right (At P) (vector_bytes v) (static_bytes s) rest)) (λ n. tells_none P _))
  test_tells here (u.compared_with at op s v) k =
      let own : At P at = All-head (At P) at (static_bytes s ++ vector_bytes v) k in
      let rest : All (At P) (static_bytes s ++ vector_bytes v) = All-tail (At P) at (static_bytes s ++ vector_bytes v) k in
      tells_then P (natural here.integers at s) _ (natural_tells P here.integers at s own (all_left (At P) (static_bytes s) (vector_bytes v) rest)) (λ n.
      tells_then P (x.vector here v) _ (vector_tells here v (all_right (At P) (static_bytes s) (vector_bytes v) rest)) (λ e. tells_none P _))
  test_tells here (u.compared_to_computed at op v c) k =
      let own : At P at = All-head (At P) at (vector_bytes v ++ computed_bytes c) k in
      let rest : All (At P) (vector_bytes v ++ computed_bytes c) = All-tail (At P) at (vector_bytes v ++ computed_bytes c) k in
      tells_then P (x.vector here v) _ (vector_tells here v (all_left (At P) (vector_bytes v) (computed_bytes c) rest)) (λ e.
      tells_then P (x.computed here at c) _ (computed_tells here at c own (all_right (At P) (vector_bytes v) (computed_bytes c) rest)) (λ n. tells_none P _))
  test_tells here (u.compared_with_computed at op c v) k =
      let own : At P at = All-head (At P) at (computed_bytes c ++ vector_bytes v) k in
      let rest : All (At P) (computed_bytes c ++ vector_bytes v) = All-tail (At P) at (computed_bytes c ++ vector_bytes v) k in
      tells_then P (x.computed here at c) _ (computed_tells here at c own (all_left (At P) (computed_bytes c) (vector_bytes v) rest)) (λ n.
      tells_then P (x.vector here v) _ (vector_tells here v (all_right (At P) (computed_bytes c) (vector_bytes v) rest)) (λ e. tells_none P _))
  test_tells here (u.computed_compared at op c d) k =
      let own : At P at = All-head (At P) at (computed_bytes c ++ computed_bytes d) k in
      let rest : All (At P) (computed_bytes c ++ computed_bytes d) = All-tail (At P) at (computed_bytes c ++ computed_bytes d) k in
      tells_then P (x.computed here at c) _ (computed_tells here at c own (all_left (At P) (computed_bytes c) (computed_bytes d) rest)) (λ a.
      tells_then P (x.computed here at d) _ (computed_tells here at d own (all_right (At P) (computed_bytes c) (computed_bytes d) rest)) (λ b. tells_none P _))
  test_tells here (u.edge kind p) k = tells_then P (the_element p.at (place_elements here p)) _ (edge-tells here p k) (λ e. tells_none P _)
  test_tells here (u.event p) k = tells_then P (the_element p.at (place_elements here p)) _ (edge-tells here p k) (λ e. tells_none P _)
  test_tells here (u.Test.negated t) k = tells_then P (x.test here t) _ (test_tells here t k) (λ c. tells_none P _)
  test_tells here (u.Test.both op t r) k =
      tells_then P (x.test here t) _ (test_tells here t (all_left (At P) (test_bytes t) (test_bytes r) k)) (λ c.
      tells_then P (x.test here r) _ (test_tells here r (all_right (At P) (test_bytes t) (test_bytes r) k)) (λ d. tells_none P _))

  -- ---- what is given

  pub length_tells : (at found needed : ℕ) → At P at → Tells P (same_length at found needed)
  length_tells at found needed h = tells_unless P (Length found needed) tt at (found == needed) h

  pub given_tells : (here : Site) (at len : ℕ) (g : s.Given) → At P at → All (At P) (given_bytes g) → Tells P (value_given here at len g)
  unfolding value_given
  given_tells here at len (s.single v) h k =
      tells_then P (x.value here at v) _ (value_tells here at v h k) (λ e.
      tells_then P (same_length at (value_width e) len) _ (length_tells at (value_width e) len h) (λ same. tells_none P _))
  given_tells here at len (s.filled v) h k =
      tells_then P (x.vector here v) _ (vector_tells here v k) (λ e.
      tells_then P (same_length at (width e) 1) _ (length_tells at (width e) 1 h) (λ same. tells_none P _))

  number-given : (here : Site) (at : ℕ) (r : IntegerRange) (c : Computed) → At P at → All (At P) (computed_bytes c) → Tells P (number_given here at r c)
  number-given here at r (u.static y) h k = tells_then P (integer_among here.integers at (of_range r) y) _ (among_tells P here.integers at (of_range r) y h k) (λ n. tells_none P _)
  number-given here at r c h k = tells_then P (x.computed here at c) _ (computed_tells here at c h k) (λ n. tells_none P _)

  pub given_to_tells : (here : Site) (at : ℕ) (o : Option ObjectKind) (len : ℕ) (g : s.Given) → At P at → All (At P) (given_bytes g) → Tells P (given_to here at o len g)
  given_to_tells here at (Some (kinds.integer r)) len (s.single (u.Value.computed c)) h k = number-given here at r c h k
  given_to_tells here at o len g h k = given_tells here at len g h k

  pub elements_given_tell : (here : Site) (at len : ℕ) (g : s.Given) → At P at → All (At P) (given_bytes g) → Tells P (elements_given here at len g)
  unfolding elements_given
  elements_given_tell here at len (s.single (u.Value.elements v)) h k =
      tells_then P (x.vector here v) _ (vector_tells here v k) (λ e.
      tells_then P (same_length at (width e) len) _ (length_tells at (width e) len h) (λ same. tells_none P e))
  elements_given_tell here at len (s.single _) h k = tells_refused P (Length 1 len) tt at h
  elements_given_tell here at len (s.filled v) h k =
      tells_then P (x.vector here v) _ (vector_tells here v k) (λ e.
      tells_then P (same_length at (width e) 1) _ (length_tells at (width e) 1 h) (λ same. tells_none P _))
