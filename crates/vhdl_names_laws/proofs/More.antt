-- What fits stays so where more is inside, and a value that names no signal and no variable also where there is none.
use Rattle.std.proofs.Common.{◌≡◌, ℕ, Bool, true, false, ◌&&◌, ◌||◌, List, [], ◌∷◌, Option, Some, None, refl, ap, sym, ◌∙◌, arith}
use Rattle.std.specs.List.{slice_get, list_all}
use Rattle.std.specs.Option.{option_map}
use Rattle.std.proofs.lemmas.Bool.{and_parts, and_from}
use Rattle.std.proofs.lemmas.Option.{slice_get-map}
use Rattle.vhdl_names_rules.specs.units.Expressions as e
use Rattle.vhdl_names_rules.specs.units.Expressions.{Static, Range, StaticTest, Signal, Part, SignalPart, Computed, Chosen, Vector, Elements, Index}
use Rattle.vhdl_names_rules.specs.units.Statements as s
use Rattle.vhdl_names_rules.specs.units.Units as u
use Rattle.vhdl_names_rules.specs.units.Units.{Form}
use Rattle.vhdl_names_rules.specs.Rules.{◌>>=◌, then_some}
use Rattle.vhdl_names_rules.specs.Known.{is_known, are_known}
use Rattle.vhdl_names_rules.specs.Subtypes.{is_known_value}
use Rattle.vhdl_names_rules.specs.sound.Expressions.{Inside, Shape, one, vector, number, static_fits, range_fits, static_test_fits, port_form, part_shape, signal_form, place_shape, is_vector, has_vector, is_vector_shape, chosen_shape, computed_fits, chosen_fits, is_elements, operated_shape, with_static, any_range_fits, index_fits, is_one, is_number, are_elements, vector_shape, elements_fit, fits_shape}
use Rattle.vhdl_names_rules.specs.sound.Statements.{given_fits}
use Rattle.vhdl_names_rules.specs.sound.Units.{without_objects}
use Rattle.vhdl_names_rules.proofs.laws.Rules.{comes}
use Rattle.vhdl_names_rules.proofs.kept.Keeping.{mapped}
use Rattle.vhdl_names_laws.proofs.Statics.{HasNumbers, Keeps, static_more, range_more}
use Rattle.vhdl_names_laws.proofs.Shapes.{given}

-- ---- static integers

pub test_more : (i j : Inside) → HasNumbers i j → (t : StaticTest) → static_test_fits i t ≡ true → static_test_fits j t ≡ true
test_more i j h (e.known at x) k = static_more i j h x k
test_more i j h (e.StaticTest.compared at op x y) k =
    let a = and_parts (static_fits i x) (static_fits i y) k in
    and_from (static_fits j x) (static_fits j y) (static_more i j h x a.0) (static_more i j h y a.1)
test_more i j h (e.StaticTest.negated t) k = test_more i j h t k
test_more i j h (e.StaticTest.both op t r) k =
    let a = and_parts (static_test_fits i t) (static_test_fits i r) k in
    and_from (static_test_fits j t) (static_test_fits j r) (test_more i j h t a.0) (test_more i j h r a.1)

pub any_range_more : (i j : Inside) → HasNumbers i j → (r : Option Range) → any_range_fits i r ≡ true → any_range_fits j r ≡ true
any_range_more i j h None k = refl
any_range_more i j h (Some r) k = range_more i j h r k

index_more : (i j : Inside) → HasNumbers i j → (x : Index) → index_fits i x ≡ true → index_fits j x ≡ true
index_more i j h (e.index at x) k = static_more i j h x k
index_more i j h (e.indexes at r) k = range_more i j h r k

indexes_more : (i j : Inside) → HasNumbers i j → (xs : List Index) → list_all (index_fits i) xs ≡ true → list_all (index_fits j) xs ≡ true
indexes_more i j h [] k = refl
indexes_more i j h (x ∷ xs) k =
    let a = and_parts (index_fits i x) (list_all (index_fits i) xs) k in
    and_from (index_fits j x) (list_all (index_fits j) xs) (index_more i j h x a.0) (indexes_more i j h xs a.1)

-- ---- vectors: where objects stay, or none is named

or_both : (b p q : Bool) → (b || (p && q)) ≡ true → ((b || p) ≡ true) × ((b || q) ≡ true)
or_both true p q h = (refl, refl)
or_both false p q h = and_parts p q h

or_left : (b c : Bool) → b ≡ true → (b || c) ≡ true
or_left true c h = refl
or_left false c h = absurd cc

or_false : (b : Bool) → (b || false) ≡ true → b ≡ true
or_false true h = refl
or_false false h = h

or_true : (b : Bool) → (b || true) ≡ true
or_true true = refl
or_true false = refl

elements_stay : (o p : Option Shape) → ((z : Shape) → o ≡ Some z → p ≡ Some z) → are_elements o ≡ true → are_elements p ≡ true
elements_stay None p f h = absurd cc
elements_stay (Some z) p f h = ap are_elements (f z refl) ∙ h

one_stays : (o p : Option Shape) → ((z : Shape) → o ≡ Some z → p ≡ Some z) → is_one o ≡ true → is_one p ≡ true
one_stays None p f h = absurd cc
one_stays (Some z) p f h = ap is_one (f z refl) ∙ h

shape_stays : (x : Shape) (o p : Option Shape) → ((z : Shape) → o ≡ Some z → p ≡ Some z) → fits_shape x o ≡ true → fits_shape x p ≡ true
shape_stays x None p f h = absurd cc
shape_stays x (Some z) p f h = ap (fits_shape x) (f z refl) ∙ h

part_more : (i j : Inside) → HasNumbers i j → (f : Form) (p : Part) (z : Shape) → part_shape i f p ≡ Some z → part_shape j f p ≡ Some z
part_more i j h f e.whole z k = k
part_more i j h (u.vector r) (e.Part.element x) z k =
    let g = given (static_fits i x) one z k in
    ap (λ b. then_some b one) (static_more i j h x g.holds) ∙ ap Some g.is
part_more i j h (u.vector r) (e.slice x) z k =
    let g = given (range_fits i x) vector z k in
    ap (λ b. then_some b vector) (range_more i j h x g.holds) ∙ ap Some g.is
part_more i j h _ _ z k = absurd cc

module _ (i j : Inside) (h : HasNumbers i j) (c : Keeps i.constants j.constants) (b : Bool)
    (signals : b ≡ true → (p : SignalPart) (z : Shape) → place_shape i p ≡ Some z → place_shape j p ≡ Some z)
    (forms : b ≡ true → (x : Signal) (f : Form) → signal_form i x ≡ Some f → signal_form j x ≡ Some f)
    (variables : b ≡ true → Keeps i.variables j.variables) where
  object_more : (fs gs : List Form) (k : ℕ) (p : Part) (z : Shape) → Keeps fs gs
      → (slice_get fs k >>= λ f. part_shape i f p >>= λ x. then_some (is_elements x) x) ≡ Some z
      → (slice_get gs k >>= λ f. part_shape j f p >>= λ x. then_some (is_elements x) x) ≡ Some z
  object_more fs gs k p z g q =
      let f = comes (slice_get fs k) _ z q in
      let x = comes (part_shape i f.value p) _ z f.rest in
      ap (λ o. o >>= λ f. part_shape j f p >>= λ x. then_some (is_elements x) x) (g k f.value f.is)
      ∙ ap (λ o. o >>= λ x. then_some (is_elements x) x) (part_more i j h f.value p x.value x.is) ∙ x.rest

  static_with_more : (o p : Option Shape) (n : Static) (z : Shape) → ((z : Shape) → o ≡ Some z → p ≡ Some z) → with_static i o n ≡ Some z → with_static j p n ≡ Some z
  static_with_more o p n z f q =
      let y = comes o _ z q in
      let g = given (is_vector y.value && static_fits i n) vector z y.rest in
      let a = and_parts (is_vector y.value) (static_fits i n) g.holds in
      ap (λ o. with_static j o n) (f y.value y.is)
      ∙ ap (λ b. then_some b vector) (and_from (is_vector y.value) (static_fits j n) a.0 (static_more i j h n a.1)) ∙ ap Some g.is

  vector_more_is : (f g : Option Form) → ((z : Form) → f ≡ Some z → g ≡ Some z) → has_vector f ≡ true → has_vector g ≡ true
  vector_more_is None g stays h = absurd cc
  vector_more_is (Some z) g stays h = ap has_vector (stays z refl) ∙ h

  vector_stays : (o p : Option Shape) → ((z : Shape) → o ≡ Some z → p ≡ Some z) → is_vector_shape o ≡ true → is_vector_shape p ≡ true
  vector_stays None p f q = absurd cc
  vector_stays (Some z) p f q = ap is_vector_shape (f z refl) ∙ q

  -- of an object of these forms
  chosen_of_more : (f g : Option Form) (x : Chosen) (z : Shape) → ((z : Form) → f ≡ Some z → g ≡ Some z) → (chosen_fits i x ≡ true → chosen_fits j x ≡ true)
      → then_some (has_vector f && chosen_fits i x) (chosen_shape x) ≡ Some z → then_some (has_vector g && chosen_fits j x) (chosen_shape x) ≡ Some z
  chosen_of_more f g x z stays k q =
      let y = given (has_vector f && chosen_fits i x) (chosen_shape x) z q in
      let a = and_parts (has_vector f) (chosen_fits i x) y.holds in
      ap (λ b. then_some b (chosen_shape x)) (and_from (has_vector g) (chosen_fits j x) (vector_more_is f g stays a.0) (k a.1)) ∙ ap Some y.is

  number_more : (f g : Option Form) → ((z : Form) → f ≡ Some z → g ≡ Some z) → is_number f ≡ true → is_number g ≡ true
  number_more None g stays q = absurd cc
  number_more (Some z) g stays q = ap is_number (stays z refl) ∙ q

  mutual
    -- an integer that a run computes names an object
    computed_more : (x : Computed) → b ≡ true → computed_fits i x ≡ true → computed_fits j x ≡ true
    computed_more (e.static s) k q = static_more i j h s q
    computed_more (e.signal_number x) k q = number_more (signal_form i x) (signal_form j x) (forms k x) q
    computed_more (e.variable_number n) k q = number_more (slice_get i.variables n) (slice_get j.variables n) (variables k n) q
    computed_more (e.number_of at x) k q = vector_stays (vector_shape i x) (vector_shape j x) (λ z g. vector_more x z (or_left b (is_known x) k) g) q
    computed_more (e.Computed.negated at x) k q = computed_more x k q
    computed_more (e.magnitude at x) k q = computed_more x k q
    computed_more (e.calculated at op x y) k q =
        let a = and_parts (computed_fits i x) (computed_fits i y) q in
        and_from (computed_fits j x) (computed_fits j y) (computed_more x k a.0) (computed_more y k a.1)

    chosen_more : (x : Chosen) → b ≡ true → chosen_fits i x ≡ true → chosen_fits j x ≡ true
    chosen_more (e.element_at x) k q = computed_more x k q
    chosen_more (e.slice_at x direction y) k q =
        let a = and_parts (computed_fits i x) (computed_fits i y) q in
        and_from (computed_fits j x) (computed_fits j y) (computed_more x k a.0) (computed_more y k a.1)

    pub vector_more : (x : Vector) (z : Shape) → (b || is_known x) ≡ true → vector_shape i x ≡ Some z → vector_shape j x ≡ Some z
    vector_more (e.of_signal p) z k q =
        let a = comes (place_shape i p) _ z q in
        ap (λ o. o >>= λ x. then_some (is_elements x) x) (signals (or_false b k) p a.value a.is) ∙ a.rest
    vector_more (e.of_variable at n p) z k q = object_more i.variables j.variables n p z (variables (or_false b k)) q
    vector_more (e.of_constant at n p) z k q = object_more i.constants j.constants n p z c q
    vector_more (e.in_signal at x c) z k q = chosen_of_more (signal_form i x) (signal_form j x) c z (forms (or_false b k) x) (chosen_more c (or_false b k)) q
    vector_more (e.in_variable at n c) z k q =
        chosen_of_more (slice_get i.variables n) (slice_get j.variables n) c z (variables (or_false b k) n) (chosen_more c (or_false b k)) q
    vector_more (e.in_constant at n p) z k q = chosen_of_more (slice_get i.constants n) (slice_get j.constants n) p z (c n) (chosen_more p (or_false b k)) q
    vector_more (e.character v) z k q = q
    vector_more (e.enclosed_character v) z k q = q
    vector_more (e.Vector.literal at vs) z k q = q
    vector_more (e.Vector.inverse x) z k q = vector_more x z k q
    vector_more (e.Vector.binary at op x y) z k q =
        let w = or_both b (is_known x) (is_known y) k in
        let m = comes (vector_shape i x) _ z q in
        let n = comes (vector_shape i y) _ z m.rest in
        ap (λ o. o >>= λ a. vector_shape j y >>= λ b. operated_shape op a b) (vector_more x m.value w.0 m.is)
        ∙ ap (λ o. o >>= λ b. operated_shape op m.value b) (vector_more y n.value w.1 n.is) ∙ n.rest
    vector_more (e.with_integer at op x n) z k q = static_with_more (vector_shape i x) (vector_shape j x) n z (λ z g. vector_more x z k g) q
    vector_more (e.integer_with at op n x) z k q = static_with_more (vector_shape i x) (vector_shape j x) n z (λ z g. vector_more x z k g) q
    vector_more (e.with_computed at op x n) z k q =
        let every = or_false b k in
        let g = given (is_vector_shape (vector_shape i x) && computed_fits i n) vector z q in
        let a = and_parts (is_vector_shape (vector_shape i x)) (computed_fits i n) g.holds in
        ap (λ b. then_some b vector) (and_from (is_vector_shape (vector_shape j x)) (computed_fits j n)
        (vector_stays (vector_shape i x) (vector_shape j x) (λ z g. vector_more x z (or_left b (is_known x) every) g) a.0) (computed_more n every a.1)) ∙ ap Some g.is
    vector_more (e.computed_with at op n x) z k q =
        let every = or_false b k in
        let g = given (computed_fits i n && is_vector_shape (vector_shape i x)) vector z q in
        let a = and_parts (computed_fits i n) (is_vector_shape (vector_shape i x)) g.holds in
        ap (λ b. then_some b vector) (and_from (computed_fits j n) (is_vector_shape (vector_shape j x))
        (computed_more n every a.0) (vector_stays (vector_shape i x) (vector_shape j x) (λ z g. vector_more x z (or_left b (is_known x) every) g) a.1)) ∙ ap Some g.is
    vector_more (e.computed_encoded at n size) z k q =
        let g = given (computed_fits i n && static_fits i size) vector z q in
        let a = and_parts (computed_fits i n) (static_fits i size) g.holds in
        ap (λ b. then_some b vector) (and_from (computed_fits j n) (static_fits j size) (computed_more n (or_false b k) a.0) (static_more i j h size a.1)) ∙ ap Some g.is
    vector_more (e.shifted at by x n) z k q =
        let every = or_false b k in
        let g = given (is_vector_shape (vector_shape i x) && computed_fits i n) vector z q in
        let a = and_parts (is_vector_shape (vector_shape i x)) (computed_fits i n) g.holds in
        ap (λ b. then_some b vector) (and_from (is_vector_shape (vector_shape j x)) (computed_fits j n)
        (vector_stays (vector_shape i x) (vector_shape j x) (λ z g. vector_more x z (or_left b (is_known x) every) g) a.0) (computed_more n every a.1)) ∙ ap Some g.is
    vector_more (e.Vector.encoded at n size) z k q =
        let g = given (static_fits i n && static_fits i size) vector z q in
        let a = and_parts (static_fits i n) (static_fits i size) g.holds in
        ap (λ b. then_some b vector) (and_from (static_fits j n) (static_fits j size) (static_more i j h n a.0) (static_more i j h size a.1)) ∙ ap Some g.is
    vector_more (e.counted at op x n) z k q = static_with_more (vector_shape i x) (vector_shape j x) n z (λ z g. vector_more x z k g) q
    vector_more (e.aggregate at r es) z k q =
        let g = given (any_range_fits i r && elements_fit i es) vector z q in
        let a = and_parts (any_range_fits i r) (elements_fit i es) g.holds in
        ap (λ b. then_some b vector) (and_from (any_range_fits j r) (elements_fit j es) (any_range_more i j h r a.0) (elements_more es k a.1)) ∙ ap Some g.is
    vector_more (e.sized at r x) z k q =
        let y = comes (vector_shape i x) _ z q in
        let g = given (is_vector y.value && range_fits i r) vector z y.rest in
        let a = and_parts (is_vector y.value) (range_fits i r) g.holds in
        ap (λ o. o >>= λ y. then_some (is_vector y && range_fits j r) vector) (vector_more x y.value k y.is)
        ∙ ap (λ b. then_some b vector) (and_from (is_vector y.value) (range_fits j r) a.0 (range_more i j h r a.1)) ∙ ap Some g.is

    pub elements_more : (es : Elements) → (b || are_known es) ≡ true → elements_fit i es ≡ true → elements_fit j es ≡ true
    elements_more e.no_elements k q = refl
    elements_more (e.next x es) k q =
        let w = or_both b (is_known x) (are_known es) k in
        let a = and_parts (are_elements (vector_shape i x)) (elements_fit i es) q in
        and_from (are_elements (vector_shape j x)) (elements_fit j es)
        (elements_stay (vector_shape i x) (vector_shape j x) (λ z g. vector_more x z w.0 g) a.0) (elements_more es w.1 a.1)
    elements_more (e.chosen xs x es) k q =
        let w = or_both b (is_known x) (are_known es) k in
        let a = and_parts (list_all (index_fits i) xs && is_one (vector_shape i x)) (elements_fit i es) q in
        let d = and_parts (list_all (index_fits i) xs) (is_one (vector_shape i x)) a.0 in
        and_from (list_all (index_fits j) xs && is_one (vector_shape j x)) (elements_fit j es)
        (and_from (list_all (index_fits j) xs) (is_one (vector_shape j x)) (indexes_more i j h xs d.0)
        (one_stays (vector_shape i x) (vector_shape j x) (λ z g. vector_more x z w.0 g) d.1))
        (elements_more es w.1 a.1)
    elements_more (e.Elements.others x) k q = one_stays (vector_shape i x) (vector_shape j x) (λ z g. vector_more x z k g) q

-- ---- values

-- where nothing but constants is, a value names nothing else
module _ (i j : Inside) (h : HasNumbers i j) (c : Keeps i.constants j.constants) where
  no_place : true ≡ true → (p : SignalPart) (z : Shape) → place_shape (without_objects i) p ≡ Some z → place_shape (without_objects j) p ≡ Some z
  no_place t p z q = by p.signal q
    where
      by : (x : Signal) → (signal_form (without_objects i) x >>= λ f. part_shape (without_objects i) f p.part) ≡ Some z → place_shape (without_objects j) p ≡ Some z
      by (e.port k) q = absurd cc
      by (e.Signal.signal k) q = absurd cc

  no_form : true ≡ true → (x : Signal) (f : Form) → signal_form (without_objects i) x ≡ Some f → signal_form (without_objects j) x ≡ Some f
  no_form t (e.port k) f q = absurd cc
  no_form t (e.Signal.signal k) f q = absurd cc

  numbers : HasNumbers (without_objects i) (without_objects j)
  numbers = record { generics = h.generics; integers = h.integers; ranges = h.ranges; generates = h.generates; loops = h.loops }

  alone_more : (x : Vector) (z : Shape) → vector_shape (without_objects i) x ≡ Some z → vector_shape (without_objects j) x ≡ Some z
  alone_more x z q = vector_more (without_objects i) (without_objects j) numbers c true no_place no_form (λ t k y g. g) x z refl q

  pub alone_elements_more : (es : Elements) → elements_fit (without_objects i) es ≡ true → elements_fit (without_objects j) es ≡ true
  alone_elements_more es q = elements_more (without_objects i) (without_objects j) numbers c true no_place no_form (λ t k y g. g) es refl q

  number_stays : (x : Computed) → computed_fits (without_objects i) x ≡ true → computed_fits (without_objects j) x ≡ true
  number_stays x q = computed_more (without_objects i) (without_objects j) numbers c true no_place no_form (λ t k y g. g) x refl q

  -- a shape that is there under a condition
  there : (b d : Bool) (x z : Shape) → (b ≡ true → d ≡ true) → then_some b x ≡ Some z → then_some d x ≡ Some z
  there b d x z f q = let g = given b x z q in ap (λ b. then_some b x) (f g.holds) ∙ ap Some g.is

  pub given_more : (x : Shape) (g : s.Given) → given_fits (without_objects i) x g ≡ true → given_fits (without_objects j) x g ≡ true
  given_more x (s.single (e.Value.position p)) q = q
  given_more x (s.single (e.Value.elements y)) q =
      shape_stays x (vector_shape (without_objects i) y) (vector_shape (without_objects j) y) (alone_more y) q
  given_more x (s.single (e.state_of (e.port k))) q = absurd cc
  given_more x (s.single (e.state_of (e.Signal.signal k))) q = absurd cc
  given_more x (s.single (e.state_of_variable k)) q = absurd cc
  given_more x (s.single (e.Value.computed y)) q =
      let few = computed_fits (without_objects i) y in
      let many = computed_fits (without_objects j) y in
      shape_stays x (then_some few number) (then_some many number) (λ z g. there few many number z (number_stays y) g) q
  given_more x (s.single (e.static_truth t)) q =
      let few = static_test_fits (without_objects i) t in
      let many = static_test_fits (without_objects j) t in
      shape_stays x (then_some few one) (then_some many one) (λ z g. there few many one z (test_more (without_objects i) (without_objects j) numbers t) g) q
  given_more x (s.filled y) q =
      let a = and_parts (is_vector x) (fits_shape one (vector_shape (without_objects i) y)) q in
      and_from (is_vector x) (fits_shape one (vector_shape (without_objects j) y)) a.0
      (shape_stays one (vector_shape (without_objects i) y) (vector_shape (without_objects j) y) (alone_more y) a.1)

-- a value that names no object fits where there is none
module _ (i : Inside) where
  same : HasNumbers i (without_objects i)
  same = record { generics = omega arith; integers = omega arith; ranges = omega arith; generates = omega arith; loops = omega arith }

  impossible : {A : Type 0} → false ≡ true → A
  impossible h = absurd cc

  known_alone : (x : Vector) (z : Shape) → is_known x ≡ true → vector_shape i x ≡ Some z → vector_shape (without_objects i) x ≡ Some z
  known_alone x z k q = vector_more i (without_objects i) same (λ k y g. g) false impossible impossible impossible x z k q

  pub known_elements : (es : Elements) → are_known es ≡ true → elements_fit i es ≡ true → elements_fit (without_objects i) es ≡ true
  known_elements es k q = elements_more i (without_objects i) same (λ k y g. g) false impossible impossible impossible es k q

  pub known_given : (x : Shape) (g : s.Given) → is_known_value g ≡ true → given_fits i x g ≡ true → given_fits (without_objects i) x g ≡ true
  known_given x (s.single (e.Value.position p)) k q = q
  known_given x (s.single (e.Value.elements y)) k q = shape_stays x (vector_shape i y) (vector_shape (without_objects i) y) (λ z g. known_alone y z k g) q
  known_given x (s.single _) k q = absurd cc
  known_given x (s.filled y) k q =
      let a = and_parts (is_vector x) (fits_shape one (vector_shape i y)) q in
      and_from (is_vector x) (fits_shape one (vector_shape (without_objects i) y)) a.0
      (shape_stays one (vector_shape i y) (vector_shape (without_objects i) y) (λ z g. known_alone y z k g) a.1)

-- ---- places of signals

pub place_more : (i j : Inside) → HasNumbers i j → Keeps i.ports j.ports → Keeps i.signals j.signals → (p : SignalPart) (z : Shape) → place_shape i p ≡ Some z → place_shape j p ≡ Some z
place_more i j h ports signals p z q =
    let f = comes (signal_form i p.signal) _ z q in
    ap (λ o. o >>= λ f. part_shape j f p.part) (by p.signal f.value f.is) ∙ part_more i j h f.value p.part z f.rest
  where
    by : (x : Signal) (f : Form) → signal_form i x ≡ Some f → signal_form j x ≡ Some f
    by (e.port k) f q =
        let m = mapped port_form (slice_get i.ports k) f (sym (slice_get-map port_form i.ports k) ∙ q) in
        slice_get-map port_form j.ports k ∙ ap (option_map port_form) (ports k m.value m.from) ∙ ap Some m.is
    by (e.Signal.signal k) f q = signals k f q
