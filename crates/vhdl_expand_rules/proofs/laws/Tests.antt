-- Expanded values and tests fit.
use Rattle.std.proofs.Common.{◌≡◌, ℕ, suc, ◌+◌, ◌≤◌, Bool, true, false, List, [], ◌∷◌, Option, Some, None, Ok, All, refl, sym, ap, subst, arith}
use Rattle.std.specs.Prelude.{⊤, slice_get}
use Rattle.std.proofs.lemmas.Option.{same_Some}
use Rattle.std.proofs.lemmas.Bool.{eqb-true, ltb-true, and_parts}
use Rattle.std.proofs.lemmas.List.Elements.{All-head}
use Rattle.vhdl_values.specs.declared.scalar.Nine.{Nine}
use Rattle.vhdl_values.specs.Scalar.{value_of_truth}
use Rattle.vhdl_values.specs.declared.kinds.Edge.{Edge}
use Rattle.vhdl_values.specs.declared.kinds.Edge.TheVariants.{To1, To0}
use Rattle.rtl_model.specs.bodies.Types.{ElementType, nine_valued, enumeration, HasType}
use Rattle.rtl_model.specs.bodies.Fits.{FitBoth, FitsTest}
use Rattle.rtl_model.specs.bodies.Body as bodies
use Rattle.vhdl_names_rules.specs.units.Expressions as u
use Rattle.vhdl_names_rules.specs.units.Expressions.{SignalPart, Value, Test}
use Rattle.vhdl_names_rules.specs.units.Units as units
use Rattle.vhdl_names_rules.specs.units.Units.{Form}
use Rattle.vhdl_names_rules.specs.Rules.{◌>>=◌}
use Rattle.vhdl_names_rules.specs.sound.Expressions.{Inside, Shape, one, vector, state, number, shape_of, is_elements, same_shape, static_fits, static_test_fits, part_shape, signal_form, place_shape, computed_fits, vector_shape}
use Rattle.vhdl_names_rules.specs.sound.Expressions.{state_shape, value_shape, position_fits, fits_shape, value_fits, value_fits_beside, values_fit, edge_fits, test_fits}
use Rattle.vhdl_expand_rules.specs.declared.fault.ElabProblem.TheVariants.{Index}
use Rattle.vhdl_expand_rules.specs.Elab.{Elab}
use Rattle.vhdl_expand_rules.specs.Integers as integers
use Rattle.vhdl_expand_rules.specs.Integers.{decision}
use Rattle.vhdl_expand_rules.specs.Computed.{natural, relation}
use Rattle.vhdl_expand_rules.specs.Site.{Site, signal_elements, place_elements, variable_elements, the_element}
use Rattle.vhdl_expand_rules.specs.Expressions as x
use Rattle.vhdl_expand_rules.specs.Expressions.{level_test, alike, edge_test}
use Rattle.vhdl_expand_rules.specs.laws.Sites.{IsSite, kinds_types, scope_at}
use Rattle.vhdl_expand_rules.specs.laws.Expressions.{type_of, IsName, IsVector, IsValue, EachValueFits, EachTestFits}
use Rattle.vhdl_expand_rules.proofs.Steps.{ok, bound}
use Rattle.vhdl_expand_rules.proofs.Options.{step, given_some}
use Rattle.vhdl_expand_rules.proofs.laws.Names.{is_width, was_found, name_fits, each-name-fits, variable_fits}
use Rattle.vhdl_expand_rules.proofs.laws.Computed.{number_width, natural_fits, relation_fits}
use Rattle.vhdl_expand_rules.proofs.laws.Operands.{elements_are_nine, one_character}
use Rattle.vhdl_expand_rules.proofs.laws.Chosen.{named}
use Rattle.vhdl_expand_rules.proofs.laws.Vectors.{computed_is_number, each-vector-fits}

-- ---- shapes

same-shape : (s t : Shape) → same_shape s t ≡ true → s ≡ t
same-shape one one h = refl
same-shape vector vector h = refl
same-shape (state m) (state n) h = ap state (eqb-true m n h)
same-shape number number h = refl
same-shape _ _ h = absurd cc

pub has_shape : (s : Shape) (o : Option Shape) → fits_shape s o ≡ true → o ≡ Some s
has_shape s None h = absurd cc
has_shape s (Some t) h = ap Some (sym (same-shape s t h))

-- ---- one element

pub first_is : (P : ℕ → Type 0) (es : List ℕ) (e : ℕ) → All P es → slice_get es 0 ≡ Some e → P e
first_is P [] e h g = absurd cc
first_is P (d ∷ es) e h g = subst P (same_Some d e g) (All-head P d es h)

record TheElement (r : Elab (List ℕ)) (e : ℕ) : Type 0 where
  es : List ℕ
  gave : r ≡ Ok es
  first : slice_get es 0 ≡ Some e

the-element : (at : ℕ) (r : Elab (List ℕ)) (e : ℕ) → the_element at r ≡ Ok e → TheElement r e
the-element at r e h =
    let es = bound r _ e h in
    record { es = es.x; gave = es.gave; first = was_found Index at (slice_get es.x 0) e es.then_gave }

-- ---- values

vector-value : (here : Site) (s : Shape) (e : bodies.Expr) → IsVector here s e → IsValue here s (bodies.elements e)
vector-value here (state count) e h = absurd (let k = h.of_elements in cc)
vector-value here _ e h = record { fits = h.fits; width = h.width }

-- of an enumeration
abbrev IsState : Shape → Type 0
IsState (state count) = ⊤
IsState _ = ⊥

state-form : (f : Form) (s : Shape) → state_shape f ≡ Some s → IsState (shape_of f) × (shape_of f ≡ s)
state-form (units.enumeration count) s h = (tt, same_Some (state count) s h)
state-form units.element s h = absurd cc
state-form (units.vector r) s h = absurd cc
state-form (units.Form.number n) s h = absurd cc
state-form units.boolean s h = absurd cc

state-of : (here : Site) (s : Shape) (e : ℕ) → IsState s → HasType (scope_at here).nets (type_of s) e → IsValue here s (bodies.position_of e)
state-of here (state count) e h g = record { fits = g; width = refl }
state-of here _ e h g = elim h [ ]

state-in : (here : Site) (s : Shape) (e : ℕ) → IsState s → HasType (kinds_types here.variables) (type_of s) e → IsValue here s (bodies.position_in e)
state-in here (state count) e h g = record { fits = g; width = refl }
state-in here _ e h g = elim h [ ]

pub value_of_shape : (i : Inside) (here : Site) (at : ℕ) (v : Value) (s : Shape) (e : bodies.Value) → IsSite i here → value_shape i v ≡ Some s → x.value here at v ≡ Ok e → IsValue here s e
unfolding x.value
value_of_shape i here at (u.Value.elements y) s e h k m =
    let d = bound (x.vector here y) _ e m in
    subst (IsValue here s) (ok (bodies.elements d.x) e d.then_gave) (vector-value here s d.x (each-vector-fits i here y s d.x h k d.gave))
value_of_shape i here at (u.Value.position n) s e h k m = absurd cc
value_of_shape i here at (u.Value.computed c) s e h k m =
    let g = given_some (computed_fits i c) number s k in
    let d = bound (x.computed here at c) _ e m in
    let w = computed_is_number i here at c d.x h g.0 d.gave in
    subst (λ (z : Shape). IsValue here z e) g.1
    (subst (IsValue here number) (ok (bodies.elements d.x.digits) e d.then_gave) (record { fits = w.fits; width = number_width here d.x w }))
value_of_shape i here at (u.static_truth t) s e h k m =
    let g = given_some (static_test_fits i t) one s k in
    let b = bound (decision here.integers t) _ e m in
    subst (λ (z : Shape). IsValue here z e) g.1
    (subst (IsValue here one) (ok (bodies.elements (bodies.constant (value_of_truth b.x ∷ []))) e b.then_gave)
    (vector-value here one (bodies.constant (value_of_truth b.x ∷ [])) (one_character here (value_of_truth b.x))))
value_of_shape i here at (u.state_of y) s e h k m =
    let f = step (signal_form i y) state_shape s k in
    let g = state-form f.x s f.then_gave in
    let d = bound (the_element at (signal_elements here at y u.whole)) _ e m in
    let q = the-element at (signal_elements here at y u.whole) d.x d.gave in
    let w = name_fits i here at y u.whole (shape_of f.x) q.es h (ap (λ (o : Option Form). o >>= λ z. part_shape i z u.whole) f.gave) q.gave in
    subst (IsValue here s) (ok (bodies.position_of d.x) e d.then_gave)
    (subst (λ (z : Shape). IsValue here z (bodies.position_of d.x)) g.1
    (state-of here (shape_of f.x) d.x g.0 (first_is (HasType (scope_at here).nets (type_of (shape_of f.x))) q.es d.x w.typed q.first)))
value_of_shape i here at (u.state_of_variable n) s e h k m =
    let f = step (slice_get i.variables n) state_shape s k in
    let g = state-form f.x s f.then_gave in
    let d = bound (the_element at (variable_elements here at n u.whole)) _ e m in
    let q = the-element at (variable_elements here at n u.whole) d.x d.gave in
    let w = variable_fits i here at n u.whole f.x (shape_of f.x) q.es h f.gave refl q.gave in
    subst (IsValue here s) (ok (bodies.position_in d.x) e d.then_gave)
    (subst (λ (z : Shape). IsValue here z (bodies.position_in d.x)) g.1
    (state-in here (shape_of f.x) d.x g.0 (first_is (HasType (kinds_types here.variables) (type_of (shape_of f.x))) q.es d.x w.typed q.first)))

position-value : (here : Site) (s : Shape) (n : ℕ) → position_fits s n ≡ true → IsValue here s (bodies.position n)
position-value here (state count) n h = record { fits = ltb-true n count h; width = refl }
position-value here _ n h = absurd cc

pub each-value-fits : EachValueFits
unfolding x.value
each-value-fits i here at (u.Value.position n) s e h k m = subst (IsValue here s) (ok (bodies.position n) e m) (position-value here s n k)
each-value-fits i here at x s e h k m = value_of_shape i here at x s e h (has_shape s (value_shape i x) k) m

-- ---- two values of one type

record Beside (i : Inside) (o : Option Shape) (y : Value) : Type 0 where
  shape : Shape
  is : o ≡ Some shape
  fits : value_fits i shape y ≡ true

beside : (i : Inside) (o : Option Shape) (y : Value) → value_fits_beside i o y ≡ true → Beside i o y
beside i None y h = absurd cc
beside i (Some s) y h = record { shape = s; is = refl; fits = h }

left-first : (i : Inside) (here : Site) (at : ℕ) (v w : Value) (d e : bodies.Value) → IsSite i here → value_fits_beside i (value_shape i v) w ≡ true → x.value here at v ≡ Ok d → x.value here at w ≡ Ok e
    → FitBoth (scope_at here) d e
left-first i here at v w d e h k m n =
    let z = beside i (value_shape i v) w k in
    (type_of z.shape, (value_of_shape i here at v z.shape d h z.is m).fits, (each-value-fits i here at w z.shape e h z.fits n).fits)

right-first : (i : Inside) (here : Site) (at : ℕ) (v w : Value) (d e : bodies.Value) → IsSite i here → value_fits_beside i (value_shape i w) v ≡ true → x.value here at v ≡ Ok d → x.value here at w ≡ Ok e
    → FitBoth (scope_at here) d e
right-first i here at v w d e h k m n =
    let z = beside i (value_shape i w) v k in
    (type_of z.shape, (each-value-fits i here at v z.shape d h z.fits m).fits, (value_of_shape i here at w z.shape e h z.is n).fits)

both_fit : (i : Inside) (here : Site) (at : ℕ) (v w : Value) (d e : bodies.Value) → IsSite i here → values_fit i v w ≡ true → x.value here at v ≡ Ok d → x.value here at w ≡ Ok e → FitBoth (scope_at here) d e
unfolding x.value
both_fit i here at (u.Value.position p) (u.Value.position q) d e h k m n =
    subst (λ (y : bodies.Value). FitBoth (scope_at here) y e) (ok (bodies.position p) d m)
    (subst (λ (y : bodies.Value). FitBoth (scope_at here) (bodies.position p) y) (ok (bodies.position q) e n) (enumeration (suc (p + q)), omega arith, omega arith))
both_fit i here at (u.Value.elements y) w d e h k m n = left-first i here at (u.Value.elements y) w d e h k m n
both_fit i here at (u.Value.computed y) w d e h k m n = left-first i here at (u.Value.computed y) w d e h k m n
both_fit i here at (u.static_truth y) w d e h k m n = left-first i here at (u.static_truth y) w d e h k m n
both_fit i here at (u.state_of y) w d e h k m n = left-first i here at (u.state_of y) w d e h k m n
both_fit i here at (u.state_of_variable y) w d e h k m n = left-first i here at (u.state_of_variable y) w d e h k m n
both_fit i here at v w d e h k m n = right-first i here at v w d e h k m n

-- ---- equality

-- an element and a character literal
level-fits : (here : Site) (s : Shape) (es : List ℕ) (plain : Bool) (y : Nine) → is_elements s ≡ true → IsName here s es → FitsTest (scope_at here) (level_test plain es y)
level-fits here s [] plain y h n = absurd (let l : 1 ≤ 0 = (is_width s 0 n.width).0 in omega (arith, l))
level-fits here s (e ∷ []) plain y h n = subst (λ (t : ElementType). HasType (scope_at here).nets t e) (elements_are_nine s h) (All-head (HasType (scope_at here).nets (type_of s)) e [] n.typed)
level-fits here s (d ∷ e ∷ es) plain y h n = (nine_valued, (named here s (d ∷ e ∷ es) h n).fits, (one_character here y).fits)

place-level : (i : Inside) (here : Site) (p : SignalPart) (s : Shape) (plain : Bool) (y : Nine) (c : bodies.Test) (es : List ℕ) → IsSite i here → vector_shape i (u.of_signal p) ≡ Some s
    → place_elements here p ≡ Ok es → level_test plain es y ≡ c → FitsTest (scope_at here) c
place-level i here p s plain y c es h k m g =
    let z = step (place_shape i p) _ s k in
    let w = given_some (is_elements z.x) z.x s z.then_gave in
    subst (FitsTest (scope_at here)) g (level-fits here z.x es plain y w.0 (each-name-fits i here p z.x es h z.gave m))

abbrev equals : Site → ℕ → Value → Value → bodies.Test → Type 0
equals here at v w c = (d : bodies.Value) × (e : bodies.Value) × (x.value here at v ≡ Ok d) × (x.value here at w ≡ Ok e) × (bodies.equal d e ≡ c)

equal-fits : (i : Inside) (here : Site) (at : ℕ) (v w : Value) (c : bodies.Test) → IsSite i here → values_fit i v w ≡ true → equals here at v w c → FitsTest (scope_at here) c
equal-fits i here at v w c h k m = subst (FitsTest (scope_at here)) m.4 (both_fit i here at v w m.0 m.1 h k m.2 m.3)

alike-fits : (i : Inside) (here : Site) (at : ℕ) (v w : Value) (c : bodies.Test) → IsSite i here → values_fit i v w ≡ true → alike here at v w ≡ Ok c → FitsTest (scope_at here) c
alike-fits i here at (u.Value.elements (u.of_signal p)) (u.Value.elements (u.character y)) c h k m =
    let z = beside i (vector_shape i (u.of_signal p)) (u.Value.elements (u.character y)) k in
    let es = bound (place_elements here p) _ c m in
    place-level i here p z.shape true y c es.x h z.is es.gave (ok (level_test true es.x y) c es.then_gave)
alike-fits i here at (u.Value.elements (u.of_signal p)) (u.Value.elements (u.enclosed_character y)) c h k m =
    let z = beside i (vector_shape i (u.of_signal p)) (u.Value.elements (u.enclosed_character y)) k in
    let es = bound (place_elements here p) _ c m in
    place-level i here p z.shape false y c es.x h z.is es.gave (ok (level_test false es.x y) c es.then_gave)
alike-fits i here at (u.Value.elements (u.character y)) (u.Value.elements (u.of_signal p)) c h k m =
    let es = bound (place_elements here p) _ c m in
    place-level i here p one false y c es.x h (has_shape one (vector_shape i (u.of_signal p)) k) es.gave (ok (level_test false es.x y) c es.then_gave)
alike-fits i here at (u.Value.elements (u.enclosed_character y)) (u.Value.elements (u.of_signal p)) c h k m =
    let es = bound (place_elements here p) _ c m in
    place-level i here p one false y c es.x h (has_shape one (vector_shape i (u.of_signal p)) k) es.gave (ok (level_test false es.x y) c es.then_gave)
alike-fits i here at v w c h k m =
    let d = bound (x.value here at v) _ c m in
    let e = bound (x.value here at w) _ c d.then_gave in
    equal-fits i here at v w c h k (d.x, e.x, d.gave, e.gave, ok (bodies.equal d.x e.x) c e.then_gave)

-- ---- edges

without-loops : (i : Inside) (here : Site) → IsSite i here → IsSite (record i { loops = 0 }) here
without-loops i here h = record { constants = h.constants; ports = h.ports; signals = h.signals; variables = h.variables }

edge-element : (i : Inside) (here : Site) (p : SignalPart) (e : ℕ) → IsSite i here → edge_fits i p ≡ true → the_element p.at (place_elements here p) ≡ Ok e → HasType (scope_at here).nets nine_valued e
edge-element i here p e h k m =
    let j : Inside = record i { loops = 0 } in
    let q = the-element p.at (place_elements here p) e m in
    let w = each-name-fits j here p one q.es (without-loops i here h) (has_shape one (place_shape j p) k) q.gave in
    first_is (HasType (scope_at here).nets nine_valued) q.es e w.typed q.first

edge-fits : (here : Site) (kind : Edge) (e : ℕ) → HasType (scope_at here).nets nine_valued e → FitsTest (scope_at here) (edge_test kind e)
edge-fits here To1 e h = (h, h)
edge-fits here To0 e h = (h, h)
edge-fits here _ e h = h

-- ---- all tests

pub each-test-fits : EachTestFits
unfolding x.test
each-test-fits i here (u.holds v) c h k m =
    let e = bound (x.vector here v) _ c m in
    let w = each-vector-fits i here v one e.x h (has_shape one (vector_shape i v) k) e.gave in
    subst (FitsTest (scope_at here)) (ok (bodies.condition e.x) c e.then_gave) (w.fits, w.width)
each-test-fits i here (u.Test.fixed t) c h k m =
    let d = bound (decision here.integers t) _ c m in
    subst (FitsTest (scope_at here)) (ok (bodies.decided d.x) c d.then_gave) tt
each-test-fits i here (u.alike at v w) c h k m = alike-fits i here at v w c h k m
each-test-fits i here (u.unlike at v w) c h k m =
    let d = bound (x.value here at v) _ c m in
    let e = bound (x.value here at w) _ c d.then_gave in
    subst (FitsTest (scope_at here)) (ok (bodies.unequal d.x e.x) c e.then_gave) (both_fit i here at v w d.x e.x h k d.gave e.gave)
each-test-fits i here (u.Test.compared at op v w) c h k m =
    let both = and_parts (fits_shape vector (vector_shape i v)) (fits_shape vector (vector_shape i w)) k in
    let d = bound (x.vector here v) _ c m in
    let e = bound (x.vector here w) _ c d.then_gave in
    subst (FitsTest (scope_at here)) (ok (bodies.compared op d.x e.x) c e.then_gave) (
      (each-vector-fits i here v vector d.x h (has_shape vector (vector_shape i v) both.0) d.gave).fits,
      (each-vector-fits i here w vector e.x h (has_shape vector (vector_shape i w) both.1) e.gave).fits,
    )
each-test-fits i here (u.compared_to at op v n) c h k m =
    let both = and_parts (fits_shape vector (vector_shape i v)) (static_fits i n) k in
    let d = bound (x.vector here v) _ c m in
    let j = bound (integers.natural here.integers at n) _ c d.then_gave in
    subst (FitsTest (scope_at here)) (ok (bodies.compared_to op d.x j.x) c j.then_gave) (each-vector-fits i here v vector d.x h (has_shape vector (vector_shape i v) both.0) d.gave).fits
each-test-fits i here (u.compared_with at op n v) c h k m =
    let both = and_parts (static_fits i n) (fits_shape vector (vector_shape i v)) k in
    let j = bound (integers.natural here.integers at n) _ c m in
    let d = bound (x.vector here v) _ c j.then_gave in
    subst (FitsTest (scope_at here)) (ok (bodies.compared_to (x.converse_of op) d.x j.x) c d.then_gave) (each-vector-fits i here v vector d.x h (has_shape vector (vector_shape i v) both.1) d.gave).fits
each-test-fits i here (u.compared_to_computed at op v n) c h k m =
    let both = and_parts (fits_shape vector (vector_shape i v)) (computed_fits i n) k in
    let d = bound (x.vector here v) _ c m in
    let z = bound (x.computed here at n) _ c d.then_gave in
    subst (FitsTest (scope_at here)) (ok (bodies.compared op d.x (natural z.x)) c z.then_gave) (
      (each-vector-fits i here v vector d.x h (has_shape vector (vector_shape i v) both.0) d.gave).fits,
      natural_fits here z.x (computed_is_number i here at n z.x h both.1 z.gave),
    )
each-test-fits i here (u.compared_with_computed at op n v) c h k m =
    let both = and_parts (computed_fits i n) (fits_shape vector (vector_shape i v)) k in
    let z = bound (x.computed here at n) _ c m in
    let d = bound (x.vector here v) _ c z.then_gave in
    subst (FitsTest (scope_at here)) (ok (bodies.compared op (natural z.x) d.x) c d.then_gave) (
      natural_fits here z.x (computed_is_number i here at n z.x h both.0 z.gave),
      (each-vector-fits i here v vector d.x h (has_shape vector (vector_shape i v) both.1) d.gave).fits,
    )
each-test-fits i here (u.computed_compared at op n m) c h k e =
    let both = and_parts (computed_fits i n) (computed_fits i m) k in
    let a = bound (x.computed here at n) _ c e in
    let b = bound (x.computed here at m) _ c a.then_gave in
    subst (FitsTest (scope_at here)) (ok (relation op a.x b.x) c b.then_gave)
    (relation_fits here op a.x b.x (computed_is_number i here at n a.x h both.0 a.gave) (computed_is_number i here at m b.x h both.1 b.gave))
each-test-fits i here (u.edge kind p) c h k m =
    let e = bound (the_element p.at (place_elements here p)) _ c m in
    subst (FitsTest (scope_at here)) (ok (edge_test kind e.x) c e.then_gave) (edge-fits here kind e.x (edge-element i here p e.x h k e.gave))
each-test-fits i here (u.event p) c h k m =
    let e = bound (the_element p.at (place_elements here p)) _ c m in
    subst (FitsTest (scope_at here)) (ok (bodies.event e.x) c e.then_gave) (edge-element i here p e.x h k e.gave)
each-test-fits i here (u.Test.negated t) c h k m =
    let d = bound (x.test here t) _ c m in
    subst (FitsTest (scope_at here)) (ok (bodies.negated d.x) c d.then_gave) (each-test-fits i here t d.x h k d.gave)
each-test-fits i here (u.Test.both op t r) c h k m =
    let both = and_parts (test_fits i t) (test_fits i r) k in
    let d = bound (x.test here t) _ c m in
    let e = bound (x.test here r) _ c d.then_gave in
    subst (FitsTest (scope_at here)) (ok (bodies.combined op d.x e.x) c e.then_gave) (each-test-fits i here t d.x h both.0 d.gave, each-test-fits i here r e.x h both.1 e.gave)
