-- Expanded bodies fit, by induction over statements.
use Rattle.std.proofs.Common.{◌≡◌, ℕ, suc, ◌+◌, ◌<◌, ◌≤◌, true, ◌&&◌, ◌==◌, List, [], ◌∷◌, ◌++◌, length, map, Option, Some, None, Ok, All, refl, sym, ap, ◌∙◌, subst, arith}
use Rattle.std.specs.Prelude.{ℤ, flat_map, slice_get, is_some}
use Rattle.std.specs.List.{list_all, range_with_len}
use Rattle.std.proofs.lemmas.Option.{slice_get_within, slice_get-get_or}
use Rattle.std.proofs.lemmas.Bool.{eqb-true, ltb-true, and_parts}
use Rattle.std.proofs.lemmas.List.{length-append, length-map}
use Rattle.std.proofs.lemmas.List.Elements.{All-cons, All-nil, All-head, All-tail, All-weaker}
use Rattle.std.proofs.lemmas.List.FromFn.{length-range_with_len, get_or-range_with_len}
use Rattle.vhdl_values.specs.declared.scalar.Nine.{Nine}
use Rattle.vhdl_values.specs.Scalar.{code_of}
use Rattle.vhdl_numbers.specs.TwosComplement.{signed_digits_of}
use Rattle.vhdl_numbers.proofs.Lengths.{length-signed_digits_of}
use Rattle.rtl_model.specs.bodies.Types.{ElementType, nine_valued, enumeration, HasType}
use Rattle.rtl_model.specs.bodies.Fits.{IsWidth, width, value_width, FitsAs, DrivesType, FitsChoice, FitsStmt, Fits, FitsBranches, FitsAlternatives}
use Rattle.rtl_model.specs.bodies.Body as bodies
use Rattle.vhdl_names_rules.specs.units.Expressions.{Signal, SignalPart, Part, Computed, Chosen, Value}
use Rattle.vhdl_names_rules.specs.units.Expressions as u
use Rattle.vhdl_names_rules.specs.units.Statements as s
use Rattle.vhdl_names_rules.specs.units.Units as units
use Rattle.vhdl_names_rules.specs.units.Units.{Form}
use Rattle.vhdl_names_rules.specs.Rules.{◌>>=◌}
use Rattle.vhdl_names_rules.specs.sound.Expressions.{Inside, Shape, vector, state, number, port_form, is_number, computed_fits, signal_form, part_shape, place_shape, has_vector, chosen_shape, chosen_fits, vector_shape, value_shape, range_fits, test_fits}
use Rattle.vhdl_names_rules.specs.sound.Expressions as sound
use Rattle.vhdl_names_rules.specs.sound.Statements.{given_fits, given_fits_target, is_driven, within_loop, choice_fits, statement_fits, statements_fit, branches_fit, alternatives_fit}
use Rattle.vhdl_expand_rules.specs.declared.fault.ElabProblem.TheVariants.{Length}
use Rattle.vhdl_expand_rules.specs.Elab.{Elab, each, same_length}
use Rattle.vhdl_expand_rules.specs.Integers.{IntegerRange, Integers, of_range, integer_among, turns}
use Rattle.vhdl_expand_rules.specs.Kinds.{Bounds, ObjectKind, integer, bounds_size, number_size}
use Rattle.vhdl_expand_rules.specs.Computed.{Span, Number}
use Rattle.vhdl_expand_rules.specs.Site.{Site, in_loop, elements_count, place_elements, signal_elements, variable_elements, signal_kind, signal_bounds, variable_bounds}
use Rattle.vhdl_expand_rules.specs.Expressions as x
use Rattle.vhdl_expand_rules.specs.Expressions.{Row, kept_in}
use Rattle.vhdl_expand_rules.specs.Statements.{value_given, number_given, given_to, elements_given, choice, choices_spans, may_choose, numbers_in, choices_serve, digits_beside, spread, joined_bodies, one, statement, statements, branches, alternatives}
use Rattle.vhdl_expand_rules.specs.laws.Sites.{HasIntegers, IsOf, IsSite, kinds_types, scope_at}
use Rattle.vhdl_expand_rules.specs.laws.Expressions.{HasShape, type_of}
use Rattle.vhdl_expand_rules.specs.laws.Statements.{EachBodyFits}
use Rattle.vhdl_expand_rules.proofs.Steps.{ok, bound, kept, each-all}
use Rattle.vhdl_expand_rules.proofs.Options.{step, given_some}
use Rattle.vhdl_expand_rules.proofs.Digits.{integral, size_width}
use Rattle.vhdl_expand_rules.proofs.laws.Kinds.{codes_below}
use Rattle.vhdl_expand_rules.proofs.laws.Names.{is_width, zip_at, length-types, name_fits, each-name-fits, variable_fits}
use Rattle.vhdl_expand_rules.proofs.laws.Computed.{IsLong, kept_long}
use Rattle.vhdl_expand_rules.proofs.laws.Chosen.{a_vector, signal_long, variable_long, signal_digits, variable_digits}
use Rattle.vhdl_expand_rules.proofs.laws.Vectors.{computed_is_number, row_fits, each-vector-fits}
use Rattle.vhdl_expand_rules.proofs.laws.Tests.{has_shape, value_of_shape, each-value-fits, each-test-fits}

-- ---- what is assigned

-- a value for so many elements
record IsGiven (here : Site) (z : Shape) (len : ℕ) (v : bodies.Value) : Type 0 where
  fits : FitsAs (scope_at here) (type_of z) v
  width : len ≡ value_width v

given-fits : (i : Inside) (here : Site) (at : ℕ) (z : Shape) (len : ℕ) (g : s.Given) (v : bodies.Value) → IsSite i here → IsWidth len → given_fits i z g ≡ true → value_given here at len g ≡ Ok v → IsGiven here z len v
unfolding value_given
given-fits i here at z len (s.single y) v h w k m =
    let e = bound (x.value here at y) _ v m in
    let same = bound (same_length at (value_width e.x) len) _ v e.then_gave in
    let q = each-value-fits i here at y z e.x h k e.gave in
    subst (IsGiven here z len) (ok e.x v same.then_gave)
    (record { fits = q.fits; width = sym (eqb-true (value_width e.x) len (kept (Length (value_width e.x) len) at (value_width e.x == len) same.x same.gave)) })
given-fits i here at vector len (s.filled y) v h w k m =
    let e = bound (x.vector here y) _ v m in
    let same = bound (same_length at (width e.x) 1) _ v e.then_gave in
    let q = each-vector-fits i here y sound.one e.x h (has_shape sound.one (vector_shape i y) k) e.gave in
    subst (IsGiven here vector len) (ok (bodies.elements (bodies.filled len e.x)) v same.then_gave) (record { fits = (w, q.fits, q.width); width = refl })
given-fits i here at _ len _ v h w k m = absurd cc

-- what is given to an integer has its digits
number-given : (i : Inside) (here : Site) (at : ℕ) (r : IntegerRange) (len : ℕ) (c : Computed) (v : bodies.Value) → IsSite i here → HasIntegers r → len ≡ number_size r → computed_fits i c ≡ true → number_given here at r c ≡ Ok v
    → IsGiven here number len v
number-given i here at r len (u.static y) v h f e k m =
    let n = bound (integer_among here.integers at (of_range r) y) _ v m in
    let long = length-signed_digits_of (number_size r) n.x in
    subst (IsGiven here number len) (ok (bodies.elements (bodies.constant (signed_digits_of (number_size r) n.x))) v n.then_gave)
    (record { fits = subst IsWidth (sym long) (size_width r (integral r f)); width = e ∙ sym long })
number-given i here at r len c v h f e k m =
    let n = bound (x.computed here at c) _ v m in
    let w = kept_long here r n.x f (computed_is_number i here at c n.x h k n.gave) in
    subst (IsGiven here number len) (ok (bodies.elements (kept_in r n.x)) v n.then_gave) (record { fits = w.fits; width = e ∙ sym w.long })

-- to an object of this kind
given-to : (i : Inside) (here : Site) (at : ℕ) (o : Option ObjectKind) (z : Shape) (len : ℕ) (g : s.Given) (v : bodies.Value) → IsSite i here → IsWidth len
    → ((r : IntegerRange) → o ≡ Some (integer r) → HasIntegers r × (len ≡ number_size r)) → given_fits i z g ≡ true → given_to here at o len g ≡ Ok v → IsGiven here z len v
given-to i here at (Some (integer r)) z len (s.single (u.Value.computed c)) v h w of k m =
    let f = given_some (computed_fits i c) number z (has_shape z (value_shape i (u.Value.computed c)) k) in
    let q = of r refl in
    subst (λ (y : Shape). IsGiven here y len v) f.1 (number-given i here at r len c v h q.0 q.1 f.0 m)
given-to i here at o z len g v h w of k m = given-fits i here at z len g v h w k m

record Target (i : Inside) (o : Option Shape) (g : s.Given) : Type 0 where
  shape : Shape
  is : o ≡ Some shape
  fits : given_fits i shape g ≡ true

target : (i : Inside) (o : Option Shape) (g : s.Given) → given_fits_target i o g ≡ true → Target i o g
target i None g h = absurd cc
target i (Some z) g h = record { shape = z; is = refl; fits = h }

-- each element is its own driver
drives : (here : Site) (t : ElementType) (e : ℕ) → HasType (scope_at here).nets t e → DrivesType (scope_at here) t e
drives here t e h =
    let n : ℕ = elements_count here.ports + elements_count here.signals in
    let len : length (kinds_types here.ports ++ kinds_types here.signals) ≡ n =
    length-append (kinds_types here.ports) (kinds_types here.signals) ∙ ap (λ m. m + length (kinds_types here.signals)) (length-types here.ports) ∙ ap (λ m. elements_count here.ports + m) (length-types here.signals) in
    let below : e < n = subst (λ m. e < m) len (slice_get_within (kinds_types here.ports ++ kinds_types here.signals) e t h) in
    let there : e < length (range_with_len 0 n) = subst (λ m. e < m) (sym (length-range_with_len 0 n)) below in
    (e, slice_get-get_or (range_with_len 0 n) e 0 there ∙ ap Some (get_or-range_with_len 0 n e 0 below ∙ none e), h)
  where
    none : (e : ℕ) → 0 + e ≡ e
    none e = omega arith

-- an integer has no parts
number-form : (f : Form) (r : IntegerRange) → IsOf f (integer r) → is_number (Some f) ≡ true
number-form (units.Form.number t) r h = refl
number-form units.element r h = elim h [ ]
number-form (units.vector t) r h = elim h [ ]
number-form (units.enumeration t) r h = elim h [ ]
number-form units.boolean r h = elim h [ ]

only-whole : (i : Inside) (f : Form) (part : Part) (z : Shape) → is_number (Some f) ≡ true → part_shape i f part ≡ Some z → part ≡ u.whole
only-whole i (units.Form.number t) u.whole z h e = refl
only-whole i (units.Form.number t) (u.Part.element y) z h e = absurd cc
only-whole i (units.Form.number t) (u.slice y) z h e = absurd cc
only-whole i units.element part z h e = absurd cc
only-whole i (units.vector t) part z h e = absurd cc
only-whole i (units.enumeration t) part z h e = absurd cc
only-whole i units.boolean part z h e = absurd cc

signal-number : (i : Inside) (here : Site) (y : Signal) (f : Form) (r : IntegerRange) → IsSite i here → signal_form i y ≡ Some f → signal_kind here y ≡ Some (integer r) → is_number (Some f) ≡ true
signal-number i here (u.port n) f r h e g = number-form f r (zip_at IsOf (map port_form i.ports) here.ports n f (integer r) h.ports e g)
signal-number i here (u.Signal.signal n) f r h e g = number-form f r (zip_at IsOf i.signals here.signals n f (integer r) h.signals e g)

assigned-digits : (i : Inside) (here : Site) (p : SignalPart) (z : Shape) (es : List ℕ) (r : IntegerRange) → IsSite i here → place_shape i p ≡ Some z → place_elements here p ≡ Ok es → signal_kind here p.signal ≡ Some (integer r)
    → HasIntegers r × (length es ≡ number_size r)
assigned-digits i here p z es r h k m g =
    let f = step (signal_form i p.signal) _ z k in
    let is = signal-number i here p.signal f.x r h f.gave g in
    let whole = only-whole i f.x p.part z is f.then_gave in
    let w = signal_digits i here p.at p.signal es r h (ap is_number f.gave ∙ is) (subst (λ (part : Part). signal_elements here p.at p.signal part ≡ Ok es) whole m) g in
    (w.integers, w.long)

set-digits : (i : Inside) (here : Site) (at n : ℕ) (part : Part) (z : Shape) (f : Form) (es : List ℕ) (r : IntegerRange) → IsSite i here → slice_get i.variables n ≡ Some f → part_shape i f part ≡ Some z
    → variable_elements here at n part ≡ Ok es → slice_get here.variables n ≡ Some (integer r) → HasIntegers r × (length es ≡ number_size r)
set-digits i here at n part z f es r h a c m g =
    let is = number-form f r (zip_at IsOf i.variables here.variables n f (integer r) h.variables a g) in
    let whole = only-whole i f part z is c in
    let w = variable_digits i here at n es r h (ap is_number a ∙ is) (subst (λ (y : Part). variable_elements here at n y ≡ Ok es) whole m) g in
    (w.integers, w.long)

assign-fits : (i : Inside) (here : Site) (p : SignalPart) (g : s.Given) (es : List ℕ) (v : bodies.Value) → IsSite i here → given_fits_target i (place_shape i p) g ≡ true → place_elements here p ≡ Ok es
    → given_to here p.at (signal_kind here p.signal) (length es) g ≡ Ok v → FitsStmt (scope_at here) (bodies.assign es v)
assign-fits i here p g es v h k m n =
    let z = target i (place_shape i p) g k in
    let q = each-name-fits i here p z.shape es h z.is m in
    let w = given-to i here p.at (signal_kind here p.signal) z.shape (length es) g v h (is_width z.shape (length es) q.width) (λ r e. assigned-digits i here p z.shape es r h z.is m e) z.fits n in
    (type_of z.shape, w.fits, w.width, All-weaker (HasType (scope_at here).nets (type_of z.shape)) (DrivesType (scope_at here) (type_of z.shape)) (drives here (type_of z.shape)) es q.typed)

set-fits : (i : Inside) (here : Site) (at n : ℕ) (part : Part) (g : s.Given) (z : Shape) (f : Form) (es : List ℕ) (v : bodies.Value) → IsSite i here → slice_get i.variables n ≡ Some f → part_shape i f part ≡ Some z
    → given_fits i z g ≡ true → variable_elements here at n part ≡ Ok es → given_to here at (slice_get here.variables n) (length es) g ≡ Ok v → FitsStmt (scope_at here) (bodies.set es v)
set-fits i here at n part g z f es v h a c k m e =
    let q = variable_fits i here at n part f z es h a c m in
    let w = given-to i here at (slice_get here.variables n) z (length es) g v h (is_width z (length es) q.width) (λ r is. set-digits i here at n part z f es r h a c m is) k e in
    (type_of z, w.fits, w.width, q.typed)

-- ---- what a run chooses of a target

given-elements : (i : Inside) (here : Site) (at : ℕ) (z : Shape) (len : ℕ) (g : s.Given) (e : bodies.Expr) → IsSite i here → IsWidth len → given_fits i z g ≡ true → elements_given here at len g ≡ Ok e → IsLong here len e
unfolding elements_given
given-elements i here at z len (s.single (u.Value.elements y)) e h w k m =
    let d = bound (x.vector here y) _ e m in
    let same = bound (same_length at (width d.x) len) _ e d.then_gave in
    let q = each-vector-fits i here y z d.x h (has_shape z (vector_shape i y) k) d.gave in
    subst (IsLong here len) (ok d.x e same.then_gave)
    (record { fits = q.fits; long = eqb-true (width d.x) len (kept (Length (width d.x) len) at (width d.x == len) same.x same.gave) })
given-elements i here at z len (s.single _) e h w k m = absurd cc
given-elements i here at vector len (s.filled y) e h w k m =
    let d = bound (x.vector here y) _ e m in
    let same = bound (same_length at (width d.x) 1) _ e d.then_gave in
    let q = each-vector-fits i here y sound.one d.x h (has_shape sound.one (vector_shape i y) k) d.gave in
    subst (IsLong here len) (ok (bodies.filled len d.x) e same.then_gave) (record { fits = (w, q.fits, q.width); long = refl })
given-elements i here at _ len _ e h w k m = absurd cc

assign-in-fits : (i : Inside) (here : Site) (at : ℕ) (y : Signal) (c : Chosen) (g : s.Given) (es : List ℕ) (b : Bounds) (r : Row) (e : bodies.Expr) → IsSite i here → has_vector (signal_form i y) ≡ true → chosen_fits i c ≡ true
    → given_fits i (chosen_shape c) g ≡ true → signal_elements here at y u.whole ≡ Ok es → signal_bounds here at y ≡ Ok b → x.chosen_row here at b c ≡ Ok r → elements_given here at r.spacing.len g ≡ Ok e
    → FitsStmt (scope_at here) (bodies.assign_at r.index r.spacing es e)
assign-in-fits i here at y c g es b r e h k l m p q o n =
    let f = a_vector (signal_form i y) k in
    let w = name_fits i here at y u.whole vector es h (ap (λ (z : Option Form). z >>= λ a. part_shape i a u.whole) f.1) p in
    let long = signal_long here at y es b q p in
    let row = row_fits i here at b c r h l o (subst IsWidth long w.width) in
    let v = given-elements i here at (chosen_shape c) r.spacing.len g e h row.spacing.0 m n in
    let few : r.spacing.len ≤ bounds_size b = row.within in
    (row.spacing, row.index, v.fits, sym v.long, All-weaker (HasType (scope_at here).nets nine_valued) (DrivesType (scope_at here) nine_valued) (drives here nine_valued) es w.typed, omega (arith, few, long))

set-in-fits : (i : Inside) (here : Site) (at n : ℕ) (c : Chosen) (g : s.Given) (es : List ℕ) (b : Bounds) (r : Row) (e : bodies.Expr) → IsSite i here → has_vector (slice_get i.variables n) ≡ true → chosen_fits i c ≡ true
    → given_fits i (chosen_shape c) g ≡ true → variable_elements here at n u.whole ≡ Ok es → variable_bounds here at n ≡ Ok b → x.chosen_row here at b c ≡ Ok r → elements_given here at r.spacing.len g ≡ Ok e
    → FitsStmt (scope_at here) (bodies.set_at r.index r.spacing es e)
set-in-fits i here at n c g es b r e h k l m p q o a =
    let f = a_vector (slice_get i.variables n) k in
    let w = variable_fits i here at n u.whole (units.vector f.0) vector es h f.1 refl p in
    let long = variable_long here at n es b q p in
    let row = row_fits i here at b c r h l o (subst IsWidth long w.width) in
    let v = given-elements i here at (chosen_shape c) r.spacing.len g e h row.spacing.0 m a in
    let few : r.spacing.len ≤ bounds_size b = row.within in
    (row.spacing, row.index, v.fits, sym v.long, w.typed, omega (arith, few, long))

-- ---- choices

module _ (here : Site) (at : ℕ) where
  values-fit : (len : ℕ) (vs : List Nine) (ns : List ℕ) → choice at len (s.values vs) ≡ Ok ns → FitsChoice (scope_at here) nine_valued len ns
  unfolding choice
  values-fit len vs ns h =
      let same = bound (same_length at (length vs) len) _ ns h in
      subst (FitsChoice (scope_at here) nine_valued len) (ok (map code_of vs) ns same.then_gave)
      (length-map vs code_of ∙ eqb-true (length vs) len (kept (Length (length vs) len) at (length vs == len) same.x same.gave), codes_below vs)

  one-fits : (n p len : ℕ) → p < n → len ≡ 1 → FitsChoice (scope_at here) (enumeration n) len (p ∷ [])
  one-fits n p len h e = (sym e, All-cons (λ m. m < n) p [] h (All-nil (λ m. m < n)))

  choice-fits : (i : Inside) (z : Shape) (len : ℕ) (c : s.Choice) (ns : List ℕ) → HasShape z len → choice_fits i (Some z) c ≡ true → choice at len c ≡ Ok ns → FitsChoice (scope_at here) (type_of z) len ns
  unfolding choice
  choice-fits i (state count) len (s.Choice.position p) ns w h k = subst (FitsChoice (scope_at here) (enumeration count) len) (ok (p ∷ []) ns k) (one-fits count p len (ltb-true p count h) w)
  choice-fits i sound.one len (s.values (v ∷ [])) ns w h k = values-fit len (v ∷ []) ns k
  choice-fits i vector len (s.values (v ∷ vs)) ns w h k = values-fit len (v ∷ vs) ns k
  choice-fits i number len (s.numbers j) ns w h k = absurd cc
  choice-fits i z len c ns w h k = absurd cc

  choices-fit : (i : Inside) (z : Shape) (len : ℕ) (cs : List s.Choice) (nss : List (List ℕ)) → HasShape z len → list_all (choice_fits i (Some z)) cs ≡ true → each (choice at len) cs ≡ Ok nss
      → All (FitsChoice (scope_at here) (type_of z) len) nss
  choices-fit i z len [] nss w h k = subst (All (FitsChoice (scope_at here) (type_of z) len)) (ok [] nss k) (All-nil (FitsChoice (scope_at here) (type_of z) len))
  choices-fit i z len (c ∷ cs) nss w h k =
      let both = and_parts (choice_fits i (Some z) c) (list_all (choice_fits i (Some z)) cs) h in
      let ns = bound (choice at len c) _ nss k in
      let rest = bound (each (choice at len) cs) _ nss ns.then_gave in
      subst (All (FitsChoice (scope_at here) (type_of z) len)) (ok (ns.x ∷ rest.x) nss rest.then_gave)
      (All-cons (FitsChoice (scope_at here) (type_of z) len) ns.x rest.x (choice-fits i z len c ns.x w both.0 ns.gave) (choices-fit i z len cs rest.x w both.1 rest.gave))

  -- Of a case on an enumeration's literal the choices are positions: they are all below some number, and so of an enumeration.
  record Positions (nss : List (List ℕ)) : Type 0 where
    count : ℕ
    fit : (n : ℕ) → count ≤ n → All (FitsChoice (scope_at here) (enumeration n) 1) nss

  positions : (i : Inside) (cs : List s.Choice) (nss : List (List ℕ)) → list_all (choice_fits i None) cs ≡ true → each (choice at 1) cs ≡ Ok nss → Positions nss
  unfolding choice
  positions i [] nss h k = subst Positions (ok [] nss k) (record { count = 0; fit = λ n l. All-nil (FitsChoice (scope_at here) (enumeration n) 1) })
  positions i (s.values vs ∷ cs) nss h k = absurd cc
  positions i (s.numbers j ∷ cs) nss h k = absurd cc
  positions i (s.Choice.position p ∷ cs) nss h k =
      let rest = bound (each (choice at 1) cs) _ nss k in
      let w = positions i cs rest.x h rest.gave in
      subst Positions (ok ((p ∷ []) ∷ rest.x) nss rest.then_gave) (record {
        count = suc p + w.count;
        fit = λ n l. All-cons (FitsChoice (scope_at here) (enumeration n) 1) (p ∷ []) rest.x (one-fits n p 1 (omega (arith, l)) refl) (w.fit n (omega (arith, l)));
      })

-- numbers are spread as digits
spread-digits : (here : Site) (n : Number) (xs : List ℤ) → All (FitsChoice (scope_at here) nine_valued (width n.digits)) (map (digits_beside n) xs)
spread-digits here n [] = All-nil (FitsChoice (scope_at here) nine_valued (width n.digits))
spread-digits here n (y ∷ ys) =
    let ds = signed_digits_of (width n.digits) y in
    All-cons (FitsChoice (scope_at here) nine_valued (width n.digits)) (digits_beside n y) (map (digits_beside n) ys)
    (length-map ds code_of ∙ length-signed_digits_of (width n.digits) y, codes_below ds) (spread-digits here n ys)

spread-fits : (here : Site) (known : Integers) (among : Span) (n : Number) (cs : List s.Choice) (nss : List (List ℕ)) → spread known among n cs ≡ Ok nss → All (FitsChoice (scope_at here) nine_valued (width n.digits)) nss
spread-fits here known among n cs nss h =
    let ss = bound (choices_spans known among cs) _ nss h in
    let xs : List ℤ = flat_map (λ (y : ℕ × Span). numbers_in n.span y.1) ss.x in
    subst (All (FitsChoice (scope_at here) nine_valued (width n.digits))) (ok (map (digits_beside n) xs) nss ss.then_gave) (spread-digits here n xs)

-- ---- statements

module _ (here : Site) where
  single-fits : (y : bodies.Stmt) (body : bodies.Stmts) → one y ≡ body → FitsStmt (scope_at here) y → Fits (scope_at here) body
  single-fits y body e h = subst (Fits (scope_at here)) e (h, tt)

  followed-fits : (a c : bodies.Stmts) → Fits (scope_at here) a → Fits (scope_at here) c → Fits (scope_at here) (bodies.followed_by a c)
  followed-fits bodies.done c h k = k
  followed-fits (bodies.step y a) c h k = (h.0, followed-fits a c h.1 k)

  joined-fits : (ss : List bodies.Stmts) → All (Fits (scope_at here)) ss → Fits (scope_at here) (joined_bodies ss)
  joined-fits [] h = tt
  joined-fits (y ∷ ss) h = followed-fits y (joined_bodies ss) (All-head (Fits (scope_at here)) y ss h) (joined-fits ss (All-tail (Fits (scope_at here)) y ss h))

in-loop : (i : Inside) (here : Site) (j : ℤ) → IsSite i here → IsSite (within_loop i) (in_loop here j)
in-loop i here j h = record { constants = h.constants; ports = h.ports; signals = h.signals; variables = h.variables }

-- the alternatives of a case on an enumeration's literal
record OfPosition (here : Site) (alts : bodies.Alternatives) : Type 0 where
  count : ℕ
  fit : (n : ℕ) → count ≤ n → FitsAlternatives (scope_at here) (enumeration n) 1 alts

some-shape : (o : Option Shape) → is_some o ≡ true → (z : Shape) × (o ≡ Some z)
some-shape None h = absurd cc
some-shape (Some z) h = (z, refl)

-- a case on what has a shape, whose alternatives fit
selected-fits : (alts : s.Alternatives) (i : Inside) (here : Site) (at : ℕ) (v : Value) (e : bodies.Value) (cs : bodies.Alternatives) (body : bodies.Stmts) → IsSite i here → (is_some (value_shape i v) && alternatives_fit i (value_shape i v) alts) ≡ true
    → ((z : Shape) (len : ℕ) (cs : bodies.Alternatives) → HasShape z len → alternatives_fit i (Some z) alts ≡ true → alternatives here (each (choice at len)) alts ≡ Ok cs → FitsAlternatives (scope_at here) (type_of z) len cs)
    → x.value here at v ≡ Ok e → alternatives here (each (choice at (value_width e))) alts ≡ Ok cs → one (bodies.case_of e cs) ≡ body → Fits (scope_at here) body
selected-fits alts i here at v e cs body h k go m n is =
    let both = and_parts (is_some (value_shape i v)) (alternatives_fit i (value_shape i v) alts) k in
    let z = some-shape (value_shape i v) both.0 in
    let w = value_of_shape i here at v z.0 e h z.1 m in
    let sound : alternatives_fit i (Some z.0) alts ≡ true = ap (λ (o : Option Shape). alternatives_fit i o alts) (sym z.1) ∙ both.1 in
    subst (Fits (scope_at here)) is ((type_of z.0, w.fits, go z.0 (value_width e) cs w.width sound n), tt)

mutual
  unfolding statement statement_fits x.value

  statement-fits : (y : s.Statement) (i : Inside) (here : Site) (body : bodies.Stmts) → IsSite i here → statement_fits i y ≡ true → statement here y ≡ Ok body → Fits (scope_at here) body
  statement-fits s.null_of i here body h k m = subst (Fits (scope_at here)) (ok (one bodies.null_of) body m) (tt, tt)
  statement-fits (s.assign p g) i here body h k m =
      let both = and_parts (is_driven i p.signal) (given_fits_target i (place_shape i p) g) k in
      let es = bound (place_elements here p) _ body m in
      let v = bound (given_to here p.at (signal_kind here p.signal) (length es.x) g) _ body es.then_gave in
      subst (Fits (scope_at here)) (ok (one (bodies.assign es.x v.x)) body v.then_gave) (assign-fits i here p g es.x v.x h both.1 es.gave v.gave, tt)
  statement-fits (s.set at n part g) i here body h k m =
      let z = target i _ g k in
      let f = step (slice_get i.variables n) _ z.shape z.is in
      let es = bound (variable_elements here at n part) _ body m in
      let v = bound (given_to here at (slice_get here.variables n) (length es.x) g) _ body es.then_gave in
      subst (Fits (scope_at here)) (ok (one (bodies.set es.x v.x)) body v.then_gave)
      (set-fits i here at n part g z.shape f.x es.x v.x h f.gave f.then_gave z.fits es.gave v.gave, tt)
  statement-fits (s.assign_in at y c g) i here body h k m =
      let both = and_parts (is_driven i y && has_vector (signal_form i y) && chosen_fits i c) (given_fits i (chosen_shape c) g) k in
      let first = and_parts (is_driven i y && has_vector (signal_form i y)) (chosen_fits i c) both.0 in
      let vectors = and_parts (is_driven i y) (has_vector (signal_form i y)) first.0 in
      let es = bound (signal_elements here at y u.whole) _ body m in
      let b = bound (signal_bounds here at y) _ body es.then_gave in
      let r = bound (x.chosen_row here at b.x c) _ body b.then_gave in
      let e = bound (elements_given here at r.x.spacing.len g) _ body r.then_gave in
      single-fits here (bodies.assign_at r.x.index r.x.spacing es.x e.x) body (ok (one (bodies.assign_at r.x.index r.x.spacing es.x e.x)) body e.then_gave)
      (assign-in-fits i here at y c g es.x b.x r.x e.x h vectors.1 first.1 both.1 es.gave b.gave r.gave e.gave)
  statement-fits (s.set_in at n c g) i here body h k m =
      let both = and_parts (has_vector (slice_get i.variables n) && chosen_fits i c) (given_fits i (chosen_shape c) g) k in
      let first = and_parts (has_vector (slice_get i.variables n)) (chosen_fits i c) both.0 in
      let es = bound (variable_elements here at n u.whole) _ body m in
      let b = bound (variable_bounds here at n) _ body es.then_gave in
      let r = bound (x.chosen_row here at b.x c) _ body b.then_gave in
      let e = bound (elements_given here at r.x.spacing.len g) _ body r.then_gave in
      single-fits here (bodies.set_at r.x.index r.x.spacing es.x e.x) body (ok (one (bodies.set_at r.x.index r.x.spacing es.x e.x)) body e.then_gave)
      (set-in-fits i here at n c g es.x b.x r.x e.x h first.0 first.1 both.1 es.gave b.gave r.gave e.gave)
  statement-fits (s.if_of at bs) i here body h k m =
      let cs = bound (branches here bs) _ body m in
      subst (Fits (scope_at here)) (ok (one (bodies.if_of cs.x)) body cs.then_gave) (branches-fit bs i here cs.x h k cs.gave, tt)
  statement-fits (s.case_of at (u.Value.position p) alts) i here body h k m =
      let cs = bound (alternatives here (each (choice at 1)) alts) _ body m in
      let w = positions-fit alts i here at cs.x h k cs.gave in
      let n : ℕ = suc p + w.count in
      subst (Fits (scope_at here)) (ok (one (bodies.case_of (bodies.position p) cs.x)) body cs.then_gave) ((enumeration n, omega arith, w.fit n (omega arith)), tt)
  statement-fits (s.case_of at (u.Value.computed c) alts) i here body h k m =
      let both = and_parts (is_some (value_shape i (u.Value.computed c))) (alternatives_fit i (value_shape i (u.Value.computed c)) alts) k in
      let z = some-shape (value_shape i (u.Value.computed c)) both.0 in
      let f = given_some (computed_fits i c) number z.0 z.1 in
      let n = bound (x.computed here at c) _ body m in
      let served = bound (choices_serve here.integers at (may_choose c n.x) n.x alts) _ body n.then_gave in
      let codes : List s.Choice → Elab (List (List ℕ)) = spread here.integers (may_choose c n.x) n.x in
      let cs = bound (alternatives here codes alts) _ body served.then_gave in
      let w = computed_is_number i here at c n.x h f.0 n.gave in
      subst (Fits (scope_at here)) (ok (one (bodies.case_of (bodies.elements n.x.digits) cs.x)) body cs.then_gave) (
        (
          nine_valued,
          w.fits,
          alternatives-fit alts i here (value_shape i (u.Value.computed c)) codes nine_valued (width n.x.digits) cs.x h
              (λ ks nss a e. spread-fits here here.integers (may_choose c n.x) n.x ks nss e) both.1 cs.gave,
        ),
        tt,
      )
  statement-fits (s.case_of at v alts) i here body h k m =
      let e = bound (x.value here at v) _ body m in
      let cs = bound (alternatives here (each (choice at (value_width e.x))) alts) _ body e.then_gave in
      selected-fits alts i here at v e.x cs.x body h k
      (λ z len ds w a c. alternatives-fit alts i here (Some z) (each (choice at len)) (type_of z) len ds h (λ ks nss b f. choices-fit here at i z len ks nss w b f) a c)
      e.gave cs.gave (ok (one (bodies.case_of e.x cs.x)) body cs.then_gave)
  statement-fits (s.for_of at r inner) i here body h k m =
      let both = and_parts (range_fits i r) (statements_fit (within_loop i) inner) k in
      let is = bound (turns here.integers at r) _ body m in
      let ss = bound (each (λ j. statements (in_loop here j) inner) is.x) _ body is.then_gave in
      subst (Fits (scope_at here)) (ok (joined_bodies ss.x) body ss.then_gave)
      (joined-fits here ss.x (each-all (Fits (scope_at here)) (λ j. statements (in_loop here j) inner) is.x ss.x
      (λ j y e. statements-fit inner (within_loop i) (in_loop here j) y (in-loop i here j h) both.1 e) ss.gave))

  statements-fit : (ys : s.Statements) (i : Inside) (here : Site) (body : bodies.Stmts) → IsSite i here → statements_fit i ys ≡ true → statements here ys ≡ Ok body → Fits (scope_at here) body
  statements-fit s.done i here body h k m = subst (Fits (scope_at here)) (ok bodies.done body m) tt
  statements-fit (s.step y ys) i here body h k m =
      let both = and_parts (statement_fits i y) (statements_fit i ys) k in
      let a = bound (statement here y) _ body m in
      let c = bound (statements here ys) _ body a.then_gave in
      subst (Fits (scope_at here)) (ok (bodies.followed_by a.x c.x) body c.then_gave)
      (followed-fits here a.x c.x (statement-fits y i here a.x h both.0 a.gave) (statements-fit ys i here c.x h both.1 c.gave))

  branches-fit : (bs : s.Branches) (i : Inside) (here : Site) (cs : bodies.Branches) → IsSite i here → branches_fit i bs ≡ true → branches here bs ≡ Ok cs → FitsBranches (scope_at here) cs
  branches-fit s.no_else i here cs h k m = subst (FitsBranches (scope_at here)) (ok bodies.no_else cs m) tt
  branches-fit (s.otherwise ys) i here cs h k m =
      let a = bound (statements here ys) _ cs m in
      subst (FitsBranches (scope_at here)) (ok (bodies.otherwise a.x) cs a.then_gave) (statements-fit ys i here a.x h k a.gave)
  branches-fit (s.branch t ys bs) i here cs h k m =
      let both = and_parts (test_fits i t && statements_fit i ys) (branches_fit i bs) k in
      let first = and_parts (test_fits i t) (statements_fit i ys) both.0 in
      let c = bound (x.test here t) _ cs m in
      let a = bound (statements here ys) _ cs c.then_gave in
      let rest = bound (branches here bs) _ cs a.then_gave in
      subst (FitsBranches (scope_at here)) (ok (bodies.branch c.x a.x rest.x) cs rest.then_gave)
      (each-test-fits i here t c.x h first.0 c.gave, statements-fit ys i here a.x h first.1 a.gave, branches-fit bs i here rest.x h both.1 rest.gave)

  -- where the codes of choices fit a value of this type and length
  alternatives-fit : (alts : s.Alternatives) (i : Inside) (here : Site) (o : Option Shape) (codes : List s.Choice → Elab (List (List ℕ))) (t : ElementType) (len : ℕ) (cs : bodies.Alternatives) → IsSite i here
      → ((choices : List s.Choice) (nss : List (List ℕ)) → list_all (choice_fits i o) choices ≡ true → codes choices ≡ Ok nss → All (FitsChoice (scope_at here) t len) nss)
      → alternatives_fit i o alts ≡ true → alternatives here codes alts ≡ Ok cs → FitsAlternatives (scope_at here) t len cs
  alternatives-fit (s.others ys) i here o codes t len cs h w k m =
      let a = bound (statements here ys) _ cs m in
      subst (FitsAlternatives (scope_at here) t len) (ok (bodies.others a.x) cs a.then_gave) (statements-fit ys i here a.x h k a.gave)
  alternatives-fit (s.complete choices ys) i here o codes t len cs h w k m =
      let both = and_parts (list_all (choice_fits i o) choices) (statements_fit i ys) k in
      let a = bound (statements here ys) _ cs m in
      subst (FitsAlternatives (scope_at here) t len) (ok (bodies.others a.x) cs a.then_gave) (statements-fit ys i here a.x h both.1 a.gave)
  alternatives-fit (s.alternative choices ys alts) i here o codes t len cs h w k m =
      let both = and_parts (list_all (choice_fits i o) choices && statements_fit i ys) (alternatives_fit i o alts) k in
      let first = and_parts (list_all (choice_fits i o) choices) (statements_fit i ys) both.0 in
      let c = bound (codes choices) _ cs m in
      let a = bound (statements here ys) _ cs c.then_gave in
      let rest = bound (alternatives here codes alts) _ cs a.then_gave in
      subst (FitsAlternatives (scope_at here) t len) (ok (bodies.alternative c.x a.x rest.x) cs rest.then_gave)
      (w choices c.x first.0 c.gave, statements-fit ys i here a.x h first.1 a.gave, alternatives-fit alts i here o codes t len rest.x h w both.1 rest.gave)

  positions-fit : (alts : s.Alternatives) (i : Inside) (here : Site) (at : ℕ) (cs : bodies.Alternatives) → IsSite i here → alternatives_fit i None alts ≡ true → alternatives here (each (choice at 1)) alts ≡ Ok cs → OfPosition here cs
  positions-fit (s.others ys) i here at cs h k m =
      let a = bound (statements here ys) _ cs m in
      let w = statements-fit ys i here a.x h k a.gave in
      subst (OfPosition here) (ok (bodies.others a.x) cs a.then_gave) (record { count = 0; fit = λ n l. w })
  positions-fit (s.complete choices ys) i here at cs h k m =
      let both = and_parts (list_all (choice_fits i None) choices) (statements_fit i ys) k in
      let a = bound (statements here ys) _ cs m in
      let w = statements-fit ys i here a.x h both.1 a.gave in
      subst (OfPosition here) (ok (bodies.others a.x) cs a.then_gave) (record { count = 0; fit = λ n l. w })
  positions-fit (s.alternative choices ys alts) i here at cs h k m =
      let both = and_parts (list_all (choice_fits i None) choices && statements_fit i ys) (alternatives_fit i None alts) k in
      let first = and_parts (list_all (choice_fits i None) choices) (statements_fit i ys) both.0 in
      let c = bound (each (choice at 1) choices) _ cs m in
      let a = bound (statements here ys) _ cs c.then_gave in
      let rest = bound (alternatives here (each (choice at 1)) alts) _ cs a.then_gave in
      let p = positions here at i choices c.x first.0 c.gave in
      let w = statements-fit ys i here a.x h first.1 a.gave in
      let q = positions-fit alts i here at rest.x h both.1 rest.gave in
      subst (OfPosition here) (ok (bodies.alternative c.x a.x rest.x) cs rest.then_gave)
      (record { count = p.count + q.count; fit = λ n l. (p.fit n (omega (arith, l)), w, q.fit n (omega (arith, l))) })

pub each-body-fits : EachBodyFits
each-body-fits i here y body h k m = statements-fit y i here body h k m
