-- What names denote is what their meanings say (IEEE 1076-2008, clause 8).
use Rattle.std.proofs.Common.{◌≡◌, ℕ, Bool, true, false, not, List, [], ◌∷◌, Option, Some, None, refl, ap, sym, ◌∙◌, subst, cond}
use Rattle.std.specs.Prelude.{codes, nat_lt, ◌&&◌}
use Rattle.std.specs.List.{slice_get}
use Rattle.std.specs.Option.{option_map}
use Rattle.std.specs.Str.{bytes_eq}
use Rattle.std.proofs.lemmas.Bool.{and_parts, and_from}
use Rattle.std.proofs.lemmas.Option.{slice_get-map}
use Rattle.vhdl_values.specs.declared.scalar.Nine.TheVariants.{One}
use Rattle.vhdl_values.specs.declared.kinds.Counted.{Counted}
use Rattle.vhdl_values.specs.declared.kinds.Counted.TheVariants.{Shift}
use Rattle.vhdl_values.specs.declared.kinds.Edge.{Edge}
use Rattle.vhdl_lexer.specs.declared.language.Language.{Language}
use Rattle.vhdl_tree.specs.Tree as tree
use Rattle.vhdl_tree.specs.Tree.{Attribute}
use Rattle.vhdl_tree.specs.declared.declaration.Mode.{Mode}
use Rattle.vhdl_names_rules.specs.declared.kind.ElementKind.{ElementKind}
use Rattle.vhdl_names_rules.specs.declared.kind.ElementKind.TheVariants.{Element, LogicVector, Unsigned, OpenVector}
use Rattle.vhdl_names_rules.specs.declared.kind.ObjectType.{ObjectType}
use Rattle.vhdl_names_rules.specs.declared.kind.ObjectType.TheVariants.{Elements, Enumeration, Integers, Booleans}
use Rattle.vhdl_names_rules.specs.declared.kind.Function.{Function}
use Rattle.vhdl_names_rules.specs.declared.kind.Function.TheVariants.{EdgeCall, ByCount, ToUnsigned, ToInteger}
use Rattle.vhdl_names_rules.specs.units.Expressions as e
use Rattle.vhdl_names_rules.specs.units.Expressions.{Static, Range, Part, Chosen, SignalPart, Signal, Vector}
use Rattle.vhdl_names_rules.specs.units.Units as u
use Rattle.vhdl_names_rules.specs.units.Units.{Form}
use Rattle.vhdl_names_rules.specs.Rules.{◌>>=◌, then_some, wider}
use Rattle.vhdl_names_rules.specs.Visibility as visibility
use Rattle.vhdl_names_rules.specs.Visibility.{Meaning, DeclaredRange, Declared}
use Rattle.vhdl_names_rules.specs.Operators as o
use Rattle.vhdl_names_rules.specs.Operators.{Typed}
use Rattle.vhdl_names_rules.specs.Known.{is_known}
use Rattle.vhdl_names_rules.specs.Names as n
use Rattle.vhdl_names_rules.specs.Names.{Suffix, AnyPart, part, part_of, chosen, any_part, place_of, if_plain, read_by, signal_part, variable_part, constant_part, converted, is_static, is_static_part, edge_signal, edge_of, counted, encoding, number_of, called, read_object, read_variable, denoted, attributed}
use Rattle.vhdl_names_rules.specs.Ranges.{range_attribute, sized_by}
use Rattle.vhdl_names_rules.specs.Expressions.{named}
use Rattle.vhdl_names_rules.specs.sound.Expressions.{Inside, one, vector, state, number, shape_of, static_fits, range_fits, part_shape, port_form, signal_form, place_shape, is_elements, is_vector, has_vector, is_vector_shape, chosen_shape, computed_fits, chosen_fits, with_static, is_number, vector_shape, value_shape, state_shape, value_fits_beside, edge_fits}
use Rattle.vhdl_names_laws.specs.Meanings.{Counts, kind_shape, type_shape, IsForm, IsCounted, IsPort, MeaningFits, DeclaredFits, TypedFits}
use Rattle.vhdl_names_laws.proofs.Statics.{some_same}
use Rattle.vhdl_names_laws.proofs.Ranges.{RangeFits, EachFits, SuffixFits, range_attribute_fits, sized_fits}
use Rattle.vhdl_names_laws.proofs.Shapes.{given, shape_elements, fits_self, kind_is_vector, of_either, wider_is}
use Rattle.vhdl_names_rules.proofs.kept.Keeping.{mapped}
use Rattle.vhdl_names_rules.proofs.laws.Rules.{comes, kept}

-- ---- parts of an object

-- a vector's form has a range
vector_form : (i : Inside) (f : Form) (s : Static) → shape_of f ≡ vector → static_fits i s ≡ true → part_shape i f (e.Part.element s) ≡ Some one
vector_form i (u.vector r) s h t = ap (λ b. then_some b one) t
vector_form i _ s h t = absurd cc

slice_form : (i : Inside) (f : Form) (r : Range) → shape_of f ≡ vector → range_fits i r ≡ true → part_shape i f (e.slice r) ≡ Some vector
slice_form i (u.vector r) s h t = ap (λ b. then_some b vector) t
slice_form i _ s h t = absurd cc

module _ (i : Inside) (counts : Counts) where
  -- a part of an object of a kind has the kind's shape
  pub part_fits : (f : Form) (k : ElementKind) (s : Suffix) (p : Part × ElementKind) → shape_of f ≡ kind_shape k → SuffixFits i counts s → part k s ≡ Some p
      → part_shape i f p.0 ≡ Some (kind_shape p.1)
  part_fits f k s p h t g = by k s h t g
    where
      is : (q : Part × ElementKind) → Some q ≡ Some p → part_shape i f q.0 ≡ Some (kind_shape q.1) → part_shape i f p.0 ≡ Some (kind_shape p.1)
      is q g h = subst (λ (q : Part × ElementKind). part_shape i f q.0 ≡ Some (kind_shape q.1)) (some_same q p g) h

      element_of : (j : ElementKind) → kind_shape j ≡ vector → shape_of f ≡ kind_shape j → (s : Static) → static_fits i s ≡ true → Some (e.Part.element s, Element) ≡ Some p
          → part_shape i f p.0 ≡ Some (kind_shape p.1)
      element_of j v h s t g = is (e.Part.element s, Element) g (vector_form i f s (h ∙ v) t)

      listed : (j : ElementKind) → kind_shape j ≡ vector → shape_of f ≡ kind_shape j → (b : Bool) (xs : List Typed) → EachFits i counts xs
          → ((s : Static) → part j (n.arguments b (o.integer s ∷ [])) ≡ Some (e.Part.element s, Element)) → part j (n.arguments b xs) ≡ Some p
          → part_shape i f p.0 ≡ Some (kind_shape p.1)
      listed LogicVector v h b (o.integer s ∷ []) t c g = element_of LogicVector v h s t.0 g
      listed Unsigned v h b (o.integer s ∷ []) t c g = element_of Unsigned v h s t.0 g
      listed _ v h b _ t c g = absurd cc

      by : (k : ElementKind) (s : Suffix) → shape_of f ≡ kind_shape k → SuffixFits i counts s → part k s ≡ Some p → part_shape i f p.0 ≡ Some (kind_shape p.1)
      by k n.plain h t g = is (e.whole, k) g (ap Some h)
      by LogicVector (n.arguments b xs) h t g = listed LogicVector refl h b xs t (λ s. refl) g
      by Unsigned (n.arguments b xs) h t g = listed Unsigned refl h b xs t (λ s. refl) g
      by LogicVector (n.range r) h t g = is (e.slice r, LogicVector) g (slice_form i f r h t)
      by Unsigned (n.range r) h t g = is (e.slice r, Unsigned) g (slice_form i f r h t)
      by _ _ h t g = absurd cc

  -- likewise of any object
  pub part_of_fits : (f : Form) (type : ObjectType) (s : Suffix) (p : Part × ObjectType) → shape_of f ≡ type_shape type → IsCounted counts type → SuffixFits i counts s
      → part_of type s ≡ Some p → (part_shape i f p.0 ≡ Some (type_shape p.1)) × IsCounted counts p.1
  part_of_fits f (Elements k) s p h c t g =
      let a = mapped (λ (q : Part × ElementKind). (q.0, Elements q.1)) (part k s) p g in
      subst (λ (q : Part × ObjectType). (part_shape i f q.0 ≡ Some (type_shape q.1)) × IsCounted counts q.1) a.is (part_fits f k s a.value h t a.from, tt)
  part_of_fits f type n.plain p h c t g =
      subst (λ (q : Part × ObjectType). (part_shape i f q.0 ≡ Some (type_shape q.1)) × IsCounted counts q.1) (some_same (e.whole, type) p g) (ap Some h, c)
  part_of_fits f _ _ p h c t g = absurd cc

  -- ---- objects that are read

  -- what a run chooses of a vector of this kind
  pub record ChosenFits (k : ElementKind) (p : Chosen × ElementKind) : Type 0 where
    pub fits : chosen_fits i p.0 ≡ true
    pub shape : chosen_shape p.0 ≡ kind_shape p.1
    pub of_vector : kind_shape k ≡ vector

  pub chosen_is : (k : ElementKind) (s : Suffix) (p : Chosen × ElementKind) → SuffixFits i counts s → chosen k s ≡ Some p → ChosenFits k p
  chosen_is k (n.arguments b (o.computed x ∷ [])) p t g =
      let a = given (o.is_vector k) (e.element_at x, Element) p g in
      subst (ChosenFits k) a.is (record { fits = t.0; shape = refl; of_vector = kind_is_vector k a.holds })
  chosen_is k (n.computed_range l direction r) p t g =
      let a = given (o.is_vector k) (e.slice_at l direction r, k) p g in
      subst (ChosenFits k) a.is (record { fits = t; shape = sym (kind_is_vector k a.holds); of_vector = kind_is_vector k a.holds })
  chosen_is k _ p t g = absurd cc

  -- what is read of an object of a form
  read_fits : (object : AnyPart → Vector) (f : Form) → ((p : Part) → vector_shape i (object (n.fixed p)) ≡ (part_shape i f p >>= λ x. then_some (is_elements x) x))
      → ((c : Chosen) → vector_shape i (object (n.free c)) ≡ then_some (is_vector (shape_of f) && chosen_fits i c) (chosen_shape c))
      → (k : ElementKind) → shape_of f ≡ kind_shape k → (s : Suffix) (x : Typed) → SuffixFits i counts s → read_by object k s ≡ Some x → TypedFits i counts x
  read_fits object f c w k h s x t g =
      let a = mapped (λ (p : AnyPart × ElementKind). o.elements p.1 (object p.0)) (any_part k s) x g in
      subst (TypedFits i counts) a.is
      (of_either IsRead (option_map (λ (q : Part × ElementKind). (n.fixed q.0, q.1)) (part k s)) (option_map (λ (q : Chosen × ElementKind). (n.free q.0, q.1)) (chosen k s)) a.value
      (λ z q.
      let m = mapped (λ (q : Part × ElementKind). (n.fixed q.0, q.1)) (part k s) z q in
      subst IsRead m.is
      (c m.value.0 ∙ ap (λ z. z >>= λ x. then_some (is_elements x) x) (part_fits f k s m.value h t m.from) ∙ ap (λ b. then_some b (kind_shape m.value.1)) (shape_elements m.value.1)))
      (λ z q.
      let m = mapped (λ (q : Chosen × ElementKind). (n.free q.0, q.1)) (chosen k s) z q in
      let d = chosen_is k s m.value t m.from in
      subst IsRead m.is
      (w m.value.0 ∙ ap (λ b. then_some b (chosen_shape m.value.0)) (and_from (is_vector (shape_of f)) (chosen_fits i m.value.0) (ap is_vector (h ∙ d.of_vector)) d.fits) ∙ ap Some d.shape)) a.from)
    where
      IsRead : AnyPart × ElementKind → Type 0
      IsRead q = vector_shape i (object q.0) ≡ Some (kind_shape q.1)

  read_place : (at : ℕ) (z : Signal) (f : Form) → signal_form i z ≡ Some f → (p : Part) → vector_shape i (e.of_signal (place_of at z p)) ≡ (part_shape i f p >>= λ x. then_some (is_elements x) x)
  read_place at z f h p = ap (λ w. (w >>= λ f. part_shape i f p) >>= λ x. then_some (is_elements x) x) h

  read_chosen : (at : ℕ) (z : Signal) (f : Form) → signal_form i z ≡ Some f → (c : Chosen)
      → vector_shape i (e.in_signal at z c) ≡ then_some (is_vector (shape_of f) && chosen_fits i c) (chosen_shape c)
  read_chosen at z f h c = ap (λ w. then_some (has_vector w && chosen_fits i c) (chosen_shape c)) h

  pub port_form_is : (k : ℕ) (mode : Mode) (type : ObjectType) (f : IsPort counts i.ports k mode type) → signal_form i (e.port k) ≡ Some (port_form f.port)
  port_form_is k mode type f = slice_get-map port_form i.ports k ∙ ap (option_map port_form) f.at

  -- an object's form
  pub the_form : (type : ObjectType) (w : Option Form) → IsForm counts type w → (f : Form) × (w ≡ Some f) × (shape_of f ≡ type_shape type)
  the_form type w h = by w h.shape
    where
      by : (w : Option Form) → option_map shape_of w ≡ Some (type_shape type) → (f : Form) × (w ≡ Some f) × (shape_of f ≡ type_shape type)
      by None t = absurd cc
      by (Some f) t = (f, refl, some_same (shape_of f) (type_shape type) t)

  -- a signal or variable of an enumeration
  state_is : (f : Form) (count : ℕ) → shape_of f ≡ state count → state_shape f ≡ Some (state count)
  state_is (u.enumeration n) count h = ap Some h
  state_is _ count h = absurd cc

  -- one of an integer type, and of boolean
  number_is : (f : Form) → shape_of f ≡ number → is_number (Some f) ≡ true
  number_is (u.Form.number s) h = refl
  number_is _ h = absurd cc

  boolean_is : (at : ℕ) (x : Vector) → vector_shape i x ≡ Some one → TypedFits i counts (n.is_true at x)
  boolean_is at x h = ap (λ o. value_fits_beside i o (e.Value.elements (e.enclosed_character One))) h

  plain_fits : (s : Suffix) (x y : Typed) → TypedFits i counts x → if_plain s x ≡ Some y → TypedFits i counts y
  plain_fits n.plain x y h g = subst (TypedFits i counts) (some_same x y g) h
  plain_fits _ x y h g = absurd cc

  -- a signal or port, and a variable, of any type
  object_fits : (at : ℕ) (z : Signal) (f : Form) → signal_form i z ≡ Some f → (type : ObjectType) → shape_of f ≡ type_shape type → IsCounted counts type → (s : Suffix) (y : Typed) → SuffixFits i counts s
      → read_object at z type s ≡ Some y → TypedFits i counts y
  object_fits at z f h (Elements kind) t c s y w g = read_fits (signal_part at z) f (read_place at z f h) (read_chosen at z f h) kind t s y w g
  object_fits at z f h (Enumeration d count) t c s y w g =
      plain_fits s (o.enumerated d count (e.state_of z)) y
      (fits_self (state count) (value_shape i (e.state_of z)) (ap (λ w. w >>= state_shape) h ∙ state_is f count t), c) g
  object_fits at z f h Integers t c s y w g = plain_fits s (o.computed (e.signal_number z)) y (ap is_number h ∙ number_is f t) g
  object_fits at z f h Booleans t c s y w g =
      plain_fits s (n.is_true at (signal_part at z (n.fixed e.whole))) y
      (boolean_is at (signal_part at z (n.fixed e.whole)) (read_place at z f h e.whole ∙ ap (λ x. then_some (is_elements x) x) t)) g

  variable_place : (at k : ℕ) (f : Form) → slice_get i.variables k ≡ Some f → (p : Part) → vector_shape i (e.of_variable at k p) ≡ (part_shape i f p >>= λ x. then_some (is_elements x) x)
  variable_place at k f h p = ap (λ w. w >>= λ f. part_shape i f p >>= λ x. then_some (is_elements x) x) h

  variable_fits : (at k : ℕ) (f : Form) → slice_get i.variables k ≡ Some f → (type : ObjectType) → shape_of f ≡ type_shape type → IsCounted counts type → (s : Suffix) (y : Typed) → SuffixFits i counts s
      → read_variable at k type s ≡ Some y → TypedFits i counts y
  variable_fits at k f h (Elements kind) t c s y w g =
      read_fits (variable_part at k) f (variable_place at k f h) (λ c. ap (λ w. then_some (has_vector w && chosen_fits i c) (chosen_shape c)) h) kind t s y w g
  variable_fits at k f h (Enumeration d count) t c s y w g =
      plain_fits s (o.enumerated d count (e.state_of_variable k)) y
      (fits_self (state count) (value_shape i (e.state_of_variable k)) (ap (λ w. w >>= state_shape) h ∙ state_is f count t), c) g
  variable_fits at k f h Integers t c s y w g = plain_fits s (o.computed (e.variable_number k)) y (ap is_number h ∙ number_is f t) g
  variable_fits at k f h Booleans t c s y w g =
      plain_fits s (n.is_true at (variable_part at k (n.fixed e.whole))) y
      (boolean_is at (variable_part at k (n.fixed e.whole)) (variable_place at k f h e.whole ∙ ap (λ x. then_some (is_elements x) x) t)) g

  -- ---- conversions and calls

  -- a conversion is of its type's kind
  record Converted (k : ElementKind) (y : Typed) : Type 0 where
    value : Vector
    is : o.elements k value ≡ y
    shape : vector_shape i value ≡ Some vector

  converted_is : (k : ElementKind) (s : Suffix) (y : Typed) → SuffixFits i counts s → converted k s ≡ Some y → Converted k y
  converted_is k (n.arguments b (o.elements LogicVector x ∷ [])) y t g = record { value = x; is = some_same (o.elements k x) y g; shape = t.0 }
  converted_is k (n.arguments b (o.elements Unsigned x ∷ [])) y t g = record { value = x; is = some_same (o.elements k x) y g; shape = t.0 }
  converted_is k (n.arguments b (o.elements OpenVector x ∷ [])) y t g = record { value = x; is = some_same (o.elements k x) y g; shape = t.0 }
  converted_is k _ y t g = absurd cc

  converted_fits : (k : ElementKind) (s : Suffix) (y : Typed) → kind_shape k ≡ vector → SuffixFits i counts s → converted k s ≡ Some y → TypedFits i counts y
  converted_fits k s y v t g = let c = converted_is k s y t g in subst (TypedFits i counts) c.is (c.shape ∙ ap Some (sym v))

  counted_fits : (at : ℕ) (op : Counted) (s : Suffix) (y : Typed) → SuffixFits i counts s → counted at op s ≡ Some y → TypedFits i counts y
  counted_fits at op (n.arguments b (o.elements Unsigned x ∷ o.integer s ∷ [])) y t g =
      subst (TypedFits i counts) (some_same (o.elements Unsigned (e.counted at op x s)) y g)
      (ap (λ z. with_static i z s) t.0 ∙ ap (λ b. then_some b vector) t.1.0)
  counted_fits at (Shift by) (n.arguments b (o.elements Unsigned x ∷ o.computed s ∷ [])) y t g =
      subst (TypedFits i counts) (some_same (o.elements Unsigned (e.shifted at by x s)) y g)
      (ap (λ b. then_some b vector) (and_from (is_vector_shape (vector_shape i x)) (computed_fits i s) (ap is_vector_shape t.0) t.1.0))
  counted_fits at op _ y t g = absurd cc

  encoding_fits : (at : ℕ) (s : Suffix) (y : Typed) → SuffixFits i counts s → encoding at s ≡ Some y → TypedFits i counts y
  encoding_fits at (n.arguments b (o.integer s ∷ o.integer size ∷ [])) y t g =
      subst (TypedFits i counts) (some_same (o.elements Unsigned (e.Vector.encoded at s size)) y g)
      (ap (λ b. then_some b vector) (and_from (static_fits i s) (static_fits i size) t.0 t.1.0))
  encoding_fits at (n.arguments b (o.computed x ∷ o.integer size ∷ [])) y t g =
      subst (TypedFits i counts) (some_same (o.elements Unsigned (e.computed_encoded at x size)) y g)
      (ap (λ b. then_some b vector) (and_from (computed_fits i x) (static_fits i size) t.0 t.1.0))
  encoding_fits at _ y t g = absurd cc

  number_fits : (at : ℕ) (s : Suffix) (y : Typed) → SuffixFits i counts s → number_of at s ≡ Some y → TypedFits i counts y
  number_fits at (n.arguments b (o.elements Unsigned x ∷ [])) y t g =
      subst (TypedFits i counts) (given (not (is_known x)) (o.computed (e.number_of at x)) y g).is (ap is_vector_shape t.0)
  number_fits at _ y t g = absurd cc

  -- ---- edges

  -- an integer in which no loop's parameter stands is there without the loops
  outside_loops : (s : Static) → is_static s ≡ true → static_fits i s ≡ true → static_fits (record i { loops = 0 }) s ≡ true
  outside_loops (e.number k) h t = refl
  outside_loops (e.loop_parameter k) h t = absurd cc
  outside_loops (e.Static.negated at s) h t = outside_loops s h t
  outside_loops (e.absolute at s) h t = outside_loops s h t
  outside_loops (e.slice_bound at b k s d r) h t =
      let a = and_parts (is_static s) (is_static r) h in
      let p = and_parts (nat_lt k i.ranges && static_fits i s) (static_fits i r) t in
      let q = and_parts (nat_lt k i.ranges) (static_fits i s) p.0 in
      and_from (nat_lt k i.ranges && static_fits (record i { loops = 0 }) s) (static_fits (record i { loops = 0 }) r)
      (and_from (nat_lt k i.ranges) (static_fits (record i { loops = 0 }) s) q.0 (outside_loops s a.0 q.1)) (outside_loops r a.1 p.1)
  outside_loops (e.Static.binary at by s r) h t =
      let a = and_parts (is_static s) (is_static r) h in
      let b = and_parts (static_fits i s) (static_fits i r) t in
      and_from (static_fits (record i { loops = 0 }) s) (static_fits (record i { loops = 0 }) r) (outside_loops s a.0 b.0) (outside_loops r a.1 b.1)
  outside_loops _ h t = t

  part_outside : (f : Form) (p : Part) → is_static_part p ≡ true → part_shape i f p ≡ Some one → part_shape (record i { loops = 0 }) f p ≡ Some one
  part_outside f e.whole h t = t
  part_outside (u.vector r) (e.Part.element s) h t =
      let g = given (static_fits i s) one one t in
      ap (λ b. then_some b one) (outside_loops s h g.holds)
  part_outside _ _ h t = absurd cc

  same_signal : (z : Signal) → signal_form (record i { loops = 0 }) z ≡ signal_form i z
  same_signal (e.port k) = refl
  same_signal (e.Signal.signal k) = refl

  pub place_outside : (p : SignalPart) → is_static_part p.part ≡ true → place_shape i p ≡ Some one → place_shape (record i { loops = 0 }) p ≡ Some one
  place_outside p h t =
      let c = comes (signal_form i p.signal) (λ f. part_shape i f p.part) one t in
      ap (λ w. w >>= λ f. part_shape (record i { loops = 0 }) f p.part) (same_signal p.signal ∙ c.is) ∙ part_outside c.value p.part h c.rest

  edge_place : (x : Typed) (p : SignalPart) → TypedFits i counts x → edge_signal x ≡ Some p → edge_fits i p ≡ true
  edge_place (o.elements Element (e.of_signal q)) p t g = by (is_static_part q.part) refl g
    where
      by : (b : Bool) → is_static_part q.part ≡ b → cond b (Some q) None ≡ Some p → edge_fits i p ≡ true
      by true h g =
          let c = comes (place_shape i q) (λ x. then_some (is_elements x) x) one t in
          let d = given (is_elements c.value) c.value one c.rest in
          subst (λ p. edge_fits i p ≡ true) (some_same q p g)
          (fits_self one (place_shape (record i { loops = 0 }) q) (place_outside q h (c.is ∙ ap Some d.is)))
      by false h g = absurd cc
  edge_place _ p t g = absurd cc

  edge_call_fits : (edge : Edge) (s : Suffix) (y : Typed) → SuffixFits i counts s → edge_of edge s ≡ Some y → TypedFits i counts y
  edge_call_fits edge (n.arguments true (x ∷ [])) y t g =
      let c = mapped (λ p. o.truth (e.edge edge p)) (edge_signal x) y g in
      subst (TypedFits i counts) c.is (edge_place x c.value t.0 c.from)
  edge_call_fits edge _ y t g = absurd cc

  called_fits : (at : ℕ) (f : Function) (s : Suffix) (y : Typed) → SuffixFits i counts s → called at f s ≡ Some y → TypedFits i counts y
  called_fits at (EdgeCall edge) s y t g = edge_call_fits edge s y t g
  called_fits at (ByCount op) s y t g = counted_fits at op s y t g
  called_fits at ToUnsigned s y t g = encoding_fits at s y t g
  called_fits at ToInteger s y t g = number_fits at s y t g

  -- ---- all names

  denoted_fits : (at : ℕ) (d : Meaning) (s : Suffix) (y : Typed) → MeaningFits i counts d → SuffixFits i counts s → denoted at d s ≡ Some y → TypedFits i counts y
  denoted_fits at (visibility.generic k) s y h t g = plain_fits s (o.integer (e.generic k)) y h g
  denoted_fits at (visibility.integer_constant k) s y h t g = plain_fits s (o.integer (e.Static.constant k)) y h g
  denoted_fits at (visibility.generate_parameter k) s y h t g = plain_fits s (o.integer (e.generate_parameter k)) y h g
  denoted_fits at (visibility.loop_parameter k) s y h t g = plain_fits s (o.integer (e.loop_parameter k)) y h g
  denoted_fits at (visibility.boolean_generic k) s y h t g = plain_fits s (n.known at (e.generic k)) y h g
  denoted_fits at (visibility.boolean_constant k) s y h t g = plain_fits s (n.known at (e.Static.constant k)) y h g
  denoted_fits at (visibility.boolean_literal b) s y h t g = plain_fits s (n.known at (e.number (n.position_of b))) y refl g
  denoted_fits at (visibility.port k mode type) s y h t g = object_fits at (e.port k) (port_form h.port) (port_form_is k mode type h) type h.shape h.counted s y t g
  denoted_fits at (visibility.signal k type) s y h t g =
      let f = the_form type (slice_get i.signals k) h in
      object_fits at (e.Signal.signal k) f.0 f.1 type f.2 h.counted s y t g
  denoted_fits at (visibility.variable k type) s y h t g =
      let f = the_form type (slice_get i.variables k) h in
      variable_fits at k f.0 f.1 type f.2 h.counted s y t g
  denoted_fits at (visibility.constant k kind values) s y h t g =
      let f = the_form (Elements kind) (slice_get i.constants k) h.0 in
      read_fits (constant_part at k) f.0 (λ p. ap (λ w. w >>= λ f. part_shape i f p >>= λ x. then_some (is_elements x) x) f.1)
      (λ c. ap (λ w. then_some (has_vector w && chosen_fits i c) (chosen_shape c)) f.1) kind f.2 s y t g
  denoted_fits at (visibility.literal d count p) s y h t g = plain_fits s (o.enumerated d count (e.Value.position p)) y h g
  denoted_fits at (visibility.vector_type k r) s y h t g = converted_fits k s y h t g
  denoted_fits at (visibility.function f) s y h t g = called_fits at f s y t g
  denoted_fits at _ s y h t g = absurd cc

  -- and of a type with a range
  valued_fits : (at : ℕ) (d : Meaning) (r : Option DeclaredRange) (s : Suffix) (y : Typed) → MeaningFits i counts d → RangeFits i r → SuffixFits i counts s → denoted at d s ≡ Some y
      → TypedFits i counts (sized_by at d r y)
  valued_fits at (visibility.vector_type k b) r s y h f t g =
      let c = converted_is k s y t g in
      subst (λ y. TypedFits i counts (sized_by at (visibility.vector_type k b) r y)) c.is (sized_fits i counts at k b r c.value f h c.shape)
  valued_fits at d r s y h f t g = denoted_fits at d s y h t g

  attributed_fits : (a : Option Attribute) (x y : Typed) → TypedFits i counts x → attributed a x ≡ Some y → TypedFits i counts y
  attributed_fits None x y t g = subst (TypedFits i counts) (some_same x y g) t
  attributed_fits (Some (tree.of_range at)) x y t g = absurd cc
  attributed_fits (Some (tree.called a)) x y t g =
      let k = kept (bytes_eq a.text (codes "event")) _ y g in
      let c = comes (edge_signal x) (λ p. Some (o.truth (e.event p))) y k.1 in
      subst (TypedFits i counts) (some_same (o.truth (e.event c.value)) y c.rest) (edge_place x c.value t c.is)

  pub named_fits : (language : Language) (at : ℕ) (a : Option Attribute) (d : Declared) (s : Suffix) (x : Typed) → DeclaredFits i counts d → SuffixFits i counts s
      → named language at a d s ≡ Some x → TypedFits i counts x
  named_fits language at a d s x h t g =
      of_either (TypedFits i counts) (wider language (range_attribute at a d s)) (denoted at d.meaning s >>= λ x. attributed a (sized_by at d.meaning d.range x)) x
      (λ z e. range_attribute_fits i counts at a d s z h t (wider_is language (range_attribute at a d s) z e))
      (λ z e.
      let c = comes (denoted at d.meaning s) _ z e in
      attributed_fits a (sized_by at d.meaning d.range c.value) z (valued_fits at d.meaning d.range s c.value h.meaning h.range t c.is) c.rest) g
