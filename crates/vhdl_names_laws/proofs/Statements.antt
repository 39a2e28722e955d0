-- Each sequential statement fits where it stands (IEEE 1076-2008, clause 10).
use Rattle.std.proofs.Common.{◌≡◌, ℕ, suc, Bool, true, false, ◌&&◌, not, List, [], ◌∷◌, length, Option, Some, None, refl, ap, ◌∙◌, subst, arith}
use Rattle.std.specs.Option.{option_map}
use Rattle.std.specs.List.{slice_get, list_all}
use Rattle.std.proofs.lemmas.Bool.{and_from, lt-ltb}
use Rattle.vhdl_values.specs.declared.scalar.Nine.{Nine}
use Rattle.vhdl_values.specs.declared.scalar.Nine.TheVariants.{One, Zero}
use Rattle.vhdl_tree.specs.declared.declaration.Mode.{Mode}
use Rattle.vhdl_tree.specs.declared.declaration.Mode.TheVariants.{In, Out}
use Rattle.vhdl_tree.specs.Tree as t
use Rattle.vhdl_tree.specs.Tree.{Ident}
use Rattle.vhdl_names_rules.specs.declared.kind.ElementKind.{ElementKind}
use Rattle.vhdl_names_rules.specs.declared.kind.ElementKind.TheVariants.{Element, LogicVector, Unsigned}
use Rattle.vhdl_names_rules.specs.declared.kind.ObjectType.{ObjectType}
use Rattle.vhdl_names_rules.specs.declared.kind.ObjectType.TheVariants.{Elements}
use Rattle.vhdl_names_rules.specs.units.Expressions as e
use Rattle.vhdl_names_rules.specs.units.Expressions.{Part, Signal, Chosen}
use Rattle.vhdl_names_rules.specs.units.Units.{Form}
use Rattle.vhdl_names_rules.specs.units.Statements as s
use Rattle.vhdl_names_rules.specs.Rules.{◌>>=◌}
use Rattle.vhdl_names_rules.specs.Visibility as visibility
use Rattle.vhdl_names_rules.specs.Visibility.{Name, Meaning, DeclaredRange, Sight, label_ends}
use Rattle.vhdl_names_rules.specs.Operators as o
use Rattle.vhdl_names_rules.specs.Names as n'
use Rattle.vhdl_names_rules.specs.Names.{Suffix, AnyPart, part, part_of, chosen, any_part, any_part_of}
use Rattle.vhdl_names_rules.specs.Expressions as to
use Rattle.vhdl_names_rules.specs.Expressions.{static_range, condition, Assigned, truth_of, value_assigned}
use Rattle.vhdl_names_rules.specs.Statements.{part_range, SignalName, named_part, as_signal, signal, is_input, mode_of, Target, part_target, assigned_signal, assigned_variable, as_signal_target, as_variable_target, target_by, alone, boolean_assigned, assigned_to, assignment, last_branch, branches, conditional, before, choice_lists, statement, statements, conditionals, otherwise, alternatives}
use Rattle.vhdl_names_rules.specs.sound.Expressions.{Inside, Shape, one, shape_of, is_vector, has_vector, chosen_shape, range_fits, any_range_fits, chosen_fits, part_shape, port_form, signal_form, place_shape, test_fits}
use Rattle.vhdl_names_rules.specs.sound.Statements as w
use Rattle.vhdl_names_rules.specs.sound.Statements.{given_fits, given_fits_target, is_out, is_driven, selector_fits, statement_fits, statements_fit, branches_fit, alternatives_fit}
use Rattle.vhdl_names_laws.specs.Meanings.{Counts, kind_shape, type_shape, IsCounted, IsPort, MeaningFits, IsInside}
use Rattle.vhdl_names_laws.proofs.Statics.{some_same, HasMore, more_of, keeps_all, all_more, found}
use Rattle.vhdl_names_laws.proofs.Ranges.{RangeFits, SuffixFits, any_declared_fits}
use Rattle.vhdl_names_rules.proofs.kept.Keeping.{mapped}
use Rattle.vhdl_names_laws.proofs.Names.{part_fits, part_of_fits, chosen_is, port_form_is, the_form}
use Rattle.vhdl_names_laws.proofs.Shapes.{of_either}
use Rattle.vhdl_names_laws.proofs.Served.{served}
use Rattle.vhdl_names_laws.proofs.Expressions.{typed_fits, suffix_fits, static_range_fits}
use Rattle.vhdl_names_laws.proofs.Values.{AssignedFits, assigned_is, condition_fits}
use Rattle.vhdl_names_laws.proofs.Choices.{selected_shape, selector_is, covered_fits, arranged_fits, selecting_fits}
use Rattle.vhdl_names_rules.proofs.laws.Rules.{comes, kept, not_true}
use Rattle.vhdl_names_rules.proofs.laws.Parts.{case_parts}
use Rattle.vhdl_names_laws.proofs.Parts.{signal_parts, signal_target_parts, variable_target_parts}

-- ---- names of signals and variables

-- a signal, or part of one: its place has its type's shape, and is driven unless it is an in port's
pub record SignalFits (i : Inside) (counts : Counts) (x : SignalName) : Type 0 where
  pub shape : place_shape i x.place ≡ Some (type_shape x.type)
  pub counted : IsCounted counts x.type
  pub driven : is_input x.mode ≡ false → is_driven i x.place.signal ≡ true
  pub range : any_range_fits i x.range ≡ true

out_port : (i : Inside) (counts : Counts) (k : ℕ) (mode : Mode) (type : ObjectType) → IsPort counts i.ports k mode type → is_input (Some mode) ≡ false → is_driven i (e.port k) ≡ true
out_port i counts k In type h n = absurd cc
out_port i counts k Out type h n =
    ap is_out h.at ∙ ap (λ mode. is_out (Some (record { mode = mode; object = h.port.object }))) h.mode_is

-- the range of a part
module _ (i : Inside) (counts : Counts) (d : Option DeclaredRange) (r : RangeFits i d) where
  abbrev HasRange : Part → Type 0
  HasRange p = any_range_fits i (part_range d p) ≡ true

  of_part : (k : ElementKind) (suffix : Suffix) (y : Part × ElementKind) → SuffixFits i counts suffix → part k suffix ≡ Some y → HasRange y.0
  of_part k n'.plain y f q = subst (λ (y : Part × ElementKind). HasRange y.0) (some_same (e.whole, k) y q) (any_declared_fits i d r)
  of_part LogicVector (n'.arguments b (o.integer s ∷ [])) y f q = subst (λ (y : Part × ElementKind). HasRange y.0) (some_same (e.Part.element s, Element) y q) refl
  of_part Unsigned (n'.arguments b (o.integer s ∷ [])) y f q = subst (λ (y : Part × ElementKind). HasRange y.0) (some_same (e.Part.element s, Element) y q) refl
  of_part LogicVector (n'.range z) y f q = subst (λ (y : Part × ElementKind). HasRange y.0) (some_same (e.slice z, LogicVector) y q) f
  of_part Unsigned (n'.range z) y f q = subst (λ (y : Part × ElementKind). HasRange y.0) (some_same (e.slice z, Unsigned) y q) f
  of_part _ _ y f q = absurd cc

  part_range_fits : (type : ObjectType) (suffix : Suffix) (p : Part × ObjectType) → SuffixFits i counts suffix → part_of type suffix ≡ Some p → HasRange p.0
  part_range_fits (Elements k) suffix p f q =
      let a = mapped (λ (p : Part × ElementKind). (p.0, Elements p.1)) (part k suffix) p q in
      subst (λ (p : Part × ObjectType). HasRange p.0) a.is (of_part k suffix a.value f a.from)
  part_range_fits type n'.plain p f q = subst (λ (p : Part × ObjectType). HasRange p.0) (some_same (e.whole, type) p q) (any_declared_fits i d r)
  part_range_fits _ _ p f q = absurd cc

as_signal_fits : (i : Inside) (counts : Counts) (at : ℕ) (name : Name) (d : Meaning) (r : Option DeclaredRange) (b : Bool) (suffix : Suffix) (x : SignalName)
    → MeaningFits i counts d → RangeFits i r → SuffixFits i counts suffix
    → as_signal at (record { name = name; meaning = d; range = r; is_global = b }) suffix ≡ Some x → SignalFits i counts x
as_signal_fits i counts at name (visibility.port k mode type) r b suffix x h z f q =
    let a = mapped (named_part at (e.port k) (Some mode) r) (part_of type suffix) x q in
    let p = part_of_fits i counts (port_form h.port) type suffix a.value h.shape h.counted f a.from in
    subst (SignalFits i counts) a.is (record {
      shape = ap (λ w. w >>= λ f. part_shape i f a.value.0) (port_form_is i counts k mode type h) ∙ p.0;
      counted = p.1;
      driven = λ n. out_port i counts k mode type h n;
      range = part_range_fits i counts r z type suffix a.value f a.from;
    })
as_signal_fits i counts at name (visibility.signal k type) r b suffix x h z f q =
    let a = mapped (named_part at (e.Signal.signal k) None r) (part_of type suffix) x q in
    let g = the_form i counts type (slice_get i.signals k) h in
    let p = part_of_fits i counts g.0 type suffix a.value g.2 h.counted f a.from in
    subst (SignalFits i counts) a.is (record {
      shape = ap (λ w. w >>= λ f. part_shape i f a.value.0) g.1 ∙ p.0;
      counted = p.1;
      driven = λ n. refl;
      range = part_range_fits i counts r z type suffix a.value f a.from;
    })
as_signal_fits i counts at name _ r b suffix x h z f q = absurd cc

pub signal_fits : (i : Inside) (counts : Counts) (sight : Sight) (n : t.Name) (x : SignalName) → IsInside i counts sight → signal sight n ≡ Some x → SignalFits i counts x
signal_fits i counts sight n x h q =
    let p = signal_parts sight n x q in
    let d = p.meant.value in
    let f = found i counts sight h n.identifier.text d p.meant.is in
    as_signal_fits i counts n.identifier.at d.name d.meaning d.range d.is_global p.suffix.value x f.meaning f.range (suffix_fits n.suffix i counts sight p.suffix.value (served i counts sight h) p.suffix.is) p.is

-- ---- targets

-- what is given to a target fits, and so does the assignment
pub record GivenFits (i : Inside) (counts : Counts) (x : Target) : Type 0 where
  pub fits : (g : s.Given) → given_fits i (type_shape x.type) g ≡ true → statement_fits i (x.assigned g) ≡ true
  pub counted : IsCounted counts x.type
  pub range : any_range_fits i x.range ≡ true

-- what is given to a target of a shape
given_to : (i : Inside) (o : Option Shape) (z : Shape) (g : s.Given) → o ≡ Some z → given_fits i z g ≡ true → given_fits_target i o g ≡ true
given_to i o z g h f = ap (λ o. given_fits_target i o g) h ∙ f

-- to a part of an object of this form
module _ (i : Inside) (counts : Counts) (at : ℕ) (r : Option DeclaredRange) (ranged : RangeFits i r) (f : Form) (assigned : AnyPart → s.Given → s.Statement)
    (to_part : (p : Part) (z : Shape) (g : s.Given) → part_shape i f p ≡ Some z → given_fits i z g ≡ true → statement_fits i (assigned (n'.fixed p) g) ≡ true)
    (to_chosen : (c : Chosen) (g : s.Given) → is_vector (shape_of f) ≡ true → chosen_fits i c ≡ true → given_fits i (chosen_shape c) g ≡ true → statement_fits i (assigned (n'.free c) g) ≡ true) where
  abbrev IsTarget : AnyPart × ObjectType → Type 0
  IsTarget p = GivenFits i counts (part_target at r assigned p)

  of_elements : (k : ElementKind) (suffix : Suffix) (p : AnyPart × ElementKind) → shape_of f ≡ kind_shape k → SuffixFits i counts suffix → any_part k suffix ≡ Some p → IsTarget (p.0, Elements p.1)
  of_elements k suffix p h w q =
      of_either (λ (p : AnyPart × ElementKind). IsTarget (p.0, Elements p.1)) (option_map (λ (p : Part × ElementKind). (n'.fixed p.0, p.1)) (part k suffix)) (option_map (λ (p : Chosen × ElementKind). (n'.free p.0, p.1)) (chosen k suffix)) p
      (λ z e.
      let m = mapped (λ (p : Part × ElementKind). (n'.fixed p.0, p.1)) (part k suffix) z e in
      subst (λ (p : AnyPart × ElementKind). IsTarget (p.0, Elements p.1)) m.is (record {
        fits = λ g y. to_part m.value.0 (kind_shape m.value.1) g (part_fits i counts f k suffix m.value h w m.from) y;
        counted = tt;
        range = of_part i counts r ranged k suffix m.value w m.from;
      }))
      (λ z e.
      let m = mapped (λ (p : Chosen × ElementKind). (n'.free p.0, p.1)) (chosen k suffix) z e in
      let d = chosen_is i counts k suffix m.value w m.from in
      subst (λ (p : AnyPart × ElementKind). IsTarget (p.0, Elements p.1)) m.is (record {
        fits = λ g y. to_chosen m.value.0 g (ap is_vector (h ∙ d.of_vector)) d.fits (ap (λ z. given_fits i z g) d.shape ∙ y);
        counted = tt;
        range = refl;
      })) q

  of_type : (type : ObjectType) (suffix : Suffix) (p : AnyPart × ObjectType) → shape_of f ≡ type_shape type → IsCounted counts type → SuffixFits i counts suffix → any_part_of type suffix ≡ Some p → IsTarget p
  of_type (Elements k) suffix p h c w q =
      let a = mapped (λ (p : AnyPart × ElementKind). (p.0, Elements p.1)) (any_part k suffix) p q in
      subst IsTarget a.is (of_elements k suffix a.value h w a.from)
  of_type type n'.plain p h c w q =
      subst IsTarget (some_same (n'.fixed e.whole, type) p q) (record {
        fits = λ g y. to_part e.whole (type_shape type) g (ap Some h) y;
        counted = c;
        range = any_declared_fits i r ranged;
      })
  of_type _ _ p h c w q = absurd cc

  pub target_fits : (type : ObjectType) (suffix : Suffix) (x : Target) → shape_of f ≡ type_shape type → IsCounted counts type → SuffixFits i counts suffix
      → option_map (part_target at r assigned) (any_part_of type suffix) ≡ Some x → GivenFits i counts x
  target_fits type suffix x h c w q =
      let a = mapped (part_target at r assigned) (any_part_of type suffix) x q in
      subst (GivenFits i counts) a.is (of_type type suffix a.value h c w a.from)

-- to a signal that is driven
module _ (i : Inside) (at : ℕ) (x : Signal) (f : Form) (form : signal_form i x ≡ Some f) (driven_is : is_driven i x ≡ true) where
  signal_part_fits : (p : Part) (z : Shape) (g : s.Given) → part_shape i f p ≡ Some z → given_fits i z g ≡ true → statement_fits i (assigned_signal at x (n'.fixed p) g) ≡ true
  unfolding statement_fits
  signal_part_fits p z g h y =
      and_from (is_driven i x) (given_fits_target i (place_shape i (n'.place_of at x p)) g) driven_is
      (given_to i (place_shape i (n'.place_of at x p)) z g (ap (λ w. w >>= λ f. part_shape i f p) form ∙ h) y)

  signal_chosen_fits : (c : Chosen) (g : s.Given) → is_vector (shape_of f) ≡ true → chosen_fits i c ≡ true → given_fits i (chosen_shape c) g ≡ true
      → statement_fits i (assigned_signal at x (n'.free c) g) ≡ true
  unfolding statement_fits
  signal_chosen_fits c g v h y =
      and_from (is_driven i x && has_vector (signal_form i x) && chosen_fits i c) (given_fits i (chosen_shape c) g)
      (and_from (is_driven i x && has_vector (signal_form i x)) (chosen_fits i c) (and_from (is_driven i x) (has_vector (signal_form i x)) driven_is (ap has_vector form ∙ v)) h) y

-- to a variable
module _ (i : Inside) (at k : ℕ) (f : Form) (form : slice_get i.variables k ≡ Some f) where
  variable_part_fits : (p : Part) (z : Shape) (g : s.Given) → part_shape i f p ≡ Some z → given_fits i z g ≡ true → statement_fits i (assigned_variable at k (n'.fixed p) g) ≡ true
  unfolding statement_fits
  variable_part_fits p z g h y =
      given_to i (slice_get i.variables k >>= λ f. part_shape i f p) z g (ap (λ w. w >>= λ f. part_shape i f p) form ∙ h) y

  variable_chosen_fits : (c : Chosen) (g : s.Given) → is_vector (shape_of f) ≡ true → chosen_fits i c ≡ true → given_fits i (chosen_shape c) g ≡ true
      → statement_fits i (assigned_variable at k (n'.free c) g) ≡ true
  unfolding statement_fits
  variable_chosen_fits c g v h y =
      and_from (has_vector (slice_get i.variables k) && chosen_fits i c) (given_fits i (chosen_shape c) g)
      (and_from (has_vector (slice_get i.variables k)) (chosen_fits i c) (ap has_vector form ∙ v) h) y

as_signal_target_fits : (i : Inside) (counts : Counts) (at : ℕ) (name : Name) (d : Meaning) (r : Option DeclaredRange) (b : Bool) (suffix : Suffix) (x : Target)
    → MeaningFits i counts d → RangeFits i r → SuffixFits i counts suffix → is_input (mode_of d) ≡ false
    → as_signal_target at (record { name = name; meaning = d; range = r; is_global = b }) suffix ≡ Some x → GivenFits i counts x
as_signal_target_fits i counts at name (visibility.port k mode type) r b suffix x h z w m q =
    let form = port_form_is i counts k mode type h in
    let out = out_port i counts k mode type h m in
    target_fits i counts at r z (port_form h.port) (assigned_signal at (e.port k))
    (signal_part_fits i at (e.port k) (port_form h.port) form out) (signal_chosen_fits i at (e.port k) (port_form h.port) form out) type suffix x h.shape h.counted w q
as_signal_target_fits i counts at name (visibility.signal k type) r b suffix x h z w m q =
    let g = the_form i counts type (slice_get i.signals k) h in
    target_fits i counts at r z g.0 (assigned_signal at (e.Signal.signal k))
    (signal_part_fits i at (e.Signal.signal k) g.0 g.1 refl) (signal_chosen_fits i at (e.Signal.signal k) g.0 g.1 refl) type suffix x g.2 h.counted w q
as_signal_target_fits i counts at name _ r b suffix x h z w m q = absurd cc

as_variable_target_fits : (i : Inside) (counts : Counts) (at : ℕ) (name : Name) (d : Meaning) (r : Option DeclaredRange) (b : Bool) (suffix : Suffix) (x : Target)
    → MeaningFits i counts d → RangeFits i r → SuffixFits i counts suffix
    → as_variable_target at (record { name = name; meaning = d; range = r; is_global = b }) suffix ≡ Some x → GivenFits i counts x
as_variable_target_fits i counts at name (visibility.variable k type) r b suffix x h z w q =
    let g = the_form i counts type (slice_get i.variables k) h in
    target_fits i counts at r z g.0 (assigned_variable at k) (variable_part_fits i at k g.0 g.1) (variable_chosen_fits i at k g.0 g.1) type suffix x g.2 h.counted w q
as_variable_target_fits i counts at name _ r b suffix x h z w q = absurd cc

pub target_is : (i : Inside) (counts : Counts) (sight : Sight) (b : Bool) (n : t.Name) (x : Target) → IsInside i counts sight → target_by sight b n ≡ Some x → GivenFits i counts x
target_is i counts sight false n x h q =
    let p = signal_target_parts sight n x q in
    let d = p.meant.value in
    let f = found i counts sight h n.identifier.text d p.meant.is in
    let y = comes (as_signal_target n.identifier.at d p.suffix.value) _ x p.is in
    let m = kept (not (is_input (mode_of d.meaning))) _ x y.rest in
    subst (GivenFits i counts) (some_same y.value x m.1)
    (as_signal_target_fits i counts n.identifier.at d.name d.meaning d.range d.is_global p.suffix.value y.value f.meaning f.range
    (suffix_fits n.suffix i counts sight p.suffix.value (served i counts sight h) p.suffix.is) (not_true (is_input (mode_of d.meaning)) m.0) y.is)
target_is i counts sight true n x h q =
    let p = variable_target_parts sight n x q in
    let d = p.meant.value in
    let f = found i counts sight h n.identifier.text d p.meant.is in
    as_variable_target_fits i counts n.identifier.at d.name d.meaning d.range d.is_global p.suffix.value x f.meaning f.range
    (suffix_fits n.suffix i counts sight p.suffix.value (served i counts sight h) p.suffix.is) p.is

-- ---- loops

more_loops : (i : Inside) (counts : Counts) → HasMore i (w.within_loop i) counts counts
more_loops i counts =
    more_of i (w.within_loop i) counts (record { generics = omega arith; integers = omega arith; ranges = omega arith; generates = omega arith; loops = omega arith })
    (keeps_all i.constants) (keeps_all i.ports) (keeps_all i.signals) (keeps_all i.variables)

inside_loop : (i : Inside) (counts : Counts) (sight : Sight) (n : Ident) → IsInside i counts sight → IsInside (w.within_loop i) counts (visibility.within_loop sight n)
inside_loop i counts sight n h =
    let same : length sight.loops ≡ i.loops = h.loop_count in
    record {
      loops = (record { meaning = lt-ltb (length sight.loops) (suc i.loops) (omega (arith, same)); range = tt }, all_more i (w.within_loop i) counts counts (more_loops i counts) sight.loops h.loops);
      variables = all_more i (w.within_loop i) counts counts (more_loops i counts) sight.variables h.variables;
      generates = all_more i (w.within_loop i) counts counts (more_loops i counts) sight.generates h.generates;
      region = all_more i (w.within_loop i) counts counts (more_loops i counts) sight.region h.region;
      enclosing = all_more i (w.within_loop i) counts counts (more_loops i counts) sight.enclosing h.enclosing;
      packages = all_more i (w.within_loop i) counts counts (more_loops i counts) sight.packages h.packages;
      loop_count = omega (arith, same);
      generate_count = h.generate_count;
    }

-- ---- assignments, of values alone and under conditions

module _ (i : Inside) (counts : Counts) (sight : Sight) (h : IsInside i counts sight) (x : Target) (f : GivenFits i counts x) where
  pub alone_fits : (y : s.Statement) → statement_fits i y ≡ true → statements_fit i (alone y) ≡ true
  unfolding statement_fits
  alone_fits y t = and_from (statement_fits i y) true t refl

  -- to a boolean '1' or '0'
  boolean_fits : (v : Nine) → type_shape x.type ≡ one → statements_fit i (boolean_assigned x v) ≡ true
  boolean_fits v is =
      let g = s.single (e.Value.elements (e.enclosed_character v)) in
      alone_fits (x.assigned g) (f.fits g (ap (λ z. given_fits i z g) is))

  assigned_fits : (a : Assigned) → AssignedFits i (type_shape x.type) a → statement_fits i (assigned_to x a) ≡ true
  unfolding statement_fits
  assigned_fits (to.given g) k = f.fits g k
  assigned_fits (truth_of r) k =
      and_from (test_fits i r && statements_fit i (boolean_assigned x One)) (statements_fit i (boolean_assigned x Zero))
      (and_from (test_fits i r) (statements_fit i (boolean_assigned x One)) k.1 (boolean_fits One k.0)) (boolean_fits Zero k.0)

  pub assignment_is : (v : t.Value) (y : s.Statement) → assignment sight x v ≡ Some y → statement_fits i y ≡ true
  assignment_is v y q =
      let a = mapped (assigned_to x) (value_assigned sight x.type x.range v) y q in
      subst (λ y. statement_fits i y ≡ true) a.is (assigned_fits a.value (assigned_is i counts sight x.type x.range v a.value (served i counts sight h) f.range f.counted a.from))

  last_branch_is : (v : Option t.Value) (bs : s.Branches) → last_branch sight x v ≡ Some bs → branches_fit i bs ≡ true
  unfolding statement_fits
  last_branch_is None bs q = subst (λ bs. branches_fit i bs ≡ true) (some_same s.no_else bs q) refl
  last_branch_is (Some v) bs q =
      let a = mapped (λ y. s.otherwise (alone y)) (assignment sight x v) bs q in
      subst (λ bs. branches_fit i bs ≡ true) a.is (alone_fits a.value (assignment_is v a.value a.from))

  branches_are : (ws : List t.Branch) (v : Option t.Value) (bs : s.Branches) → branches sight x ws v ≡ Some bs → branches_fit i bs ≡ true
  unfolding statement_fits
  branches_are [] v bs q = last_branch_is v bs q
  branches_are (w ∷ ws) v bs q =
      let a = comes (assignment sight x w.value) _ bs q in
      let b = comes (condition sight w.condition) _ bs a.rest in
      let c = comes (branches sight x ws v) _ bs b.rest in
      subst (λ bs. branches_fit i bs ≡ true) (some_same (s.branch b.value (alone a.value) c.value) bs c.rest)
      (and_from (test_fits i b.value && statements_fit i (alone a.value)) (branches_fit i c.value)
      (and_from (test_fits i b.value) (statements_fit i (alone a.value)) (condition_fits i counts sight w.condition b.value (served i counts sight h) b.is) (alone_fits a.value (assignment_is w.value a.value a.is)))
      (branches_are ws v c.value c.is))

  by_branches : (ws : List t.Branch) (v : Option t.Value) (y : s.Statement) → option_map (s.if_of x.at) (branches sight x ws v) ≡ Some y → statement_fits i y ≡ true
  unfolding statement_fits
  by_branches ws v y q =
      let a = mapped (s.if_of x.at) (branches sight x ws v) y q in
      subst (λ y. statement_fits i y ≡ true) a.is (branches_are ws v a.value a.from)

  pub conditional_is : (ws : List t.Branch) (v : Option t.Value) (y : s.Statement) → conditional sight x ws v ≡ Some y → statement_fits i y ≡ true
  conditional_is [] (Some v) y q = assignment_is v y q
  conditional_is [] None y q = by_branches [] None y q
  conditional_is (w ∷ ws) v y q = by_branches (w ∷ ws) v y q

-- statements that are dropped are not there
before_fits : (i : Inside) (y : t.Statement) (x : s.Statement) (xs : s.Statements) → statement_fits i x ≡ true → statements_fit i xs ≡ true → statements_fit i (before y x xs) ≡ true
unfolding statement_fits
before_fits i (t.asserted text) x xs f g = g
before_fits i (t.reported text) x xs f g = g
before_fits i _ x xs f g = and_from (statement_fits i x) (statements_fit i xs) f g

mutual
  unfolding statement statement_fits

  pub statement_is : (y : t.Statement) (i : Inside) (counts : Counts) (sight : Sight) (label : Option Ident) (x : s.Statement) → IsInside i counts sight
      → statement sight label y ≡ Some x → statement_fits i x ≡ true
  statement_is (t.null_of at) i counts sight label x h q = subst (λ x. statement_fits i x ≡ true) (some_same s.null_of x q) refl
  statement_is (t.assigned n v) i counts sight label x h q =
      let a = comes (target_by sight false n) _ x q in
      assignment_is i counts sight h a.value (target_is i counts sight false n a.value h a.is) v x a.rest
  statement_is (t.variable_assigned n v) i counts sight label x h q =
      let a = comes (target_by sight true n) _ x q in
      assignment_is i counts sight h a.value (target_is i counts sight true n a.value h a.is) v x a.rest
  statement_is (t.assigned_when b n ws v) i counts sight label x h q =
      let a = comes (target_by sight b n) _ x q in
      conditional_is i counts sight h a.value (target_is i counts sight b n a.value h a.is) ws v x a.rest
  statement_is (t.asserted text) i counts sight label x h q = subst (λ x. statement_fits i x ≡ true) (some_same s.null_of x q) refl
  statement_is (t.reported text) i counts sight label x h q = subst (λ x. statement_fits i x ≡ true) (some_same s.null_of x q) refl
  statement_is (t.if_of at bs o end) i counts sight label x h q =
      let a = kept (label_ends label end) _ x q in
      let b = comes (otherwise sight o) _ x a.1 in
      let c = comes (conditionals sight b.value bs) _ x b.rest in
      subst (λ x. statement_fits i x ≡ true) (some_same _ x c.rest)
      (conditionals_are bs i counts sight b.value c.value h (otherwise_is o i counts sight b.value h b.is) c.is)
  statement_is (t.case_of at d alts end) i counts sight label x h q =
      let p = case_parts sight label at d alts end x q in
      let f = selector_is sight.language i counts p.chosen.operand.value p.chosen.by.value (typed_fits d i counts sight p.chosen.operand.value (served i counts sight h) p.chosen.operand.is) p.chosen.by.is in
      subst (λ x. statement_fits i x ≡ true) p.is
      (selecting_fits i counts at p.chosen.by.value.1 p.chosen.all.value f.fits
      (arranged_fits i (selected_shape i p.chosen.by.value.1) p.chosen.choices.value p.chosen.bodies.value p.chosen.all.value
      (covered_fits i counts sight h (selected_shape i p.chosen.by.value.1) p.chosen.by.value.0 f.selects f.counted (choice_lists alts) p.chosen.choices.value p.chosen.choices.is)
      (alternatives_are alts i counts sight p.chosen.bodies.value h p.chosen.bodies.is) p.chosen.all.is))
  statement_is (t.for_of at n r body end) i counts sight label x h q =
      let a = kept (label_ends label end) _ x q in
      let b = comes (static_range sight r) _ x a.1 in
      let c = comes (statements (visibility.within_loop sight n) body) _ x b.rest in
      subst (λ x. statement_fits i x ≡ true) (some_same _ x c.rest)
      (and_from (range_fits i b.value) (statements_fit (w.within_loop i) c.value) (static_range_fits i counts sight r b.value (served i counts sight h) b.is)
      (statements_are body (w.within_loop i) counts (visibility.within_loop sight n) c.value (inside_loop i counts sight n h) c.is))

  pub statements_are : (ys : t.Statements) (i : Inside) (counts : Counts) (sight : Sight) (xs : s.Statements) → IsInside i counts sight
      → statements sight ys ≡ Some xs → statements_fit i xs ≡ true
  statements_are t.done i counts sight xs h q = subst (λ xs. statements_fit i xs ≡ true) (some_same s.done xs q) refl
  statements_are (t.step label y ys) i counts sight xs h q =
      let a = comes (statement sight label y) _ xs q in
      let b = comes (statements sight ys) _ xs a.rest in
      subst (λ xs. statements_fit i xs ≡ true) (some_same _ xs b.rest)
      (before_fits i y a.value b.value (statement_is y i counts sight label a.value h a.is) (statements_are ys i counts sight b.value h b.is))

  conditionals_are : (bs : t.Conditionals) (i : Inside) (counts : Counts) (sight : Sight) (last xs : s.Branches) → IsInside i counts sight → branches_fit i last ≡ true
      → conditionals sight last bs ≡ Some xs → branches_fit i xs ≡ true
  conditionals_are t.no_conditionals i counts sight last xs h f q = subst (λ xs. branches_fit i xs ≡ true) (some_same last xs q) f
  conditionals_are (t.guarded d body bs) i counts sight last xs h f q =
      let a = comes (condition sight d) _ xs q in
      let b = comes (statements sight body) _ xs a.rest in
      let c = comes (conditionals sight last bs) _ xs b.rest in
      subst (λ xs. branches_fit i xs ≡ true) (some_same _ xs c.rest)
      (and_from (test_fits i a.value && statements_fit i b.value) (branches_fit i c.value)
      (and_from (test_fits i a.value) (statements_fit i b.value) (condition_fits i counts sight d a.value (served i counts sight h) a.is) (statements_are body i counts sight b.value h b.is))
      (conditionals_are bs i counts sight last c.value h f c.is))

  otherwise_is : (o : t.Otherwise) (i : Inside) (counts : Counts) (sight : Sight) (x : s.Branches) → IsInside i counts sight → otherwise sight o ≡ Some x → branches_fit i x ≡ true
  otherwise_is t.no_else i counts sight x h q = subst (λ x. branches_fit i x ≡ true) (some_same s.no_else x q) refl
  otherwise_is (t.else_do body) i counts sight x h q =
      let a = mapped s.otherwise (statements sight body) x q in
      subst (λ x. branches_fit i x ≡ true) a.is (statements_are body i counts sight a.value h a.from)

  alternatives_are : (alts : t.Alternatives) (i : Inside) (counts : Counts) (sight : Sight) (xs : List s.Statements) → IsInside i counts sight
      → alternatives sight alts ≡ Some xs → list_all (statements_fit i) xs ≡ true
  alternatives_are t.no_alternatives i counts sight xs h q = subst (λ xs. list_all (statements_fit i) xs ≡ true) (some_same [] xs q) refl
  alternatives_are (t.alternative cs body more) i counts sight xs h q =
      let a = comes (statements sight body) _ xs q in
      let b = comes (alternatives sight more) _ xs a.rest in
      subst (λ xs. list_all (statements_fit i) xs ≡ true) (some_same (a.value ∷ b.value) xs b.rest)
      (and_from (statements_fit i a.value) (list_all (statements_fit i) b.value) (statements_are body i counts sight a.value h a.is) (alternatives_are more i counts sight b.value h b.is))
