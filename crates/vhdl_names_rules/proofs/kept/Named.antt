-- The names that declarations declare are those that stand in them.
use Rattle.std.proofs.Common.{◌≡◌, ℕ, suc, Bool, true, false, not, cond, List, [], ◌∷◌, length, Option, Some, None, refl, ap, sym, ◌∙◌}
use Rattle.std.specs.Prelude.{nat_le, is_some}
use Rattle.vhdl_tree.specs.declared.operator.Direction.{Direction}
use Rattle.vhdl_tree.specs.Tree as t
use Rattle.vhdl_names_rules.specs.units.Units as u
use Rattle.vhdl_names_rules.specs.Rules.{if_any}
use Rattle.vhdl_names_rules.specs.Visibility.{Name, Meaning, Declared, declare, names_of, numbered, ranged, global_if, Sight, meaning, declaration, Declares}
use Rattle.vhdl_names_rules.specs.Subtypes as subtypes
use Rattle.vhdl_names_rules.specs.Subtypes.{TypeClass, class_of, subtype, object_subtype, integer_subtype, form_range, form_direction, fixed_value}
use Rattle.vhdl_names_rules.specs.Expressions.{static}
use Rattle.vhdl_names_rules.specs.Declarations.{within, within_variables, without_ports, as_kind, as_port_type, single_expression, static_test, literals, generic_form, generic, port, signals, variables, constants_by, constants_in, constants, is_open, declared_subtype, as_it_was, others_declared, subtype_by, subtype_in, subtype_declaration, enumeration_in}
use Rattle.vhdl_names_rules.specs.Interfaces.{EntityView, declared_names, component}
use Rattle.vhdl_names_rules.proofs.laws.Rules.{comes, kept, some_is}
use Rattle.vhdl_names_rules.proofs.laws.Parts.{component_parts}

pub names_numbered : (f : ℕ → Meaning) (k : ℕ) (ns : List Name) → declared_names (numbered f k ns) ≡ ns
names_numbered f k [] = refl
names_numbered f k (n ∷ ns) = ap (λ ns. n ∷ ns) (names_numbered f (suc k) ns)

names_global : (b : Bool) (ds : List Declared) → declared_names (global_if b ds) ≡ declared_names ds
names_global b [] = refl
names_global b (d ∷ ds) = ap (λ ns. d.name ∷ ns) (names_global b ds)

names_ranged : (o : Option Direction) (k : ℕ) (ds : List Declared) → declared_names (ranged o k ds) ≡ declared_names ds
names_ranged None k ds = refl
names_ranged (Some w) k [] = refl
names_ranged (Some w) k (d ∷ ds) = ap (λ ns. d.name ∷ ns) (names_ranged (Some w) (suc k) ds)

-- numbered, with a range or without one
names_as : (b : Bool) (f : ℕ → Meaning) (m : ℕ) (ns : List Name) → declared_names (global_if b (numbered f m ns)) ≡ ns
names_as b f m ns = names_global b (numbered f m ns) ∙ names_numbered f m ns

names_with : (b : Bool) (o : Option Direction) (k : ℕ) (f : ℕ → Meaning) (m : ℕ) (ns : List Name) → declared_names (global_if b (ranged o k (numbered f m ns))) ≡ ns
names_with b o k f m ns = names_global b (ranged o k (numbered f m ns)) ∙ names_ranged o k (numbered f m ns) ∙ names_numbered f m ns

names_literals : (e count p : ℕ) (ns : List Name) → declared_names (literals e count p ns) ≡ ns
names_literals e count p [] = refl
names_literals e count p (n ∷ ns) = ap (λ ns. n ∷ ns) (names_literals e count (suc p) ns)

-- what a declaration declares has these names
abbrev pub HasNames : {B : Type 0} → Declares B → List Name → Type 0
HasNames x ns = declared_names x.declared ≡ ns

pub of_same : {B : Type 0} (x y : Declares B) (ns : List Name) → Some x ≡ Some y → HasNames x ns → HasNames y ns
of_same {B} x y ns e h = ap (λ (x : Declares B). declared_names x.declared) (sym (some_is x y e)) ∙ h

pub of_generic : (sight : Sight) (g : t.Generic) (x : Declares u.Generic) → generic sight g ≡ Some x → HasNames x (names_of g.names)
unfolding generic
of_generic sight g x e =
    let a = comes (meaning sight g.subtype.mark.text) _ x e in
    let b = comes (generic_form sight g.subtype (class_of a.value)) _ x a.rest in
    let c = comes (if_any b.value.value g.default) _ x b.rest in
    of_same _ x (names_of g.names) c.rest (names_with _ _ _ _ _ (names_of g.names))

pub of_port : (sight : Sight) (p : t.Port) (x : Declares u.Port) → port sight p ≡ Some x → HasNames x (names_of p.names)
unfolding port
of_port sight p x e =
    let a = comes (object_subtype (without_ports sight) p.subtype) _ x e in
    let b = comes (as_port_type a.value.type) _ x a.rest in
    let c = comes (if_any (fixed_value (without_ports sight) a.value.type (form_range a.value.form)) p.default) _ x b.rest in
    of_same _ x (names_of p.names) c.rest (names_with _ _ _ _ _ (names_of p.names))

pub of_signals : (sight : Sight) (d : t.Signals) (x : Declares u.Declaration) → signals sight d ≡ Some x → HasNames x (names_of d.names)
unfolding signals
of_signals sight d x e =
    let a = comes (object_subtype (within sight d.names) d.subtype) _ x e in
    let b = comes (if_any (fixed_value (within sight d.names) a.value.type (form_range a.value.form)) d.default) _ x a.rest in
    of_same _ x (names_of d.names) b.rest (names_with _ _ _ _ _ (names_of d.names))

pub of_variables : (sight : Sight) (d : t.Variables) (x : Declares u.Declaration) → variables sight d ≡ Some x → HasNames x (names_of d.names)
unfolding variables
of_variables sight d x e =
    let a = comes (object_subtype (within_variables sight d.names) d.subtype) _ x e in
    let b = comes (if_any (fixed_value (within_variables sight d.names) a.value.type (form_range a.value.form)) d.default) _ x a.rest in
    of_same _ x (names_of d.names) b.rest (names_with _ _ _ _ _ (names_of d.names))

-- ---- constants and subtypes, of a region or a process

module _ (inner : Sight) (before : List Declared) where
  of_constants_by : (d : t.Constants) (c : TypeClass) (x : Declares u.Declaration) → constants_by inner before d c ≡ Some x → HasNames x (names_of d.names)
  of_constants_by d subtypes.integers x e =
      let a = comes (integer_subtype inner d.subtype) _ x e in
      let b = comes (single_expression d.value) _ x a.rest in
      let c = comes (static inner b.value) _ x b.rest in
      of_same _ x (names_of d.names) c.rest (names_as _ _ _ (names_of d.names))
  of_constants_by d subtypes.booleans x e =
      let a = kept (not (is_some d.subtype.constraint)) _ x e in
      let b = comes (single_expression d.value) _ x a.1 in
      let c = comes (static_test inner b.value) _ x b.rest in
      of_same _ x (names_of d.names) c.rest (names_as _ _ _ (names_of d.names))
  of_constants_by d subtypes.others x e =
      let a = comes (subtype inner d.subtype) _ x e in
      let b = comes (as_kind a.value.type) _ x a.rest in
      let c = comes (fixed_value inner a.value.type (form_range a.value.form) d.value) _ x b.rest in
      of_same _ x (names_of d.names) c.rest (names_with _ _ _ _ _ (names_of d.names))

  pub of_constants_in : (d : t.Constants) (x : Declares u.Declaration) → constants_in inner before d ≡ Some x → HasNames x (names_of d.names)
  unfolding constants_in
  of_constants_in d x e =
      let a = comes (meaning inner d.subtype.mark.text) _ x e in
      of_constants_by d (class_of a.value) x a.rest

  names_subtype : (d : t.SubtypeDeclaration) (m : Meaning) (o : Option Direction) → declared_names (declared_subtype inner before d m o) ≡ d.name.text ∷ []
  names_subtype d m o = names_global _ (ranged o _ (declare d.name.text m ∷ [])) ∙ names_ranged o _ (declare d.name.text m ∷ [])

  of_subtype_by : (d : t.SubtypeDeclaration) (mark : Declared) (c : TypeClass) (x : Declares u.Declaration) → subtype_by inner before d mark c ≡ Some x → HasNames x (d.name.text ∷ [])
  of_subtype_by d mark subtypes.integers x e =
      let a = comes (integer_subtype inner d.subtype) _ x e in
      of_same _ x (d.name.text ∷ []) a.rest (names_subtype d _ _)
  of_subtype_by d mark subtypes.booleans x e =
      of_same _ x (d.name.text ∷ []) (kept (not (is_some d.subtype.constraint)) _ x e).1 (names_subtype d mark.meaning None)
  of_subtype_by d mark subtypes.others x e = go (is_open mark d.subtype) e
    where
      go : (b : Bool) → cond b (as_it_was inner before d mark) (others_declared inner before d mark) ≡ Some x → HasNames x (d.name.text ∷ [])
      go true e = of_same _ x (d.name.text ∷ []) e (names_subtype d mark.meaning None)
      go false e = let a = comes (subtype inner d.subtype) _ x e in of_same _ x (d.name.text ∷ []) a.rest (names_subtype d mark.meaning (form_direction a.value.form))

  pub of_subtype_in : (d : t.SubtypeDeclaration) (x : Declares u.Declaration) → subtype_in inner before d ≡ Some x → HasNames x (d.name.text ∷ [])
  unfolding subtype_in
  of_subtype_in d x e =
      let a = comes (declaration inner d.subtype.mark.text) _ x e in
      of_subtype_by d a.value (class_of a.value.meaning) x a.rest

pub of_constants : (sight : Sight) (d : t.Constants) (x : Declares u.Declaration) → constants sight d ≡ Some x → HasNames x (names_of d.names)
of_constants sight d x e = of_constants_in (within sight d.names) sight.region d x e

pub of_subtype : (sight : Sight) (d : t.SubtypeDeclaration) (x : Declares u.Declaration) → subtype_declaration sight d ≡ Some x → HasNames x (d.name.text ∷ [])
of_subtype sight d x e = of_subtype_in (within sight (d.name ∷ [])) sight.region d x e

-- ---- enumerations and components

pub of_enumeration : (before : List Declared) (d : t.Enumeration) (x : Declares u.Declaration)
    → enumeration_in before d ≡ Some x → HasNames x (d.name.text ∷ names_of d.literals)
unfolding enumeration_in
of_enumeration before d x e =
    let a = kept (nat_le (length d.literals) 256) _ x e in
    of_same _ x (d.name.text ∷ names_of d.literals) a.1 (ap (λ ns. d.name.text ∷ ns) (names_literals _ _ 0 (names_of d.literals)))

pub of_component : (entities : List EntityView) (sight : Sight) (c : t.Component) (x : Declares u.Declaration)
    → component entities sight c ≡ Some x → HasNames x (c.name.text ∷ [])
of_component entities sight c x e = of_same _ x (c.name.text ∷ []) (ap Some (component_parts entities sight c x e).is) refl
