-- Generics and ports fit with those before them in sight (IEEE 1076-2008, 6.5.2 and 6.5.6).
use Rattle.std.proofs.Common.{◌≡◌, ℕ, suc, ◌+◌, Bool, true, not, ◌&&◌, List, [], ◌∷◌, ◌++◌, map, Option, Some, None, refl, ap, sym, ◌∙◌, subst, arith}
use Rattle.std.specs.Prelude.{if◌then◌else◌, is_some}
use Rattle.std.specs.Option.{option_map}
use Rattle.std.specs.List.{slice_get, filter_map, cons_option}
use Rattle.std.proofs.lemmas.Bool.{and_from, lt-ltb}
use Rattle.std.proofs.lemmas.List.{map-append}
use Rattle.vhdl_lexer.specs.declared.language.Language.{Language}
use Rattle.vhdl_lexer.specs.declared.language.Language.TheVariants.{Profile, Wide}
use Rattle.vhdl_tree.specs.Tree as t
use Rattle.vhdl_tree.specs.Tree.{Ident, Expr}
use Rattle.vhdl_tree.specs.declared.declaration.Mode.{Mode}
use Rattle.vhdl_names_rules.specs.declared.kind.ElementKind.{ElementKind}
use Rattle.vhdl_names_rules.specs.declared.kind.ElementKind.TheVariants.{Element}
use Rattle.vhdl_names_rules.specs.declared.kind.ObjectType.{ObjectType}
use Rattle.vhdl_names_rules.specs.declared.kind.ObjectType.TheVariants.{Elements, Enumeration, Integers, Booleans}
use Rattle.vhdl_names_rules.specs.units.Expressions.{StaticTest}
use Rattle.vhdl_names_rules.specs.units.Units as u
use Rattle.vhdl_names_rules.specs.units.Units.{Form, Fixed}
use Rattle.vhdl_names_rules.specs.Rules.{if_any, is_wide}
use Rattle.vhdl_names_rules.specs.Visibility as visibility
use Rattle.vhdl_names_rules.specs.Visibility.{Name, Meaning, DeclaredRange, Declared, declare, count_of, ranges_count, Sight, meaning, with_declared, Declares}
use Rattle.vhdl_names_rules.specs.Expressions.{typed, static, as_static_test}
use Rattle.vhdl_names_rules.specs.Subtypes as subtypes
use Rattle.vhdl_names_rules.specs.Subtypes.{subtype, object_subtype, form_range, form_direction, integer_subtype, TypeClass, class_of, fixed_value, object}
use Rattle.vhdl_names_rules.specs.Declarations.{is_global, GenericForm, integer_generic, static_test, boolean_generic, as_kind, as_port_type, other_generic, generic_form, generic, mode_of, without_port, without_ports, port}
use Rattle.vhdl_names_rules.specs.Instances as n
use Rattle.vhdl_names_rules.specs.Instances.{GenericKind, generic_kind, generic_formal, port_formal}
use Rattle.vhdl_names_rules.specs.sound.Expressions.{Inside, shape_of, static_test_fits, is_elements}
use Rattle.vhdl_names_rules.specs.sound.Units as w
use Rattle.vhdl_names_rules.specs.sound.Units.{form_fits, object_fits, is_port_shape, port_fits, ranges_of, generic_type_fits, generic_value_fits, generic_default_fits}
use Rattle.vhdl_names_laws.specs.Meanings.{Counts, kind_shape, type_shape, IsCounted, DeclaredFits, AllFit, IsInside}
use Rattle.vhdl_names_laws.proofs.Statics.{some_same, get_last, HasMore, more_of, keeps_all, keeps_before, each_append}
use Rattle.vhdl_names_rules.proofs.kept.Keeping.{mapped}
use Rattle.vhdl_names_laws.proofs.Shapes.{shape_elements}
use Rattle.vhdl_names_laws.proofs.Expressions.{typed_fits, static_integer_fits}
use Rattle.vhdl_names_laws.proofs.Values.{static_condition_fits}
use Rattle.vhdl_names_laws.proofs.Subtypes.{generic_type_more, generic_default_more, object_more, subtype_is, object_subtype_is, form_range_fits, integer_subtype_is, fixed_value_fits, no_name, object_is}
use Rattle.vhdl_names_laws.proofs.Served.{Serves, AllServe, IsServed, serves, all_serve, served}
use Rattle.vhdl_names_laws.proofs.Names.{named_fits}
use Rattle.vhdl_names_laws.proofs.InOrder as r
use Rattle.vhdl_names_laws.proofs.InOrder.{declared_one}
use Rattle.vhdl_names_laws.proofs.Formals.{IsOfType, IsGeneric, IsFormal, AreGenerics, AreFormals, none_picked, same_formals, more_formals}
use Rattle.vhdl_names_rules.proofs.laws.Rules.{comes, kept}
use Rattle.vhdl_names_laws.proofs.Known.{IsKnown, region, inside_more, known_one, counted_one, last_form, form_counts, last_form_range, one_longer, one_more, ranges_more}

pub elements_kind : (type : ObjectType) (kind : ElementKind) → as_kind type ≡ Some kind → type_shape type ≡ kind_shape kind
elements_kind (Elements k) kind q = ap kind_shape (some_same k kind q)
elements_kind _ kind q = absurd cc

-- the type of a port is no enumeration
record IsPortType (type x : ObjectType) : Type 0 where
  same : type ≡ x
  fits : is_port_shape (type_shape x) ≡ true

kind_is_port : (k : ElementKind) → is_port_shape (kind_shape k) ≡ true
kind_is_port Element = refl
kind_is_port _ = refl

port_type : (type x : ObjectType) → as_port_type type ≡ Some x → IsPortType type x
port_type (Elements k) x q =
    let e = some_same (Elements k) x q in
    record { same = e; fits = ap (λ x. is_port_shape (type_shape x)) (sym e) ∙ kind_is_port k }
port_type (Enumeration n count) x q = absurd cc
port_type Integers x q = let e = some_same Integers x q in record { same = e; fits = ap (λ x. is_port_shape (type_shape x)) (sym e) }
port_type Booleans x q = let e = some_same Booleans x q in record { same = e; fits = ap (λ x. is_port_shape (type_shape x)) (sym e) }

-- ---- constants and generics of a form

pub more_constants : (i : Inside) (counts : Counts) (f : Form) → HasMore i (w.with_constant i f) counts counts
more_constants i counts f =
    more_of i (w.with_constant i f) counts (record { generics = omega arith; integers = omega arith; ranges = omega arith; generates = omega arith; loops = omega arith })
    (keeps_before i.constants (f ∷ [])) (keeps_all i.ports) (keeps_all i.signals) (keeps_all i.variables)

more_generics : (i : Inside) (counts : Counts) → HasMore i (record i { generics = suc i.generics }) counts counts
more_generics i counts =
    more_of i (record i { generics = suc i.generics }) counts (record { generics = omega arith; integers = omega arith; ranges = omega arith; generates = omega arith; loops = omega arith })
    (keeps_all i.constants) (keeps_all i.ports) (keeps_all i.signals) (keeps_all i.variables)

more_generic : (i : Inside) (counts : Counts) (type : u.GenericType) → HasMore i (w.with_generic i type) counts counts
more_generic i counts (u.integers s) = more_generics i counts
more_generic i counts u.truths = more_generics i counts
more_generic i counts (u.values f) = more_constants i counts f

-- ---- what a generic is, by its class

-- its type and its values fit, its name's meaning is of its kind, and one more is known
record FormFits (i : Inside) (x : GenericForm) : Type 0 where
  type_fits : generic_type_fits i x.type ≡ true
  value_fits : (e : Expr) (v : Fixed) → x.value e ≡ Some v → generic_value_fits i x.type v ≡ true
  in_class : (k : ℕ) → x.class (x.meaning k) ≡ true
  kind : GenericKind
  is_kind : (k : ℕ) → generic_kind (x.meaning k) ≡ Some kind
  of_type : IsOfType kind x.type
  no_port : (g : Bool) (k c : ℕ) (n : Name) → port_formal (declared_one g x.direction k (x.meaning c) n) ≡ None
  one_known : (g : Bool) (i : Inside) (counts : Counts) (sight : Sight) (n : Name) → IsKnown region i counts sight
      → IsKnown region (w.with_generic i x.type) counts (with_declared sight (declared_one g x.direction (ranges_count sight.region) (x.meaning (count_of x.class sight.region)) n ∷ []))

module _ (i : Inside) (counts : Counts) (sight : Sight) (h : IsServed i counts sight) where
  pub test_is : (e : Expr) (v : StaticTest) → static_test sight e ≡ Some v → static_test_fits i v ≡ true
  test_is e v q = let a = comes (typed sight e) as_static_test v q in static_condition_fits i counts a.value v (typed_fits e i counts sight a.value h a.is) a.rest

  integers_form : (s : t.Subtype) (x : GenericForm) → integer_generic sight s ≡ Some x → FormFits i x
  integers_form s x q =
      let a = comes (integer_subtype sight s) _ x q in
      subst (FormFits i) (some_same _ x a.rest) (record {
        type_fits = integer_subtype_is i counts sight s a.value h a.is;
        value_fits = λ e v q.
            let b = mapped u.Fixed.integer (static sight e) v q in
            subst (λ v. generic_value_fits i (u.integers a.value) v ≡ true) b.is (static_integer_fits i counts sight e b.value h b.from);
        in_class = λ k. refl;
        kind = n.integer;
        is_kind = λ k. refl;
        of_type = tt;
        no_port = λ g k c n. refl;
        one_known = λ g i counts sight n k.
            let e = k.counted.generics in
            let d = declared_one g None (ranges_count sight.region) (visibility.generic (count_of visibility.is_generic sight.region)) n in
            known_one region i (record i { generics = suc i.generics }) counts sight d (more_generics i counts) refl refl
            (record { meaning = lt-ltb (count_of visibility.is_generic sight.region) (suc i.generics) (omega (arith, e)); range = tt })
            (counted_one i (record i { generics = suc i.generics }) counts counts sight.region d refl refl refl refl refl refl refl refl k.counted) k;
      })

  booleans_form : (s : t.Subtype) (x : GenericForm) → boolean_generic sight s ≡ Some x → FormFits i x
  booleans_form s x q =
      let a = kept (is_wide sight.language && not (is_some s.constraint)) _ x q in
      subst (FormFits i) (some_same _ x a.1) (record {
        type_fits = refl;
        value_fits = λ e v q.
            let b = mapped u.Fixed.truth (static_test sight e) v q in
            subst (λ v. generic_value_fits i u.truths v ≡ true) b.is (test_is e b.value b.from);
        in_class = λ k. refl;
        kind = n.boolean;
        is_kind = λ k. refl;
        of_type = tt;
        no_port = λ g k c n. refl;
        one_known = λ g i counts sight n k.
            let e = k.counted.generics in
            let d = declared_one g None (ranges_count sight.region) (visibility.boolean_generic (count_of visibility.is_generic sight.region)) n in
            known_one region i (record i { generics = suc i.generics }) counts sight d (more_generics i counts) refl refl
            (record { meaning = lt-ltb (count_of visibility.is_generic sight.region) (suc i.generics) (omega (arith, e)); range = tt })
            (counted_one i (record i { generics = suc i.generics }) counts counts sight.region d refl refl refl refl refl refl refl refl k.counted) k;
      })

  others_form : (s : t.Subtype) (x : GenericForm) → other_generic sight s ≡ Some x → FormFits i x
  others_form s x q =
      let c = kept (is_wide sight.language) _ x q in
      let a = comes (subtype sight s) _ x c.1 in
      let b = comes (as_kind a.value.type) _ x a.rest in
      let f = subtype_is i counts sight s a.value h a.is in
      let shape = f.shape ∙ elements_kind a.value.type b.value b.is in
      subst (FormFits i) (some_same _ x b.rest) (record {
        type_fits = and_from (form_fits i a.value.form) (is_elements (shape_of a.value.form)) f.form (ap is_elements shape ∙ shape_elements b.value);
        value_fits = λ e v q.
            ap (λ z. w.fixed_fits i z v) f.shape
            ∙ fixed_value_fits i counts sight a.value.type (form_range a.value.form) (t.single e) v h (form_range_fits i a.value.form f.form) f.counted q;
        in_class = λ k. refl;
        kind = n.elements b.value;
        is_kind = λ k. refl;
        of_type = shape;
        no_port = λ g k c n. refl;
        one_known = λ g i counts sight n k. constant_known g i counts sight n a.value.form b.value shape k;
      })
    where
      constant_known : (g : Bool) (i : Inside) (counts : Counts) (sight : Sight) (n : Name) (f : Form) (kind : ElementKind) → shape_of f ≡ kind_shape kind → IsKnown region i counts sight
          → IsKnown region (w.with_constant i f) counts
          (with_declared sight (declared_one g (form_direction f) (ranges_count sight.region) (visibility.constant (count_of visibility.is_constant sight.region) kind None) n ∷ []))
      constant_known g i counts sight n f kind s k =
          let c = count_of visibility.is_constant sight.region in
          let m = ranges_count sight.region in
          let d = declared_one g (form_direction f) m (visibility.constant c kind None) n in
          known_one region i (w.with_constant i f) counts sight d (more_constants i counts f) refl refl
          (record { meaning = (last_form counts (Elements kind) f i.constants c k.counted.constants s tt, tt); range = last_form_range (w.with_constant i f) f m i.ranges refl k.counted.ranges })
          (counted_one i (w.with_constant i f) counts counts sight.region d refl refl (form_counts f m i.ranges) (sym (one_longer i.constants f)) refl refl refl refl k.counted) k

  generic_form_is : (s : t.Subtype) (class : TypeClass) (x : GenericForm) → generic_form sight s class ≡ Some x → FormFits i x
  generic_form_is s subtypes.integers x q = integers_form s x q
  generic_form_is s subtypes.booleans x q = booleans_form s x q
  generic_form_is s subtypes.others x q = others_form s x q

  default_is : (x : GenericForm) (f : FormFits i x) (e : Option Expr) (v : Option Fixed) → if_any x.value e ≡ Some v → generic_default_fits i x.type v ≡ true
  default_is x f None v q = subst (λ v. generic_default_fits i x.type v ≡ true) (some_same None v q) refl
  default_is x f (Some e) v q =
      let a = comes (x.value e) _ v q in
      subst (λ v. generic_default_fits i x.type v ≡ true) (some_same (Some a.value) v a.rest) (f.value_fits e a.value a.is)

-- ---- generics, with those before them

pub record Generics : Type 0 where
  pub inside : Inside
  pub generics : List u.Generic

abbrev pub with_generic : Generics → u.Generic → Generics
with_generic x g = record { inside = w.with_generic x.inside g.type; generics = x.generics ++ g ∷ [] }

abbrev pub generic_fits : Generics → u.Generic → Bool
generic_fits x g = generic_type_fits x.inside g.type && generic_default_fits x.inside g.type g.default

pub record KnownGenerics (x : Generics) (counts : Counts) (sight : Sight) : Type 0 where
  pub known : IsKnown region x.inside counts sight
  pub formals : AreGenerics (filter_map generic_formal sight.region) x.generics
  pub no_ports : filter_map port_formal sight.region ≡ []

pub generic_step : (x : Generics) (counts : Counts) (sight : Sight) (g : t.Generic) (y : Declares u.Generic) → KnownGenerics x counts sight → generic sight g ≡ Some y
    → r.Step with_generic generic_fits with_declared KnownGenerics x sight y
unfolding generic
generic_step x counts sight g y h q =
    let a = comes (meaning sight g.subtype.mark.text) _ y q in
    let b = comes (generic_form sight g.subtype (class_of a.value)) _ y a.rest in
    let c = comes (if_any b.value.value g.default) _ y b.rest in
    let f = generic_form_is x.inside counts sight (served x.inside counts sight h.known.inside) g.subtype (class_of a.value) b.value b.is in
    let form = b.value in
    let make : Ident → u.Generic = λ n. record { at = n.at; name = n.text; type = form.type; default = c.value } in
    let global = is_global sight g.subtype in
    subst (r.Step with_generic generic_fits with_declared KnownGenerics x sight) (some_same _ y c.rest)
    (r.names_step with_generic generic_fits with_declared KnownGenerics region.none region.twice global form.direction form.meaning
    (λ (s : Sight). count_of form.class s.region) (λ (s : Sight). ranges_count s.region) make
    (λ x counts. (generic_type_fits x.inside form.type ≡ true) × (generic_default_fits x.inside form.type c.value ≡ true))
    (λ x counts sight n ok k.
    let d = declared_one global form.direction (ranges_count sight.region) (form.meaning (count_of form.class sight.region)) n.text in
    record {
      known = f.one_known global x.inside counts sight n.text k.known;
      formals =
          more_formals IsGeneric generic_formal sight.region (d ∷ []) x.generics (record { name = n.text; kind = f.kind }) (make n)
          (ap (λ o. cons_option o []) (ap (option_map (λ kind. record { name = n.text; kind = kind })) (f.is_kind (count_of form.class sight.region))))
          k.formals (record { «type» = f.of_type });
      no_ports =
          none_picked port_formal sight.region (d ∷ []) k.no_ports
          (ap (λ o. cons_option o []) (f.no_port global (ranges_count sight.region) (count_of form.class sight.region) n.text));
    })
    (λ x counts n ok. and_from (generic_type_fits x.inside form.type) (generic_default_fits x.inside form.type c.value) ok.0 ok.1)
    (λ x counts n ok. (
      generic_type_more x.inside (w.with_generic x.inside form.type) (more_generic x.inside counts form.type).numbers form.type ok.0,
      generic_default_more x.inside (w.with_generic x.inside form.type) (more_generic x.inside counts form.type).numbers (more_generic x.inside counts form.type).constants form.type c.value ok.1,
    ))
    (λ sight n. one_more region form.class sight (declared_one global form.direction (ranges_count sight.region) (form.meaning (count_of form.class sight.region)) n.text) (f.in_class (count_of form.class sight.region)))
    (λ sight n. ranges_more region sight global form.direction (ranges_count sight.region) (form.meaning (count_of form.class sight.region)) n.text)
    g.names x counts sight (f.type_fits, default_is x.inside counts sight (served x.inside counts sight h.known.inside) form f g.default c.value c.is) h)

-- ---- ports, of which none is in sight of another one

abbrev pub with_port : Inside → u.Port → Inside
with_port i p = record i { ports = i.ports ++ p ∷ []; ranges = i.ranges + ranges_of p.object.form }

more_ports : (i : Inside) (counts : Counts) (p : u.Port) → HasMore i (with_port i p) counts counts
more_ports i counts p =
    more_of i (with_port i p) counts (record { generics = omega arith; integers = omega arith; ranges = omega arith; generates = omega arith; loops = omega arith })
    (keeps_all i.constants) (keeps_before i.ports (p ∷ [])) (keeps_all i.signals) (keeps_all i.variables)

-- A port of the same list is in sight without its range, whose number isn't known there; in the wider language it isn't
-- in sight at all.
abbrev pub without_range : Declared → Declared
without_range d = if visibility.is_port d.meaning then record d { range = None } else d

abbrev pub unranged : Sight → Sight
unranged sight = record sight { region = map without_range sight.region }

module _ (i : Inside) (counts : Counts) where
  -- in the narrow language a port's range is asked for by no expression
  unranged_serves : (name : Name) (m : Meaning) (r : Option DeclaredRange) (b : Bool) → DeclaredFits i counts (without_range (record { name = name; meaning = m; range = r; is_global = b }))
      → Serves i counts Profile (record { name = name; meaning = m; range = r; is_global = b })
  unranged_serves name (visibility.port k mode kind) r b h = record {
    meaning = h.meaning;
    named = λ at a s x f g. named_fits i counts Profile at a (record { name = name; meaning = visibility.port k mode kind; range = None; is_global = b }) s x h f g;
    mark = λ n. absurd cc;
  }
  unranged_serves name m r b h = serves i counts Profile (record { name = name; meaning = m; range = r; is_global = b }) h

  hidden_serves : (name : Name) (m : Meaning) (r : Option DeclaredRange) (b : Bool) → DeclaredFits i counts (without_range (record { name = name; meaning = m; range = r; is_global = b }))
      → Serves i counts Wide (without_port (record { name = name; meaning = m; range = r; is_global = b }))
  hidden_serves name (visibility.port k mode kind) r b h = serves i counts Wide (declare name visibility.unfinished) (record { meaning = tt; range = tt })
  hidden_serves name m r b h = serves i counts Wide (record { name = name; meaning = m; range = r; is_global = b }) h

  all_unranged : (ds : List Declared) → AllFit i counts (map without_range ds) → AllServe i counts Profile ds
  all_unranged [] h = tt
  all_unranged (d ∷ ds) h = (unranged_serves d.name d.meaning d.range d.is_global h.0, all_unranged ds h.1)

  all_hidden : (ds : List Declared) → AllFit i counts (map without_range ds) → AllServe i counts Wide (map without_port ds)
  all_hidden [] h = tt
  all_hidden (d ∷ ds) h = (hidden_serves d.name d.meaning d.range d.is_global h.0, all_hidden ds h.1)

  list_served : (sight : Sight) → IsInside i counts (unranged sight) → IsServed i counts (without_ports sight)
  list_served sight h = by sight.language refl
    where
      made : (l : Language) (ds : List Declared) → AllServe i counts l ds → IsServed i counts (record sight { region = ds; language = l })
      made l ds f = record {
        loops = all_serve i counts l sight.loops h.loops;
        variables = all_serve i counts l sight.variables h.variables;
        generates = all_serve i counts l sight.generates h.generates;
        region = f;
        enclosing = all_serve i counts l sight.enclosing h.enclosing;
        packages = all_serve i counts l sight.packages h.packages;
      }

      shown : (l : Language) → sight.language ≡ l → without_ports sight ≡ (if is_wide l then record sight { region = map without_port sight.region; language = l } else record sight { language = l })
      shown l e = ap (λ l. if is_wide l then record sight { region = map without_port sight.region; language = l } else record sight { language = l }) e

      by : (l : Language) → sight.language ≡ l → IsServed i counts (without_ports sight)
      by Wide e = subst (IsServed i counts) (sym (shown Wide e)) (made Wide (map without_port sight.region) (all_hidden sight.region h.region))
      by Profile e = subst (IsServed i counts) (sym (shown Profile e)) (made Profile sight.region (all_unranged sight.region h.region))

-- with the generics and their ranges
module _ (ranges : ℕ) (gs : List u.Generic) where
  abbrev pub without : Inside → Inside
  without i = record i { ranges = ranges }

  abbrev pub port_is : Inside → u.Port → Bool
  port_is i p = object_fits (without i) p.object && port_fits p

  pub record KnownPorts (i : Inside) (counts : Counts) (sight : Sight) : Type 0 where
    pub known : IsKnown region i counts sight
    pub unseen : IsInside (without i) counts (unranged sight)
    pub formals : AreFormals (filter_map port_formal sight.region) i.ports
    pub generics : AreGenerics (filter_map generic_formal sight.region) gs

  more_unseen : (i : Inside) (counts : Counts) (p : u.Port) → HasMore (without i) (without (with_port i p)) counts counts
  more_unseen i counts p =
      more_of (without i) (without (with_port i p)) counts (record { generics = omega arith; integers = omega arith; ranges = omega arith; generates = omega arith; loops = omega arith })
      (keeps_all i.constants) (keeps_before i.ports (p ∷ [])) (keeps_all i.signals) (keeps_all i.variables)

  inside_unranged : (i : Inside) (counts : Counts) (sight : Sight) (d : Declared) → IsInside i counts (unranged sight) → DeclaredFits i counts (without_range d)
      → IsInside i counts (unranged (with_declared sight (d ∷ [])))
  inside_unranged i counts sight d h f = record {
    loops = h.loops;
    variables = h.variables;
    generates = h.generates;
    region =
        subst (AllFit i counts) (sym (map-append without_range sight.region (d ∷ [])))
        (each_append (DeclaredFits i counts) (map without_range sight.region) (without_range d ∷ []) h.region (f, tt));
    enclosing = h.enclosing;
    packages = h.packages;
    loop_count = h.loop_count;
    generate_count = h.generate_count;
  }

  pub port_step : (i : Inside) (counts : Counts) (sight : Sight) (p : t.Port) (x : Declares u.Port) → KnownPorts i counts sight → port sight p ≡ Some x
      → r.Step with_port port_is with_declared KnownPorts i sight x
  unfolding port
  port_step i counts sight p x h q =
      let a = comes (object_subtype (without_ports sight) p.subtype) _ x q in
      let b = comes (as_port_type a.value.type) _ x a.rest in
      let c = comes (if_any (fixed_value (without_ports sight) a.value.type (form_range a.value.form)) p.default) _ x b.rest in
      let f = object_subtype_is (without i) counts (without_ports sight) p.subtype a.value (list_served (without i) counts sight h.unseen) a.is in
      let t = port_type a.value.type b.value b.is in
      let shape = f.shape ∙ ap type_shape t.same in
      let make : Ident → u.Port = λ n. record { mode = mode_of p.mode; object = object a.value c.value n } in
      let global = is_global (without_ports sight) p.subtype in
      let direction = form_direction a.value.form in
      subst (r.Step with_port port_is with_declared KnownPorts i sight) (some_same _ x c.rest)
      (r.names_step with_port port_is with_declared KnownPorts region.none region.twice global direction (λ k. visibility.port k (mode_of p.mode) b.value)
      (λ (s : Sight). count_of visibility.is_port s.region) (λ (s : Sight). ranges_count s.region) make
      (λ i counts. (object_fits (without i) (object a.value c.value no_name) ≡ true) × IsCounted counts b.value)
      (λ i counts sight n ok k. single global i counts sight n.text (make n) (mode_of p.mode) b.value refl refl shape ok.1 k)
      (λ i counts n ok. and_from (object_fits (without i) (object a.value c.value n)) (is_port_shape (shape_of a.value.form)) ok.0 (ap is_port_shape shape ∙ t.fits))
      (λ i counts n ok. (object_more (without i) (without (with_port i (make n))) (more_unseen i counts (make n)).numbers (keeps_all i.constants) (object a.value c.value no_name) ok.0, ok.1))
      (λ sight n. one_more region visibility.is_port sight (declared_one global direction (ranges_count sight.region) (visibility.port (count_of visibility.is_port sight.region) (mode_of p.mode) b.value) n.text) refl)
      (λ sight n. ranges_more region sight global direction (ranges_count sight.region) (visibility.port (count_of visibility.is_port sight.region) (mode_of p.mode) b.value) n.text)
      p.names i counts sight
      (object_is (without i) counts (without_ports sight) a.value p.default c.value (list_served (without i) counts sight h.unseen) f c.is, subst (IsCounted counts) t.same f.counted) h)
    where
      single : (g : Bool) (i : Inside) (counts : Counts) (sight : Sight) (n : Name) (p : u.Port) (mode : Mode) (type : ObjectType) → p.object.name ≡ n → p.mode ≡ mode
          → shape_of p.object.form ≡ type_shape type → IsCounted counts type → KnownPorts i counts sight
          → KnownPorts (with_port i p) counts
          (with_declared sight (declared_one g (form_direction p.object.form) (ranges_count sight.region) (visibility.port (count_of visibility.is_port sight.region) mode type) n ∷ []))
      single g i counts sight n p mode type same e s ct k =
          let c = count_of visibility.is_port sight.region in
          let m = ranges_count sight.region in
          let d = declared_one g (form_direction p.object.form) m (visibility.port c mode type) n in
          let j = with_port i p in
          let fits : DeclaredFits j counts d = record {
            meaning = record { port = p; at = ap (slice_get (i.ports ++ p ∷ [])) k.known.counted.ports ∙ get_last i.ports p; mode_is = e; shape = s; counted = ct };
            range = last_form_range j p.object.form m i.ranges refl k.known.counted.ranges;
          } in
          record {
            known =
                known_one region i j counts sight d (more_ports i counts p) refl refl fits
                (counted_one i j counts counts sight.region d refl refl (form_counts p.object.form m i.ranges) refl (sym (one_longer i.ports p)) refl refl refl k.known.counted) k.known;
            unseen =
                inside_unranged (without j) counts sight d (inside_more (without i) (without j) counts counts (unranged sight) (more_unseen i counts p) refl refl k.unseen)
                (record { meaning = fits.meaning; range = tt });
            formals =
                more_formals IsFormal port_formal sight.region (d ∷ []) i.ports (record { name = n; mode = mode; type = type }) p refl k.formals (record { name = same; mode = e; shape = s });
            generics = same_formals IsGeneric generic_formal sight.region (d ∷ []) gs refl k.generics;
          }
