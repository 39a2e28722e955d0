-- The bytes of what is declared are those of pieces of its declaration.
use Rattle.std.proofs.Common.{◌≡◌, ℕ, Bool, true, false, not, ◌&&◌, List, [], ◌∷◌, map, Option, Some, None, refl, subst}
use Rattle.std.specs.Prelude.{nat_le, length, is_some, if◌then◌else◌}
use Rattle.std.specs.List.{AllByRecursion}
use Rattle.vhdl_lexer.specs.declared.token.TokenKind.TheVariants as k
use Rattle.vhdl_tree.specs.Tree as t
use Rattle.vhdl_tree.specs.Tree.{Ident, Expr}
use Rattle.vhdl_tree.specs.Pieces.{spell_ident, spell_idents, spell_option, spell_word}
use Rattle.vhdl_tree.specs.grammar.Expressions.{spell, spell_value}
use Rattle.vhdl_tree.specs.grammar.Subtypes.{spell_subtype, spell_default, spell_constants, spell_subtype_declaration}
use Rattle.vhdl_tree.specs.grammar.Declarations.{spell_generic_default, spell_mode, spell_generic, spell_port, spell_signals, spell_declaration}
use Rattle.vhdl_tree.specs.grammar.Process.{spell_variables, spell_process_declaration}
use Rattle.vhdl_names_rules.specs.units.Expressions.{Range}
use Rattle.vhdl_names_rules.specs.units.Units as u
use Rattle.vhdl_names_rules.specs.units.Units.{Form, Fixed}
use Rattle.vhdl_names_rules.specs.units.Bytes.{if_any_bytes, static_bytes, range_bytes, form_bytes, fixed_bytes, subtype_bytes, generic_type_bytes, generic_bytes, port_bytes, declaration_bytes}
use Rattle.vhdl_names_rules.specs.Rules.{if_any, is_wide}
use Rattle.vhdl_names_rules.specs.Visibility.{Declared, Sight, declared_here, declaration, meaning, Declares}
use Rattle.vhdl_names_rules.specs.Expressions.{static}
use Rattle.vhdl_names_rules.specs.problems.Places.{start}
use Rattle.vhdl_names_rules.specs.Subtypes as subtypes
use Rattle.vhdl_names_rules.specs.Subtypes.{subtype, object_subtype, form_range, integer_subtype, numbers_direction, TypeClass, class_of, fixed_value, object}
use Rattle.vhdl_names_rules.specs.Declarations.{GenericForm, static_test, generic_form, generic, as_kind, as_port_type, mode_of, without_ports, port, signals, variables, within, within_variables, single_expression, told_at, constants_by, constants_in, if_ranged, is_open, others_declared, as_it_was, subtype_by, subtype_in, enumeration_in, process_declaration}
use Rattle.vhdl_names_rules.specs.Interfaces.{EntityView, component}
use Rattle.vhdl_names_rules.specs.Files as files
use Rattle.vhdl_names_rules.proofs.laws.Rules.{comes, kept}
use Rattle.vhdl_names_rules.proofs.kept.Keeping.{mapped}
use Rattle.vhdl_names_rules.proofs.laws.Parts.{component_parts}
use Rattle.vhdl_names_laws.proofs.Statics.{some_same}
use Rattle.vhdl_names_laws.proofs.placed.Told.{Stand, NamesStand, first, behind, list_stands}
use Rattle.vhdl_names_laws.proofs.placed.Starts.{start_stands}
use Rattle.vhdl_names_laws.proofs.standing.Holding.{Hold, hold_both}
use Rattle.vhdl_names_laws.proofs.standing.Expressions.{static_holds}
use Rattle.vhdl_names_laws.proofs.standing.Values.{subtype_holds, object_subtype_holds, form_range_holds, integer_subtype_holds, fixed_value_holds, default_holds, test_holds}

-- ---- the names of one declaration

abbrev pub EachHolds : {A : Type 0} → (ℕ → Type 0) → (A → List ℕ) → List A → Type 0
EachHolds P bytes = AllByRecursion (λ x. Hold P (bytes x))

each_name : {A : Type 0} (P : ℕ → Type 0) (bytes : A → List ℕ) (f : Ident → A) → ((n : Ident) → P n.at → Hold P (bytes (f n))) → (ns : List Ident) → NamesStand P ns
    → EachHolds P bytes (map f ns)
each_name P bytes f one [] h = tt
each_name P bytes f one (n ∷ ns) h = (one n h.0.0, each_name P bytes f one ns h.1)

names_stand : (P : ℕ → Type 0) (ns : List Ident) → Stand P (spell_idents ns) → NamesStand P ns
names_stand P ns h = list_stands P k.Comma spell_ident ns h

-- ---- generics and ports

-- what a generic's type and its values have
record FormHolds (P : ℕ → Type 0) (x : GenericForm) : Type 0 where
  type_holds : Hold P (generic_type_bytes x.type)
  value_holds : (e : Expr) (v : Fixed) → Stand P (spell e) → x.value e ≡ Some v → Hold P (fixed_bytes v)

generic_form_holds : (P : ℕ → Type 0) (sight : Sight) (s : t.Subtype) (class : TypeClass) (x : GenericForm) → Stand P (spell_subtype s) → generic_form sight s class ≡ Some x → FormHolds P x
generic_form_holds P sight s subtypes.integers x h q =
    let a = comes (integer_subtype sight s) _ x q in
    subst (FormHolds P) (some_same _ x a.rest) (record {
      type_holds = integer_subtype_holds P sight s a.value h a.is;
      value_holds = λ e v g q. let b = mapped u.Fixed.integer (static sight e) v q in subst (λ v. Hold P (fixed_bytes v)) b.is (static_holds P sight e b.value g b.from);
    })
generic_form_holds P sight s subtypes.booleans x h q =
    let a = kept (is_wide sight.language && not (is_some s.constraint)) _ x q in
    subst (FormHolds P) (some_same _ x a.1) (record {
      type_holds = tt;
      value_holds = λ e v g q. let b = mapped u.Fixed.truth (static_test sight e) v q in subst (λ v. Hold P (fixed_bytes v)) b.is (test_holds P sight e b.value g b.from);
    })
generic_form_holds P sight s subtypes.others x h q =
    let c = kept (is_wide sight.language) _ x q in
    let a = comes (subtype sight s) _ x c.1 in
    let b = comes (as_kind a.value.type) _ x a.rest in
    let f = subtype_holds P sight s a.value h a.is in
    subst (FormHolds P) (some_same _ x b.rest) (record {
      type_holds = f;
      value_holds = λ e v g q. fixed_value_holds P sight a.value.type (form_range a.value.form) (t.single e) v (form_range_holds P a.value.form f) g q;
    })

generic_default_holds : (P : ℕ → Type 0) (x : GenericForm) → FormHolds P x → (d : Option Expr) (v : Option Fixed) → Stand P (spell_option spell_generic_default d) → if_any x.value d ≡ Some v
    → Hold P (if_any_bytes fixed_bytes v)
generic_default_holds P x f None v h q = subst (λ v. Hold P (if_any_bytes fixed_bytes v)) (some_same None v q) tt
generic_default_holds P x f (Some d) v h q =
    let a = comes (x.value d) _ v q in
    subst (λ v. Hold P (if_any_bytes fixed_bytes v)) (some_same (Some a.value) v a.rest) (f.value_holds d a.value h.1 a.is)

pub generic_holds : (P : ℕ → Type 0) (sight : Sight) (g : t.Generic) (x : Declares u.Generic) → Stand P (spell_generic g) → generic sight g ≡ Some x
    → EachHolds P generic_bytes x.analysed
unfolding generic
generic_holds P sight g x h q =
    let names = behind P (spell_word k.Constant g.constant_word) _ h in
    let type = behind P (spell_word k.In g.in_word) _ (behind P (spell_idents g.names) _ names).1 in
    let a = comes (meaning sight g.subtype.mark.text) _ x q in
    let b = comes (generic_form sight g.subtype (class_of a.value)) _ x a.rest in
    let c = comes (if_any b.value.value g.default) _ x b.rest in
    let f = generic_form_holds P sight g.subtype (class_of a.value) b.value (first P (spell_subtype g.subtype) _ type) b.is in
    let d = generic_default_holds P b.value f g.default c.value (behind P (spell_subtype g.subtype) _ type) c.is in
    let make : Ident → u.Generic = λ n. record { at = n.at; name = n.text; type = b.value.type; default = c.value } in
    subst (λ (x : Declares u.Generic). EachHolds P generic_bytes x.analysed) (some_same _ x c.rest)
    (each_name P generic_bytes make (λ n w. (w, hold_both P (generic_type_bytes b.value.type) (if_any_bytes fixed_bytes c.value) f.type_holds d)) g.names
    (names_stand P g.names (first P (spell_idents g.names) _ names)))

pub port_holds : (P : ℕ → Type 0) (sight : Sight) (p : t.Port) (x : Declares u.Port) → Stand P (spell_port p) → port sight p ≡ Some x → EachHolds P port_bytes x.analysed
unfolding port
port_holds P sight p x h q =
    let names = behind P (spell_word k.Signal p.signal_word) _ h in
    let type = behind P (spell_option spell_mode p.mode) _ (behind P (spell_idents p.names) _ names).1 in
    let inner = without_ports sight in
    let a = comes (object_subtype inner p.subtype) _ x q in
    let b = comes (as_port_type a.value.type) _ x a.rest in
    let c = comes (if_any (fixed_value inner a.value.type (form_range a.value.form)) p.default) _ x b.rest in
    let f = object_subtype_holds P inner p.subtype a.value (first P (spell_subtype p.subtype) _ type) a.is in
    let d = default_holds P inner a.value.type (form_range a.value.form) p.default c.value (form_range_holds P a.value.form f) (behind P (spell_subtype p.subtype) _ type) c.is in
    let make : Ident → u.Port = λ n. record { mode = mode_of p.mode; object = object a.value c.value n } in
    subst (λ (x : Declares u.Port). EachHolds P port_bytes x.analysed) (some_same _ x c.rest)
    (each_name P port_bytes make (λ n w. (w, hold_both P (form_bytes a.value.form) (if_any_bytes fixed_bytes c.value) f d)) p.names
    (names_stand P p.names (first P (spell_idents p.names) _ names)))

-- ---- signals, variables and constants

signals_hold : (P : ℕ → Type 0) (sight : Sight) (d : t.Signals) (x : Declares u.Declaration) → Stand P (spell_signals d) → signals sight d ≡ Some x
    → EachHolds P declaration_bytes x.analysed
unfolding signals
signals_hold P sight d x h q =
    let type = (behind P (spell_idents d.names) _ h.1).1 in
    let a = comes (object_subtype (within sight d.names) d.subtype) _ x q in
    let c = comes (if_any (fixed_value (within sight d.names) a.value.type (form_range a.value.form)) d.default) _ x a.rest in
    let f = object_subtype_holds P (within sight d.names) d.subtype a.value (first P (spell_subtype d.subtype) _ type) a.is in
    let v = default_holds P (within sight d.names) a.value.type (form_range a.value.form) d.default c.value (form_range_holds P a.value.form f) (first P (spell_option spell_default d.default) _ (behind P (spell_subtype d.subtype) _ type)) c.is in
    subst (λ (x : Declares u.Declaration). EachHolds P declaration_bytes x.analysed) (some_same _ x c.rest)
    (each_name P declaration_bytes (λ n. u.Declaration.signal (object a.value c.value n)) (λ n w. (w, hold_both P (form_bytes a.value.form) (if_any_bytes fixed_bytes c.value) f v)) d.names
    (names_stand P d.names (first P (spell_idents d.names) _ h.1)))

variables_hold : (P : ℕ → Type 0) (sight : Sight) (d : t.Variables) (x : Declares u.Declaration) → Stand P (spell_variables d) → variables sight d ≡ Some x
    → EachHolds P declaration_bytes x.analysed
unfolding variables
variables_hold P sight d x h q =
    let type = (behind P (spell_idents d.names) _ h.1).1 in
    let a = comes (object_subtype (within_variables sight d.names) d.subtype) _ x q in
    let c = comes (if_any (fixed_value (within_variables sight d.names) a.value.type (form_range a.value.form)) d.default) _ x a.rest in
    let f = object_subtype_holds P (within_variables sight d.names) d.subtype a.value (first P (spell_subtype d.subtype) _ type) a.is in
    let v =
    default_holds P (within_variables sight d.names) a.value.type (form_range a.value.form) d.default c.value (form_range_holds P a.value.form f) (first P (spell_option spell_default d.default) _ (behind P (spell_subtype d.subtype) _ type)) c.is in
    subst (λ (x : Declares u.Declaration). EachHolds P declaration_bytes x.analysed) (some_same _ x c.rest)
    (each_name P declaration_bytes (λ n. u.Declaration.variable (object a.value c.value n)) (λ n w. (w, hold_both P (form_bytes a.value.form) (if_any_bytes fixed_bytes c.value) f v)) d.names
    (names_stand P d.names (first P (spell_idents d.names) _ h.1)))

-- a value that is one expression stands as it does
single_stands : (P : ℕ → Type 0) (v : t.Value) (d : Expr) → Stand P (spell_value v) → single_expression v ≡ Some d → Stand P (spell d)
single_stands P (t.single e) d h q = subst (λ d. Stand P (spell d)) (some_same e d q) h
single_stands P (t.others at e) d h q = absurd cc

-- in a region or a process
module _ (P : ℕ → Type 0) (inner : Sight) (before : List Declared) where
  abbrev AllHold : Declares u.Declaration → Type 0
  AllHold x = EachHolds P declaration_bytes x.analysed

  -- the byte at which is told what is wrong with a constant's value
  told_holds : (s : u.IntegerSubtype) (n : Ident) (e : Expr) → P n.at → P (start e) → P (told_at s n e)
  told_holds s n e h g = by s.base s.range
    where
      by : (b : u.Integers) (r : Option (ℕ × Range)) → P (told_at (record { base = b; range = r }) n e)
      by (u.of_type w) None = h
      by (u.of_type w) (Some r) = g
      by (u.of_range m) None = g
      by (u.of_range m) (Some r) = g

  constants_by_hold : (d : t.Constants) (class : TypeClass) (x : Declares u.Declaration) → NamesStand P d.names → Stand P (spell_subtype d.subtype) → Stand P (spell_value d.value)
      → constants_by inner before d class ≡ Some x → AllHold x
  constants_by_hold d subtypes.integers x ns s v q =
      let a = comes (integer_subtype inner d.subtype) _ x q in
      let b = comes (single_expression d.value) _ x a.rest in
      let c = comes (static inner b.value) _ x b.rest in
      let g = single_stands P d.value b.value v b.is in
      let n = static_holds P inner b.value c.value g c.is in
      let f = integer_subtype_holds P inner d.subtype a.value s a.is in
      subst AllHold (some_same _ x c.rest)
      (each_name P declaration_bytes (λ i. u.Declaration.integer (told_at a.value i b.value) a.value c.value)
      (λ i w. (told_holds a.value i b.value w (start_stands P b.value g), hold_both P (subtype_bytes a.value) (static_bytes c.value) f n)) d.names ns)
  constants_by_hold d subtypes.booleans x ns s v q =
      let a = kept (not (is_some d.subtype.constraint)) _ x q in
      let b = comes (single_expression d.value) _ x a.1 in
      let c = comes (static_test inner b.value) _ x b.rest in
      let n = test_holds P inner b.value c.value (single_stands P d.value b.value v b.is) c.is in
      subst AllHold (some_same _ x c.rest) (each_name P declaration_bytes (λ i. u.Declaration.truth i.at c.value) (λ i w. (w, n)) d.names ns)
  constants_by_hold d subtypes.others x ns s v q =
      let a = comes (subtype inner d.subtype) _ x q in
      let b = comes (as_kind a.value.type) _ x a.rest in
      let c = comes (fixed_value inner a.value.type (form_range a.value.form) d.value) _ x b.rest in
      let f = subtype_holds P inner d.subtype a.value s a.is in
      let g = fixed_value_holds P inner a.value.type (form_range a.value.form) d.value c.value (form_range_holds P a.value.form f) v c.is in
      subst AllHold (some_same _ x c.rest)
      (each_name P declaration_bytes (λ i. u.Declaration.constant i.at a.value.form c.value) (λ i w. (w, hold_both P (form_bytes a.value.form) (fixed_bytes c.value) f g)) d.names ns)

  pub constants_hold : (d : t.Constants) (x : Declares u.Declaration) → Stand P (spell_constants d) → constants_in inner before d ≡ Some x → AllHold x
  unfolding constants_in
  constants_hold d x h q =
      let type = (behind P (spell_idents d.names) _ h.1).1 in
      let v = first P (spell_value d.value) _ (behind P (spell_subtype d.subtype) _ type).1 in
      let a = comes (meaning inner d.subtype.mark.text) _ x q in
      constants_by_hold d (class_of a.value) x (names_stand P d.names (first P (spell_idents d.names) _ h.1)) (first P (spell_subtype d.subtype) _ type) v a.rest

  -- ---- subtypes

  as_it_was_holds : (d : t.SubtypeDeclaration) (mark : Declared) (x : Declares u.Declaration) → as_it_was inner before d mark ≡ Some x → AllHold x
  as_it_was_holds d mark x q = subst AllHold (some_same _ x q) tt

  ranged_hold : {A : Type 0} (f : A → u.Declaration) (o : Option A) → ((x : A) → o ≡ Some x → Hold P (declaration_bytes (f x))) → EachHolds P declaration_bytes (if_ranged f o)
  ranged_hold f None h = tt
  ranged_hold f (Some x) h = (h x refl, tt)

  form_some : (f : Form) (r : Range) → Hold P (form_bytes f) → form_range f ≡ Some r → Hold P (range_bytes r)
  form_some (u.vector x) r h q = subst (λ r. Hold P (range_bytes r)) (some_same x r q) h
  form_some _ r h q = absurd cc

  subtype_by_holds : (d : t.SubtypeDeclaration) (mark : Declared) (class : TypeClass) (x : Declares u.Declaration) → P d.name.at → Stand P (spell_subtype d.subtype)
      → subtype_by inner before d mark class ≡ Some x → AllHold x
  subtype_by_holds d mark subtypes.integers x h s q =
      let a = comes (integer_subtype inner d.subtype) _ x q in
      let f = integer_subtype_holds P inner d.subtype a.value s a.is in
      subst AllHold (some_same _ x a.rest) (ranged_hold (λ e. u.integer_subtype d.name.at a.value) (numbers_direction mark a.value) (λ e w. (h, f)))
  subtype_by_holds d mark subtypes.booleans x h s q = let a = kept (not (is_some d.subtype.constraint)) _ x q in as_it_was_holds d mark x a.1
  subtype_by_holds d mark subtypes.others x h s q = by (is_open mark d.subtype) q
    where
      by : (b : Bool) → (if b then as_it_was inner before d mark else others_declared inner before d mark) ≡ Some x → AllHold x
      by true q = as_it_was_holds d mark x q
      by false q =
          let a = comes (subtype inner d.subtype) _ x q in
          let f = subtype_holds P inner d.subtype a.value s a.is in
          subst AllHold (some_same _ x a.rest) (ranged_hold (u.vector_subtype d.name.at) (form_range a.value.form) (λ r w. (h, form_some a.value.form r f w)))

  pub subtype_declaration_holds : (d : t.SubtypeDeclaration) (x : Declares u.Declaration) → Stand P (spell_subtype_declaration d) → subtype_in inner before d ≡ Some x → AllHold x
  unfolding subtype_in
  subtype_declaration_holds d x h q =
      let a = comes (declaration inner d.subtype.mark.text) _ x q in
      subtype_by_holds d a.value (class_of a.value.meaning) x h.1.0 (first P (spell_subtype d.subtype) _ h.1.1.1) a.rest

-- ---- what declares no object

enumeration_holds : (P : ℕ → Type 0) (before : List Declared) (d : t.Enumeration) (x : Declares u.Declaration) → enumeration_in before d ≡ Some x → EachHolds P declaration_bytes x.analysed
unfolding enumeration_in
enumeration_holds P before d x q =
    let a = kept (nat_le (length d.literals) 256) _ x q in
    subst (λ (x : Declares u.Declaration). EachHolds P declaration_bytes x.analysed) (some_same _ x a.1) tt

component_holds : (P : ℕ → Type 0) (entities : List EntityView) (sight : Sight) (c : t.Component) (x : Declares u.Declaration) → component entities sight c ≡ Some x
    → EachHolds P declaration_bytes x.analysed
component_holds P entities sight c x q = subst (λ (x : Declares u.Declaration). EachHolds P declaration_bytes x.analysed) (component_parts entities sight c x q).is tt

pub declaration_holds : (P : ℕ → Type 0) (entities : List EntityView) (sight : Sight) (d : t.Declaration) (x : Declares u.Declaration) → Stand P (spell_declaration d)
    → files.declaration entities sight d ≡ Some x → EachHolds P declaration_bytes x.analysed
declaration_holds P entities sight (t.signals d) x h q = signals_hold P sight d x h q
declaration_holds P entities sight (t.constants d) x h q = constants_hold P (within sight d.names) sight.region d x h q
declaration_holds P entities sight (t.enumeration d) x h q = enumeration_holds P sight.region d x q
declaration_holds P entities sight (t.component c) x h q = component_holds P entities sight c x q
declaration_holds P entities sight (t.subtype_of d) x h q = subtype_declaration_holds P (within sight (d.name ∷ [])) sight.region d x h q
declaration_holds P entities sight (t.attribute_of text) x h q = subst (λ (x : Declares u.Declaration). EachHolds P declaration_bytes x.analysed) (some_same _ x q) tt

pub process_declaration_holds : (P : ℕ → Type 0) (sight : Sight) (d : t.ProcessDeclaration) (x : Declares u.Declaration) → Stand P (spell_process_declaration d) → process_declaration sight d ≡ Some x
    → EachHolds P declaration_bytes x.analysed
process_declaration_holds P sight (t.variables d) x h q = variables_hold P sight d x h q
process_declaration_holds P sight (t.process_constants d) x h q = constants_hold P (within_variables sight d.names) (declared_here sight) d x h q
process_declaration_holds P sight (t.process_enumeration d) x h q = enumeration_holds P (declared_here sight) d x q
process_declaration_holds P sight (t.process_subtype d) x h q = subtype_declaration_holds P (within_variables sight (d.name ∷ [])) (declared_here sight) d x h q
