-- Declarations that break no rule are given, and their region's names are distinct (IEEE 1076-2008, clauses 5, 6, 12.1 and 12.4).
use Rattle.std.proofs.Common.{◌≡◌, Bool, true, false, not, cond, ◌||◌, ◌&&◌, List, [], ◌∷◌, ◌++◌, length, Option, Some, None, refl, ap, sym, ◌∙◌}
use Rattle.std.specs.Prelude.{nat_le, is_none, is_some, option_map}
use Rattle.std.specs.List.{list_all, list_any}
use Rattle.std.proofs.lemmas.Bool.{and_from}
use Rattle.std.proofs.lemmas.List.{append_assoc, append-nil}
use Rattle.vhdl_tree.specs.Tree as t
use Rattle.vhdl_tree.specs.Tree.{Ident, Expr, Selected, ContextItem, library, uses}
use Rattle.vhdl_names_rules.specs.declared.fault.NameProblem.TheVariants.{Undeclared, WrongKind, LeftOut}
use Rattle.vhdl_names_rules.specs.units.Units as u
use Rattle.vhdl_names_rules.specs.Rules.{◌>>=◌, ◌>>◌, met, if_any, is_wide}
use Rattle.vhdl_names_rules.specs.Visibility.{Declared, Sight, meaning, declaration, names_of, are_distinct, ends, declared_here, with_declared, with_variables, Declares, followed_by}
use Rattle.vhdl_names_rules.specs.Packages as packages
use Rattle.vhdl_names_rules.specs.Packages.{Context, is_ieee, is_library, is_logic, is_numbers}
use Rattle.vhdl_names_rules.specs.Expressions.{static}
use Rattle.vhdl_names_rules.specs.Subtypes as kinds
use Rattle.vhdl_names_rules.specs.Subtypes.{Subtype, subtype, object_subtype, integer_subtype, form_range, TypeClass, class_of, fixed_value}
use Rattle.vhdl_names_rules.specs.Declarations as are
use Rattle.vhdl_names_rules.specs.Declarations.{within, within_variables, without_ports, as_kind, as_port_type, single_expression, static_test, generic_form, is_open}
use Rattle.vhdl_names_rules.specs.Interfaces.{declared_names}
use Rattle.vhdl_names_rules.specs.problems.Broken.{Broken, nothing, ◌▸◌, unless, lacking, any_of, of_any}
use Rattle.vhdl_names_rules.specs.problems.Expressions as expressions
use Rattle.vhdl_names_rules.specs.problems.Subtypes as subtypes
use Rattle.vhdl_names_rules.specs.problems.Declarations as broken
use Rattle.vhdl_names_rules.specs.problems.Declarations.{standing_twice, end_name, library_named, package_used, generic_problem}
use Rattle.vhdl_names_rules.proofs.Telling.{IsKept}
use Rattle.vhdl_names_rules.proofs.kept.Twice.{once_distinct, names_append}
use Rattle.vhdl_names_rules.proofs.kept.Named.{HasNames, of_generic, of_port, of_signals, of_variables, of_constants_in, of_subtype_in, of_enumeration}
use Rattle.vhdl_names_laws.proofs.given.Giving.{IsGiven, this, bound, bound_is, ruled, mapped_given, parts, holds, given, of_given, if_any_given}
use Rattle.vhdl_names_laws.proofs.given.Expressions.{declaration_given, static_given, static_condition_given}
use Rattle.vhdl_names_laws.proofs.given.Values.{subtype_given, integer_subtype_given, meant, object_subtype_given, fixed_value_given}

-- ---- names

pub end_name_given : (name : Ident) (end : Option Ident) → IsKept (end_name name end) → ends name.text end ≡ true
end_name_given name None h = refl
end_name_given name (Some e) h = holds WrongKind e.at (ends name.text (Some e)) h

-- what a declaration declares is given, and its names are none of its region's
pub record IsApart {B : Type 0} (region : List Declared) (o : Option (Declares B)) : Type 0 where
  pub value : Declares B
  pub is : o ≡ Some value
  pub distinct : are_distinct (declared_names (region ++ value.declared)) ≡ true

pub stands_apart : {B : Type 0} (region : List Declared) (o : Option (Declares B)) (names : List Ident) → IsGiven o
    → ((x : Declares B) → o ≡ Some x → HasNames x (names_of names)) → are_distinct (declared_names region) ≡ true → IsKept (standing_twice region names) → IsApart region o
stands_apart region o names g has distinct h = record {
  value = g.value;
  is = g.is;
  distinct =
      ap are_distinct (names_append region g.value.declared ∙ ap (λ ns. declared_names region ++ ns) (has g.value g.is))
      ∙ once_distinct (declared_names region) names distinct h;
}

-- ---- context clauses

libraries_given : (ns : List Ident) → IsKept (any_of library_named ns) → list_all is_library ns ≡ true
libraries_given [] h = refl
libraries_given (n ∷ ns) h =
    let k = parts _ _ h in
    and_from (is_library n) (list_all is_library ns) (holds LeftOut n.at (is_library n) k.0) (libraries_given ns k.1)

packages_given : (before : Context) (ss : List Selected) → IsKept (any_of (package_used before) ss) → list_all (λ s. is_logic s || is_numbers s) ss ≡ true
packages_given before [] h = refl
packages_given before (s ∷ ss) h =
    let k = parts _ _ h in
    let l = parts _ _ k.0 in
    let m = parts _ _ l.1 in
    and_from (is_logic s || is_numbers s) (list_all (λ s. is_logic s || is_numbers s) ss) (holds LeftOut s.name.at (is_logic s || is_numbers s) m.1) (packages_given before ss k.1)

pub context_given : (items : List ContextItem) (before : Context) → IsKept (broken.context before items) → IsGiven (packages.context before items)
context_given [] before h = this before
context_given (library ns ∷ rest) before h =
    let after : Context = record before { has_ieee = before.has_ieee || list_any is_ieee ns } in
    let k = parts _ _ h in
    let e = libraries_given ns k.0 in
    ruled (list_all is_library ns) (packages.context after rest) e
    (context_given rest after (of_given (λ c. broken.context c rest) (packages.context before (library ns ∷ [])) after (ap (λ b. met b >> Some after) e) k.1))
context_given (uses ss ∷ rest) before h =
    let are_packages : List Selected → Bool = list_all (λ s. is_logic s || is_numbers s) in
    let after : Context = record before { has_logic = before.has_logic || list_any is_logic ss; has_numbers = before.has_numbers || list_any is_numbers ss } in
    let k = parts _ _ h in
    let l = parts _ _ k.0 in
    let e = holds Undeclared 0 before.has_ieee l.1 in
    let f = packages_given before ss l.0 in
    ruled before.has_ieee _ e
    (ruled (are_packages ss) (packages.context after rest) f
    (context_given rest after (of_given (λ c. broken.context c rest) (packages.context before (uses ss ∷ [])) after
    (ap (λ x. met x >> (met (are_packages ss) >> Some after)) e ∙ ap (λ x. met x >> Some after) f) k.1)))

-- ---- one declaration after another

pub in_order_given : {A B : Type 0} (with_more : Sight → List Declared → Sight) (region : Sight → List Declared)
    → ((s : Sight) (ds : List Declared) → region (with_more s ds) ≡ region s ++ ds)
    → (declares : Sight → A → Option (Declares B)) (b : Sight → A → Broken)
    → ((sight : Sight) (d : A) → are_distinct (declared_names (region sight)) ≡ true → IsKept (b sight d) → IsApart (region sight) (declares sight d))
    → (ds : List A) (sight : Sight) → are_distinct (declared_names (region sight)) ≡ true → IsKept (broken.in_order with_more declares b sight ds)
    → IsApart (region sight) (are.in_order with_more declares sight ds)
in_order_given with_more region grows declares b one [] sight distinct h =
    record { value = record { declared = []; analysed = [] }; is = refl; distinct = ap (λ ds. are_distinct (declared_names ds)) (append-nil (region sight)) ∙ distinct }
in_order_given with_more region grows declares b one (d ∷ ds) sight distinct h =
    let k = parts _ _ h in
    let x = one sight d distinct k.0 in
    let inner : Sight = with_more sight x.value.declared in
    let xs = in_order_given with_more region grows declares b one ds inner (ap (λ r. are_distinct (declared_names r)) (grows sight x.value.declared) ∙ x.distinct)
    (of_given (λ x. broken.in_order with_more declares b (with_more sight x.declared) ds) (declares sight d) x.value x.is k.1) in
    record {
      value = followed_by x.value xs.value;
      is =
          bound_is (declares sight d) (λ x. are.in_order with_more declares (with_more sight x.declared) ds >>= λ xs. Some (followed_by x xs)) x.value
          (followed_by x.value xs.value) x.is
          (bound_is (are.in_order with_more declares inner ds) (λ xs. Some (followed_by x.value xs)) xs.value (followed_by x.value xs.value) xs.is refl);
      distinct =
          ap (λ ds. are_distinct (declared_names ds)) (sym (append_assoc (region sight) x.value.declared xs.value.declared))
          ∙ ap (λ r. are_distinct (declared_names (r ++ xs.value.declared))) (sym (grows sight x.value.declared)) ∙ xs.distinct;
    }

pub in_region_given : {A B : Type 0} (declares : Sight → A → Option (Declares B)) (b : Sight → A → Broken)
    → ((sight : Sight) (d : A) → are_distinct (declared_names sight.region) ≡ true → IsKept (b sight d) → IsApart sight.region (declares sight d))
    → (ds : List A) (sight : Sight) → are_distinct (declared_names sight.region) ≡ true → IsKept (broken.in_order with_declared declares b sight ds)
    → IsApart sight.region (are.in_order with_declared declares sight ds)
in_region_given declares b one ds sight distinct h = in_order_given with_declared (λ s. s.region) (λ s ds. refl) declares b one ds sight distinct h

-- ---- generics and ports

none_is : {A : Type 0} (o : Option A) → is_none o ≡ true → not (is_some o) ≡ true
none_is None h = refl
none_is (Some x) h = absurd cc

value_given : (sight : Sight) (x : Subtype) (v : t.Value) → IsKept (broken.value_of sight x v) → IsGiven (fixed_value sight x.type (form_range x.form) v)
value_given sight x v h = fixed_value_given sight x.type (form_range x.form) v h

record GenericGiven (sight : Sight) (g : t.Generic) (c : TypeClass) : Type 0 where
  form : IsGiven (generic_form sight g.subtype c)
  default : IsGiven (if_any form.value.value g.default)

form_given : (sight : Sight) (g : t.Generic) (d : Declared) (c : TypeClass) → declaration sight g.subtype.mark.text ≡ Some d → class_of d.meaning ≡ c → IsKept (broken.generic_by sight g d.meaning c)
    → GenericGiven sight g c
form_given sight g d kinds.integers is e h =
    let k = parts _ _ h in
    let s = integer_subtype_given sight g.subtype d is e k.0 in
    record {
      form = bound (integer_subtype sight g.subtype) _ s.value s.is (this _);
      default = if_any_given (expressions.static sight) (λ e. option_map u.Fixed.integer (static sight e)) (λ e h. mapped_given u.Fixed.integer (static sight e) (static_given sight e h)) g.default k.1;
    }
form_given sight g d kinds.booleans is e h =
    let k = parts _ _ h in
    let l = parts _ _ k.1 in
    let wide = holds (generic_problem d.meaning) g.subtype.mark.at (is_wide sight.language) k.0 in
    let none = none_is g.subtype.constraint (holds LeftOut g.subtype.mark.at (is_none g.subtype.constraint) l.0) in
    record {
      form = ruled (is_wide sight.language && not (is_some g.subtype.constraint)) _ (and_from (is_wide sight.language) (not (is_some g.subtype.constraint)) wide none) (this _);
      default = if_any_given (expressions.static_condition sight) (λ e. option_map u.Fixed.truth (static_test sight e)) (λ e h. mapped_given u.Fixed.truth (static_test sight e) (static_condition_given sight e h)) g.default l.1;
    }
form_given sight g d kinds.others is e h =
    let k = parts _ _ h in
    let l = parts _ _ k.1 in
    let wide = holds (generic_problem d.meaning) g.subtype.mark.at (is_wide sight.language) k.0 in
    let s = subtype_given sight g.subtype l.0 in
    let m = parts _ _ (of_given (λ s. broken.nine_valued g.subtype.mark s ▸ of_any (λ e. broken.value_of sight s (t.single e)) g.default) (subtype sight g.subtype) s.value s.is l.1) in
    let kind = given LeftOut g.subtype.mark.at (as_kind s.value.type) m.0 in
    record {
      form = ruled (is_wide sight.language) _ wide (bound (subtype sight g.subtype) _ s.value s.is (bound (as_kind s.value.type) _ kind.value kind.is (this _)));
      default = if_any_given (λ e. broken.value_of sight s.value (t.single e)) (λ e. fixed_value sight s.value.type (form_range s.value.form) (t.single e)) (λ e h. value_given sight s.value (t.single e) h) g.default m.1;
    }

generic_is : (sight : Sight) (g : t.Generic) → IsKept (broken.typed_generic sight g) → IsGiven (are.generic sight g)
unfolding are.generic
generic_is sight g h =
    let k = parts _ _ h in
    let d = declaration_given sight g.subtype.mark k.0 in
    let m = meant sight g.subtype.mark d.value d.is in
    let f = form_given sight g d.value (class_of d.value.meaning) d.is refl (of_given (λ m. broken.generic_by sight g m (class_of m)) (meaning sight g.subtype.mark.text) d.value.meaning m k.1) in
    bound (meaning sight g.subtype.mark.text) _ d.value.meaning m
    (bound (generic_form sight g.subtype (class_of d.value.meaning)) _ f.form.value f.form.is
    (bound (if_any f.form.value.value g.default) _ f.default.value f.default.is (this _)))

pub generic_given : (sight : Sight) (g : t.Generic) → are_distinct (declared_names sight.region) ≡ true → IsKept (broken.generic sight g) → IsApart sight.region (are.generic sight g)
generic_given sight g distinct h =
    let k = parts _ _ h in
    stands_apart sight.region (are.generic sight g) g.names (generic_is sight g k.1) (of_generic sight g) distinct k.0

port_is : (sight : Sight) (p : t.Port) → IsKept (broken.typed_port (without_ports sight) p) → IsGiven (are.port sight p)
unfolding are.port
port_is sight p h =
    let inner : Sight = without_ports sight in
    let k = parts _ _ h in
    let s = object_subtype_given inner p.subtype k.0 in
    let l = parts _ _ (of_given (λ s. lacking LeftOut p.subtype.mark.at (as_port_type s.type) ▸ of_any (broken.value_of inner s) p.default) (object_subtype inner p.subtype) s.value s.is k.1) in
    let type = given LeftOut p.subtype.mark.at (as_port_type s.value.type) l.0 in
    let default = if_any_given (broken.value_of inner s.value) (fixed_value inner s.value.type (form_range s.value.form)) (value_given inner s.value) p.default l.1 in
    bound (object_subtype inner p.subtype) _ s.value s.is
    (bound (as_port_type s.value.type) _ type.value type.is
    (bound (if_any (fixed_value inner s.value.type (form_range s.value.form)) p.default) _ default.value default.is (this _)))

pub port_given : (sight : Sight) (p : t.Port) → are_distinct (declared_names sight.region) ≡ true → IsKept (broken.port sight p) → IsApart sight.region (are.port sight p)
port_given sight p distinct h =
    let k = parts _ _ h in
    stands_apart sight.region (are.port sight p) p.names (port_is sight p k.1) (of_port sight p) distinct k.0

-- ---- signals, constants and variables

record ObjectGiven (inner : Sight) (s : t.Subtype) (v : Option t.Value) : Type 0 where
  type : IsGiven (object_subtype inner s)
  default : IsGiven (if_any (fixed_value inner type.value.type (form_range type.value.form)) v)

object_given : (inner : Sight) (s : t.Subtype) (v : Option t.Value) → IsKept (broken.object inner s v) → ObjectGiven inner s v
object_given inner s v h =
    let k = parts _ _ h in
    let x = object_subtype_given inner s k.0 in
    let l = of_given (λ x. of_any (broken.value_of inner x) v) (object_subtype inner s) x.value x.is k.1 in
    record { type = x; default = if_any_given (broken.value_of inner x.value) (fixed_value inner x.value.type (form_range x.value.form)) (value_given inner x.value) v l }

signals_are : (sight : Sight) (d : t.Signals) → IsKept (broken.object (within sight d.names) d.subtype d.default) → IsGiven (are.signals sight d)
unfolding are.signals
signals_are sight d h =
    let inner : Sight = within sight d.names in
    let x = object_given inner d.subtype d.default h in
    bound (object_subtype inner d.subtype) _ x.type.value x.type.is
    (bound (if_any (fixed_value inner x.type.value.type (form_range x.type.value.form)) d.default) _ x.default.value x.default.is (this _))

pub signals_given : (sight : Sight) (d : t.Signals) → are_distinct (declared_names sight.region) ≡ true → IsKept (broken.signals sight d)
    → IsApart sight.region (are.signals sight d)
signals_given sight d distinct h =
    let k = parts _ _ h in
    stands_apart sight.region (are.signals sight d) d.names (signals_are sight d k.1) (of_signals sight d) distinct k.0

variables_are : (sight : Sight) (d : t.Variables) → IsKept (broken.object (within_variables sight d.names) d.subtype d.default) → IsGiven (are.variables sight d)
unfolding are.variables
variables_are sight d h =
    let inner : Sight = within_variables sight d.names in
    let x = object_given inner d.subtype d.default h in
    bound (object_subtype inner d.subtype) _ x.type.value x.type.is
    (bound (if_any (fixed_value inner x.type.value.type (form_range x.type.value.form)) d.default) _ x.default.value x.default.is (this _))

variables_given : (sight : Sight) (d : t.Variables) → are_distinct (declared_names sight.variables) ≡ true → IsKept (broken.variables sight d)
    → IsApart sight.variables (are.variables sight d)
variables_given sight d distinct h =
    let k = parts _ _ h in
    stands_apart sight.variables (are.variables sight d) d.names (variables_are sight d k.1) (of_variables sight d) distinct k.0

-- a value that is one expression
record IsSingle (b : Expr → Broken) (v : t.Value) : Type 0 where
  expression : Expr
  is : single_expression v ≡ Some expression
  kept : IsKept (b expression)

single_given : (b : Expr → Broken) (v : t.Value) → IsKept (broken.of_single b v) → IsSingle b v
single_given b (t.single e) h = record { expression = e; is = refl; kept = h }
single_given b (t.others at e) h = absurd cc

-- one of two
either_given : {A : Type 0} (b : Bool) (o p : Option A) (x : Broken) → IsGiven o → (IsKept x → IsGiven p) → IsKept (cond b nothing x) → IsGiven (cond b o p)
either_given true o p x one other h = one
either_given false o p x one other h = other h

module _ (inner : Sight) (before : List Declared) where
  constants_by_given : (d : t.Constants) (mark : Declared) (c : TypeClass) → declaration inner d.subtype.mark.text ≡ Some mark → class_of mark.meaning ≡ c → IsKept (broken.constants_by inner d c)
      → IsGiven (are.constants_by inner before d c)
  constants_by_given d mark kinds.integers is class h =
      let k = parts _ _ h in
      let type = integer_subtype_given inner d.subtype mark is class k.0 in
      let e = single_given (expressions.static inner) d.value k.1 in
      let value = static_given inner e.expression e.kept in
      bound (integer_subtype inner d.subtype) _ type.value type.is
      (bound (single_expression d.value) _ e.expression e.is
      (bound (static inner e.expression) _ value.value value.is (this _)))
  constants_by_given d mark kinds.booleans is class h =
      let k = parts _ _ h in
      let e = single_given (expressions.static_condition inner) d.value k.1 in
      let value = static_condition_given inner e.expression e.kept in
      ruled (not (is_some d.subtype.constraint)) _ (none_is d.subtype.constraint (holds LeftOut d.subtype.mark.at (is_none d.subtype.constraint) k.0))
      (bound (single_expression d.value) _ e.expression e.is
      (bound (static_test inner e.expression) _ value.value value.is (this _)))
  constants_by_given d mark kinds.others is class h =
      let k = parts _ _ h in
      let s = subtype_given inner d.subtype k.0 in
      let l = parts _ _ (of_given (λ s. broken.nine_valued d.subtype.mark s ▸ broken.value_of inner s d.value) (subtype inner d.subtype) s.value s.is k.1) in
      let kind = given LeftOut d.subtype.mark.at (as_kind s.value.type) l.0 in
      let value = value_given inner s.value d.value l.1 in
      bound (subtype inner d.subtype) _ s.value s.is
      (bound (as_kind s.value.type) _ kind.value kind.is
      (bound (fixed_value inner s.value.type (form_range s.value.form) d.value) _ value.value value.is (this _)))

  constants_are : (d : t.Constants) → IsKept (broken.typed_constants inner d) → IsGiven (are.constants_in inner before d)
  unfolding are.constants_in
  constants_are d h =
      let k = parts _ _ h in
      let m = declaration_given inner d.subtype.mark k.0 in
      let e = meant inner d.subtype.mark m.value m.is in
      bound (meaning inner d.subtype.mark.text) (λ m. are.constants_by inner before d (class_of m)) m.value.meaning e
      (constants_by_given d m.value (class_of m.value.meaning) m.is refl
      (of_given (λ m. broken.constants_by inner d (class_of m)) (meaning inner d.subtype.mark.text) m.value.meaning e k.1))

  subtype_by_given : (d : t.SubtypeDeclaration) (mark : Declared) (c : TypeClass) → declaration inner d.subtype.mark.text ≡ Some mark → class_of mark.meaning ≡ c → IsKept (broken.subtype_by inner d mark c)
      → IsGiven (are.subtype_by inner before d mark c)
  subtype_by_given d mark kinds.integers is class h =
      let s = integer_subtype_given inner d.subtype mark is class h in
      bound (integer_subtype inner d.subtype) _ s.value s.is (this _)
  subtype_by_given d mark kinds.booleans is class h =
      ruled (not (is_some d.subtype.constraint)) _ (none_is d.subtype.constraint (holds LeftOut d.subtype.mark.at (is_none d.subtype.constraint) h)) (this _)
  subtype_by_given d mark kinds.others is class h =
      either_given (is_open mark d.subtype) (are.as_it_was inner before d mark) (are.others_declared inner before d mark) (subtypes.subtype inner d.subtype) (this _)
      (λ k. let s = subtype_given inner d.subtype k in bound (subtype inner d.subtype) _ s.value s.is (this _)) h

  subtype_is : (d : t.SubtypeDeclaration) → IsKept (broken.typed_subtype inner d) → IsGiven (are.subtype_in inner before d)
  unfolding are.subtype_in
  subtype_is d h =
      let k = parts _ _ h in
      let m = declaration_given inner d.subtype.mark k.0 in
      bound (declaration inner d.subtype.mark.text) (λ m. are.subtype_by inner before d m (class_of m.meaning)) m.value m.is
      (subtype_by_given d m.value (class_of m.value.meaning) m.is refl
      (of_given (λ m. broken.subtype_by inner d m (class_of m.meaning)) (declaration inner d.subtype.mark.text) m.value m.is k.1))

enumeration_is : (before : List Declared) (d : t.Enumeration) → IsKept (unless LeftOut d.name.at (nat_le (length d.literals) 256)) → IsGiven (are.enumeration_in before d)
unfolding are.enumeration_in
enumeration_is before d h = ruled (nat_le (length d.literals) 256) _ (holds LeftOut d.name.at (nat_le (length d.literals) 256) h) (this _)

-- of these names, among those of a region or a process
module _ (inner : Sight) (before region : List Declared) (distinct : are_distinct (declared_names region) ≡ true) where
  constants_apart : (d : t.Constants) → IsKept (standing_twice region d.names ▸ broken.typed_constants inner d) → IsApart region (are.constants_in inner before d)
  constants_apart d h =
      let k = parts (standing_twice region d.names) (broken.typed_constants inner d) h in
      stands_apart region (are.constants_in inner before d) d.names (constants_are inner before d k.1) (of_constants_in inner before d) distinct k.0

  subtype_apart : (d : t.SubtypeDeclaration) → IsKept (standing_twice region (d.name ∷ []) ▸ broken.typed_subtype inner d) → IsApart region (are.subtype_in inner before d)
  subtype_apart d h =
      let k = parts (standing_twice region (d.name ∷ [])) (broken.typed_subtype inner d) h in
      stands_apart region (are.subtype_in inner before d) (d.name ∷ []) (subtype_is inner before d k.1) (of_subtype_in inner before d) distinct k.0

  enumeration_apart : (d : t.Enumeration) → IsKept (broken.enumeration_in region d) → IsApart region (are.enumeration_in before d)
  enumeration_apart d h =
      let k = parts _ _ h in
      stands_apart region (are.enumeration_in before d) (d.name ∷ d.literals) (enumeration_is before d k.0) (of_enumeration before d) distinct k.1

pub constants_given : (sight : Sight) (d : t.Constants) → are_distinct (declared_names sight.region) ≡ true → IsKept (broken.constants sight d)
    → IsApart sight.region (are.constants sight d)
constants_given sight d distinct h = constants_apart (within sight d.names) sight.region sight.region distinct d h

pub subtype_declaration_given : (sight : Sight) (d : t.SubtypeDeclaration) → are_distinct (declared_names sight.region) ≡ true → IsKept (broken.subtype_declaration sight d)
    → IsApart sight.region (are.subtype_declaration sight d)
subtype_declaration_given sight d distinct h = subtype_apart (within sight (d.name ∷ [])) sight.region sight.region distinct d h

pub enumeration_given : (sight : Sight) (d : t.Enumeration) → are_distinct (declared_names sight.region) ≡ true → IsKept (broken.enumeration sight d)
    → IsApart sight.region (are.enumeration sight d)
enumeration_given sight d distinct h = enumeration_apart sight sight.region sight.region distinct d h

-- ---- declarations of a process

process_declaration_given : (sight : Sight) (d : t.ProcessDeclaration) → are_distinct (declared_names sight.variables) ≡ true → IsKept (broken.process_declaration sight d)
    → IsApart sight.variables (are.process_declaration sight d)
process_declaration_given sight (t.variables d) distinct h = variables_given sight d distinct h
process_declaration_given sight (t.process_constants d) distinct h = constants_apart (within_variables sight d.names) (declared_here sight) sight.variables distinct d h
process_declaration_given sight (t.process_enumeration d) distinct h = enumeration_apart sight (declared_here sight) sight.variables distinct d h
process_declaration_given sight (t.process_subtype d) distinct h = subtype_apart (within_variables sight (d.name ∷ [])) (declared_here sight) sight.variables distinct d h

pub process_declarations_given : (ds : List t.ProcessDeclaration) (sight : Sight) → are_distinct (declared_names sight.variables) ≡ true
    → IsKept (broken.in_order with_variables are.process_declaration broken.process_declaration sight ds) → IsApart sight.variables (are.in_order with_variables are.process_declaration sight ds)
process_declarations_given ds sight distinct h =
    in_order_given with_variables (λ s. s.variables) (λ s ds. refl) are.process_declaration broken.process_declaration process_declaration_given ds sight distinct h
