-- Declarations that are given break no rule (IEEE 1076-2008, clauses 5, 6, 12.1 and 12.4), where the names of their region are distinct.
use Rattle.std.proofs.Common.{◌≡◌, Bool, true, false, not, cond, ◌&&◌, ◌||◌, List, [], ◌∷◌, ◌++◌, length, Option, Some, None, refl, ap, sym, ◌∙◌}
use Rattle.std.specs.Prelude.{nat_le, is_none, is_some, bytes_eq, codes}
use Rattle.std.specs.List.{list_all, list_any}
use Rattle.std.proofs.lemmas.Bool.{and_parts}
use Rattle.std.proofs.lemmas.List.{append_assoc}
use Rattle.vhdl_tree.specs.Tree as t
use Rattle.vhdl_tree.specs.Tree.{Ident, Selected, ContextItem, library, uses}
use Rattle.vhdl_names_rules.specs.declared.kind.ElementKind.{ElementKind}
use Rattle.vhdl_names_rules.specs.declared.fault.NameProblem.TheVariants.{Undeclared, WrongKind, LeftOut}
use Rattle.vhdl_names_rules.specs.units.Units as u
use Rattle.vhdl_names_rules.specs.units.Units.{Fixed}
use Rattle.vhdl_names_rules.specs.Rules.{◌>>◌, met, if_any, is_wide}
use Rattle.vhdl_names_rules.specs.Visibility.{Declared, Meaning, Sight, meaning, declaration, declared_here, names_of, are_distinct, ends, with_declared, with_variables, Declares, followed_by}
use Rattle.vhdl_names_rules.specs.Packages as packages
use Rattle.vhdl_names_rules.specs.Packages.{Context, is_ieee, is_library, is_logic, is_numbers}
use Rattle.vhdl_names_rules.specs.Expressions.{static}
use Rattle.vhdl_names_rules.specs.Subtypes as given
use Rattle.vhdl_names_rules.specs.Subtypes.{Subtype, TypeClass, class_of, subtype, object_subtype, integer_subtype, form_range, fixed_value}
use Rattle.vhdl_names_rules.specs.Declarations as are
use Rattle.vhdl_names_rules.specs.Declarations.{GenericForm, generic_form, static_test, within, within_variables, without_ports, as_kind, as_port_type, single_expression, is_open, as_it_was, others_declared}
use Rattle.vhdl_names_rules.specs.Interfaces.{declared_names}
use Rattle.vhdl_names_rules.specs.problems.Broken.{Broken, nothing, ◌▸◌, lacking, any_of, of_any}
use Rattle.vhdl_names_rules.specs.problems.Expressions as expressions
use Rattle.vhdl_names_rules.specs.problems.Subtypes as subtypes
use Rattle.vhdl_names_rules.specs.problems.Declarations as broken
use Rattle.vhdl_names_rules.specs.problems.Declarations.{standing_twice, end_name, library_named, package_used, generic_problem, nine_valued, value_of, of_single}
use Rattle.vhdl_names_rules.proofs.laws.Rules.{comes, kept, both, some_is}
use Rattle.vhdl_names_rules.proofs.Telling.{IsKept, both_kept, unless_kept, lacking_kept, given_kept}
use Rattle.vhdl_names_rules.proofs.kept.Keeping.{nothing_kept, mapped, if_any_kept}
use Rattle.vhdl_names_rules.proofs.kept.Twice.{twice_kept, distinct_front, names_append}
use Rattle.vhdl_names_rules.proofs.kept.Named.{HasNames, of_generic, of_port, of_signals, of_variables, of_constants, of_constants_in, of_subtype, of_subtype_in, of_enumeration}
use Rattle.vhdl_names_rules.proofs.kept.Expressions.{meaning_kept, declared_kept, static_kept, static_condition_kept}
use Rattle.vhdl_names_rules.proofs.kept.Values.{subtype_kept, integers_kept, object_subtype_kept, fixed_value_kept}

-- ---- names

-- names of a declaration stand once where those of the region are distinct with it
pub standing_kept : {B : Type 0} (region : List Declared) (names : List Ident) (x : Declares B) → HasNames x (names_of names)
    → are_distinct (declared_names (region ++ x.declared)) ≡ true → IsKept (standing_twice region names)
standing_kept region names x has distinct =
    twice_kept (declared_names region) names
    (ap are_distinct (sym (names_append region x.declared ∙ ap (λ ns. declared_names region ++ ns) has)) ∙ distinct)

pub end_name_kept : (name : Ident) (end : Option Ident) → ends name.text end ≡ true → IsKept (end_name name end)
end_name_kept name None h = nothing_kept
end_name_kept name (Some e) h = unless_kept WrongKind e.at (ends name.text (Some e)) h

-- ---- context clauses

pub libraries_kept : (ns : List Ident) → list_all is_library ns ≡ true → IsKept (any_of library_named ns)
libraries_kept [] h = nothing_kept
libraries_kept (n ∷ ns) h =
    let a = and_parts (is_library n) (list_all is_library ns) h in
    both_kept _ _ (unless_kept LeftOut n.at (is_library n) a.0) (libraries_kept ns a.1)

-- the packages are those of library ieee
first_of_each : (a b c : Bool) → ((a && b) || (a && c)) ≡ true → a ≡ true
first_of_each true b c h = refl
first_of_each false b c h = absurd cc

of_ieee : (s : Selected) → (is_logic s || is_numbers s) ≡ true → is_ieee s.library ≡ true
of_ieee s h = first_of_each (is_ieee s.library) (bytes_eq s.name.text (codes "std_logic_1164")) (bytes_eq s.name.text (codes "numeric_std")) h

pub packages_kept : (before : Context) (ss : List Selected) → before.has_ieee ≡ true → list_all (λ s. is_logic s || is_numbers s) ss ≡ true
    → IsKept (any_of (package_used before) ss)
packages_kept before [] e h = nothing_kept
packages_kept before (s ∷ ss) e h =
    let a = and_parts (is_logic s || is_numbers s) (list_all (λ s. is_logic s || is_numbers s) ss) h in
    both_kept _ _
    (both_kept _ _ (unless_kept LeftOut s.library.at (is_ieee s.library) (of_ieee s a.0))
    (both_kept _ _ (unless_kept Undeclared s.library.at before.has_ieee e) (unless_kept LeftOut s.name.at (is_logic s || is_numbers s) a.0)))
    (packages_kept before ss e a.1)

pub context_kept : (items : List ContextItem) (before c : Context) → packages.context before items ≡ Some c → IsKept (broken.context before items)
context_kept [] before c h = nothing_kept
context_kept (library ns ∷ rest) before c h =
    let a = kept (list_all is_library ns) _ c h in
    let after : Context = record before { has_ieee = before.has_ieee || list_any is_ieee ns } in
    both_kept _ _ (libraries_kept ns a.0)
    (given_kept (λ c. broken.context c rest) (packages.context before (library ns ∷ [])) after (ap (λ b. met b >> Some after) a.0) (context_kept rest after c a.1))
context_kept (uses ss ∷ rest) before c h =
    let are_packages : List Selected → Bool = list_all (λ s. is_logic s || is_numbers s) in
    let a = kept before.has_ieee _ c h in
    let b = kept (are_packages ss) _ c a.1 in
    let after : Context = record before { has_logic = before.has_logic || list_any is_logic ss; has_numbers = before.has_numbers || list_any is_numbers ss } in
    both_kept _ _ (both_kept _ _ (packages_kept before ss a.0 b.0) (unless_kept Undeclared 0 before.has_ieee a.0))
    (given_kept (λ c. broken.context c rest) (packages.context before (uses ss ∷ [])) after
    (ap (λ x. met x >> (met (are_packages ss) >> Some after)) a.0 ∙ ap (λ x. met x >> Some after) b.0) (context_kept rest after c b.1))

-- ---- one declaration after another

-- the declarations of a region, as these functions read them out of what is in sight, grow by each declaration
pub in_order_kept : {A B : Type 0} (with_more : Sight → List Declared → Sight) (region : Sight → List Declared)
    → ((s : Sight) (ds : List Declared) → region (with_more s ds) ≡ region s ++ ds)
    → (declares : Sight → A → Option (Declares B)) (b : Sight → A → Broken)
    → ((sight : Sight) (d : A) (x : Declares B) → declares sight d ≡ Some x → are_distinct (declared_names (region sight ++ x.declared)) ≡ true → IsKept (b sight d))
    → (ds : List A) (sight : Sight) (x : Declares B) → are.in_order with_more declares sight ds ≡ Some x
    → are_distinct (declared_names (region sight ++ x.declared)) ≡ true → IsKept (broken.in_order with_more declares b sight ds)
in_order_kept with_more region grows declares b one [] sight x h distinct = nothing_kept
in_order_kept with_more region grows declares b one (d ∷ ds) sight x h distinct =
    let c = comes (declares sight d) _ x h in
    let rest = comes (are.in_order with_more declares (with_more sight c.value.declared) ds) _ x c.rest in
    let all : are_distinct (declared_names ((region sight ++ c.value.declared) ++ rest.value.declared)) ≡ true =
    ap (λ ds. are_distinct (declared_names ds)) (append_assoc (region sight) c.value.declared rest.value.declared)
    ∙ ap (λ (x : Declares _). are_distinct (declared_names (region sight ++ x.declared))) (some_is (followed_by c.value rest.value) x rest.rest) ∙ distinct in
    let first : are_distinct (declared_names (region sight ++ c.value.declared)) ≡ true =
    distinct_front (declared_names (region sight ++ c.value.declared)) (declared_names rest.value.declared)
    (ap are_distinct (sym (names_append (region sight ++ c.value.declared) rest.value.declared)) ∙ all) in
    both_kept _ _ (one sight d c.value c.is first)
    (given_kept (λ x. broken.in_order with_more declares b (with_more sight x.declared) ds) (declares sight d) c.value c.is
    (in_order_kept with_more region grows declares b one ds (with_more sight c.value.declared) rest.value rest.is
    (ap (λ r. are_distinct (declared_names (r ++ rest.value.declared))) (grows sight c.value.declared) ∙ all)))

-- of a region, and of a process's variables
pub in_region_kept : {A B : Type 0} (declares : Sight → A → Option (Declares B)) (b : Sight → A → Broken)
    → ((sight : Sight) (d : A) (x : Declares B) → declares sight d ≡ Some x → are_distinct (declared_names (sight.region ++ x.declared)) ≡ true → IsKept (b sight d))
    → (ds : List A) (sight : Sight) (x : Declares B) → are.in_order with_declared declares sight ds ≡ Some x
    → are_distinct (declared_names (sight.region ++ x.declared)) ≡ true → IsKept (broken.in_order with_declared declares b sight ds)
in_region_kept declares b one ds sight x h distinct = in_order_kept with_declared (λ s. s.region) (λ s ds. refl) declares b one ds sight x h distinct

-- ---- types

none_is : {A : Type 0} (o : Option A) → not (is_some o) ≡ true → is_none o ≡ true
none_is None h = refl
none_is (Some x) h = absurd cc

booleans_kept : (s : t.Subtype) → not (is_some s.constraint) ≡ true → IsKept (subtypes.boolean_subtype s)
booleans_kept s h = unless_kept LeftOut s.mark.at (is_none s.constraint) (none_is s.constraint h)

nine_valued_kept : (mark : Ident) (s : Subtype) (k : ElementKind) → as_kind s.type ≡ Some k → IsKept (nine_valued mark s)
nine_valued_kept mark s k h = lacking_kept LeftOut mark.at (as_kind s.type) k h

value_kept : (sight : Sight) (s : Subtype) (v : t.Value) (x : Fixed) → fixed_value sight s.type (form_range s.form) v ≡ Some x → IsKept (value_of sight s v)
value_kept sight s v x h = fixed_value_kept sight s.type (form_range s.form) v x h

values_kept : (sight : Sight) (s : Subtype) (o : Option t.Value) (x : Option Fixed) → if_any (fixed_value sight s.type (form_range s.form)) o ≡ Some x
    → IsKept (of_any (value_of sight s) o)
values_kept sight s o x h = if_any_kept (value_of sight s) (fixed_value sight s.type (form_range s.form)) (value_kept sight s) o x h

-- ---- generics and ports

-- a default, by the form that the generic has
default_kept : (f : t.Expr → Broken) (x y : GenericForm) (o : Option t.Expr) (default : Option Fixed) → Some x ≡ Some y
    → ((e : t.Expr) (v : Fixed) → x.value e ≡ Some v → IsKept (f e)) → if_any y.value o ≡ Some default → IsKept (of_any f o)
default_kept f x y o default e one h = if_any_kept f x.value one o default (ap (λ (z : GenericForm). if_any z.value o) (some_is x y e) ∙ h)

generic_by_kept : (sight : Sight) (g : t.Generic) (m : Meaning) (c : TypeClass) (x : GenericForm) (default : Option Fixed) → generic_form sight g.subtype c ≡ Some x
    → if_any x.value g.default ≡ Some default → IsKept (broken.generic_by sight g m c)
generic_by_kept sight g m given.integers x default h k =
    let s = comes (integer_subtype sight g.subtype) _ x h in
    both_kept _ _ (integers_kept sight g.subtype s.value s.is)
    (default_kept (expressions.static sight) _ x g.default default s.rest
    (λ e v i. let a = mapped u.Fixed.integer (static sight e) v i in static_kept sight e a.value a.from) k)
generic_by_kept sight g m given.booleans x default h k =
    let a = kept (is_wide sight.language && not (is_some g.subtype.constraint)) _ x h in
    let b = both (is_wide sight.language) (not (is_some g.subtype.constraint)) a.0 in
    both_kept _ _ (unless_kept (generic_problem m) g.subtype.mark.at (is_wide sight.language) b.0)
    (both_kept _ _ (booleans_kept g.subtype b.1)
    (default_kept (expressions.static_condition sight) _ x g.default default a.1
    (λ e v i. let c = mapped u.Fixed.truth (static_test sight e) v i in static_condition_kept sight e c.value c.from) k))
generic_by_kept sight g m given.others x default h k =
    let a = kept (is_wide sight.language) _ x h in
    let s = comes (subtype sight g.subtype) _ x a.1 in
    let kind = comes (as_kind s.value.type) _ x s.rest in
    both_kept _ _ (unless_kept (generic_problem m) g.subtype.mark.at (is_wide sight.language) a.0)
    (both_kept _ _ (subtype_kept sight g.subtype s.value s.is)
    (given_kept (λ s. nine_valued g.subtype.mark s ▸ of_any (λ e. value_of sight s (t.single e)) g.default) (subtype sight g.subtype) s.value s.is
    (both_kept _ _ (nine_valued_kept g.subtype.mark s.value kind.value kind.is)
    (default_kept (λ e. value_of sight s.value (t.single e)) _ x g.default default kind.rest (λ e v i. value_kept sight s.value (t.single e) v i) k))))

pub generic_kept : (sight : Sight) (g : t.Generic) (x : Declares u.Generic) → are.generic sight g ≡ Some x
    → are_distinct (declared_names (sight.region ++ x.declared)) ≡ true → IsKept (broken.generic sight g)
unfolding are.generic
generic_kept sight g x h distinct =
    let m = comes (meaning sight g.subtype.mark.text) _ x h in
    let form = comes (generic_form sight g.subtype (class_of m.value)) _ x m.rest in
    let default = comes (if_any form.value.value g.default) _ x form.rest in
    both_kept _ _ (standing_kept sight.region g.names x (of_generic sight g x h) distinct)
    (both_kept _ _ (meaning_kept sight g.subtype.mark m.value m.is)
    (given_kept (λ m. broken.generic_by sight g m (class_of m)) (meaning sight g.subtype.mark.text) m.value m.is
    (generic_by_kept sight g m.value (class_of m.value) form.value default.value form.is default.is)))

pub port_kept : (sight : Sight) (p : t.Port) (x : Declares u.Port) → are.port sight p ≡ Some x
    → are_distinct (declared_names (sight.region ++ x.declared)) ≡ true → IsKept (broken.port sight p)
unfolding are.port
port_kept sight p x h distinct =
    let inner : Sight = without_ports sight in
    let s = comes (object_subtype inner p.subtype) _ x h in
    let type = comes (as_port_type s.value.type) _ x s.rest in
    let default = comes (if_any (fixed_value inner s.value.type (form_range s.value.form)) p.default) _ x type.rest in
    both_kept _ _ (standing_kept sight.region p.names x (of_port sight p x h) distinct)
    (both_kept _ _ (object_subtype_kept inner p.subtype s.value s.is)
    (given_kept (λ s. lacking LeftOut p.subtype.mark.at (as_port_type s.type) ▸ of_any (value_of inner s) p.default) (object_subtype inner p.subtype) s.value s.is
    (both_kept _ _ (lacking_kept LeftOut p.subtype.mark.at (as_port_type s.value.type) type.value type.is)
    (values_kept inner s.value p.default default.value default.is))))

-- ---- signals and variables

pub object_kept : (inner : Sight) (s : t.Subtype) (v : Option t.Value) (x : Subtype) (default : Option Fixed) → object_subtype inner s ≡ Some x
    → if_any (fixed_value inner x.type (form_range x.form)) v ≡ Some default → IsKept (broken.object inner s v)
object_kept inner s v x default h g =
    both_kept _ _ (object_subtype_kept inner s x h)
    (given_kept (λ x. of_any (value_of inner x) v) (object_subtype inner s) x h (values_kept inner x v default g))

pub signals_kept : (sight : Sight) (d : t.Signals) (x : Declares u.Declaration) → are.signals sight d ≡ Some x
    → are_distinct (declared_names (sight.region ++ x.declared)) ≡ true → IsKept (broken.signals sight d)
unfolding are.signals
signals_kept sight d x h distinct =
    let s = comes (object_subtype (within sight d.names) d.subtype) _ x h in
    let default = comes (if_any (fixed_value (within sight d.names) s.value.type (form_range s.value.form)) d.default) _ x s.rest in
    both_kept _ _ (standing_kept sight.region d.names x (of_signals sight d x h) distinct)
    (object_kept (within sight d.names) d.subtype d.default s.value default.value s.is default.is)

variables_kept : (sight : Sight) (d : t.Variables) (x : Declares u.Declaration) → are.variables sight d ≡ Some x
    → are_distinct (declared_names (sight.variables ++ x.declared)) ≡ true → IsKept (broken.variables sight d)
unfolding are.variables
variables_kept sight d x h distinct =
    let s = comes (object_subtype (within_variables sight d.names) d.subtype) _ x h in
    let default = comes (if_any (fixed_value (within_variables sight d.names) s.value.type (form_range s.value.form)) d.default) _ x s.rest in
    both_kept _ _ (standing_kept sight.variables d.names x (of_variables sight d x h) distinct)
    (object_kept (within_variables sight d.names) d.subtype d.default s.value default.value s.is default.is)

-- ---- constants and subtypes

single_kept : (f : t.Expr → Broken) (v : t.Value) (e : t.Expr) → single_expression v ≡ Some e → IsKept (f e) → IsKept (of_single f v)
single_kept f (t.single d) e h k = ap f (some_is d e h) ∙ k
single_kept f (t.others at d) e h k = absurd cc

module _ (inner : Sight) (before : List Declared) where
  constants_by_kept : (d : t.Constants) (c : TypeClass) (x : Declares u.Declaration) → are.constants_by inner before d c ≡ Some x → IsKept (broken.constants_by inner d c)
  constants_by_kept d given.integers x h =
      let s = comes (integer_subtype inner d.subtype) _ x h in
      let e = comes (single_expression d.value) _ x s.rest in
      let value = comes (static inner e.value) _ x e.rest in
      both_kept _ _ (integers_kept inner d.subtype s.value s.is)
      (single_kept (expressions.static inner) d.value e.value e.is (static_kept inner e.value value.value value.is))
  constants_by_kept d given.booleans x h =
      let a = kept (not (is_some d.subtype.constraint)) _ x h in
      let e = comes (single_expression d.value) _ x a.1 in
      let value = comes (static_test inner e.value) _ x e.rest in
      both_kept _ _ (booleans_kept d.subtype a.0)
      (single_kept (expressions.static_condition inner) d.value e.value e.is (static_condition_kept inner e.value value.value value.is))
  constants_by_kept d given.others x h =
      let s = comes (subtype inner d.subtype) _ x h in
      let kind = comes (as_kind s.value.type) _ x s.rest in
      let value = comes (fixed_value inner s.value.type (form_range s.value.form) d.value) _ x kind.rest in
      both_kept _ _ (subtype_kept inner d.subtype s.value s.is)
      (given_kept (λ s. nine_valued d.subtype.mark s ▸ value_of inner s d.value) (subtype inner d.subtype) s.value s.is
      (both_kept _ _ (nine_valued_kept d.subtype.mark s.value kind.value kind.is) (value_kept inner s.value d.value value.value value.is)))

  typed_constants_kept : (d : t.Constants) (x : Declares u.Declaration) → are.constants_in inner before d ≡ Some x → IsKept (broken.typed_constants inner d)
  unfolding are.constants_in
  typed_constants_kept d x h =
      let m = comes (meaning inner d.subtype.mark.text) _ x h in
      both_kept _ _ (meaning_kept inner d.subtype.mark m.value m.is)
      (given_kept (λ m. broken.constants_by inner d (class_of m)) (meaning inner d.subtype.mark.text) m.value m.is
      (constants_by_kept d (class_of m.value) x m.rest))

  subtype_by_kept : (d : t.SubtypeDeclaration) (mark : Declared) (c : TypeClass) (x : Declares u.Declaration) → are.subtype_by inner before d mark c ≡ Some x
      → IsKept (broken.subtype_by inner d mark c)
  subtype_by_kept d mark given.integers x h = let s = comes (integer_subtype inner d.subtype) _ x h in integers_kept inner d.subtype s.value s.is
  subtype_by_kept d mark given.booleans x h = booleans_kept d.subtype (kept (not (is_some d.subtype.constraint)) _ x h).0
  subtype_by_kept d mark given.others x h = go (is_open mark d.subtype) h
    where
      go : (b : Bool) → cond b (as_it_was inner before d mark) (others_declared inner before d mark) ≡ Some x → IsKept (cond b nothing (subtypes.subtype inner d.subtype))
      go true h = nothing_kept
      go false h = let s = comes (subtype inner d.subtype) _ x h in subtype_kept inner d.subtype s.value s.is

  typed_subtype_kept : (d : t.SubtypeDeclaration) (x : Declares u.Declaration) → are.subtype_in inner before d ≡ Some x → IsKept (broken.typed_subtype inner d)
  unfolding are.subtype_in
  typed_subtype_kept d x h =
      let mark = comes (declaration inner d.subtype.mark.text) _ x h in
      both_kept _ _ (declared_kept inner d.subtype.mark mark.value mark.is)
      (given_kept (λ mark. broken.subtype_by inner d mark (class_of mark.meaning)) (declaration inner d.subtype.mark.text) mark.value mark.is
      (subtype_by_kept d mark.value (class_of mark.value.meaning) x mark.rest))

pub constants_kept : (sight : Sight) (d : t.Constants) (x : Declares u.Declaration) → are.constants sight d ≡ Some x
    → are_distinct (declared_names (sight.region ++ x.declared)) ≡ true → IsKept (broken.constants sight d)
constants_kept sight d x h distinct =
    both_kept _ _ (standing_kept sight.region d.names x (of_constants sight d x h) distinct) (typed_constants_kept (within sight d.names) sight.region d x h)

pub subtype_declaration_kept : (sight : Sight) (d : t.SubtypeDeclaration) (x : Declares u.Declaration) → are.subtype_declaration sight d ≡ Some x
    → are_distinct (declared_names (sight.region ++ x.declared)) ≡ true → IsKept (broken.subtype_declaration sight d)
subtype_declaration_kept sight d x h distinct =
    both_kept _ _ (standing_kept sight.region (d.name ∷ []) x (of_subtype sight d x h) distinct) (typed_subtype_kept (within sight (d.name ∷ [])) sight.region d x h)

-- ---- enumerations

enumeration_kept_in : (region before : List Declared) (d : t.Enumeration) (x : Declares u.Declaration) → are.enumeration_in before d ≡ Some x
    → are_distinct (declared_names (region ++ x.declared)) ≡ true → IsKept (broken.enumeration_in region d)
unfolding are.enumeration_in
enumeration_kept_in region before d x h distinct =
    both_kept _ _ (unless_kept LeftOut d.name.at (nat_le (length d.literals) 256) (kept (nat_le (length d.literals) 256) _ x h).0)
    (standing_kept region (d.name ∷ d.literals) x (of_enumeration before d x h) distinct)

pub enumeration_kept : (sight : Sight) (d : t.Enumeration) (x : Declares u.Declaration) → are.enumeration sight d ≡ Some x
    → are_distinct (declared_names (sight.region ++ x.declared)) ≡ true → IsKept (broken.enumeration sight d)
enumeration_kept sight d x h distinct = enumeration_kept_in sight.region sight.region d x h distinct

-- ---- declarations of a process

process_declaration_kept : (sight : Sight) (d : t.ProcessDeclaration) (x : Declares u.Declaration) → are.process_declaration sight d ≡ Some x
    → are_distinct (declared_names (sight.variables ++ x.declared)) ≡ true → IsKept (broken.process_declaration sight d)
process_declaration_kept sight (t.variables d) x h distinct = variables_kept sight d x h distinct
process_declaration_kept sight (t.process_constants d) x h distinct =
    both_kept _ _ (standing_kept sight.variables d.names x (of_constants_in (within_variables sight d.names) (declared_here sight) d x h) distinct)
    (typed_constants_kept (within_variables sight d.names) (declared_here sight) d x h)
process_declaration_kept sight (t.process_enumeration d) x h distinct = enumeration_kept_in sight.variables (declared_here sight) d x h distinct
process_declaration_kept sight (t.process_subtype d) x h distinct =
    both_kept _ _ (standing_kept sight.variables (d.name ∷ []) x (of_subtype_in (within_variables sight (d.name ∷ [])) (declared_here sight) d x h) distinct)
    (typed_subtype_kept (within_variables sight (d.name ∷ [])) (declared_here sight) d x h)

pub process_declarations_kept : (ds : List t.ProcessDeclaration) (sight : Sight) (x : Declares u.Declaration) → are.in_order with_variables are.process_declaration sight ds ≡ Some x
    → are_distinct (declared_names (sight.variables ++ x.declared)) ≡ true → IsKept (broken.in_order with_variables are.process_declaration broken.process_declaration sight ds)
process_declarations_kept ds sight x h distinct =
    in_order_kept with_variables (λ s. s.variables) (λ s ds. refl) are.process_declaration broken.process_declaration process_declaration_kept ds sight x h distinct
