-- What a name, its arguments, an aggregate and each form of an expression break first, by what their parts break.
use Rattle.std.proofs.Common.{◌≡◌, ℕ, suc, ◌<◌, List, map, length, get_or, drop, drop-cons, Option, Some, None, Result, Ok, Err, IfErr, Vec, Box, Global, refl, sym, ap, ◌∙◌}
use Rattle.vhdl_tree.specs.Tree as t
use Rattle.vhdl_tree.specs.Tree.{Ident, Attribute, exprs_of}
use Rattle.vhdl_tree.specs.View.{view, suffix_view}
use Rattle.vhdl_tree.specs.declared.operator.Direction.{Direction}
use Rattle.vhdl_tree.specs.declared.operator.Sign.{Sign}
use Rattle.vhdl_tree.specs.declared.expression.Range.{Range}
use Rattle.vhdl_tree.specs.declared.expression.Suffix as f
use Rattle.vhdl_tree.specs.declared.expression.Suffix.TheVariants as s
use Rattle.vhdl_tree.specs.declared.expression.Expr.{Expr}
use Rattle.vhdl_tree.specs.declared.expression.Expr.TheVariants as x
use Rattle.vhdl_tree.proofs.Rows.{view_arguments}
use Rattle.vhdl_names_rules.specs.declared.fault.NameFault.{NameFault}
use Rattle.vhdl_names_rules.specs.declared.fault.NameFault.TheVariants.{At, NoMemory}
use Rattle.vhdl_names_rules.specs.declared.fault.NameProblem.TheVariants.{TypeMismatch}
use Rattle.vhdl_names_rules.specs.Gives.{Gives}
use Rattle.vhdl_names_rules.specs.units.Expressions as u
use Rattle.vhdl_names_rules.specs.Visibility.{Sight, Declared, declaration}
use Rattle.vhdl_names_rules.specs.Names.{Suffix}
use Rattle.vhdl_names_rules.specs.Types.{TypedElements}
use Rattle.vhdl_names_rules.specs.Operators.{Typed, integer, computed, as_computed, inverse, raised}
use Rattle.vhdl_names_rules.specs.Expressions as are
use Rattle.vhdl_names_rules.specs.Expressions.{as_integer, in_parentheses}
use Rattle.vhdl_names_rules.specs.problems.Broken.{Broken, Tells, refused, ◌▸◌, lacking, where_given}
use Rattle.vhdl_names_rules.specs.problems.Places.{start}
use Rattle.vhdl_names_rules.specs.problems.Expressions.{typed, typed_suffix, typed_each, typed_elements, static, static_range, integer_wanted, computed_wanted, meaning, named, by_declaration, qualified}
use Rattle.vhdl_names_rules.proofs.Telling.{IsKept, both_kept, given_kept, behind_kept, told_same, told_left, told_right, told_given, told_on, at_is_told}
use Rattle.vhdl_names_rules.proofs.kept.Expressions.{declared_kept, typed_kept, typed_suffix_kept, typed_elements_kept, static_kept}
use Rattle.vhdl_names_rules.proofs.laws.Rules.{comes}
use Rattle.vhdl_names_numbers.specs.Integers.{integer_of}
use Rattle.vhdl_names_expressions.specs.Steps.{computed_of}
use Rattle.vhdl_names_expressions.proofs.Breaking.{told_as, told_fault, asked_told}

-- ---- names

module _ (sight : Sight) (n : Ident) (y : t.Suffix) (a : Option Attribute) where
  abbrev behind : Broken
  behind = named sight n (are.typed_suffix sight y) a

  named_is : typed sight (t.named n y a) ≡ (meaning sight n ▸ typed_suffix sight y ▸ behind)
  unfolding typed
  named_is = refl

  pub named_meaning : (f : NameFault) → Tells (meaning sight n) f → Tells (typed sight (t.named n y a)) f
  named_meaning f h = told_same _ _ f (sym named_is) (told_left (meaning sight n) (typed_suffix sight y ▸ behind) f h)

  pub named_suffix : (d : Declared) (f : NameFault) → declaration sight n.text ≡ Some d → Tells (typed_suffix sight y) f → Tells (typed sight (t.named n y a)) f
  named_suffix d f e1 h =
      told_same _ _ f (sym named_is)
      (told_right (meaning sight n) (typed_suffix sight y ▸ behind) f (declared_kept sight n d e1) (told_left (typed_suffix sight y) behind f h))

  pub named_both : {X : Type 0} (d : Declared) (x : Suffix) (r : Result X NameFault) → declaration sight n.text ≡ Some d → are.typed_suffix sight y ≡ Some x →
      IfErr r (Tells (by_declaration sight.language n.at a d x)) → IfErr r (Tells (typed sight (t.named n y a)))
  named_both d x r e1 e2 =
      told_on _ _ r (λ f h.
      told_same _ _ f (sym named_is)
      (told_right (meaning sight n) (typed_suffix sight y ▸ behind) f (declared_kept sight n d e1)
      (told_right (typed_suffix sight y) behind f (typed_suffix_kept y sight x e2)
      (told_given (λ d. where_given (are.typed_suffix sight y) (by_declaration sight.language n.at a d)) (declaration sight n.text) d f e1
      (told_given (by_declaration sight.language n.at a d) (are.typed_suffix sight y) x f e2 h)))))

-- ---- arguments

-- the arguments that are left, the next of them first
rest_each : (sight : Sight) (es : List Expr) (i : ℕ) (e : Expr) → i < length es → e ≡ get_or es i e →
    (typed sight (view e) ▸ typed_each sight (exprs_of (map view (drop (suc i) es)))) ≡ typed_each sight (exprs_of (map view (drop i es)))
unfolding typed_each
rest_each sight es i e lt is =
    ap (λ k. typed sight (view k) ▸ typed_each sight (exprs_of (map view (drop (suc i) es)))) is
    ∙ sym (ap (λ l. typed_each sight (exprs_of (map view l))) (drop-cons es i e lt))

pub each_told : (sight : Sight) (es : List Expr) (i : ℕ) (e : Expr) (f : NameFault) → i < length es → e ≡ get_or es i e →
    Tells (typed sight (view e)) f → Tells (typed_each sight (exprs_of (map view (drop i es)))) f
each_told sight es i e f lt is h =
    told_same _ _ f (rest_each sight es i e lt is) (told_left (typed sight (view e)) (typed_each sight (exprs_of (map view (drop (suc i) es)))) f h)

pub each_left : (sight : Sight) (es : List Expr) (i j : ℕ) (e : Expr) (v : Typed) → i < length es → e ≡ get_or es i e → suc i ≡ j → are.typed sight (view e) ≡ Some v →
    typed_each sight (exprs_of (map view (drop i es))) ≡ typed_each sight (exprs_of (map view (drop j es)))
each_left sight es i j e v lt is next given =
    sym (rest_each sight es i e lt is)
    ∙ behind_kept (typed sight (view e)) (typed_each sight (exprs_of (map view (drop (suc i) es)))) (typed_kept (view e) sight v given)
    ∙ ap (λ k. typed_each sight (exprs_of (map view (drop k es)))) next

pub arguments_on : {X : Type 0} (sight : Sight) (y : f.Suffix) (all : Vec Expr Global) (es : List Expr) (r : Result X NameFault) → y ≡ s.Arguments all → es ≡ all.items →
    IfErr r (Tells (typed_each sight (exprs_of (map view es)))) → IfErr r (Tells (typed_suffix sight (suffix_view y)))
unfolding typed_suffix
arguments_on sight y all es r is e =
    told_as _ _ r
    (ap (λ l. typed_each sight (exprs_of (map view l))) e ∙ sym (ap (λ z. typed_suffix sight (suffix_view z)) is ∙ ap (typed_suffix sight) (view_arguments all)))

-- ---- expressions, form by form

module _ (sight : Sight) (e d : Expr) (at : ℕ) (box : Box Expr Global) where
  abbrev enclosed_breaks : Expr → Broken
  enclosed_breaks y = typed sight (view y) ▸ where_given (are.typed sight (view y)) (λ v. lacking TypeMismatch (start (view y)) (in_parentheses v))

  parens_is : e ≡ x.Parens at box → d ≡ box.value → typed sight (view e) ≡ enclosed_breaks d
  unfolding typed
  parens_is is e2 = ap (λ v. typed sight (view v)) is ∙ sym (ap enclosed_breaks e2)

  negation_is : e ≡ x.Not at box → d ≡ box.value → typed sight (view e) ≡ (typed sight (view d) ▸ where_given (are.typed sight (view d)) (λ y. lacking TypeMismatch at (inverse y)))
  unfolding typed
  negation_is is e2 = ap (λ v. typed sight (view v)) is ∙ sym (ap (λ v. typed sight (view v) ▸ where_given (are.typed sight (view v)) (λ y. lacking TypeMismatch at (inverse y))) e2)

  abbrev integer_breaks : Expr → Broken
  integer_breaks y = typed sight (view y) ▸ computed_wanted at (are.typed sight (view y))

  absolute_is : e ≡ x.Abs at box → d ≡ box.value → typed sight (view e) ≡ integer_breaks d
  unfolding typed
  absolute_is is e2 = ap (λ v. typed sight (view v)) is ∙ sym (ap integer_breaks e2)

  sign_is : (sign : Sign) → e ≡ x.Signed sign at box → d ≡ box.value → typed sight (view e) ≡ integer_breaks d
  unfolding typed
  sign_is sign is e2 = ap (λ v. typed sight (view v)) is ∙ sym (ap integer_breaks e2)

  -- what stands in parentheses, or behind an operator
  pub parens_first : (f : NameFault) → e ≡ x.Parens at box → d ≡ box.value → Tells (typed sight (view d)) f → Tells (typed sight (view e)) f
  parens_first f is e2 h =
      told_same _ _ f (sym (parens_is is e2)) (told_left (typed sight (view d)) (where_given (are.typed sight (view d)) (λ v. lacking TypeMismatch (start (view d)) (in_parentheses v))) f h)

  pub parens_told : {X : Type 0} (v : Typed) (place : ℕ) (r : Result X NameFault) → e ≡ x.Parens at box → d ≡ box.value → are.typed sight (view d) ≡ Some v →
      place ≡ start (view d) → IfErr r (Tells (lacking TypeMismatch place (in_parentheses v))) → IfErr r (Tells (typed sight (view e)))
  parens_told v place r is e2 given same h =
      told_as _ _ r (sym (parens_is is e2))
      (asked_told (typed sight (view d)) (are.typed sight (view d)) (λ v. lacking TypeMismatch (start (view d)) (in_parentheses v)) v r (typed_kept (view d) sight v given) given
      (told_as _ _ r (ap (λ p. lacking TypeMismatch p (in_parentheses v)) same) h))

  pub negation_first : (f : NameFault) → e ≡ x.Not at box → d ≡ box.value → Tells (typed sight (view d)) f → Tells (typed sight (view e)) f
  negation_first f is e2 h =
      told_same _ _ f (sym (negation_is is e2)) (told_left (typed sight (view d)) (where_given (are.typed sight (view d)) (λ y. lacking TypeMismatch at (inverse y))) f h)

  pub negation_told : {X : Type 0} (v : Typed) (r : Result X NameFault) → e ≡ x.Not at box → d ≡ box.value → are.typed sight (view d) ≡ Some v →
      IfErr r (Tells (lacking TypeMismatch at (inverse v))) → IfErr r (Tells (typed sight (view e)))
  negation_told v r is e2 given h =
      told_as _ _ r (sym (negation_is is e2))
      (asked_told (typed sight (view d)) (are.typed sight (view d)) (λ y. lacking TypeMismatch at (inverse y)) v r (typed_kept (view d) sight v given) given h)

  integer_first : (f : NameFault) → typed sight (view e) ≡ integer_breaks d → Tells (typed sight (view d)) f → Tells (typed sight (view e)) f
  integer_first f is h = told_same _ _ f (sym is) (told_left (typed sight (view d)) (computed_wanted at (are.typed sight (view d))) f h)

  integer_behind : {X : Type 0} (v : Typed) (r : Result X NameFault) → typed sight (view e) ≡ integer_breaks d → are.typed sight (view d) ≡ Some v →
      IfErr r (Tells (lacking TypeMismatch at (as_computed v))) → IfErr r (Tells (typed sight (view e)))
  integer_behind v r is given h =
      told_as _ _ r (sym is) (asked_told (typed sight (view d)) (are.typed sight (view d)) (λ y. lacking TypeMismatch at (as_computed y)) v r (typed_kept (view d) sight v given) given h)

  pub absolute_first : (f : NameFault) → e ≡ x.Abs at box → d ≡ box.value → Tells (typed sight (view d)) f → Tells (typed sight (view e)) f
  absolute_first f is e2 = integer_first f (absolute_is is e2)

  pub absolute_told : {X : Type 0} (v : Typed) (r : Result X NameFault) → e ≡ x.Abs at box → d ≡ box.value → are.typed sight (view d) ≡ Some v →
      IfErr r (Tells (lacking TypeMismatch at (as_computed v))) → IfErr r (Tells (typed sight (view e)))
  absolute_told v r is e2 = integer_behind v r (absolute_is is e2)

  pub sign_first : (sign : Sign) (f : NameFault) → e ≡ x.Signed sign at box → d ≡ box.value → Tells (typed sight (view d)) f → Tells (typed sight (view e)) f
  sign_first sign f is e2 = integer_first f (sign_is sign is e2)

  pub sign_told : {X : Type 0} (sign : Sign) (v : Typed) (r : Result X NameFault) → e ≡ x.Signed sign at box → d ≡ box.value → are.typed sight (view d) ≡ Some v →
      IfErr r (Tells (lacking TypeMismatch at (as_computed v))) → IfErr r (Tells (typed sight (view e)))
  sign_told sign v r is e2 = integer_behind v r (sign_is sign is e2)

-- ---- powers

module _ (sight : Sight) (d e : t.Expr) (at : ℕ) where
  abbrev wanted : Broken
  wanted = integer_wanted at (are.typed sight d) ▸ integer_wanted at (are.typed sight e)

  power_breaks : typed sight (t.power d at e) ≡ (typed sight d ▸ typed sight e ▸ wanted)
  unfolding typed
  power_breaks = refl

  pub base_told : (f : NameFault) → Tells (typed sight d) f → Tells (typed sight (t.power d at e)) f
  base_told f h = told_same _ _ f (sym power_breaks) (told_left (typed sight d) (typed sight e ▸ wanted) f h)

  pub exponent_told : (a : Typed) (f : NameFault) → are.typed sight d ≡ Some a → Tells (typed sight e) f → Tells (typed sight (t.power d at e)) f
  exponent_told a f given h =
      told_same _ _ f (sym power_breaks) (told_right (typed sight d) (typed sight e ▸ wanted) f (typed_kept d sight a given) (told_left (typed sight e) wanted f h))

  -- one of two operands is no integer
  no_integers : (a b : Typed) → raised at a b ≡ None → (lacking TypeMismatch at (as_integer a) ▸ lacking TypeMismatch at (as_integer b)) ≡ refused TypeMismatch at
  unfolding ◌▸◌
  no_integers (integer s) (integer r) h = absurd cc
  no_integers (integer s) b h = refl
  no_integers a b h = refl

  pub power_told : {X : Type 0} (see : X → Typed) (a b : Typed) (r : Result X NameFault) → are.typed sight d ≡ Some a → are.typed sight e ≡ Some b →
      Gives see (raised at a b) r → IfErr r (Tells (refused TypeMismatch at)) → IfErr r (Tells (typed sight (t.power d at e)))
  power_told see a b (Ok z) g1 g2 none h = tt
  power_told see a b (Err NoMemory) g1 g2 none h = tt
  power_told see a b (Err (At p place)) g1 g2 none h =
      told_same _ _ (At p place) (sym power_breaks)
      (told_right (typed sight d) (typed sight e ▸ wanted) (At p place) (typed_kept d sight a g1)
      (told_right (typed sight e) wanted (At p place) (typed_kept e sight b g2)
      (told_same (refused TypeMismatch at) wanted (At p place)
      (sym (no_integers a b (none (at_is_told p place))) ∙ sym (ap (λ o. integer_wanted at o ▸ integer_wanted at (are.typed sight e)) g1 ∙ ap (λ o. lacking TypeMismatch at (as_integer a) ▸ integer_wanted at o) g2)) h)))

-- ---- ranges

-- a slice by its bounds
abbrev of_slice : Sight → Range → Option Suffix
of_slice sight w = are.typed_suffix sight (t.sliced (view w.left) w.direction (view w.right))

pub slice_as : (sight : Sight) (y : f.Suffix) (box : Box Range Global) (w : Range) → y ≡ s.Range box → w ≡ box.value → are.typed_suffix sight (suffix_view y) ≡ of_slice sight w
slice_as sight y box w is e = ap (λ z. are.typed_suffix sight (suffix_view z)) is ∙ sym (ap (of_slice sight) e)

abbrev of_slice_broken : Sight → Range → Broken
of_slice_broken sight w = typed_suffix sight (t.sliced (view w.left) w.direction (view w.right))

pub slice_broken : (sight : Sight) (y : f.Suffix) (box : Box Range Global) (w : Range) → y ≡ s.Range box → w ≡ box.value → typed_suffix sight (suffix_view y) ≡ of_slice_broken sight w
slice_broken sight y box w is e = ap (λ z. typed_suffix sight (suffix_view z)) is ∙ sym (ap (of_slice_broken sight) e)

-- an integer, which a run may compute
module _ (sight : Sight) (e : t.Expr) where
  abbrev pub bound_breaks : Broken
  bound_breaks = typed sight e ▸ computed_wanted (start e) (are.typed sight e)

  is_wanted : (at : ℕ) (x i : Typed) → integer_of x ≡ Some i → IsKept (lacking TypeMismatch at (as_computed x))
  is_wanted at (integer s) i h = refl
  is_wanted at (computed y) i h = refl
  is_wanted at x i h = absurd cc

  not_wanted : (at : ℕ) (x : Typed) → integer_of x ≡ None → lacking TypeMismatch at (as_computed x) ≡ refused TypeMismatch at
  not_wanted at (integer s) h = absurd cc
  not_wanted at (computed y) h = absurd cc
  not_wanted at x h = refl

  pub computed_first : (f : NameFault) → Tells (typed sight e) f → Tells bound_breaks f
  computed_first f = told_left (typed sight e) (computed_wanted (start e) (are.typed sight e)) f

  pub computed_refused : (v : Typed) (at : ℕ) (f : NameFault) → are.typed sight e ≡ Some v → integer_of v ≡ None → at ≡ start e → f ≡ At TypeMismatch at → Tells bound_breaks f
  computed_refused v at f given none same is =
      told_right (typed sight e) (computed_wanted (start e) (are.typed sight e)) f (typed_kept e sight v given)
      (told_given (λ x. lacking TypeMismatch (start e) (as_computed x)) (are.typed sight e) v f given
      (told_fault (lacking TypeMismatch (start e) (as_computed v)) (At TypeMismatch at) f is (not_wanted (start e) v none ∙ ap (refused TypeMismatch) (sym same))))

  pub bound_kept : (i : Typed) → computed_of sight e ≡ Some i → IsKept bound_breaks
  bound_kept i h =
      let v = comes (are.typed sight e) integer_of i h in
      both_kept (typed sight e) (computed_wanted (start e) (are.typed sight e)) (typed_kept e sight v.value v.is)
      (given_kept (λ x. lacking TypeMismatch (start e) (as_computed x)) (are.typed sight e) v.value v.is (is_wanted (start e) v.value i v.rest))

module _ (sight : Sight) (d : t.Expr) (way : Direction) (e : t.Expr) where
  slice_breaks : typed_suffix sight (t.sliced d way e) ≡ (bound_breaks sight d ▸ bound_breaks sight e)
  unfolding typed_suffix
  slice_breaks = refl

  pub left_told : (f : NameFault) → Tells (bound_breaks sight d) f → Tells (typed_suffix sight (t.sliced d way e)) f
  left_told f h = told_same _ _ f (sym slice_breaks) (told_left (bound_breaks sight d) (bound_breaks sight e) f h)

  pub right_told : (l : Typed) (f : NameFault) → computed_of sight d ≡ Some l → Tells (bound_breaks sight e) f → Tells (typed_suffix sight (t.sliced d way e)) f
  right_told l f given h =
      told_same _ _ f (sym slice_breaks) (told_right (bound_breaks sight d) (bound_breaks sight e) f (bound_kept sight d l given) h)

pub range_first : (sight : Sight) (w : t.Range) (f : NameFault) → Tells (static sight w.left) f → Tells (static_range sight (t.bounds w)) f
range_first sight w = told_left (static sight w.left) (static sight w.right)

pub range_second : (sight : Sight) (w : t.Range) (l : u.Static) (f : NameFault) → are.static sight w.left ≡ Some l → Tells (static sight w.right) f → Tells (static_range sight (t.bounds w)) f
range_second sight w l f given = told_right (static sight w.left) (static sight w.right) f (static_kept sight w.left l given)

pub static_first : (sight : Sight) (e : t.Expr) (f : NameFault) → Tells (typed sight e) f → Tells (static sight e) f
static_first sight e = told_left (typed sight e) (integer_wanted (start e) (are.typed sight e))

-- ---- qualified expressions

module _ (sight : Sight) (n : Ident) (at : ℕ) (es : t.Elements) where
  abbrev of_type : Broken
  of_type = where_given (declaration sight n.text) (λ d. where_given (are.typed_elements sight es) (qualified n.at at d))

  qualified_breaks : typed sight (t.qualified n at es) ≡ (meaning sight n ▸ typed_elements sight es ▸ of_type)
  unfolding typed
  qualified_breaks = refl

  pub mark_told : (f : NameFault) → Tells (meaning sight n) f → Tells (typed sight (t.qualified n at es)) f
  mark_told f h = told_same _ _ f (sym qualified_breaks) (told_left (meaning sight n) (typed_elements sight es ▸ of_type) f h)

  pub inside_told : (d : Declared) (f : NameFault) → declaration sight n.text ≡ Some d → Tells (typed_elements sight es) f → Tells (typed sight (t.qualified n at es)) f
  inside_told d f e1 h =
      told_same _ _ f (sym qualified_breaks)
      (told_right (meaning sight n) (typed_elements sight es ▸ of_type) f (declared_kept sight n d e1) (told_left (typed_elements sight es) of_type f h))

  pub qualified_told : {X : Type 0} (d : Declared) (xs : TypedElements) (r : Result X NameFault) → declaration sight n.text ≡ Some d → are.typed_elements sight es ≡ Some xs →
      IfErr r (Tells (qualified n.at at d xs)) → IfErr r (Tells (typed sight (t.qualified n at es)))
  qualified_told d xs r e1 e2 =
      told_on _ _ r (λ f h.
      told_same _ _ f (sym qualified_breaks)
      (told_right (meaning sight n) (typed_elements sight es ▸ of_type) f (declared_kept sight n d e1)
      (told_right (typed_elements sight es) of_type f (typed_elements_kept es sight xs e2)
      (told_given (λ d. where_given (are.typed_elements sight es) (qualified n.at at d)) (declaration sight n.text) d f e1
      (told_given (qualified n.at at d) (are.typed_elements sight es) xs f e2 h)))))
