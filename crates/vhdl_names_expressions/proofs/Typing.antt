-- What expressions are by what their parts are; and faults that are passed on.
pub use Rattle.vhdl_names_rules.proofs.Passing.{passed_on}
use Rattle.std.proofs.Common.{◌≡◌, ℕ, Bool, List, map, option_map, Option, Some, None, Vec, Box, Global, refl, sym, ap, ◌∙◌}
use Rattle.vhdl_tree.specs.Tree as t
use Rattle.vhdl_tree.specs.Tree.{Ident, Attribute, elements_of}
use Rattle.vhdl_tree.specs.View.{view, ident_view, element_view}
use Rattle.vhdl_tree.specs.declared.expression.Identifier.{Identifier}
use Rattle.vhdl_tree.specs.declared.expression.Element.{Element}
use Rattle.vhdl_tree.specs.declared.expression.Power.{Power}
use Rattle.vhdl_tree.proofs.RowsElements.{view_aggregate, view_qualified}
use Rattle.vhdl_tree.specs.declared.operator.Sign.{Sign}
use Rattle.vhdl_tree.specs.declared.expression.Expr.{Expr}
use Rattle.vhdl_tree.specs.declared.expression.Expr.TheVariants as x
use Rattle.vhdl_tree.specs.declared.expression.Link.{Link}
use Rattle.vhdl_names_rules.specs.units.Expressions as u
use Rattle.vhdl_names_rules.specs.Rules.{◌>>=◌}
use Rattle.vhdl_names_rules.specs.Visibility.{Sight, Declared, declaration}
use Rattle.vhdl_names_rules.specs.Names.{Suffix}
use Rattle.vhdl_names_rules.specs.Types.{TypedElements}
use Rattle.vhdl_names_rules.specs.Operators.{Typed, composite, inverse, raised}
use Rattle.vhdl_names_rules.specs.Expressions.{typed, typed_suffix, typed_elements, named, qualified, in_parentheses, absolute, signed, static, static_range}
use Rattle.vhdl_names_rules.specs.problems.Broken.{Broken}
use Rattle.vhdl_names_rules.specs.problems.Expressions as broken
use Rattle.vhdl_names_operators.specs.Steps.{operated}
use Rattle.vhdl_names_expressions.specs.Steps.{enclosed_if, linked}
use Rattle.vhdl_names_expressions.proofs.Chains.{named_in_turn}

-- ---- what stands in parentheses, or behind an operator

module _ (sight : Sight) (e d : Expr) (at : ℕ) (box : Box Expr Global) where
  pub parens_give : e ≡ x.Parens at box → d ≡ box.value → typed sight (view e) ≡ (typed sight (view d) >>= in_parentheses)
  unfolding typed
  parens_give is same = ap (λ v. typed sight (view v)) is ∙ sym (ap (λ v. typed sight (view v) >>= in_parentheses) same)

  pub negation_gives : e ≡ x.Not at box → d ≡ box.value → typed sight (view e) ≡ (typed sight (view d) >>= inverse)
  unfolding typed
  negation_gives is same = ap (λ v. typed sight (view v)) is ∙ sym (ap (λ v. typed sight (view v) >>= inverse) same)

  pub absolute_gives : e ≡ x.Abs at box → d ≡ box.value → typed sight (view e) ≡ (typed sight (view d) >>= absolute at)
  unfolding typed
  absolute_gives is same = ap (λ v. typed sight (view v)) is ∙ sym (ap (λ v. typed sight (view v) >>= absolute at) same)

  pub sign_gives : (sign : Sign) → e ≡ x.Signed sign at box → d ≡ box.value
      → typed sight (view e) ≡ (typed sight (view d) >>= signed at sign)
  unfolding typed
  sign_gives sign is same =
      ap (λ v. typed sight (view v)) is ∙ sym (ap (λ v. typed sight (view v) >>= signed at sign) same)

-- a base, and behind it an exponent
module _ (sight : Sight) (d e : t.Expr) (at : ℕ) where
  power_gives : typed sight (t.power d at e) ≡ (typed sight d >>= λ a. typed sight e >>= λ b. raised at a b)
  unfolding typed
  power_gives = refl

  pub no_base : typed sight d ≡ None → typed sight (t.power d at e) ≡ None
  no_base h = power_gives ∙ ap (λ (o : Option Typed). o >>= λ a. typed sight e >>= λ b. raised at a b) h

  with_base : (a : Typed) → typed sight d ≡ Some a → typed sight (t.power d at e) ≡ (typed sight e >>= λ b. raised at a b)
  with_base a h = power_gives ∙ ap (λ (o : Option Typed). o >>= λ a. typed sight e >>= λ b. raised at a b) h

  pub no_exponent : (a : Typed) → typed sight d ≡ Some a → typed sight e ≡ None → typed sight (t.power d at e) ≡ None
  no_exponent a h k = with_base a h ∙ ap (λ (o : Option Typed). o >>= λ b. raised at a b) k

  pub power_is : (a b : Typed) → typed sight d ≡ Some a → typed sight e ≡ Some b → typed sight (t.power d at e) ≡ raised at a b
  power_is a b h k = with_base a h ∙ ap (λ (o : Option Typed). o >>= λ b. raised at a b) k

-- ---- names

module _ (sight : Sight) (n : Ident) (s : t.Suffix) (a : Option Attribute) where
  pub no_declaration : declaration sight n.text ≡ None → typed sight (t.named n s a) ≡ None
  no_declaration h = named_in_turn sight n s a ∙ ap (λ (o : Option Declared). o >>= λ d. typed_suffix sight s >>= λ y. named sight.language n.at a d y) h

  with_declaration : (d : Declared) → declaration sight n.text ≡ Some d → typed sight (t.named n s a) ≡ (typed_suffix sight s >>= λ y. named sight.language n.at a d y)
  with_declaration d h = named_in_turn sight n s a ∙ ap (λ (o : Option Declared). o >>= λ d. typed_suffix sight s >>= λ y. named sight.language n.at a d y) h

  pub no_suffix : (d : Declared) → declaration sight n.text ≡ Some d → typed_suffix sight s ≡ None → typed sight (t.named n s a) ≡ None
  no_suffix d m h = with_declaration d m ∙ ap (λ (o : Option Suffix). o >>= λ y. named sight.language n.at a d y) h

  pub named_is : (d : Declared) (y : Suffix) → declaration sight n.text ≡ Some d → typed_suffix sight s ≡ Some y → typed sight (t.named n s a) ≡ named sight.language n.at a d y
  named_is d y m h = with_declaration d m ∙ ap (λ (o : Option Suffix). o >>= λ y. named sight.language n.at a d y) h

-- ---- qualified expressions: the type first

module _ (sight : Sight) (n : Ident) (at : ℕ) (es : t.Elements) where
  qualified_in_turn : typed sight (t.qualified n at es) ≡ (declaration sight n.text >>= λ d. (typed_elements sight es >>= λ xs. qualified n.at at d xs))
  unfolding typed
  qualified_in_turn = go (typed_elements sight es) (declaration sight n.text)
    where
      go : (o : Option TypedElements) (p : Option Declared) →
          (o >>= λ xs. (p >>= λ d. qualified n.at at d xs)) ≡ (p >>= λ d. (o >>= λ xs. qualified n.at at d xs))
      go None None = refl
      go None (Some d) = refl
      go (Some xs) None = refl
      go (Some xs) (Some d) = refl

  pub no_mark : declaration sight n.text ≡ None → typed sight (t.qualified n at es) ≡ None
  no_mark h = qualified_in_turn ∙ ap (λ (o : Option Declared). o >>= λ d. typed_elements sight es >>= λ xs. qualified n.at at d xs) h

  with_mark : (d : Declared) → declaration sight n.text ≡ Some d → typed sight (t.qualified n at es) ≡ (typed_elements sight es >>= λ xs. qualified n.at at d xs)
  with_mark d h = qualified_in_turn ∙ ap (λ (o : Option Declared). o >>= λ d. typed_elements sight es >>= λ xs. qualified n.at at d xs) h

  pub no_elements_qualified : (d : Declared) → declaration sight n.text ≡ Some d → typed_elements sight es ≡ None → typed sight (t.qualified n at es) ≡ None
  no_elements_qualified d m h = with_mark d m ∙ ap (λ (o : Option TypedElements). o >>= λ xs. qualified n.at at d xs) h

  pub qualified_is : (d : Declared) (xs : TypedElements) → declaration sight n.text ≡ Some d → typed_elements sight es ≡ Some xs → typed sight (t.qualified n at es) ≡ qualified n.at at d xs
  qualified_is d xs m h = with_mark d m ∙ ap (λ (o : Option TypedElements). o >>= λ xs. qualified n.at at d xs) h

-- ---- forms whose parts are in a box or a list

abbrev of_power : Sight → Power → Option Typed
of_power sight p = typed sight (t.power (view p.base) p.at (view p.exponent))

pub power_as : (sight : Sight) (e : Expr) (box : Box Power Global) (p : Power) → e ≡ x.Power box → p ≡ box.value → typed sight (view e) ≡ of_power sight p
power_as sight e box p is same = ap (λ v. typed sight (view v)) is ∙ sym (ap (of_power sight) same)

abbrev of_power_broken : Sight → Power → Broken
of_power_broken sight p = broken.typed sight (t.power (view p.base) p.at (view p.exponent))

pub power_broken : (sight : Sight) (e : Expr) (box : Box Power Global) (p : Power) → e ≡ x.Power box → p ≡ box.value → broken.typed sight (view e) ≡ of_power_broken sight p
power_broken sight e box p is same = ap (λ v. broken.typed sight (view v)) is ∙ sym (ap (of_power_broken sight) same)

module _ (sight : Sight) (e : Expr) (at : ℕ) (all : Vec Element Global) (es : List Element) where
  aggregate_view : e ≡ x.Aggregate at all → es ≡ all.items → view e ≡ t.aggregate at (elements_of (map element_view es))
  aggregate_view is same = ap view is ∙ view_aggregate at all ∙ sym (ap (λ l. t.aggregate at (elements_of (map element_view l))) same)

  pub aggregate_as : e ≡ x.Aggregate at all → es ≡ all.items → typed sight (view e) ≡ option_map (composite at) (typed_elements sight (elements_of (map element_view es)))
  unfolding typed
  aggregate_as is same = ap (typed sight) (aggregate_view is same)

  pub aggregate_broken : e ≡ x.Aggregate at all → es ≡ all.items → broken.typed sight (view e) ≡ broken.typed_elements sight (elements_of (map element_view es))
  unfolding broken.typed
  aggregate_broken is same = ap (broken.typed sight) (aggregate_view is same)

module _ (sight : Sight) (e : Expr) (mark : Identifier) (at : ℕ) (all : Vec Element Global) (es : List Element) where
  qualified_view : e ≡ x.Qualified mark at all → es ≡ all.items → view e ≡ t.qualified (ident_view mark) at (elements_of (map element_view es))
  qualified_view is same = ap view is ∙ view_qualified mark at all ∙ sym (ap (λ l. t.qualified (ident_view mark) at (elements_of (map element_view l))) same)

  pub qualified_as : e ≡ x.Qualified mark at all → es ≡ all.items → typed sight (view e) ≡ typed sight (t.qualified (ident_view mark) at (elements_of (map element_view es)))
  qualified_as is same = ap (typed sight) (qualified_view is same)

  pub qualified_broken : e ≡ x.Qualified mark at all → es ≡ all.items → broken.typed sight (view e) ≡ broken.typed sight (t.qualified (ident_view mark) at (elements_of (map element_view es)))
  qualified_broken is same = ap (broken.typed sight) (qualified_view is same)

-- ---- ranges

module _ (sight : Sight) (r : t.Range) where
  abbrev made : u.Static → u.Static → u.Range
  made l k = record { left = l; direction = r.direction; right = k }

  by_bounds : static_range sight (t.bounds r) ≡ (static sight r.left >>= λ l. static sight r.right >>= λ k. Some (made l k))
  unfolding static_range
  by_bounds = refl

  pub no_left : static sight r.left ≡ None → static_range sight (t.bounds r) ≡ None
  no_left h = by_bounds ∙ ap (λ (o : Option u.Static). o >>= λ l. static sight r.right >>= λ k. Some (made l k)) h

  with_left : (l : u.Static) → static sight r.left ≡ Some l → static_range sight (t.bounds r) ≡ (static sight r.right >>= λ k. Some (made l k))
  with_left l h = by_bounds ∙ ap (λ (o : Option u.Static). o >>= λ l. static sight r.right >>= λ k. Some (made l k)) h

  pub no_right : (l : u.Static) → static sight r.left ≡ Some l → static sight r.right ≡ None → static_range sight (t.bounds r) ≡ None
  no_right l h k = with_left l h ∙ ap (λ (o : Option u.Static). o >>= λ k. Some (made l k)) k

  pub bounds_are : (l k : u.Static) → static sight r.left ≡ Some l → static sight r.right ≡ Some k → static_range sight (t.bounds r) ≡ Some (made l k)
  bounds_are l k h i = with_left l h ∙ ap (λ (o : Option u.Static). o >>= λ k. Some (made l k)) i

-- ---- links

pub no_operand : (sight : Sight) (b : Bool) (v : Typed) (l : Link) → typed sight (view l.operand) ≡ None → linked sight b (Some v) l ≡ None
no_operand sight b v l h = ap (λ (o : Option Typed). o >>= λ y. operated sight.language sight.numbers l.at l.operator v (enclosed_if b y)) h
