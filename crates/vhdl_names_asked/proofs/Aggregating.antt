-- What an aggregate is that is given to what has a type.
use Rattle.std.proofs.Common.{◌≡◌, ℕ, Bool, true, false, true≢false, [], ◌∷◌, Option, Some, None, Result, Ok, Err, Box, Global, refl, sym, ap, ◌∙◌}
use Rattle.std.specs.Prelude.{not, ◌||◌, option_map, is_some}
use Rattle.vhdl_names_rules.specs.declared.kind.ElementKind.{ElementKind}
use Rattle.vhdl_names_rules.specs.declared.kind.ElementKind.TheVariants.{Element}
use Rattle.vhdl_names_rules.specs.declared.kind.ObjectType.{ObjectType}
use Rattle.vhdl_names_rules.specs.declared.kind.ObjectType.TheVariants.{Elements, Enumeration, Integers}
use Rattle.vhdl_names_trees.specs.declared.integer.StaticRange.{StaticRange}
use Rattle.vhdl_names_trees.specs.declared.integer.TargetRange.{TargetRange}
use Rattle.vhdl_names_rules.specs.declared.fault.NameFault.{NameFault}
use Rattle.vhdl_names_rules.specs.declared.fault.NameProblem.TheVariants.{TypeMismatch, LeftOut}
use Rattle.vhdl_names_rules.specs.units.Expressions as u
use Rattle.vhdl_names_rules.specs.units.Expressions.{Range}
use Rattle.vhdl_names_rules.specs.units.Statements.{Given, single, filled}
use Rattle.vhdl_names_rules.specs.Rules.{◌>>=◌, ◌>>◌, met, then_some}
use Rattle.vhdl_names_rules.specs.Types as types
use Rattle.vhdl_names_rules.specs.Types.{Typed, integer, computed, elements, enumerated, composite, TypedElements}
use Rattle.vhdl_names_rules.specs.Operators.{is_vector}
use Rattle.vhdl_names_rules.specs.Aggregates.{is_named, aggregate}
use Rattle.vhdl_names_rules.specs.Expressions.{as_composite, as_filled, as_value}
use Rattle.vhdl_names_trees.specs.views.Integers.{option_range_view, target_range_view}
use Rattle.vhdl_names_rules.specs.problems.Broken.{Tells, refused, ◌▸◌, unless, lacking}
use Rattle.vhdl_names_rules.proofs.Telling.{unless_kept, told_right, told_same}
use Rattle.vhdl_names_rules.specs.problems.Aggregates as aggregates
use Rattle.vhdl_names_rules.specs.problems.Expressions.{given, is_vector_type}
use Rattle.vhdl_names_operators.specs.Resolving.{is_plain}
use Rattle.vhdl_names_numbers.specs.Integers.{integer_of}
use Rattle.vhdl_names_operators.proofs.Numbering.{integer_same}
use Rattle.vhdl_names_asked.specs.Givings.{filling, as_filling, lacks_range, as_listed, listed_breaks, plain_value}
use Rattle.vhdl_names_asked.proofs.Asking.{no_filled}
use Rattle.vhdl_names_asked.proofs.Filling.{no_vectors, of_vectors}

-- ---- of others alone, or more

abbrev lone : ℕ → ℕ → Typed → TypedElements
lone p q x = types.element (types.others p ∷ []) q x types.no_elements

abbrev either : ℕ → Result (ℕ × Typed) TypedElements → TypedElements
either p (Ok w) = lone p w.0 w.1
either p (Err es) = es

others_alone : (es : TypedElements) (q : ℕ) (x : Typed) → filling es ≡ Ok (q, x) → (p : ℕ) × (es ≡ lone p q x)
others_alone (types.element (types.others p ∷ []) r y types.no_elements) q x h = (p, ap (either p) h)
others_alone es q x h = absurd cc

more_than_others : (es zs : TypedElements) → filling es ≡ Err zs → zs ≡ es
more_than_others (types.element (types.others p ∷ []) r y types.no_elements) zs h = absurd cc
more_than_others es zs h = ap (either 0) (sym h)

-- ---- where the type is no vector's

abbrev listed : ElementKind → ℕ → Option Range → TypedElements → Option Given
listed k at r es = met (is_vector k) >> as_listed k at r es

no_vector : (k : ElementKind) (at : ℕ) (r : Option Range) (es : TypedElements) → is_vector k ≡ false → listed k at r es ≡ None
no_vector k at r es h = ap (λ b. met b >> as_listed k at r es) h

pub no_composite : (k : ElementKind) (at : ℕ) (r : Option Range) (es : TypedElements) → is_vector k ≡ false → as_composite (Elements k) at r es ≡ None
no_composite k at r (types.element (types.others p ∷ []) q x types.no_elements) h = no_filled k x h
no_composite k at r es h = no_vector k at r es h

pub no_composite_breaks : (k : ElementKind) (at : ℕ) (b : Bool) (es : TypedElements) → is_vector k ≡ false → aggregates.composite (Elements k) at b es ≡ refused TypeMismatch at
no_composite_breaks k at b es h = no_vectors (Elements k) at _ h

-- ---- where it is a vector's

composite_listed : (k : ElementKind) (at : ℕ) (r : Option Range) (es zs : TypedElements) → filling es ≡ Err zs → as_composite (Elements k) at r es ≡ listed k at r es
composite_listed k at r (types.element (types.others p ∷ []) q x types.no_elements) zs h = absurd cc
composite_listed k at r es zs h = refl

vector_filled : (k : ElementKind) (x : Typed) → is_vector k ≡ true → as_filled (Elements k) x ≡ as_filling x
vector_filled k (elements Element v) h = ap (λ b. then_some b (filled v)) h
vector_filled k x h = refl

-- of a type of vectors, or of another one
pub type_filled : (type : ObjectType) (x : Typed) → is_vector_type type ≡ true → as_filled type x ≡ as_filling x
type_filled (Elements k) x h = vector_filled k x h
type_filled type x h = absurd (true≢false (sym h))

pub none_filled : (type : ObjectType) (x : Typed) → is_vector_type type ≡ false → as_filled type x ≡ None
none_filled (Elements k) x h = no_filled k x h
none_filled type x h = refl

broken_listed : (k : ElementKind) (at : ℕ) (b : Bool) (es zs : TypedElements) → is_vector k ≡ true → filling es ≡ Err zs → aggregates.composite (Elements k) at b es ≡ listed_breaks k at b es
broken_listed k at b (types.element (types.others p ∷ []) q x types.no_elements) zs v h = absurd cc
broken_listed k at b es zs v h = of_vectors (Elements k) k at (listed_breaks k at b es) refl v

pub some_of : {A B : Type 0} (f : A → B) (o : Option A) → is_some (option_map f o) ≡ is_some o
some_of f None = refl
some_of f (Some x) = refl

module _ (k : ElementKind) (at : ℕ) (es : TypedElements) (v : is_vector k ≡ true) where
  pub filled_given : (r : Option Range) (q : ℕ) (x : Typed) → filling es ≡ Ok (q, x) → as_composite (Elements k) at r es ≡ as_filling x
  filled_given r q x h = ap (as_composite (Elements k) at r) (others_alone es q x h).1 ∙ vector_filled k x v

  pub filled_breaks : (b : Bool) (q : ℕ) (x : Typed) → filling es ≡ Ok (q, x) → aggregates.composite (Elements k) at b es ≡ lacking TypeMismatch q (as_filling x)
  filled_breaks b q x h =
      ap (aggregates.composite (Elements k) at b) (others_alone es q x h).1
      ∙ of_vectors (Elements k) k at (lacking TypeMismatch q (as_filled (Elements k) x)) refl v
      ∙ ap (lacking TypeMismatch q) (vector_filled k x v)

  pub listed_given : (r : Option Range) (zs : TypedElements) → filling es ≡ Err zs → as_composite (Elements k) at r es ≡ as_listed k at r zs
  listed_given r zs h = composite_listed k at r es zs h ∙ ap (λ b. met b >> as_listed k at r es) v ∙ ap (as_listed k at r) (sym (more_than_others es zs h))

  pub listed_broken : (b : Bool) (zs : TypedElements) → filling es ≡ Err zs → aggregates.composite (Elements k) at b es ≡ listed_breaks k at b zs
  listed_broken b zs h = broken_listed k at b es zs v h ∙ ap (listed_breaks k at b) (sym (more_than_others es zs h))

-- choices are of a range that is known
module _ (k : ElementKind) (at : ℕ) (es : TypedElements) where
  may_be_listed : (r : Option Range) (b : Bool) → b ≡ lacks_range r es → (is_some r || not (is_named es)) ≡ not b
  may_be_listed (Some r) b h = ap not (sym h)
  may_be_listed None b h = ap not (sym h)

  -- and is declared or written
  of_target : (r : Option TargetRange) (b : Bool) → b ≡ lacks_range (option_map target_range_view r) es → (is_some r || not (is_named es)) ≡ not b
  of_target r b h = ap (λ c. c || not (is_named es)) (sym (some_of target_range_view r)) ∙ may_be_listed (option_map target_range_view r) b h

  pub not_listed : (r : Option Range) (b : Bool) → b ≡ lacks_range r es → b ≡ true → as_listed k at r es ≡ None
  not_listed r b h t = ap (λ c. met c >> (aggregate k at r es >>= λ x. Some (single (u.elements x)))) (may_be_listed r b h ∙ ap not t)

  pub not_listed_breaks : (r : Option TargetRange) (b : Bool) → b ≡ lacks_range (option_map target_range_view r) es → b ≡ true → listed_breaks k at (is_some r) es ≡ refused LeftOut at
  unfolding ◌▸◌
  not_listed_breaks r b h t = ap (λ c. unless LeftOut at c ▸ aggregates.aggregate k (is_some r) es) (of_target r b h ∙ ap not t)

  pub listed_by : (r o : Option Range) (b : Bool) → b ≡ lacks_range r es → b ≡ false → o ≡ r → as_listed k at r es ≡ (aggregate k at o es >>= λ x. Some (single (u.elements x)))
  listed_by r o b h f e =
      ap (λ c. met c >> (aggregate k at r es >>= λ x. Some (single (u.elements x)))) (may_be_listed r b h ∙ ap not f)
      ∙ ap (λ s. aggregate k at s es >>= λ x. Some (single (u.elements x))) (sym e)

  pub listed_told : (r : Option TargetRange) (o : Option (Box StaticRange Global)) (b : Bool) (f : NameFault) → b ≡ lacks_range (option_map target_range_view r) es → b ≡ false
      → option_range_view o ≡ option_map target_range_view r → Tells (aggregates.aggregate k (is_some o) es) f → Tells (listed_breaks k at (is_some r) es) f
  listed_told r o b f h n e w =
      let same : is_some r ≡ is_some o = sym (some_of target_range_view r) ∙ ap is_some (sym e) ∙ some_of _ o in
      told_right (unless LeftOut at (is_some r || not (is_named es))) (aggregates.aggregate k (is_some r) es) f
      (unless_kept LeftOut at (is_some r || not (is_named es)) (of_target r b h ∙ ap not n))
      (told_same _ _ f (ap (λ c. aggregates.aggregate k c es) (sym same)) w)

-- ---- values, aggregates or not

pub composite_value : (type : ObjectType) (r : Option Range) (at : ℕ) (es : TypedElements) → as_value type r (composite at es) ≡ as_composite type at r es
composite_value (Elements k) r at es = refl
composite_value type r at es = refl

pub value_plain : (type : ObjectType) (r : Option Range) (x : Typed) → is_plain x ≡ true → as_value type r x ≡ plain_value type x
value_plain (Elements k) r (composite at es) h = absurd cc
value_plain (Elements k) r (elements j x) h = refl
value_plain (Elements k) r x h = refl
value_plain (Enumeration e count) r (composite at es) h = absurd cc
value_plain (Enumeration e count) r (enumerated d size x) h = refl
value_plain (Enumeration e count) r x h = refl
value_plain type r (composite at es) h = absurd cc
value_plain type r x h = refl

pub value_breaks : (type : ObjectType) (r : Option Range) (at : ℕ) (x : Typed) → is_plain x ≡ true → given type r at x ≡ lacking TypeMismatch at (plain_value type x)
value_breaks type r at (composite p es) h = absurd cc
value_breaks type r at x h = ap (lacking TypeMismatch at) (value_plain type r x h)

-- ---- values of an integer type

pub number_given : (x i : Typed) → integer_of x ≡ Some i → plain_value Integers x ≡ plain_value Integers i
number_given x i h = ap (plain_value Integers) (integer_same x i h)

pub no_number_given : (x : Typed) → integer_of x ≡ None → plain_value Integers x ≡ None
no_number_given (integer s) h = absurd cc
no_number_given (computed j) h = absurd cc
no_number_given x h = refl
