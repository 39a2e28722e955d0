-- Values of constants and defaults: names with their identifier first, and calls by their two arguments.
use Rattle.std.proofs.Common.{◌≡◌, ℕ, Bool, true, false, List, [], ◌∷◌, map, Option, Some, None, refl, sym, ap, ◌∙◌}
use Rattle.std.specs.Prelude.{option_map, is_none}
use Rattle.vhdl_tree.specs.Tree as t
use Rattle.vhdl_tree.specs.View.{view}
use Rattle.vhdl_tree.specs.declared.expression.Expr.{Expr}
use Rattle.vhdl_tree.specs.declared.expression.Expr.TheVariants as x
use Rattle.vhdl_names_rules.specs.declared.kind.Function.TheVariants.{ToUnsigned}
use Rattle.vhdl_names_rules.specs.declared.kind.ElementKind.TheVariants.{Unsigned}
use Rattle.vhdl_names_rules.specs.declared.kind.ObjectType.{ObjectType}
use Rattle.vhdl_names_rules.specs.declared.kind.ObjectType.TheVariants.{Elements}
use Rattle.vhdl_names_rules.specs.units.Expressions as u
use Rattle.vhdl_names_rules.specs.units.Units.{Fixed}
use Rattle.vhdl_names_rules.specs.Rules.{◌>>=◌, ◌>>◌, met}
use Rattle.vhdl_names_rules.specs.Visibility as visibility
use Rattle.vhdl_names_rules.specs.Visibility.{Sight, Declared, declaration}
use Rattle.vhdl_names_rules.specs.Names.{Suffix, arguments}
use Rattle.vhdl_names_rules.specs.Operators as o
use Rattle.vhdl_names_rules.specs.Operators.{integer, computed, elements, enumerated, truth, interval, composite}
use Rattle.vhdl_names_rules.specs.Expressions.{typed, typed_each, typed_suffix, sliced, is_one_name, suffix_of}
use Rattle.vhdl_names_rules.specs.Subtypes as r
use Rattle.vhdl_names_trees.specs.declared.typed.Typed.{Typed}
use Rattle.vhdl_names_parts.specs.Steps.{two}
use Rattle.vhdl_names_trees.specs.views.Expressions.{typed_view}
use Rattle.vhdl_names_parts.proofs.Meant.{both_views, two_map}
use Rattle.vhdl_names_asked.specs.Asked.{unattributed}
use Rattle.vhdl_names_rules.specs.Instances.{as_name}
use Rattle.vhdl_names_expressions.specs.Chosen.{as_character}
use Rattle.vhdl_names_values.specs.Fixing.{encoded_fixed, suffixed_value, filled_with}
use Rattle.vhdl_names_asked.proofs.Asking.{both}
use Rattle.vhdl_names_expressions.proofs.Choosing.{no_literal, chain_is_no_character}

-- ---- to_unsigned

encode_two : (xs : List o.Typed) → r.encoded_value (Elements Unsigned) (visibility.function ToUnsigned) xs ≡ encoded_fixed (two xs)
encode_two (integer s ∷ integer t ∷ []) = refl
encode_two (integer s ∷ computed y ∷ []) = refl
encode_two (integer s ∷ elements k y ∷ []) = refl
encode_two (integer s ∷ enumerated e n y ∷ []) = refl
encode_two (integer s ∷ truth y ∷ []) = refl
encode_two (integer s ∷ interval y ∷ []) = refl
encode_two (integer s ∷ composite p y ∷ []) = refl
encode_two (computed x ∷ y ∷ []) = refl
encode_two (elements j x ∷ y ∷ []) = refl
encode_two (enumerated d m x ∷ y ∷ []) = refl
encode_two (truth x ∷ y ∷ []) = refl
encode_two (interval x ∷ y ∷ []) = refl
encode_two (composite p x ∷ y ∷ []) = refl
encode_two xs = refl

pub encoding_two : (xs : List Typed) →
    r.encoded_value (Elements Unsigned) (visibility.function ToUnsigned) (map typed_view xs) ≡ encoded_fixed (option_map both_views (two xs))
encoding_two xs = encode_two (map typed_view xs) ∙ ap encoded_fixed (two_map xs)

-- ---- names

-- a name is no literal
name_unvalued : (type : ObjectType) (n : t.Ident) (y : t.Suffix) (a : Option t.Attribute) → r.literal_value type (t.named n y a) ≡ None
name_unvalued (Elements k) n y a = ap (option_map Fixed.literal) (no_literal k (t.named n y a) refl)
name_unvalued type n y a = refl

broken : {A B C : Type 0} (p : Option A) (q : Option B) (f : A → B → Option C) → (p >>= λ d. (q >>= λ s. (met false >> f d s))) ≡ None
broken None q f = refl
broken (Some d) None f = refl
broken (Some d) (Some s) f = refl

unencoded : (type : ObjectType) (m : visibility.Meaning) (x : u.Range) → r.encoded_value type m (interval x ∷ []) ≡ None
unencoded (Elements Unsigned) (visibility.function ToUnsigned) x = refl
unencoded type m x = refl

-- the identifier first, and the attribute last
fixed_named : (sight : Sight) (type : ObjectType) (n : t.Ident) (y : t.Suffix) (a : Option t.Attribute) →
    r.fixed sight type (t.named n y a)
    ≡ (declaration sight n.text >>= λ d. (typed_suffix sight y >>= λ s. (met (is_none a) >> suffixed_value type d.meaning s)))
unfolding typed_suffix
fixed_named sight type n t.plain None = go (declaration sight n.text)
  where
    go : (p : Option Declared) → (option_map (λ d. d.meaning) p >>= r.named_value type) ≡ (p >>= λ d. r.named_value type d.meaning)
    go None = refl
    go (Some d) = refl
fixed_named sight type n (t.arguments es) None = go (declaration sight n.text) (typed_each sight es)
  where
    go : (p : Option Declared) (q : Option (List o.Typed)) →
        (option_map (λ d. d.meaning) p >>= λ m. (q >>= λ xs. r.encoded_value type m xs))
        ≡ (p >>= λ d. (option_map (suffix_of (is_one_name es)) q >>= λ s. (met true >> suffixed_value type d.meaning s)))
    go None q = refl
    go (Some d) None = refl
    go (Some d) (Some (interval x ∷ [])) = unencoded type d.meaning x
    go (Some d) (Some xs) = refl
fixed_named sight type n (t.sliced d w e) None = name_unvalued type n (t.sliced d w e) None ∙ sym (go (declaration sight n.text) (typed sight d) (typed sight e))
  where
    none : (m : visibility.Meaning) (x y : o.Typed) → (sliced x w y >>= λ s. (met true >> suffixed_value type m s)) ≡ None
    none m (integer l) (integer r) = refl
    none m (integer l) (computed r) = refl
    none m (integer l) y = refl
    none m (computed l) (integer r) = refl
    none m (computed l) (computed r) = refl
    none m (computed l) y = refl
    none m x y = refl

    go : (p : Option Declared) (q r : Option o.Typed) →
        (p >>= λ d. ((q >>= λ x. (r >>= λ y. sliced x w y)) >>= λ s. (met true >> suffixed_value type d.meaning s))) ≡ None
    go None q r = refl
    go (Some p) None r = refl
    go (Some p) (Some x) None = refl
    go (Some p) (Some x) (Some y) = none p.meaning x y
fixed_named sight type n t.plain (Some a) = name_unvalued type n t.plain (Some a) ∙ sym (broken (declaration sight n.text) (typed_suffix sight t.plain) (λ d. suffixed_value type d.meaning))
fixed_named sight type n (t.arguments es) (Some a) = name_unvalued type n (t.arguments es) (Some a) ∙ sym (broken (declaration sight n.text) (typed_suffix sight (t.arguments es)) (λ d. suffixed_value type d.meaning))
fixed_named sight type n (t.sliced d w e) (Some a) = name_unvalued type n (t.sliced d w e) (Some a) ∙ sym (broken (declaration sight n.text) (typed_suffix sight (t.sliced d w e)) (λ d. suffixed_value type d.meaning))

pub name_fixed : (sight : Sight) (type : ObjectType) (n : t.Name) →
    r.fixed sight type (t.named n.identifier n.suffix n.attribute) ≡ (unattributed sight n >>= λ m. suffixed_value type m.0.meaning m.1)
name_fixed sight type n =
    fixed_named sight type n.identifier n.suffix n.attribute
    ∙ together (declaration sight n.identifier.text) (typed_suffix sight n.suffix) (is_none n.attribute)
  where
    together : (p : Option Declared) (q : Option Suffix) (b : Bool) →
        (p >>= λ d. (q >>= λ s. (met b >> suffixed_value type d.meaning s))) ≡ ((p >>= λ d. (q >>= λ s. (met b >> Some (both d s)))) >>= λ m. suffixed_value type m.0.meaning m.1)
    together (Some d) (Some s) true = refl
    together p q b = refl

-- what is no name has the value of a literal
pub fixed_literal : (sight : Sight) (type : ObjectType) (e : t.Expr) → None ≡ as_name e → r.fixed sight type e ≡ r.literal_value type e
fixed_literal sight type (t.named n y a) h = cc
fixed_literal sight type e h = refl

-- ---- values

-- what is no character, chains of operators among it
pub no_character : (e : Expr) → ((at code : ℕ) → e ≡ x.Character at code → ⊥) → None ≡ as_character (view e)
no_character (x.Character at code) other = absurd (other at code refl)
no_character (x.Chain' p chain) other = chain_is_no_character chain
no_character e other = refl

pub filled_as : (type : ObjectType) (e : t.Expr) → r.filled_value type e ≡ filled_with type (as_character e)
filled_as (Elements k) (t.character at s) = refl
filled_as type e = refl
