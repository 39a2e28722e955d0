-- What attributes of ranges are, by what has the range.
use Rattle.std.proofs.Common.{◌≡◌, ℕ, Bool, true, false, List, Option, Some, None, refl, ap, ◌∙◌}
use Rattle.std.specs.Prelude.{if◌then◌else◌, option_map, codes}
use Rattle.std.specs.Option.{option_or}
use Rattle.std.proofs.lemmas.Slice.Eq.{bytes_eq-Decides}
use Rattle.vhdl_tree.specs.Tree as t
use Rattle.vhdl_tree.specs.Tree.{Attribute}
use Rattle.vhdl_names_rules.specs.Rules.{◌>>=◌, ◌>>◌, met}
use Rattle.vhdl_names_rules.specs.units.Expressions as u
use Rattle.vhdl_names_rules.specs.Operators.{Typed, integer, elements, interval}
use Rattle.vhdl_names_rules.specs.Visibility as visibility
use Rattle.vhdl_names_rules.specs.Visibility.{Meaning, Declared, DeclaredRange}
use Rattle.vhdl_names_rules.specs.Names.{Suffix}
use Rattle.vhdl_names_rules.specs.Ranges as rules
use Rattle.vhdl_names_rules.specs.Ranges.{Ranged, ranged, range_of, reversed, declared_range, bound_of, bound}
use Rattle.vhdl_names_parts.specs.Ranging as steps
use Rattle.vhdl_names_parts.specs.Ranging.{is_reverse_range, sized_range}

or_none : {A : Type 0} (o : Option A) → option_or o None ≡ o
or_none None = refl
or_none (Some x) = refl

-- 'reverse_range is no bound
no_bound : (a : List ℕ) → is_reverse_range a ≡ true → bound_of a ≡ None
no_bound a h = ap bound_of ((bytes_eq-Decides a (codes "reverse_range")).0 h)

reversed_or : (b : Bool) (o : Option u.Range) (p : Option Typed) → (b ≡ true → p ≡ None)
    → option_or (option_map interval (met b >> option_map reversed o)) p ≡ if b then option_map (λ x. interval (reversed x)) o else p
reversed_or true None p h = h refl
reversed_or true (Some x) p h = refl
reversed_or false o p h = refl

abbrev bound_in : (at : ℕ) → List ℕ → Ranged → Option Typed
bound_in at a r = bound_of a >>= λ b. option_map integer (bound at b r)

pub attribute_is : (at : ℕ) (a : Attribute) (d : Declared) (s : Suffix) (r : Ranged) → ranged d s ≡ Some r
    → steps.range_attribute at a d s ≡ steps.attribute_of at a r
attribute_is at (t.of_range p) d s r e =
    ap (λ o. option_or (option_map interval (o >>= range_of)) None) e ∙ or_none (option_map interval (range_of r))
attribute_is at (t.called a) d s r e =
    ap (λ o. option_or (option_map interval (met (is_reverse_range a.text) >> (o >>= λ x. option_map reversed (range_of x)))) (bound_of a.text >>= λ b. (o >>= λ x. option_map integer (bound at b x)))) e
    ∙ reversed_or (is_reverse_range a.text) (range_of r) (bound_in at a.text r) (λ h. ap (λ o. o >>= λ b. option_map integer (bound at b r)) (no_bound a.text h))

abbrev pub resized : (at : ℕ) → Option DeclaredRange → Typed → Typed
resized at (Some r) (elements j x) = elements j (u.sized at (declared_range r) x)
resized at o x = x

pub sized_by_range : (at : ℕ) (m : Meaning) (r : Option DeclaredRange) (x : Typed) → rules.sized_by at m r x ≡ resized at (sized_range m r) x
sized_by_range at (visibility.vector_type k is_resolved) (Some r) (elements j x) = refl
sized_by_range at (visibility.vector_type k is_resolved) (Some r) x = refl
sized_by_range at (visibility.vector_type k is_resolved) None x = refl
sized_by_range at m r x = refl
