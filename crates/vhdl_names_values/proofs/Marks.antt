-- Subtype indications, their mark first.
use Rattle.std.proofs.Common.{◌≡◌, Bool, Option, Some, None, refl}
use Rattle.vhdl_tree.specs.Tree as t
use Rattle.vhdl_names_rules.specs.units.Expressions.{Range}
use Rattle.vhdl_names_rules.specs.Rules.{◌>>=◌}
use Rattle.vhdl_names_rules.specs.Visibility.{Sight, Declared, DeclaredRange, declaration}
use Rattle.vhdl_names_rules.specs.Subtypes.{subtype, marked, one_range, index_range}
use Rattle.vhdl_names_rules.specs.declared.kind.ElementKind.{ElementKind}
use Rattle.vhdl_names_sight.specs.declared.meaning.Meaning.{Meaning as DeclaredMeaning}
use Rattle.vhdl_names_sight.specs.declared.meaning.Meaning.TheVariants as d
use Rattle.vhdl_names_sight.specs.Views.{meaning_view}
use Rattle.vhdl_names_values.specs.Marking.{marked_alone, marked_with}

alone : (p : Option Declared) → (p >>= λ m. (one_range m.range None >>= λ x. marked m.meaning x)) ≡ (p >>= λ m. marked_alone m)
alone None = refl
alone (Some m) = refl

ranged : (o : Option Range) (p : Option Declared) →
    ((o >>= λ r. Some (Some r)) >>= λ r. (p >>= λ m. (one_range m.range r >>= λ x. marked m.meaning x)))
    ≡ (p >>= λ m. (o >>= λ r. (one_range m.range (Some r) >>= λ x. marked m.meaning x)))
ranged None None = refl
ranged None (Some m) = refl
ranged (Some r) None = refl
ranged (Some r) (Some m) = refl

pub subtype_alone : (sight : Sight) (n : t.Ident) → subtype sight (record { mark = n; constraint = None }) ≡ (declaration sight n.text >>= λ m. marked_alone m)
unfolding subtype
subtype_alone sight n = alone (declaration sight n.text)

pub subtype_ranged : (sight : Sight) (n : t.Ident) (c : t.Constraint) →
    subtype sight (record { mark = n; constraint = Some c }) ≡ (declaration sight n.text >>= λ m. marked_with sight m c)
unfolding subtype
subtype_ranged sight n c = ranged (index_range sight c) (declaration sight n.text)

-- what takes no range
no_marked : (m : DeclaredMeaning) → ((kind : ElementKind) (is_resolved : Bool) → m ≡ d.VectorType kind is_resolved → ⊥) → (r : Range) → marked (meaning_view m) (Some r) ≡ None
no_marked (d.VectorType kind is_resolved) other r = absurd (other kind is_resolved refl)
no_marked m other r = refl

-- takes none that is broken either
pub no_range : (m : DeclaredMeaning) → ((kind : ElementKind) (is_resolved : Bool) → m ≡ d.VectorType kind is_resolved → ⊥) → (o : Option Range) (own : Option DeclaredRange) →
    (o >>= λ r. (one_range own (Some r) >>= λ x. marked (meaning_view m) x)) ≡ None
no_range m other None own = refl
no_range m other (Some r) None = no_marked m other r
no_range m other (Some r) (Some own) = refl

-- one range at most
pub ranged_twice : (o : Option Range) (own : DeclaredRange) (m : DeclaredMeaning) → (o >>= λ r. (one_range (Some own) (Some r) >>= λ x. marked (meaning_view m) x)) ≡ None
ranged_twice None own m = refl
ranged_twice (Some r) own m = refl
