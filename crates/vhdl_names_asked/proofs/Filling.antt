-- (others => e): what it breaks where the type has no vectors, or e is no element.
use Rattle.std.proofs.Common.{◌≡◌, ℕ, true, false, refl, ap, ◌∙◌}
use Rattle.vhdl_names_rules.specs.declared.fault.NameProblem.TheVariants.{TypeMismatch}
use Rattle.vhdl_names_rules.specs.declared.kind.ElementKind.{ElementKind}
use Rattle.vhdl_names_rules.specs.declared.kind.ObjectType.{ObjectType}
use Rattle.vhdl_names_rules.specs.declared.kind.ObjectType.TheVariants.{Elements}
use Rattle.vhdl_names_rules.specs.Operators.{is_vector}
use Rattle.vhdl_names_rules.specs.problems.Broken.{Broken, refused, ◌▸◌, unless}
use Rattle.vhdl_names_rules.specs.problems.Expressions.{is_vector_type}

pub not_vector : (type : ObjectType) → ((k : ElementKind) → type ≡ Elements k → ⊥) → is_vector_type type ≡ false
not_vector (Elements k) other = absurd (other k refl)
not_vector type other = refl

-- where the type is none of vectors
pub no_vectors : (type : ObjectType) (at : ℕ) (b : Broken) → is_vector_type type ≡ false → (unless TypeMismatch at (is_vector_type type) ▸ b) ≡ refused TypeMismatch at
unfolding ◌▸◌
no_vectors type at b h = ap (λ v. unless TypeMismatch at v ▸ b) h

-- where it is of vectors
pub of_vectors : (type : ObjectType) (k : ElementKind) (at : ℕ) (b : Broken) → type ≡ Elements k → is_vector k ≡ true → (unless TypeMismatch at (is_vector_type type) ▸ b) ≡ b
unfolding ◌▸◌
of_vectors type k at b is h = ap (λ t. unless TypeMismatch at (is_vector_type t) ▸ b) is ∙ ap (λ v. unless TypeMismatch at v ▸ b) h

-- by the type alone
pub are_vectors : (type : ObjectType) (at : ℕ) (b : Broken) → is_vector_type type ≡ true → (unless TypeMismatch at (is_vector_type type) ▸ b) ≡ b
unfolding ◌▸◌
are_vectors type at b h = ap (λ v. unless TypeMismatch at v ▸ b) h
