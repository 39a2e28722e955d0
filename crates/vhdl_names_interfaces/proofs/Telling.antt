-- What is told of a part of a component is told of it.
use Rattle.std.proofs.Common.{◌≡◌, ◌≢◌, ℕ, Bool, true, false, List, [], ◌∷◌, Some, None, refl}
use Rattle.vhdl_tree.specs.Tree as t
use Rattle.vhdl_names_rules.specs.declared.fault.NameFault.{NameFault}
use Rattle.vhdl_names_rules.specs.declared.fault.NameFault.TheVariants.{NoMemory}
use Rattle.vhdl_names_rules.specs.declared.fault.NameProblem.TheVariants.{Undeclared, WrongKind}
use Rattle.vhdl_names_rules.specs.Rules.{met}
use Rattle.vhdl_names_rules.specs.Visibility.{Sight, declare, unfinished}
use Rattle.vhdl_names_rules.specs.Interfaces as are
use Rattle.vhdl_names_rules.specs.Interfaces.{EntityView, entity_named}
use Rattle.vhdl_names_rules.proofs.laws.Rules.{comes}
use Rattle.vhdl_names_rules.specs.problems.Broken.{Broken, Tells, nothing, ◌▸◌, refused, lacking, where_given}
use Rattle.vhdl_names_rules.specs.problems.Declarations.{standing_twice, end_name}
use Rattle.vhdl_names_rules.specs.problems.Interfaces.{component, interface, same_text}
use Rattle.vhdl_names_rules.proofs.Telling.{IsKept, told_same, told_left, told_right, told_given, told_lacking, unless_kept, lacking_kept, given_kept}
use Rattle.vhdl_names_rules.proofs.kept.Interfaces.{interface_kept}
use Rattle.vhdl_names_declarations.specs.Entered.{more}
use Rattle.vhdl_names_declarations.proofs.Breaking.{standing_once}
use Rattle.vhdl_names_interfaces.proofs.Interfacing.{told_nothing}
use Rattle.vhdl_names_interfaces.proofs.Standing.{same_entity, there}
use Rattle.vhdl_names_interfaces.specs.Components.{inner, has_interface, is_new}

abbrev pub named_twice : Sight → t.Component → Broken
named_twice s c = standing_twice s.region (c.name ∷ [])

abbrev has_entity : List EntityView → t.Component → Broken
has_entity es c = lacking Undeclared c.name.at (entity_named es c.name.text)

abbrev is_entity : List EntityView → t.Component → Broken
is_entity es c = where_given (entity_named es c.name.text) (same_text c)

abbrev interface_of : Sight → t.Component → Broken
interface_of s c = interface (inner s) c.generics c.ports

abbrev ends_so : t.Component → Broken
ends_so c = end_name c.name c.end_name

-- what stands behind its name
abbrev behind : List EntityView → Sight → t.Component → Broken
behind es s c = has_entity es c ▸ (is_entity es c ▸ (interface_of s c ▸ ends_so c))

holds : (b : Bool) → met b ≡ Some tt → b ≡ true
holds true h = refl
holds false h = absurd cc

-- a name that is new stands once
module _ (es : List EntityView) (s : Sight) (c : t.Component) (new : is_new s.region c.name.text ≡ Some tt) where
  once : IsKept (named_twice s c)
  once =
      let r = comes (more s.region (declare c.name.text unfinished ∷ [])) (λ _. there) tt new in
      standing_once s.region (declare c.name.text unfinished ∷ []) (c.name ∷ []) refl r.value r.is

  behind_name : (f : NameFault) → Tells (behind es s c) f → Tells (component es s c) f
  behind_name f h = told_right (named_twice s c) (behind es s c) f once h

  pub no_entity : (f : NameFault) → (f ≢ NoMemory → entity_named es c.name.text ≡ None) → Tells (refused Undeclared c.name.at) f → Tells (component es s c) f
  no_entity f none h =
      behind_name f (told_left (has_entity es c) (is_entity es c ▸ (interface_of s c ▸ ends_so c)) f (told_lacking Undeclared c.name.at (entity_named es c.name.text) f none h))

  -- it can't be declared twice at last
  pub named_last : (f : NameFault) → Tells (named_twice s c) f → Tells (component es s c) f
  named_last f h = told_nothing (component es s c) f (told_same (named_twice s c) nothing f once h)

  module _ (e : ℕ × EntityView) (is : entity_named es c.name.text ≡ Some e) where
    behind_entity : (f : NameFault) → Tells (is_entity es c ▸ (interface_of s c ▸ ends_so c)) f → Tells (component es s c) f
    behind_entity f h =
        behind_name f (told_right (has_entity es c) (is_entity es c ▸ (interface_of s c ▸ ends_so c)) f (lacking_kept Undeclared c.name.at (entity_named es c.name.text) e is) h)

    pub other_entity : (f : NameFault) → Tells (same_text c e) f → Tells (component es s c) f
    other_entity f h = behind_entity f (told_left (is_entity es c) (interface_of s c ▸ ends_so c) f (told_given (same_text c) (entity_named es c.name.text) e f is h))

    module _ (same : met (same_entity c e) ≡ Some tt) where
      behind_text : (f : NameFault) → Tells (interface_of s c ▸ ends_so c) f → Tells (component es s c) f
      behind_text f h =
          behind_entity f (told_right (is_entity es c) (interface_of s c ▸ ends_so c) f
          (given_kept (same_text c) (entity_named es c.name.text) e is (unless_kept WrongKind c.name.at (same_entity c e) (holds (same_entity c e) same))) h)

      pub own_region : (f : NameFault) → Tells (interface_of s c) f → Tells (component es s c) f
      own_region f h = behind_text f (told_left (interface_of s c) (ends_so c) f h)

      pub other_end : has_interface s c ≡ Some tt → (f : NameFault) → Tells (ends_so c) f → Tells (component es s c) f
      other_end given f h =
          let i = comes (are.interface (inner s) c.generics c.ports) (λ _. there) tt given in
          behind_text f (told_right (interface_of s c) (ends_so c) f (interface_kept (inner s) c.generics c.ports i.value refl i.is) h)
