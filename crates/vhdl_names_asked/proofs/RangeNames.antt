-- The range that a name is.
use Rattle.std.proofs.Common.{◌≡◌, Option, Some, None, sym, ap, ◌∙◌}
use Rattle.vhdl_lexer.specs.declared.language.Language.{Language}
use Rattle.vhdl_tree.specs.Tree as t
use Rattle.vhdl_tree.specs.Tree.{Attribute, Name}
use Rattle.vhdl_names_rules.specs.declared.fault.NameFault.{NameFault}
use Rattle.vhdl_names_rules.specs.declared.fault.NameProblem.TheVariants.{TypeMismatch}
use Rattle.vhdl_names_rules.specs.units.Expressions.{Range}
use Rattle.vhdl_names_rules.specs.Rules.{◌>>=◌, wider}
use Rattle.vhdl_names_rules.specs.Visibility as visibility
use Rattle.vhdl_names_rules.specs.Visibility.{Sight, Declared}
use Rattle.vhdl_names_rules.specs.Names.{Suffix}
use Rattle.vhdl_names_rules.specs.Ranges.{named_range}
use Rattle.vhdl_names_rules.specs.Expressions as are
use Rattle.vhdl_names_rules.specs.problems.Broken.{Broken, Tells, refused, ◌▸◌, lacking, where_given}
use Rattle.vhdl_names_rules.specs.problems.Expressions as broken
use Rattle.vhdl_names_rules.proofs.Telling.{told_same, told_right, told_given}
use Rattle.vhdl_names_rules.proofs.kept.Expressions.{declared_kept, typed_suffix_kept}
use Rattle.vhdl_names_asked.specs.Asked.{subtype_range, attribute_range_breaks}

pub attribute_range_is : (sight : Sight) (n : Name) (a : Attribute) → n.attribute ≡ Some a → broken.range_named sight n n.attribute ≡ attribute_range_breaks sight n
attribute_range_is sight n a h =
    ap (broken.range_named sight n) h
    ∙ sym (ap (λ (o : Option Attribute). broken.typed sight (t.named n.identifier n.suffix o)
    ▸ where_given (are.typed sight (t.named n.identifier n.suffix o)) (λ x. lacking TypeMismatch n.identifier.at (are.as_range x))) h)

abbrev asked : Option Declared → Option Suffix → Language → Option Range
asked o q language = o >>= λ d. (q >>= λ s. wider language (named_range None d s))

abbrev asked_breaks : Sight → Name → Broken
asked_breaks sight n =
    where_given (visibility.declaration sight n.identifier.text) (λ d. where_given (are.typed_suffix sight n.suffix) (λ s.
    lacking (broken.no_range d.meaning) n.identifier.at (wider sight.language (named_range None d s))))

module _ (sight : Sight) (n : Name) (d : Declared) (s : Suffix) (o : Option Range)
    (declared : visibility.declaration sight n.identifier.text ≡ Some d) (given : are.typed_suffix sight n.suffix ≡ Some s) where
  pub subtype_range_by : wider sight.language (named_range None d s) ≡ o → subtype_range sight n ≡ o
  subtype_range_by h =
      ap (λ p. asked p (are.typed_suffix sight n.suffix) sight.language) declared ∙ ap (λ q. asked (Some d) q sight.language) given ∙ h

  pub subtype_range_told : (f : NameFault) → wider sight.language (named_range None d s) ≡ None → Tells (refused (broken.no_range d.meaning) n.identifier.at) f → Tells (broken.subtype_range sight n) f
  subtype_range_told f h w =
      told_right (broken.meaning sight n.identifier) (broken.typed_suffix sight n.suffix ▸ asked_breaks sight n) f (declared_kept sight n.identifier d declared)
      (told_right (broken.typed_suffix sight n.suffix) (asked_breaks sight n) f (typed_suffix_kept n.suffix sight s given)
      (told_given _ (visibility.declaration sight n.identifier.text) d f declared
      (told_given (λ s. lacking (broken.no_range d.meaning) n.identifier.at (wider sight.language (named_range None d s))) (are.typed_suffix sight n.suffix) s f given
      (told_same (refused (broken.no_range d.meaning) n.identifier.at) _ f (sym (ap (lacking (broken.no_range d.meaning) n.identifier.at) h)) w))))
