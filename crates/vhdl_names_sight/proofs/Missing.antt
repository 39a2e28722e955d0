-- Names that a language offers.
use Rattle.std.proofs.Common.{◌≡◌, Bool, true, false, List, [], ◌∷◌, ◌++◌, refl, sym, ap, ◌∙◌}
use Rattle.std.specs.Prelude.{◌||◌, bytes_eq, codes}
use Rattle.vhdl_lexer.specs.declared.language.Language.TheVariants.{Profile, Wide}
use Rattle.vhdl_names_rules.specs.Visibility.{Name}
use Rattle.vhdl_names_rules.specs.problems.Missing.{is_named, offered}

or_assoc : (a b c : Bool) → ((a || b) || c) ≡ (a || (b || c))
or_assoc true b c = refl
or_assoc false b c = refl

named_append : (xs ys : List Name) (n : Name) → is_named (xs ++ ys) n ≡ (is_named xs n || is_named ys n)
named_append [] ys n = refl
named_append (x ∷ xs) ys n = ap (λ b. bytes_eq n x || b) (named_append xs ys n) ∙ sym (or_assoc (bytes_eq n x) (is_named xs n) (is_named ys n))

-- the wider language offers what the narrow one does, and more
pub offered_wide : (n : Name) → is_named (offered Wide) n ≡ (is_named (offered Profile) n || is_named (codes "to_integer" ∷ []) n)
offered_wide n = named_append (offered Profile) (codes "to_integer" ∷ []) n
