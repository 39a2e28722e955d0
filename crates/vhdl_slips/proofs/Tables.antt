-- Tables that the language tells.
use Rattle.std.proofs.Common.{◌≡◌, refl}
use Rattle.vhdl_slips.specs.Forms.{told_in}
use Rattle.vhdl_lexer.specs.declared.language.Language.{Language}
use Rattle.vhdl_lexer.specs.declared.language.Language.TheVariants.{Profile, Wide}

-- what is made of each table is made of the one that counts
pub told_by : {A B : Type 0} (made : A → B) (language : Language) (narrow wide : A)
    → told_in language (made narrow) (made wide) ≡ made (told_in language narrow wide)
told_by made Profile narrow wide = refl
told_by made Wide narrow wide = refl
