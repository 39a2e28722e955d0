-- What is read of VHDL in the wider language alone.
use Rattle.vhdl_lexer.specs.declared.language.Language.{Language}
use Rattle.vhdl_lexer.specs.declared.language.Language.TheVariants.{Profile, Wide}

-- what the wider language alone has
abbrev pub IsWide : Language → Type 0
IsWide Profile = ⊥
IsWide Wide = Unit {0}
