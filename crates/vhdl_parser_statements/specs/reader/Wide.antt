-- What the parser reads in the wider language alone.
use Rattle.std.specs.Prelude.{Bool, true, false}
use Rattle.vhdl_lexer.specs.declared.language.Language.{Language}
use Rattle.vhdl_lexer.specs.declared.language.Language.TheVariants.{Profile, Wide}
use Rattle.vhdl_parser_expressions.specs.reader.Input.{Parser, pure, refuse}

abbrev pub is_wide : Language → Bool
is_wide Profile = false
is_wide Wide = true

-- goes on in the wider language
unfoldable pub wide : Language → Parser (Unit {0})
wide Profile = refuse
wide Wide = pure tt
