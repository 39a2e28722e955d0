-- What a front is asked for.
use Rattle.std.specs.Prelude.{ℕ, List}
use Rattle.vhdl_expand_rules.specs.Tops.{Top, plain}
use Rattle.vhdl_expand_rules.specs.views.Tops.{top_view}
use Rattle.vhdl_lexer.specs.declared.language.Language.{Language}
use Rattle.vhdl_lexer.specs.declared.language.Language.TheVariants.{Profile, Wide}
use Rattle.vhdl_front_rules.specs.declared.asked.Asked as code

-- the netlist of a source that is read in this language, under this top
pub record Asked : Type 0 where
  pub language : Language
  pub source : List ℕ
  pub top : Top

abbrev pub asked_view : code.Asked → Asked
asked_view asked = record { language = asked.language; source = asked.source.now; top = top_view asked.top }

-- in the language of docs/LANGUAGE.md, with no generic set
abbrev pub plainly : (source top : List ℕ) → Asked
plainly source top = record { language = Profile; source = source; top = plain top }

-- the same of another source
abbrev pub of_text : Asked → (text : List ℕ) → Asked
of_text asked text = record asked { source = text }

-- the same in the wider language
abbrev pub widely : Asked → Asked
widely asked = record asked { language = Wide }
