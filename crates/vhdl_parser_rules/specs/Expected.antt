-- What is told of a refused token.
use Rattle.std.specs.Prelude.{ℕ, List}
use Rattle.std.specs.Borrow.{Bor}
use Rattle.vhdl_parser_rules.specs.declared.expected.Expected as code
use Rattle.vhdl_parser_rules.specs.declared.expected.Expected.TheVariants as variant

-- what is wrong, and what a designer does about it
abbrev pub Said : Type 0
Said = List ℕ × List ℕ

pub data Expected : Type 0 where
  nothing : Expected
  -- told whatever stands at the token
  surely : Said → Expected
  -- told where no form is known that isn't read
  perhaps : Said → Expected

-- ---- the same in the code

abbrev pub Texts : Type 0
Texts = Bor (List ℕ) × Bor (List ℕ)

abbrev pub said_of : Texts → Said
said_of texts = (texts.0.now, texts.1.now)

abbrev pub expected_of : code.Expected → Expected
expected_of variant.Nothing = nothing
expected_of (variant.Surely said) = surely (said.0.now, said.1.now)
expected_of (variant.Perhaps said) = perhaps (said.0.now, said.1.now)
