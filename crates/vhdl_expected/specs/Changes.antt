-- Changes of a text at one of its tokens, and when the text then goes on.
use Rattle.std.specs.Prelude.{ℕ, List, [], ◌∷◌, ◌++◌, ◌⊎◌, map, take, drop}
use Rattle.std.specs.Borrow.{Bor}
use Rattle.vhdl_lexer.specs.declared.language.Language.{Language}
use Rattle.vhdl_lexer.specs.declared.token.Token.{Token}
use Rattle.vhdl_lexer.specs.declared.token.TokenKind.{TokenKind}
use Rattle.vhdl_parser_rules.specs.Expected.{Said, Texts, said_of}
use Rattle.vhdl_parser_rules.specs.Stuck.{BeginsIn}
use Rattle.vhdl_tree.specs.Levels.{IsDeep, most_open}
use Rattle.vhdl_tree.specs.Lexeme.{lexemes}

-- of a token: what is put before it, and how many are taken away from it on, or all where fewer are there; and what is
-- told where the text then goes on
pub record Change : Type 0 where
  pub put : List TokenKind
  pub taken : ℕ
  pub said : Said

abbrev pub change : (put : List TokenKind) → (taken : ℕ) → Said → Change
change put taken said = record { put = put; taken = taken; said = said }

-- ---- the same in the code

abbrev pub Changed : Type 0
Changed = Bor (List TokenKind) × ℕ × Texts

abbrev pub change_of : Changed → Change
change_of c = change c.0.now c.1 (said_of c.2)

-- ---- a text that is changed

-- a token of this kind in place of another
abbrev pub with_kind : Token → TokenKind → Token
with_kind t kind = record t { kind = kind }

abbrev pub change_first : Change → List Token → List Token
change_first c [] = []
change_first c (t ∷ ts) = map (with_kind t) c.put ++ drop c.taken (t ∷ ts)

-- the text with a change at this place
abbrev pub changed : (place : ℕ) → Change → List Token → List Token
changed place c tokens = take place tokens ++ change_first c (drop place tokens)

-- ---- a text that goes on

-- some tokens behind it make a file of this language of it
abbrev pub GoesOn : Language → (source : List ℕ) → List Token → Type 0
GoesOn language source tokens = BeginsIn language (lexemes source tokens)

-- none do, or too many levels are open
abbrev pub Breaks : Language → (source : List ℕ) → List Token → Type 0
Breaks language source tokens = (GoesOn language source tokens → ⊥) ⊎ IsDeep most_open (lexemes source tokens)
