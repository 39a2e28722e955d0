-- Words: the tokens of a source as explanations look at them, and how a sentence names one.
use Rattle.std.specs.Prelude.{ℕ, nat_lt, Bool, List, [], ◌∷◌, ◌++◌, take, drop, slice_range, codes}
use Rattle.std.specs.List.{prefix_len}
use Rattle.vhdl_slips.specs.declared.lexed.Lexed.{Lexed}
use Rattle.vhdl_lexer.specs.declared.token.Token.{Token}

-- a text and tokens of it
pub record Read : Type 0 where
  pub text : List ℕ
  pub tokens : List Token

abbrev pub read_of : Lexed → Read
read_of words = record { text = words.text.now; tokens = words.tokens.now }

abbrev pub with_tokens : (text : List ℕ) → List Token → Read
with_tokens text tokens = record { text = text; tokens = tokens }

-- how a token is written
abbrev pub text_of : (text : List ℕ) → Token → List ℕ
text_of text t = slice_range text t.start t.end

-- ---- those before a byte of the text, and those from it on

abbrev pub starts_before : (at : ℕ) → Token → Bool
starts_before at t = nat_lt t.start at

abbrev pub before : (at : ℕ) → Read → Read
before at read = with_tokens read.text (take (prefix_len (starts_before at) read.tokens) read.tokens)

abbrev pub from : (at : ℕ) → Read → Read
from at read = with_tokens read.text (drop (prefix_len (starts_before at) read.tokens) read.tokens)

abbrev pub text_of_first : (text : List ℕ) → List Token → List ℕ
text_of_first text [] = []
text_of_first text (t ∷ ts) = text_of text t

-- how the first of them is written
abbrev pub first_text : Read → List ℕ
first_text read = text_of_first read.text read.tokens

-- ---- how a sentence names one

-- a word in ticks
abbrev pub quoted : (word : List ℕ) → List ℕ
quoted word = codes "`" ++ word ++ codes "` "

abbrev pub first_named : (text : List ℕ) → List Token → List ℕ
first_named text [] = codes "the end of the text "
first_named text (t ∷ ts) = quoted (text_of text t)

-- the first of them
abbrev pub subject : Read → List ℕ
subject read = first_named read.text read.tokens
