-- The tokens in which a refused one is looked at: from the beginning of its design unit, or of an item of the context
-- clause before it, up to the next `;` behind it.
use Rattle.std.specs.Prelude.{ℕ, ◌+◌, ◌≤◌, ◌&&◌, not, length, nat_lt, Bool, true, false, if◌then◌else◌, List, [], ◌∷◌, take, drop}
use Rattle.std.specs.List.{prefix_len}
use Rattle.vhdl_lexer.specs.Cut.{AreWithin}
use Rattle.vhdl_lexer.specs.Kinds.{is_semicolon}
use Rattle.vhdl_lexer.specs.declared.language.Language.{Language}
use Rattle.vhdl_lexer.specs.declared.token.Token.{Token}
use Rattle.vhdl_lexer.specs.declared.token.TokenKind.{TokenKind}
use Rattle.vhdl_lexer.specs.declared.token.TokenKind.TheVariants as k
use Rattle.vhdl_expected.specs.declared.reading.Reading as code

-- in which language a source is read, tokens of it, and the place of the refused one among them
pub record Reading : Type 0 where
  pub language : Language
  pub source : List ℕ
  pub tokens : List Token
  pub refused : ℕ

abbrev pub reading_of : code.Reading → Reading
reading_of r =
    record { language = r.language; source = r.source.now; tokens = r.tokens.now; refused = r.refused }

-- its tokens are places in its source
abbrev pub IsWithin : code.Reading → Type 0
IsWithin r = AreWithin r.source.now r.tokens.now

-- the token is a part of the source
abbrev pub IsPart : (source : List ℕ) → Token → Type 0
IsPart source t = (t.start ≤ t.end) × (t.end ≤ length source)

-- ---- behind which the byte of the refused one stands

abbrev pub starts_before : (at : ℕ) → Token → Bool
starts_before at t = nat_lt t.start at

-- a design unit or an item of a context clause begins with such a token
abbrev pub is_head : TokenKind → Bool
is_head k.Library = true
is_head k.Use = true
is_head k.Entity = true
is_head k.Architecture = true
is_head _ = false

-- behind another it does
abbrev pub begins_unit : (last kind : TokenKind) → Bool
begins_unit last kind = is_semicolon last && is_head kind

-- the tokens from the last such beginning on; `here`: from the last one before those that are left
abbrev pub unit_from : (last : TokenKind) → (here left : List Token) → List Token
unit_from last here [] = here
unit_from last here (t ∷ ts) = unit_from t.kind (if begins_unit last t.kind then t ∷ ts else here) ts

abbrev pub unit : List Token → List Token
unit tokens = unit_from k.Semicolon tokens tokens

abbrev pub before : (at : ℕ) → List Token → List Token
before at tokens = unit (take (prefix_len (starts_before at) tokens) tokens)

-- ---- from the refused one on

abbrev pub goes_on : Token → Bool
goes_on t = not (is_semicolon t.kind)

-- the first token, and those behind it up to the first `;`, that one included
abbrev pub statement : List Token → List Token
statement [] = []
statement (t ∷ ts) = t ∷ take (prefix_len goes_on ts + 1) ts

abbrev pub from : (at : ℕ) → List Token → List Token
from at tokens = statement (drop (prefix_len (starts_before at) tokens) tokens)
