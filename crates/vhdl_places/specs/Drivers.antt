-- Two statements that assign a signal, by its declaration.
use Rattle.std.specs.Prelude.{ℕ, if◌then◌else◌, List, [], ◌∷◌, Option, Some, None}
use Rattle.vhdl_slips.specs.Parts.{has, up_to}
use Rattle.vhdl_slips.specs.Words as words
use Rattle.vhdl_slips.specs.Words.{text_of_first, with_tokens}
use Rattle.vhdl_lexer.specs.declared.token.Token.{Token}
use Rattle.vhdl_lexer.specs.declared.token.TokenKind.TheVariants as k
use Rattle.vhdl_places.specs.Maps.{architecture_of}
use Rattle.vhdl_places.specs.Regions.{last_unit}
use Rattle.vhdl_places.specs.Statements.{behind_statement}
use Rattle.vhdl_places.specs.Uses.{first_use}
use Rattle.vhdl_places.specs.declared.uses.Use.TheVariants.{Assigned}

-- What may assign a signal, these tokens standing from its declaration on and those before it: the rest of its
-- architecture; of a port's, which no `begin` follows before the next architecture, the architecture of its entity.
abbrev pub reach : (text : List ℕ) → (before tokens : List Token) → List Token
reach text before tokens =
    if has k.Begin (up_to k.Architecture tokens) then up_to k.Architecture tokens
    else architecture_of text (text_of_first text (last_unit before)) tokens

-- the first assignment of this name there
abbrev pub first_driver : (text name : List ℕ) → (before tokens : List Token) → Option Token
first_driver text name before tokens = first_use Assigned text (name ∷ []) (reach text before tokens)

-- the tokens from another on
abbrev pub from_token : (text : List ℕ) → Token → List Token → List Token
from_token text t tokens = (words.from t.start (with_tokens text tokens)).tokens

-- the first of another statement
abbrev pub behind_driver : (text name : List ℕ) → (tokens : List Token) → Option Token → Option Token
behind_driver text name tokens None = None
behind_driver text name tokens (Some t) =
    first_use Assigned text (name ∷ []) (behind_statement (from_token text t tokens))

abbrev pub second_driver : (text name : List ℕ) → (before tokens : List Token) → Option Token
second_driver text name before tokens =
    behind_driver text name (reach text before tokens) (first_driver text name before tokens)
