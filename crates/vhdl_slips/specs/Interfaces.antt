-- The entity of a name (IEEE 1076-2008, 3.2): its generics and its ports.
use Rattle.std.specs.Prelude.{ℕ, ◌&&◌, ◌||◌, Bool, false, if◌then◌else◌, List, [], ◌∷◌, Option, Some, None}
use Rattle.std.specs.Str.{str_eq_ignore_ascii_case}
use Rattle.vhdl_slips.specs.Words.{text_of}
use Rattle.vhdl_slips.specs.Parts.{from, up_to}
use Rattle.vhdl_lexer.specs.declared.token.Token.{Token}
use Rattle.vhdl_lexer.specs.declared.token.TokenKind.TheVariants as k
use Rattle.vhdl_tree.specs.Lexeme.{same_kind}

-- a source shows an architecture of this entity where the tokens begin with `architecture X of NAME` (3.3.1)
abbrev pub entity_at : List Token → Option Token
entity_at (first ∷ second ∷ third ∷ name ∷ ts) =
    if same_kind first.kind k.Architecture && same_kind third.kind k.Of then Some name else None
entity_at _ = None

-- these tokens begin with `entity NAME is`
abbrev pub begins_entity : (text name : List ℕ) → List Token → Bool
begins_entity text name (first ∷ second ∷ third ∷ ts) =
    same_kind first.kind k.Entity && same_kind third.kind k.Is && str_eq_ignore_ascii_case (text_of text second) name
begins_entity text name _ = false

-- what stands behind the word entity of the first entity of this name, up to its first `end`; nothing where there
-- is none
abbrev pub interface_of : (text name : List ℕ) → List Token → List Token
interface_of text name [] = []
interface_of text name (t ∷ ts) = if begins_entity text name (t ∷ ts) then up_to k.End ts else interface_of text name ts

-- its ports stand from the word port on, and its generics before that
abbrev pub formals : (is_port : Bool) → (interface : List Token) → List Token
formals is_port interface = if is_port then from k.Port interface else from k.Generic (up_to k.Port interface)

-- a name stands before a comma or a colon
abbrev pub is_declared : Token → (next : Token) → Bool
is_declared t next = same_kind t.kind k.Identifier && (same_kind next.kind k.Comma || same_kind next.kind k.Colon)

-- the generic or port of which the name stands at the front of these tokens
abbrev pub formal_at : List Token → Option Token
formal_at (t ∷ next ∷ ts) = if is_declared t next then Some t else None
formal_at _ = None
