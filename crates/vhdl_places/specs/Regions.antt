-- The tokens of the region in which a declaration stands (IEEE 1076-2008, 12.1), by those before it.
use Rattle.std.specs.Prelude.{◌==◌, ◌&&◌, ◌||◌, Bool, if◌then◌else◌, List, [], ◌∷◌, length, drop}
use Rattle.vhdl_slips.specs.Interfaces.{interface_of}
use Rattle.vhdl_slips.specs.Parts.{begins, behind_last, found_by}
use Rattle.vhdl_slips.specs.Words.{Read, text_of_first}
use Rattle.vhdl_lexer.specs.declared.token.Token.{Token}
use Rattle.vhdl_lexer.specs.declared.token.TokenKind.{TokenKind}
use Rattle.vhdl_lexer.specs.declared.token.TokenKind.TheVariants as k
use Rattle.vhdl_tree.specs.Lexeme.{same_kind}

-- ---- a component, a process or a generate

-- behind its word a `;` or a name and a `;` stand where that word is the one of its end, and a name and a map in
-- an instance
abbrev pub is_closed : (behind : List Token) → Bool
is_closed behind = begins k.Semicolon behind || begins k.Semicolon (drop 1 behind) || begins k.Map (drop 2 behind)

abbrev pub if_open : (behind : List Token) → List Token
if_open behind = if is_closed behind then [] else behind

-- what stands behind the last word of this kind, if what it begins isn't ended
abbrev pub open_region : TokenKind → (before : List Token) → List Token
open_region word before = if_open (behind_last word before)

-- the first of two that has tokens
abbrev pub or_else : (first second : List Token) → List Token
or_else first second = if length first == 0 then second else first

abbrev pub inner_region : (before : List Token) → List Token
inner_region before =
    or_else (open_region k.Component before) (or_else (open_region k.Process before) (open_region k.Generate before))

-- ---- a unit

-- `entity NAME is` or `architecture NAME of` stands at a token, these tokens standing behind it
abbrev pub begins_unit : Token → (behind : List Token) → Bool
begins_unit t behind =
    (same_kind t.kind k.Entity && begins k.Is (drop 1 behind))
    || (same_kind t.kind k.Architecture && begins k.Of (drop 1 behind))

abbrev pub unit_at : (found : List Token) → Token → (behind : List Token) → List Token
unit_at found t behind = if begins_unit t behind then behind else found

-- what stands behind the word of the last one that begins
abbrev pub last_unit : (before : List Token) → List Token
last_unit before = found_by unit_at [] before

-- an architecture has the generics and ports of its entity too
abbrev pub entity_part : (source : Read) → (unit : List Token) → List Token
entity_part source unit =
    if begins k.Of (drop 1 unit)
    then drop 2 (interface_of source.text (text_of_first source.text (drop 2 unit)) source.tokens) else []

-- behind `NAME is`, and behind `NAME of ENTITY is`
abbrev pub own_part : (unit : List Token) → List Token
own_part unit = if begins k.Of (drop 1 unit) then drop 4 unit else drop 2 unit
