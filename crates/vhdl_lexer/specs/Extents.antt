-- Which bytes are taken out with a fault that stands at a byte: the innermost statement that has it, or the
-- declaration, up to its `;`. A process is taken out whole for what stands in its head, its variables too, or in its
-- wait. What the rest may stand on stays: context clauses, entities, interfaces, components, types, and the choices of
-- a case.
use Rattle.std.specs.Prelude.{ℕ, Bool, ◌+◌, ◌-◌, ◌==◌, ◌&&◌, not, false, nat_le, nat_lt, if◌then◌else◌, List, [], ◌∷◌, Option, Some, None}
use Rattle.vhdl_lexer.specs.Kinds.{is_end, is_semicolon, is_wait, opens, is_boundary, is_left, is_right, may_go}
use Rattle.vhdl_lexer.specs.declared.extent.Extent.{Extent}
use Rattle.vhdl_lexer.specs.Bytes.{ends_line}
use Rattle.vhdl_lexer.specs.declared.token.Token.{Token}
use Rattle.vhdl_lexer.specs.declared.token.TokenKind.{TokenKind}
use Rattle.vhdl_lexer.specs.declared.token.TokenKind.TheVariants as k

-- ---- where it begins

-- how many parentheses are open behind a token
abbrev pub depth_behind : (depth : ℕ) → (last kind : TokenKind) → ℕ
depth_behind depth last kind = if is_left last kind then depth + 1 else (if is_right kind then depth - 1 else depth)

-- a wait stands ahead
abbrev pub waits : (ahead : List Token) → Bool
waits [] = false
waits (t ∷ ts) = is_wait t.kind

-- a statement or declaration may begin behind this token, behind which so many parentheses are open; a wait doesn't
abbrev pub begins_behind : (depth : ℕ) → (last kind : TokenKind) → (ahead : List Token) → Bool
begins_behind depth last kind ahead = (depth == 0) && is_boundary last kind && not (waits ahead)

-- The tokens from where the innermost statement begins that has the byte: behind the last boundary before the byte.
-- `here`: from where the one begins that is being read.
abbrev pub beginning : (at depth : ℕ) → (last : TokenKind) → (here left : List Token) → List Token
beginning at depth last here [] = here
beginning at depth last here (t ∷ ts) =
    if nat_le at t.start then here
    else beginning at (depth_behind depth last t.kind) t.kind
    (if begins_behind (depth_behind depth last t.kind) last t.kind ts then ts else here) ts

-- ---- where it ends

-- how many statements with an `end` are open behind a token, by whether it opens one
abbrev pub opened_behind : (opened : ℕ) → TokenKind → (opens : Bool) → ℕ
opened_behind opened kind opens = if is_end kind then opened - 1 else (if opens then opened + 1 else opened)

abbrev pub open_behind : (opened : ℕ) → (last kind : TokenKind) → ℕ
open_behind opened last kind = opened_behind opened kind (opens last kind)

-- a statement or declaration ends here, where so many statements with an `end` are open
abbrev pub ends_here : (opened : ℕ) → TokenKind → Bool
ends_here opened kind = (opened == 0) && is_semicolon kind

-- the byte behind the first `;` that stands in no statement with an `end`, of which so many are open
abbrev pub end_behind : (opened : ℕ) → (last : TokenKind) → List Token → Option ℕ
end_behind opened last [] = None
end_behind opened last (t ∷ ts) =
    if ends_here opened t.kind then Some t.end else end_behind (open_behind opened last t.kind) t.kind ts

-- ---- what is taken out

abbrev pub up_to : (start : ℕ) → Option ℕ → Option Extent
up_to start None = None
up_to start (Some end) = Some (record { start = start; end = end })

-- the statement or declaration with which these tokens begin, if it may be taken out
abbrev pub taken_from : List Token → Option Extent
taken_from [] = None
taken_from (t ∷ ts) = if may_go t.kind then up_to t.start (end_behind 0 k.Semicolon (t ∷ ts)) else None

-- of the tokens of a source, what is taken out with a fault at this byte
unfoldable pub statement_at : List Token → (at : ℕ) → Option Extent
statement_at tokens at = taken_from (beginning at 0 k.Semicolon tokens tokens)

-- ---- what is left

-- a blank; what ends a line stays
abbrev pub blank : ℕ → ℕ
blank byte = if ends_line byte then byte else 32

abbrev pub is_in : Extent → (at : ℕ) → Bool
is_in extent at = nat_le extent.start at && nat_lt at extent.end

abbrev pub blanked_at : Extent → (at byte : ℕ) → ℕ
blanked_at extent at byte = if is_in extent at then blank byte else byte

-- the text from this byte on with blanks in place of the bytes of the extent
abbrev pub blanked_from : Extent → (at : ℕ) → List ℕ → List ℕ
blanked_from extent at [] = []
blanked_from extent at (byte ∷ bytes) = blanked_at extent at byte ∷ blanked_from extent (at + 1) bytes

-- the source with blanks in place of the bytes of the extent: what is left stands where it stood
unfoldable pub blanked : Extent → List ℕ → List ℕ
blanked extent source = blanked_from extent 0 source
