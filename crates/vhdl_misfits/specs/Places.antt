-- What stands before a token, and what follows a name.
use Rattle.std.specs.Prelude.{ℕ, ◌+◌, ◌-◌, ◌==◌, ◌&&◌, ◌||◌, not, Bool, false, if◌then◌else◌, List, [], ◌∷◌, drop}
use Rattle.std.specs.List.{list_all, list_any, prefix_len}
use Rattle.vhdl_slips.specs.Parts.{begins, has, up_to}
use Rattle.vhdl_misfits.specs.Sorts.{stand}
use Rattle.vhdl_misfits.specs.declared.sort.Sort.TheVariants as sort
use Rattle.vhdl_lexer.specs.Kinds.{is_one_of}
use Rattle.vhdl_lexer.specs.declared.token.Token.{Token}
use Rattle.vhdl_lexer.specs.declared.token.TokenKind.{TokenKind}
use Rattle.vhdl_lexer.specs.declared.token.TokenKind.TheVariants as k
use Rattle.vhdl_tree.specs.Lexeme.{same_kind}

-- ---- of several kinds

-- the first of some tokens is of one of these kinds
abbrev pub begins_one_of : List TokenKind → (tokens : List Token) → Bool
begins_one_of kinds (t ∷ ts) = is_one_of kinds t.kind
begins_one_of kinds [] = false

-- one of them is
abbrev pub has_one_of : List TokenKind → (tokens : List Token) → Bool
has_one_of kinds tokens = list_any (λ t. is_one_of kinds t.kind) tokens

abbrev pub is_no_one_of : List TokenKind → Token → Bool
is_no_one_of kinds t = not (is_one_of kinds t.kind)

-- what stands from the first that is on
abbrev pub from_one_of : List TokenKind → (tokens : List Token) → List Token
from_one_of kinds tokens = drop (prefix_len (is_no_one_of kinds) tokens) tokens

-- what stands behind it
abbrev pub behind_one_of : List TokenKind → (tokens : List Token) → List Token
behind_one_of kinds tokens = drop 1 (from_one_of kinds tokens)

-- ---- before a token, these being the last two

-- a statement may begin; or what stands behind a formal's arrow, the else of a value, or the colon of a declaration
abbrev pub begins_statement : (last_two : List Token) → Bool
begins_statement last_two = stand (sort.Any ∷ sort.Statement ∷ []) last_two

-- ---- parentheses behind a name

-- this kind opens parentheses of a name: the first behind the name itself, and others in these
abbrev pub opens : (opened : ℕ) → (last : TokenKind) → TokenKind → Bool
opens opened last kind = same_kind kind k.LeftParen && (not (opened == 0) || same_kind last k.Identifier)

-- how many of these are open behind a token, `last` being the kind of the one before it
abbrev pub open_behind : (opened : ℕ) → (last : TokenKind) → TokenKind → ℕ
open_behind opened last kind =
    if opens opened last kind then opened + 1 else if same_kind kind k.RightParen then opened - 1 else opened

-- a token of one of these kinds, and as deep as is asked for
abbrev pub stops_here : (stops : List TokenKind) → (depth opened : ℕ) → TokenKind → Bool
stops_here stops depth opened kind = opened == depth && is_one_of stops kind

-- what stands from the first such token on, so many being open before these tokens, and `last` the kind of the one
-- before them
abbrev pub from_depth : (depth : ℕ) → (stops : List TokenKind)
    → (opened : ℕ) → (last : TokenKind) → List Token → List Token
from_depth depth stops opened last [] = []
from_depth depth stops opened last (t ∷ ts) =
    if stops_here stops depth opened t.kind then t ∷ ts
    else from_depth depth stops (open_behind opened last t.kind) t.kind ts

-- the same of a text or value: with depth 0 in no index, and in no argument of a call; with 1 in those of the name at
-- the front, if it has any
abbrev pub at_depth : (depth : ℕ) → (stops : List TokenKind) → List Token → List Token
at_depth depth stops tokens = from_depth depth stops 0 k.Semicolon tokens

-- what stands behind the name at the front, and the parentheses behind it
abbrev pub behind_name : List Token → List Token
behind_name tokens =
    if begins k.LeftParen (drop 1 tokens) then drop 1 (at_depth 1 (k.RightParen ∷ []) tokens) else drop 1 tokens

-- what stands in them has no comma
abbrev pub has_one_argument : List Token → Bool
has_one_argument tokens = begins k.RightParen (at_depth 1 (k.Comma ∷ k.RightParen ∷ []) tokens)

-- to or downto stands in them
abbrev pub has_slice : List Token → Bool
has_slice tokens = begins_one_of (k.To ∷ k.Downto ∷ []) (at_depth 1 (k.RightParen ∷ k.To ∷ k.Downto ∷ []) tokens)

-- the name at the front is assigned to
abbrev pub is_target : List Token → Bool
is_target tokens = begins_one_of (k.LessEqual ∷ k.Assign ∷ []) (behind_name tokens)

-- ---- loops and declarations

-- one loop or generate alone has begun, and none has ended: the word stands once
abbrev pub is_inside_loop : (behind : List Token) → Bool
is_inside_loop behind =
    has_one_of (k.Loop ∷ k.Generate ∷ []) behind
    && not (has_one_of (k.Loop ∷ k.Generate ∷ []) (behind_one_of (k.Loop ∷ k.Generate ∷ []) behind))

-- names of a declaration: NAME { , NAME }
abbrev pub are_names : List Token → Bool
are_names tokens = list_all (λ t. is_one_of (k.Identifier ∷ k.Comma ∷ []) t.kind) tokens

-- these tokens begin with names of a declaration, and a colon
abbrev pub begins_declaration : List Token → Bool
begins_declaration tokens = has k.Colon tokens && are_names (up_to k.Colon tokens)
