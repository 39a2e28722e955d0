-- The statements and declarations of an architecture, as its tokens show them without being read: where those begin in
-- which a token stands, and where one ends (IEEE 1076-2008, 3.3.2, 10 and 11).
use Rattle.std.specs.Prelude.{ℕ, ◌+◌, ◌-◌, ◌==◌, ◌&&◌, ◌||◌, not, nat_le, Bool, true, false, if◌then◌else◌, List, [], ◌∷◌}
use Rattle.vhdl_lexer.specs.Extents as extents
use Rattle.vhdl_lexer.specs.Extents.{depth_behind}
use Rattle.vhdl_lexer.specs.Kinds.{is_end, is_semicolon}
use Rattle.vhdl_lexer.specs.declared.token.Token.{Token}
use Rattle.vhdl_lexer.specs.declared.token.TokenKind.{TokenKind}
use Rattle.vhdl_lexer.specs.declared.token.TokenKind.TheVariants as k
use Rattle.vhdl_parser_further.specs.Early.{begins}
use Rattle.vhdl_parser_further.specs.Kinds.{closes, is_begin, is_boundary, is_left_paren, is_right_paren, opens, wants_more}
use Rattle.vhdl_parser_further.specs.Units.{begins_architecture, begins_entity}
use Rattle.vhdl_parser_further.specs.declared.place.Place.{Place}
use Rattle.vhdl_parser_further.specs.declared.sequel.Sequel.{Sequel}

-- how many with an `end` are open behind a token
abbrev pub open_behind : (opened : ℕ) → (last kind : TokenKind) → ℕ
open_behind opened last kind = extents.opened_behind opened kind (opens last kind)

-- ---- where they begin

-- what follows this token stands in the architecture still: its own `end` isn't before
abbrev pub in_behind : Place → TokenKind → Bool
in_behind p kind = p.in_architecture && not ((p.opened == 0) && is_end kind)

-- the `begin` of the architecture stands before what follows this token
abbrev pub begun_behind : Place → TokenKind → Bool
begun_behind p kind = p.begun || (p.opened == 0) && is_begin kind

-- one begins behind this token: outside of parentheses and of the heads of processes
abbrev pub begins_behind : Place → TokenKind → Bool
begins_behind p kind = (depth_behind p.depth p.last kind == 0) && is_boundary p.last kind

-- and nothing with an `end` is open there
abbrev pub outer_behind : Place → TokenKind → Bool
outer_behind p kind = (open_behind p.opened p.last kind == 0) && begins_behind p kind

-- behind one token more of a unit
abbrev pub step : Place → TokenKind → Place
step p kind = record {
  read = p.read + 1;
  in_architecture = in_behind p kind;
  begun = begun_behind p kind;
  depth = depth_behind p.depth p.last kind;
  opened = open_behind p.opened p.last kind;
  last = kind;
  outermost = if outer_behind p kind then p.read + 1 else p.outermost;
  innermost = if begins_behind p kind then p.read + 1 else p.innermost;
}

-- Behind so many tokens, the last of which begins a unit. What stands in an architecture begins behind the five tokens
-- of its head.
abbrev pub first : (is_architecture : Bool) → (read : ℕ) → TokenKind → Place
first is_architecture read kind = record {
  read = read;
  in_architecture = is_architecture;
  begun = false;
  depth = 0;
  opened = 0;
  last = kind;
  outermost = read + 4;
  innermost = read + 4;
}

-- behind the token of this kind with which these begin
abbrev pub behind : Place → TokenKind → List Token → Place
behind p kind ts =
    if begins_architecture ts then first true (p.read + 1) kind
    else (if begins_entity ts then first false (p.read + 1) kind else step p kind)

-- the place of the first token that starts at the byte or behind it
abbrev pub place_from : (at : ℕ) → Place → List Token → Place
place_from at p [] = p
place_from at p (t ∷ ts) = if nat_le at t.start then p else place_from at (behind p t.kind (t ∷ ts)) ts

unfoldable pub place_of : (at : ℕ) → List Token → Place
place_of at ts = place_from at (first false 0 k.Semicolon) ts

-- ---- where one ends

-- how many parentheses are open behind a token
abbrev pub parens_behind : (parens : ℕ) → TokenKind → ℕ
parens_behind parens kind =
    if is_left_paren kind then parens + 1 else (if is_right_paren kind then parens - 1 else parens)

-- where so much with an `end` and so many parentheses are open, one ends with this token, in front of these: a `;`
-- outside of all that, which has to be followed so; not the `;` behind `select` or `:`
abbrev pub ends_behind : Sequel → (opened parens : ℕ) → (last kind : TokenKind) → List Token → Bool
ends_behind sequel opened parens last kind ts =
    (opened == 0) && (parens == 0) && is_semicolon kind && not (wants_more last) && begins sequel ts

-- or in front of it, whatever parentheses are open: an `end` or `begin` that isn't its own
abbrev pub ends_before : (opened : ℕ) → TokenKind → Bool
ends_before opened kind = (opened == 0) && closes kind

-- what stands behind the statement or declaration with which these tokens begin, where so much is open
abbrev pub behind_statement : Sequel → (opened parens : ℕ) → (last : TokenKind) → List Token → List Token
behind_statement sequel opened parens last [] = []
behind_statement sequel opened parens last (t ∷ ts) =
    if ends_behind sequel opened parens last t.kind ts then ts
    else (if ends_before opened t.kind then t ∷ ts
    else behind_statement sequel (open_behind opened last t.kind) (parens_behind parens t.kind) t.kind ts)
