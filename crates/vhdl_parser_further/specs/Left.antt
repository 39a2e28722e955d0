-- What is left of the tokens of a source behind a fault of grammar that is told at a byte. The statement or declaration
-- is taken out in which it stands: the innermost one, or the outermost one where that can't be; with it what goes on
-- behind a `;` that is at fault. Where neither can be, or it stands in no architecture, or that has too few or too many
-- `end`s, the next units are left.
use Rattle.std.specs.Prelude.{ℕ, ◌&&◌, Bool, false, if◌then◌else◌, List, [], ◌∷◌, ◌++◌, Option, Some, None, take, drop}
use Rattle.vhdl_lexer.specs.declared.token.Token.{Token}
use Rattle.vhdl_lexer.specs.declared.token.TokenKind.TheVariants as k
use Rattle.vhdl_parser_further.specs.Early.{sequel_of}
use Rattle.vhdl_parser_further.specs.Kinds.{may_go}
use Rattle.vhdl_parser_further.specs.Statements.{place_of, behind_statement}
use Rattle.vhdl_parser_further.specs.Units.{before_unit, is_balanced}
use Rattle.vhdl_parser_further.specs.declared.place.Place.{Place}
use Rattle.vhdl_parser_further.specs.declared.sequel.Sequel.{Sequel}

-- what begins with these tokens may be taken out
abbrev pub may_begin : (begun : Bool) → List Token → Bool
may_begin begun [] = false
may_begin begun (t ∷ ts) = may_go begun t.kind

-- behind how many tokens the statement or declaration begins that is taken out
abbrev pub statement_of : Place → List Token → Option ℕ
statement_of p tokens =
    if may_begin p.begun (drop p.innermost tokens) then Some p.innermost
    else (if may_begin p.begun (drop p.outermost tokens) then Some p.outermost else None)

-- the same, where `ahead` is left of an architecture that has its `end`s
unfoldable pub taken : Place → (tokens ahead : List Token) → Option ℕ
taken p tokens ahead = if p.in_architecture && is_balanced p.opened p.last ahead then statement_of p tokens else None

-- the tokens without the statement or declaration that begins behind so many of them, and that has to be followed so
abbrev pub without : Sequel → (tokens : List Token) → ℕ → List Token
without sequel tokens begins = take begins tokens ++ behind_statement sequel 0 0 k.Semicolon (drop begins tokens)

-- the tokens without what is taken out, or else the units behind
abbrev pub without_or : Sequel → (tokens units : List Token) → Option ℕ → List Token
without_or sequel tokens units None = units
without_or sequel tokens units (Some begins) = without sequel tokens begins

-- what is left, where the fault stands at this place and so many tokens of its unit are ahead
abbrev pub left_ahead : (tokens : List Token) → Place → (ahead : List Token) → (n : ℕ) → List Token
left_ahead tokens p ahead n =
    without_or (sequel_of p (take n ahead)) tokens (drop n ahead) (taken p tokens (take n ahead))

abbrev pub left_at : (tokens : List Token) → Place → List Token
left_at tokens p = left_ahead tokens p (drop p.read tokens) (before_unit (drop p.read tokens))

unfoldable pub left : List Token → (at : ℕ) → List Token
left tokens at = left_at tokens (place_of at tokens)
