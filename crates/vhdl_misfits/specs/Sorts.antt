-- Sorts of tokens: what kinds one may have.
use Rattle.std.specs.Prelude.{◌&&◌, not, Bool, true, false, List, [], ◌∷◌}
use Rattle.vhdl_misfits.specs.declared.sort.Sort.{Sort}
use Rattle.vhdl_misfits.specs.declared.sort.Sort.TheVariants as sort
use Rattle.vhdl_lexer.specs.Kinds.{is_one_of}
use Rattle.vhdl_lexer.specs.declared.token.Token.{Token}
use Rattle.vhdl_lexer.specs.declared.token.TokenKind.{TokenKind}
use Rattle.vhdl_lexer.specs.declared.token.TokenKind.TheVariants as k
use Rattle.vhdl_tree.specs.Lexeme.{same_kind}

-- the operators of a relation (IEEE 1076-2008, 9.2.3)
abbrev pub relations : List TokenKind
relations = k.Equal ∷ k.NotEqual ∷ k.Less ∷ k.LessEqual ∷ k.Greater ∷ k.GreaterEqual ∷ []

abbrev pub is_of : Sort → TokenKind → Bool
is_of sort.Any kind = true
is_of (sort.Is other) kind = same_kind kind other
is_of sort.Plain kind = not (same_kind kind k.LeftParen)
is_of sort.Relation kind = is_one_of relations kind
is_of sort.Equality kind = is_one_of (k.Equal ∷ k.NotEqual ∷ []) kind
is_of sort.Logical kind = is_one_of (k.And ∷ k.Or ∷ k.Xor ∷ k.Nand ∷ k.Nor ∷ k.Xnor ∷ []) kind
is_of sort.Arithmetic kind = is_one_of (k.Plus ∷ k.Minus ∷ k.Star ∷ k.Slash ∷ k.Mod ∷ k.Rem ∷ []) kind
is_of sort.Sum kind = is_one_of (k.Plus ∷ k.Minus ∷ k.Star ∷ []) kind
is_of sort.Operator kind =
    is_one_of (k.And ∷ k.Or ∷ k.Xor ∷ k.Nand ∷ k.Nor ∷ k.Xnor ∷ k.Plus
    ∷ k.Minus ∷ k.Star ∷ k.Slash ∷ k.Mod ∷ k.Rem ∷ k.Ampersand ∷ []) kind
is_of sort.Sign kind = is_one_of (k.Plus ∷ k.Minus ∷ []) kind
is_of sort.Vector kind = is_one_of (k.String ∷ k.BitString ∷ []) kind
is_of sort.Condition kind = is_one_of (k.If ∷ k.Elsif ∷ k.When ∷ []) kind
is_of sort.Tested kind = is_one_of (k.Then ∷ k.Else ∷ k.Generate ∷ []) kind
is_of sort.End kind =
    is_one_of (k.Semicolon ∷ k.Comma ∷ k.RightParen ∷ k.When ∷ k.Else ∷ k.Arrow
    ∷ k.Bar ∷ k.Then ∷ k.Is ∷ k.Loop ∷ k.Generate ∷ k.To ∷ k.Downto ∷ []) kind
is_of sort.Assignment kind = is_one_of (k.LessEqual ∷ k.Assign ∷ []) kind
is_of sort.Given kind = is_one_of (k.LessEqual ∷ k.Assign ∷ k.Else ∷ []) kind
is_of sort.Begun kind = is_one_of (k.LessEqual ∷ k.Assign ∷ k.Else ∷ k.Comma ∷ k.Arrow ∷ []) kind
is_of sort.Further kind = is_one_of (k.Else ∷ k.Comma ∷ []) kind
is_of sort.Ended kind = is_one_of (k.Semicolon ∷ k.When ∷ []) kind
is_of sort.Bound kind = is_one_of (k.To ∷ k.Downto ∷ k.Arrow ∷ []) kind
is_of sort.Range kind = is_one_of (k.LeftParen ∷ k.In ∷ []) kind
is_of sort.Selector kind = is_one_of (k.Case ∷ k.With ∷ []) kind
is_of sort.Statement kind =
    is_one_of (k.Semicolon ∷ k.Colon ∷ k.Begin ∷ k.Then ∷ k.Else ∷ k.Loop ∷ k.Generate ∷ k.Select ∷ k.Arrow ∷ []) kind

-- tokens of these sorts stand first
abbrev pub stand : List Sort → List Token → Bool
stand [] tokens = true
stand (s ∷ ss) [] = false
stand (s ∷ ss) (t ∷ ts) = is_of s t.kind && stand ss ts
