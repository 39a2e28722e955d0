-- What the kinds of tokens say of statements (IEEE 1076-2008, 10 and 11). `last` is the kind of the token before.
use Rattle.std.specs.Prelude.{◌&&◌, ◌||◌, not, Bool, true, false, List, [], ◌∷◌}
use Rattle.std.specs.List.{list_any}
use denote.Enum.Bare.{sameb}
use Rattle.vhdl_lexer.specs.contracts.token.TokenKind.{the_type}
use Rattle.vhdl_lexer.specs.declared.token.TokenKind.{TokenKind}
use Rattle.vhdl_lexer.specs.declared.token.TokenKind.TheVariants as k

abbrev pub is_one_of : List TokenKind → TokenKind → Bool
is_one_of kinds kind = list_any (sameb the_type kind) kinds

abbrev pub is_end : TokenKind → Bool
is_end = is_one_of (k.End ∷ [])

abbrev pub is_semicolon : TokenKind → Bool
is_semicolon = is_one_of (k.Semicolon ∷ [])

abbrev pub is_wait : TokenKind → Bool
is_wait = is_one_of (k.Wait ∷ [])

-- the words of statements that have an `end` of their own
abbrev pub is_compound : TokenKind → Bool
is_compound = is_one_of (k.If ∷ k.Case ∷ k.For ∷ k.Process ∷ [])

-- such a statement begins here; behind `end` the word ends one
abbrev pub opens : (last kind : TokenKind) → Bool
opens last kind = is_compound kind && not (is_end last)

-- a statement or declaration may begin behind these
abbrev pub leads : TokenKind → Bool
leads = is_one_of (k.Semicolon ∷ k.Begin ∷ k.Then ∷ k.Loop ∷ k.Generate ∷ k.Is ∷ k.Arrow ∷ [])

-- the `else` of an if stands behind one of these, that of an assignment behind an expression
abbrev pub is_before_else : TokenKind → Bool
is_before_else = is_one_of (k.Semicolon ∷ k.Then ∷ [])

abbrev pub is_else : TokenKind → Bool
is_else = is_one_of (k.Else ∷ [])

-- a statement or declaration may begin behind this token
abbrev pub is_boundary : (last kind : TokenKind) → Bool
is_boundary last kind = leads kind || is_else kind && is_before_else last

-- a parenthesis, or a process, whose head counts as one up to its `begin`
abbrev pub is_left : (last kind : TokenKind) → Bool
is_left last k.LeftParen = true
is_left last k.Process = not (is_end last)
is_left last _ = false

abbrev pub is_right : TokenKind → Bool
is_right = is_one_of (k.RightParen ∷ k.Begin ∷ [])

-- what is taken out begins with one of these: a name or a label, a statement's word, `signal` or `constant`
abbrev pub may_go : TokenKind → Bool
may_go = is_one_of (k.Identifier ∷ k.If ∷ k.Case ∷ k.For ∷ k.Process ∷ k.With ∷ k.Signal ∷ k.Constant ∷ [])
