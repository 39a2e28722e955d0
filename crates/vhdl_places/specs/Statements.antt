-- The tokens of a concurrent statement (IEEE 1076-2008, 11.3, 11.6): its sensitivity list, and what it runs.
use Rattle.std.specs.Prelude.{◌-◌, ◌&&◌, Bool, if◌then◌else◌, List, [], length, drop}
use Rattle.vhdl_slips.specs.Parts.{begins, from, has, in_parentheses, up_to}
use Rattle.vhdl_lexer.specs.declared.token.Token.{Token}
use Rattle.vhdl_lexer.specs.declared.token.TokenKind.TheVariants as k

-- of the one with which these tokens begin: a process ends before the word process once more, another one before its
-- first `;`
abbrev pub statement : List Token → List Token
statement tokens = if begins k.Process tokens then up_to k.Process (drop 1 tokens) else up_to k.Semicolon tokens

-- the names to which a process is sensitive; nothing where an index stands among them
abbrev pub sensitivity : List Token → List Token
sensitivity tokens = if begins k.Process tokens then in_parentheses (drop 1 tokens) else []

-- what stands from a process's `begin` on, and all of another statement
abbrev pub body : List Token → List Token
body tokens = if begins k.Process tokens then from k.Begin (statement tokens) else statement tokens

-- ---- the statement in which a token stands, of which these tokens are the rest

-- the next word process is that of `end process`, and so a process goes on here
abbrev pub is_in_process : List Token → Bool
is_in_process tokens =
    has k.Process tokens && begins k.End (drop (length (up_to k.Process tokens) - 1) (up_to k.Process tokens))

-- what stands behind it
abbrev pub behind_statement : List Token → List Token
behind_statement tokens = if is_in_process tokens then drop 1 (from k.Process tokens) else from k.Semicolon tokens
