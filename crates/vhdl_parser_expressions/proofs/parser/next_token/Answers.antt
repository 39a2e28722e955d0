use Rattle.std.proofs.Common.{rules, sym, ◌∙◌}
use denote.Enum.Bare.{same_true}
use Rattle.vhdl_lexer.specs.contracts.token.TokenKind.{the_type}
use Rattle.vhdl_parser_expressions.proofs.parser.next_token.Goals as goal

pub returns-then-eq-clause-ok : goal.returns-then-eq-clause-ok
returns-then-eq-clause-ok c =
    (search rules, same_true the_type (search rules) _ _ (sym c.eq.ensures ∙ c.if-eq.true))
