use Rattle.std.proofs.Common.{◌≡◌, ◌+◌, ◌-◌, ◌*◌}
use Rattle.vhdl_lexer.specs.declared.token.TokenKind.TheVariants as k
use Rattle.vhdl_tree.specs.View.{sequentials_view, conditionals_view, alternatives_view}
use Rattle.vhdl_parser_expressions.specs.reader.Input.{◌>>◌, is_kind, expect, many_from}
use Rattle.vhdl_parser_statements.specs.reader.Sequential as read
use Rattle.vhdl_parser_statements.proofs.sequential.+statement.Given as goal

-- each call goes down the grammar, and what stands in a statement is a level down
abbrev pub decreases-statements : goal.decreases-statements
decreases-statements l = 40 * l.levels + 20

abbrev pub decreases-sequential : goal.decreases-sequential
decreases-sequential l = 40 * l.levels + 19

abbrev pub decreases-statement : goal.decreases-statement
decreases-statement l = 40 * l.levels + 18

abbrev pub decreases-if_statement : goal.decreases-if_statement
decreases-if_statement l = 40 * l.levels + 17

abbrev pub decreases-case_statement : goal.decreases-case_statement
decreases-case_statement l = 40 * l.levels + 17

abbrev pub decreases-for_statement : goal.decreases-for_statement
decreases-for_statement l = 40 * l.levels + 17

abbrev pub decreases-if_rest : goal.decreases-if_rest
decreases-if_rest l = 40 * l.levels + 30

abbrev pub decreases-condition : goal.decreases-condition
decreases-condition l = 40 * l.levels + 26

abbrev pub decreases-otherwise : goal.decreases-otherwise
decreases-otherwise l = 40 * l.levels + 27

abbrev pub decreases-case_rest : goal.decreases-case_rest
decreases-case_rest l = 40 * l.levels + 30

abbrev pub decreases-alternatives : goal.decreases-alternatives
decreases-alternatives l = 40 * l.levels + 29

abbrev pub decreases-branches : goal.decreases-branches
decreases-branches l = 40 * l.levels + 29

abbrev pub decreases-alternative : goal.decreases-alternative
decreases-alternative l = 40 * l.levels + 26

abbrev pub decreases-for_rest : goal.decreases-for_rest
decreases-for_rest l = 40 * l.levels + 30

-- what is still to be read gives what was to be read
abbrev pub invariant-statements-loop-turn : goal.invariant-statements-loop-turn
invariant-statements-loop-turn l =
    read.statements l.language l.levels l.fn.parser ≡ many_from (read.begins_sequential l.language) (read.sequential l.language l.levels (read.deeper l.language l.levels)) (l._turn-end - l._turn) (sequentials_view l.found) l.parser

abbrev pub invariant-branches-loop-turn : goal.invariant-branches-loop-turn
invariant-branches-loop-turn l =
    read.branches l.language l.levels (read.statements l.language l.levels) l.fn.parser
    ≡ many_from (is_kind k.Elsif) (expect k.Elsif >> read.condition l.language l.levels (read.statements l.language l.levels)) (l._turn-end - l._turn) (conditionals_view l.found) l.parser

abbrev pub invariant-alternatives-loop-turn : goal.invariant-alternatives-loop-turn
invariant-alternatives-loop-turn l =
    read.alternatives l.language l.levels (read.statements l.language l.levels) l.fn.parser
    ≡ many_from (is_kind k.When) (expect k.When >> read.alternative_part l.language l.levels (read.statements l.language l.levels)) (l._turn-end - l._turn) (alternatives_view l.found) l.parser
