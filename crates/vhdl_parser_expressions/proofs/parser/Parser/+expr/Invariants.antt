use Rattle.std.proofs.Common.{ℕ, ◌≡◌, ◌+◌, ◌-◌, ◌*◌}
use Rattle.vhdl_lexer.specs.declared.language.Language.TheVariants.{Wide}
use Rattle.vhdl_lexer.specs.declared.token.TokenKind.TheVariants as k
use Rattle.vhdl_parser_expressions.specs.declared.operator.Level.{Level}
use Rattle.vhdl_parser_expressions.specs.declared.operator.Level.TheVariants.{Logical, Relation, Adding, Multiplying}
use Rattle.vhdl_tree.specs.Tree.{Expr, all_joined}
use Rattle.vhdl_tree.specs.View.{exprs_view, pairs_view, choices_view, elements_view}
use Rattle.vhdl_parser_expressions.specs.reader.Input.{is_kind, many, many_from}
use Rattle.vhdl_parser_expressions.specs.reader.Expressions as read
use Rattle.vhdl_parser_expressions.proofs.parser.Parser.+expr.Given as goal

-- how far a level stands above the factors
abbrev height : Level → ℕ
height Logical = 4
height Relation = 3
height Adding = 2
height Multiplying = 1

-- each call goes down the grammar, and a parenthesis takes a level
abbrev pub decreases-expr : goal.decreases-expr
decreases-expr l = 100 * l.levels + 55

abbrev pub decreases-chain : goal.decreases-chain
decreases-chain l = 100 * l.levels + (20 + (6 * height l.level + 5))

abbrev pub decreases-links : goal.decreases-links
decreases-links l = 100 * l.levels + (20 + (6 * height l.level + 2))

abbrev pub decreases-all_links : goal.decreases-all_links
decreases-all_links l = 100 * l.levels + (20 + (6 * height l.level + 4))

abbrev pub decreases-first : goal.decreases-first
decreases-first l = 100 * l.levels + (20 + (6 * height l.level + 3))

abbrev pub decreases-leading : goal.decreases-leading
decreases-leading l = 100 * l.levels + 34

abbrev pub decreases-link : goal.decreases-link
decreases-link l = 100 * l.levels + (20 + (6 * height l.level + 1))

abbrev pub decreases-operand : goal.decreases-operand
decreases-operand l = 100 * l.levels + (20 + 6 * height l.level)

abbrev pub decreases-factor : goal.decreases-factor
decreases-factor l = 100 * l.levels + 16

abbrev pub decreases-optional_power : goal.decreases-optional_power
decreases-optional_power l = 100 * l.levels + 15

abbrev pub decreases-raised : goal.decreases-raised
decreases-raised l = 100 * l.levels + 14

abbrev pub decreases-inverse : goal.decreases-inverse
decreases-inverse l = 100 * l.levels + 14

abbrev pub decreases-magnitude : goal.decreases-magnitude
decreases-magnitude l = 100 * l.levels + 14

abbrev pub decreases-primary : goal.decreases-primary
decreases-primary l = 100 * l.levels + 13

abbrev pub decreases-named : goal.decreases-named
decreases-named l = 100 * l.levels + 12

abbrev pub decreases-qualified : goal.decreases-qualified
decreases-qualified l = 100 * l.levels + 11

abbrev pub decreases-parenthesis : goal.decreases-parenthesis
decreases-parenthesis l = 100 * l.levels + 11

abbrev pub decreases-elements : goal.decreases-elements
decreases-elements l = 100 * l.levels + 10

abbrev pub decreases-more_elements : goal.decreases-more_elements
decreases-more_elements l = 100 * l.levels + 9

abbrev pub decreases-next_element : goal.decreases-next_element
decreases-next_element l = 100 * l.levels + 8

abbrev pub decreases-element : goal.decreases-element
decreases-element l = 100 * l.levels + 7

abbrev pub decreases-element_behind : goal.decreases-element_behind
decreases-element_behind l = 100 * l.levels + 6

abbrev pub decreases-chosen_element : goal.decreases-chosen_element
decreases-chosen_element l = 100 * l.levels + 5

abbrev pub decreases-more_choices : goal.decreases-more_choices
decreases-more_choices l = 100 * l.levels + 4

abbrev pub decreases-next_choice : goal.decreases-next_choice
decreases-next_choice l = 100 * l.levels + 3

abbrev pub decreases-choice_inside : goal.decreases-choice_inside
decreases-choice_inside l = 100 * l.levels + 2

abbrev pub decreases-range_choice : goal.decreases-range_choice
decreases-range_choice l = 100 * l.levels + 1

abbrev pub decreases-name_from : goal.decreases-name_from
decreases-name_from l = 100 * l.levels + 6

abbrev pub decreases-optional_suffix : goal.decreases-optional_suffix
decreases-optional_suffix l = 100 * l.levels + 5

abbrev pub decreases-suffix : goal.decreases-suffix
decreases-suffix l = 100 * l.levels + 4

abbrev pub decreases-range_from : goal.decreases-range_from
decreases-range_from l = 100 * l.levels + 3

abbrev pub decreases-arguments_from : goal.decreases-arguments_from
decreases-arguments_from l = 100 * l.levels + 3

abbrev pub decreases-arguments : goal.decreases-arguments
decreases-arguments l = 100 * l.levels + 2

abbrev pub decreases-argument : goal.decreases-argument
decreases-argument l = 100 * l.levels + 1

abbrev pub decreases-inside : goal.decreases-inside
decreases-inside l = 100 * l.levels

-- what is still to be read gives what was to be read
abbrev pub invariant-arguments-loop-turn : goal.invariant-arguments-loop-turn
invariant-arguments-loop-turn l =
    many (is_kind k.Comma) (read.argument (read.inner l.language l.levels)) (exprs_view l.fn.found) l.fn.self ≡ many_from (is_kind k.Comma) (read.argument (read.inner l.language l.levels)) (l._turn-end - l._turn) (exprs_view l.found) l.self

abbrev pub invariant-more_elements-loop-turn : goal.invariant-more_elements-loop-turn
invariant-more_elements-loop-turn l =
    many (is_kind k.Comma) (read.next_element (read.inside Wide l.levels)) (elements_view l.fn.found) l.fn.self
    ≡ many_from (is_kind k.Comma) (read.next_element (read.inside Wide l.levels)) (l._turn-end - l._turn) (elements_view l.found) l.self

abbrev pub invariant-more_choices-loop-turn : goal.invariant-more_choices-loop-turn
invariant-more_choices-loop-turn l =
    many (is_kind k.Bar) (read.next_choice (read.inside Wide l.levels)) (choices_view l.fn.found) l.fn.self
    ≡ many_from (is_kind k.Bar) (read.next_choice (read.inside Wide l.levels)) (l._turn-end - l._turn) (choices_view l.found) l.self

abbrev pub invariant-links-loop-turn : goal.invariant-links-loop-turn
invariant-links-loop-turn l = (left : Expr) →
    let operand = read.operand_of (read.inner l.language l.levels) l.level in
    read.more operand l.level l.fn.last left l.fn.self ≡ read.more_from operand (l._turn-end - l._turn) l.level l.last (all_joined left (pairs_view l.found)) l.self
