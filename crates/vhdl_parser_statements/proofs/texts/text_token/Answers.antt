use Rattle.std.proofs.Common.{◌≡◌, nat_lt, false, ◌&&◌, sym, add-one, lt-ltb, rules, arith}
use Rattle.std.proofs.lemmas.Bool.{and_from}
use Rattle.std.proofs.lemmas.Bool.Decides.{nat_tests}
use Rattle.std.proofs.lemmas.Grind.{common_steps}
use Rattle.vhdl_lexer.specs.declared.token.TokenKind.TheVariants as k
use Rattle.vhdl_tree.specs.Lexeme.{same_kind}
use Rattle.vhdl_parser_statements.proofs.Followed.{token_opens, token_closes, token_follows, token_ends}
use Rattle.vhdl_parser_statements.proofs.texts.text_token.Goals as goal

pub returns-in_err-expect : goal.returns-in_err-expect
unfolding same_kind
returns-in_err-expect c =
    rw (token_opens c.args.levels c.args.room c.args.last c.in-Some.kind c.args.parser.now (sym c.in-Some.ensures) (sym c.if-eq.ensures)) (first_of (search rules, grind (arith, common_steps)))

pub returns-in_err-below : goal.returns-in_err-below
unfolding same_kind
returns-in_err-below c =
    rw (token_opens c.args.levels c.args.room c.args.last c.in-Some.kind c.args.parser.now (sym c.in-Some.ensures) (sym c.if-eq.ensures)) (first_of (search rules, grind (arith, common_steps)))

pub returns-then-eq : goal.returns-then-eq
unfolding same_kind
returns-then-eq c =
    rw (token_opens c.args.levels c.args.room c.args.last c.in-Some.kind c.args.parser.now (sym c.in-Some.ensures) (sym c.if-eq.ensures)) (first_of (search rules, grind (arith, common_steps)))

pub returns-in_err-expect-2 : goal.returns-in_err-expect-2
unfolding same_kind
returns-in_err-expect-2 c =
    let closes = and_from (same_kind c.in-Some.kind k.RightParen) (nat_lt c.args.room c.args.levels) (sym c.if-eq-2.ensures) (lt-ltb c.args.room c.args.levels c.if-room-levels.true) in
    rw (token_closes c.args.levels c.args.room c.args.last c.in-Some.kind c.args.parser.now (sym c.in-Some.ensures) (sym c.if-eq.ensures) closes) (first_of (search rules, grind (arith, common_steps)))

pub returns-then-room-levels : goal.returns-then-room-levels
unfolding same_kind
returns-then-room-levels c =
    let closes = and_from (same_kind c.in-Some.kind k.RightParen) (nat_lt c.args.room c.args.levels) (sym c.if-eq-2.ensures) (lt-ltb c.args.room c.args.levels c.if-room-levels.true) in
    rw (token_closes c.args.levels c.args.room c.args.last c.in-Some.kind c.args.parser.now (sym c.in-Some.ensures) (sym c.if-eq.ensures) closes, add-one) (first_of (search rules, grind (arith, common_steps)))

pub returns-then-may_follow : goal.returns-then-may_follow
unfolding same_kind
returns-then-may_follow c =
    let closes : same_kind c.in-Some.kind k.RightParen && nat_lt c.args.room c.args.levels ≡ false = first_of (search rules, grind (arith, nat_tests), grind (arith, common_steps)) in
    rw (token_follows c.args.levels c.args.room c.args.last c.in-Some.kind c.args.parser.now (sym c.in-Some.ensures) (sym c.if-eq.ensures) closes (sym c.if-may_follow.ensures)) (first_of (search rules, grind (arith, common_steps)))

pub returns : goal.returns
unfolding same_kind
returns c =
    let closes : same_kind c.in-Some.kind k.RightParen && nat_lt c.args.room c.args.levels ≡ false = first_of (search rules, grind (arith, nat_tests), grind (arith, common_steps)) in
    token_ends c.args.levels c.args.room c.args.last c.in-Some.kind c.args.parser.now (sym c.in-Some.ensures) (sym c.if-eq.ensures) closes (sym c.if-may_follow.ensures)
