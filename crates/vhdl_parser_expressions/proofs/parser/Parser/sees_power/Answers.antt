use Rattle.std.proofs.Common.{◌≡◌, true, false, true≢false, sym, ap, ◌∙◌}
use Rattle.vhdl_lexer.specs.declared.token.TokenKind.TheVariants as k
use Rattle.vhdl_tree.specs.Lexeme.{same_kind}
use Rattle.vhdl_parser_expressions.specs.reader.Expressions.{sees_power}
use Rattle.vhdl_parser_expressions.proofs.Cursor.{power_at, both_true, first_false, second_false}
use Rattle.vhdl_parser_expressions.proofs.parser.Parser.sees_power.Goals as goal
use Rattle.vhdl_parser_expressions.proofs.parser.Parser.sees_power.Goals.{then-eq, else-eq}

pub returns-then-eq-2 : goal.returns-then-eq-2
unfolding same_kind
returns-then-eq-2 c =
    let l = c.in-Some.first.now in
    let m = c.in-Some-first.second.now in
    let i = c.in-Some-first.ensures.item in
    let p = ap sees_power (sym c.self.view_is) ∙ power_at c.self.inside.source.now c.self.inside.tokens.now l m c.in-Some.rest.now c.in-Some.ensures.cases.0 i.3.0 i.1 in
    elim c.if-eq.branch [
      | then-eq w ↦
          let f : same_kind l.kind k.Star ≡ true = sym c.eq.ensures ∙ w.if-eq.true in
          let s : same_kind m.kind k.Star ≡ true = sym w.eq-then-eq.ensures ∙ sym w.value-is ∙ c.if-eq-2.true in
          both_true _ _ _ f s ∙ sym p
      | else-eq w ↦ absurd (true≢false (sym c.if-eq-2.true ∙ w.value-is ∙ w.if-eq.false))
    ]

pub returns-else-eq-2 : goal.returns-else-eq-2
unfolding same_kind
returns-else-eq-2 c =
    let l = c.in-Some.first.now in
    let m = c.in-Some-first.second.now in
    let i = c.in-Some-first.ensures.item in
    let p = ap sees_power (sym c.self.view_is) ∙ power_at c.self.inside.source.now c.self.inside.tokens.now l m c.in-Some.rest.now c.in-Some.ensures.cases.0 i.3.0 i.1 in
    elim c.if-eq.branch [
      | then-eq w ↦
          let s : same_kind m.kind k.Star ≡ false = sym w.eq-then-eq.ensures ∙ sym w.value-is ∙ c.if-eq-2.false in
          c.if-eq-2.false ∙ second_false (same_kind l.kind k.Star) _ _ s ∙ sym p
      | else-eq w ↦
          let f : same_kind l.kind k.Star ≡ false = sym c.eq.ensures ∙ w.if-eq.false in
          c.if-eq-2.false ∙ first_false _ (same_kind m.kind k.Star) _ f ∙ sym p
    ]
