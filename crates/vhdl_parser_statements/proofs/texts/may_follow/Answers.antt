use Rattle.std.proofs.Common.{◌≡◌, true, sym, ◌∙◌, rules, arith}
use Rattle.std.proofs.lemmas.Grind.{common_steps}
use Rattle.vhdl_tree.specs.Lexeme.{same_kind}
use Rattle.vhdl_tree.specs.grammar.Texts.{ends_operand}
use Rattle.vhdl_parser_statements.proofs.Followed.{is_unit, operand_follows, class_follows}
use Rattle.vhdl_parser_statements.proofs.texts.may_follow.Goals as goal

pub returns-else-not-ends_operand : goal.returns-else-not-ends_operand
unfolding same_kind
returns-else-not-ends_operand c =
    let behind : ends_operand c.args.last ≡ true = first_of (search rules, grind (arith, common_steps)) in
    let unit : c.if-eq.is_unit ≡ is_unit c.args.last c.args.kind = first_of (search rules, grind (arith, common_steps)) in
    unit ∙ sym (operand_follows c.args.last c.args.kind (sym c.if-is_operand.ensures) behind)

pub returns-then-is_entity_class : goal.returns-then-is_entity_class
unfolding same_kind
returns-then-is_entity_class c =
    c.eq-then-is_entity_class.ensures ∙ sym (class_follows c.args.last c.args.kind (sym c.if-is_operand.ensures) (sym c.if-is_entity_class.ensures))
