-- When chains of operators are the same text.
use Rattle.std.specs.Prelude.{Bool, ◌&&◌}
use Rattle.vhdl_tree.specs.Lexeme.{same_kind}
use Rattle.vhdl_tree.specs.grammar.Expressions.{kind_of}
use Rattle.vhdl_tree.specs.declared.expression.Chain.{Chain, out-Chain}
use Rattle.vhdl_tree.specs.declared.expression.Link.{Link}
use Rattle.vhdl_tree.specs.Tree as t
use Rattle.vhdl_tree.specs.View.{view}
use Rattle.vhdl_names_rules.specs.SameText.{same_expr, same_each, same_choice}

-- an operator and its right operand
abbrev pub same_link : Link → Link → Bool
same_link a b = same_kind (kind_of a.operator) (kind_of b.operator) && same_expr (view a.operand) (view b.operand)

-- operand by operand
abbrev pub same_chain : Chain → Chain → Bool
same_chain a b =
    same_expr (view (out-Chain a).first) (view (out-Chain b).first)
    && (same_link (out-Chain a).second (out-Chain b).second
    && same_each same_link (out-Chain a).rest.items (out-Chain b).rest.items)

-- choices, and a value
abbrev pub same_element : t.Element → t.Element → Bool
same_element a b = same_each same_choice a.choices b.choices && same_expr a.value b.value
