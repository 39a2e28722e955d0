use Rattle.std.proofs.Common.{ℕ, ap, sym, ◌∙◌}
use Rattle.vhdl_names_rules.specs.Names.{if_plain, known}
use Rattle.vhdl_names_rules.specs.units.Expressions.{number}
use Rattle.vhdl_names_trees.specs.views.Expressions.{typed_view, typed_suffix_view}
use Rattle.vhdl_names_rules.proofs.Along.{gives_along}
use Rattle.vhdl_names_rules.proofs.Telling.{told_of}
use Rattle.vhdl_names_parts.proofs.names.denoted.Goals as goal

pub returns-in-Generic : goal.returns-in-Generic
returns-in-Generic c = rw c.in-Generic.is (record { given = c.if_plain.ensures.given; told = told_of typed_view _ c.args.at _ _ c.if_plain.ensures.given c.if_plain.ensures.told })

pub returns-in-IntegerConstant : goal.returns-in-IntegerConstant
returns-in-IntegerConstant c = rw c.in-IntegerConstant.is (record { given = c.if_plain-in-IntegerConstant.ensures.given; told = told_of typed_view _ c.args.at _ _ c.if_plain-in-IntegerConstant.ensures.given c.if_plain-in-IntegerConstant.ensures.told })

pub returns-in-GenerateParameter : goal.returns-in-GenerateParameter
returns-in-GenerateParameter c = rw c.in-GenerateParameter.is (record { given = c.if_plain-in-GenerateParameter.ensures.given; told = told_of typed_view _ c.args.at _ _ c.if_plain-in-GenerateParameter.ensures.given c.if_plain-in-GenerateParameter.ensures.told })

pub returns-in-LoopParameter : goal.returns-in-LoopParameter
returns-in-LoopParameter c = rw c.in-LoopParameter.is (record { given = c.if_plain-in-LoopParameter.ensures.given; told = told_of typed_view _ c.args.at _ _ c.if_plain-in-LoopParameter.ensures.given c.if_plain-in-LoopParameter.ensures.told })

pub returns-in-Port : goal.returns-in-Port
returns-in-Port c = rw c.in-Port.is (record { given = c.read_object.ensures.given; told = told_of typed_view _ c.args.at _ _ c.read_object.ensures.given c.read_object.ensures.told })

pub returns-in-Signal : goal.returns-in-Signal
returns-in-Signal c = rw c.in-Signal.is (record { given = c.read_object-in-Signal.ensures.given; told = told_of typed_view _ c.args.at _ _ c.read_object-in-Signal.ensures.given c.read_object-in-Signal.ensures.told })

pub returns-in-Variable : goal.returns-in-Variable
returns-in-Variable c = rw c.in-Variable.is (record { given = c.read_variable.ensures.given; told = told_of typed_view _ c.args.at _ _ c.read_variable.ensures.given c.read_variable.ensures.told })

pub returns-in-Constant : goal.returns-in-Constant
returns-in-Constant c = rw c.in-Constant.is (record { given = c.read_constant.ensures.given; told = told_of typed_view _ c.args.at _ _ c.read_constant.ensures.given c.read_constant.ensures.told })

pub returns-in-VectorType : goal.returns-in-VectorType
returns-in-VectorType c = rw c.in-VectorType.is (record { given = c.converted.ensures.given; told = told_of typed_view _ c.args.at _ _ c.converted.ensures.given c.converted.ensures.told })

pub returns-in-Function : goal.returns-in-Function
returns-in-Function c = rw c.in-Function.is (record { given = c.called.ensures.given; told = told_of typed_view _ c.args.at _ _ c.called.ensures.given c.called.ensures.told })

pub returns-in-BooleanGeneric : goal.returns-in-BooleanGeneric
returns-in-BooleanGeneric c =
    let given = gives_along typed_view _ _ _ (ap (if_plain (typed_suffix_view c.args.suffix)) (sym c.known.ensures)) c.if_plain-in-BooleanGeneric.ensures.given in
    rw c.in-BooleanGeneric.is (record { given = given; told = told_of typed_view _ c.args.at _ _ given c.if_plain-in-BooleanGeneric.ensures.told })

pub returns-in-BooleanConstant : goal.returns-in-BooleanConstant
returns-in-BooleanConstant c =
    let given = gives_along typed_view _ _ _ (ap (if_plain (typed_suffix_view c.args.suffix)) (sym c.known-in-BooleanConstant.ensures)) c.if_plain-in-BooleanConstant.ensures.given in
    rw c.in-BooleanConstant.is (record { given = given; told = told_of typed_view _ c.args.at _ _ given c.if_plain-in-BooleanConstant.ensures.told })

pub returns-in-BooleanLiteral : goal.returns-in-BooleanLiteral
returns-in-BooleanLiteral c =
    let position = ap (λ (n : ℕ). known c.args.at (number n)) (sym c.position_of.ensures) ∙ sym c.known-in-BooleanLiteral.ensures in
    let given = gives_along typed_view _ _ _ (ap (if_plain (typed_suffix_view c.args.suffix)) position) c.if_plain-in-BooleanLiteral.ensures.given in
    rw c.in-BooleanLiteral.is (record { given = given; told = told_of typed_view _ c.args.at _ _ given c.if_plain-in-BooleanLiteral.ensures.told })
