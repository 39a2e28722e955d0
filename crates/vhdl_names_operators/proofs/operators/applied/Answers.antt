use Rattle.std.proofs.Common.{refl}
use Rattle.vhdl_tree.specs.declared.operator.Operator.TheVariants as op
use Rattle.vhdl_names_trees.specs.views.Expressions.{typed_view}
use Rattle.vhdl_names_rules.proofs.Along.{gives_along}
use Rattle.vhdl_names_rules.proofs.Telling.{told_of}
use Rattle.vhdl_names_operators.proofs.Relating.{other_given, other_told, equal_is, unequal_is}
use Rattle.vhdl_names_operators.proofs.operators.applied.Goals as goal

pub returns-in-And : goal.returns-in-And
returns-in-And c =
    let x = typed_view c.args.operands.0 in
    let y = typed_view c.args.operands.1 in
    rw c.in-And.is
    (record {
      given = other_given c.args.language c.args.numbers c.args.at op.And x y _ refl c.logical.ensures.given;
      told = other_told c.args.language c.args.numbers c.args.at op.And x y _ refl c.logical.ensures.given c.logical.ensures.told;
    })

pub returns-in-Or : goal.returns-in-Or
returns-in-Or c =
    let x = typed_view c.args.operands.0 in
    let y = typed_view c.args.operands.1 in
    rw c.in-Or.is
    (record {
      given = other_given c.args.language c.args.numbers c.args.at op.Or x y _ refl c.logical-in-Or.ensures.given;
      told = other_told c.args.language c.args.numbers c.args.at op.Or x y _ refl c.logical-in-Or.ensures.given c.logical-in-Or.ensures.told;
    })

pub returns-in-Xor : goal.returns-in-Xor
returns-in-Xor c =
    let x = typed_view c.args.operands.0 in
    let y = typed_view c.args.operands.1 in
    rw c.in-Xor.is
    (record {
      given = other_given c.args.language c.args.numbers c.args.at op.Xor x y _ refl c.logical-in-Xor.ensures.given;
      told = other_told c.args.language c.args.numbers c.args.at op.Xor x y _ refl c.logical-in-Xor.ensures.given c.logical-in-Xor.ensures.told;
    })

pub returns-in-Xnor : goal.returns-in-Xnor
returns-in-Xnor c =
    let x = typed_view c.args.operands.0 in
    let y = typed_view c.args.operands.1 in
    rw c.in-Xnor.is
    (record {
      given = other_given c.args.language c.args.numbers c.args.at op.Xnor x y _ refl c.logical-in-Xnor.ensures.given;
      told = other_told c.args.language c.args.numbers c.args.at op.Xnor x y _ refl c.logical-in-Xnor.ensures.given c.logical-in-Xnor.ensures.told;
    })

pub returns-in-Nand : goal.returns-in-Nand
returns-in-Nand c =
    let x = typed_view c.args.operands.0 in
    let y = typed_view c.args.operands.1 in
    rw c.in-Nand.is
    (record {
      given = other_given c.args.language c.args.numbers c.args.at op.Nand x y _ refl c.logical-in-Nand.ensures.given;
      told = other_told c.args.language c.args.numbers c.args.at op.Nand x y _ refl c.logical-in-Nand.ensures.given c.logical-in-Nand.ensures.told;
    })

pub returns-in-Nor : goal.returns-in-Nor
returns-in-Nor c =
    let x = typed_view c.args.operands.0 in
    let y = typed_view c.args.operands.1 in
    rw c.in-Nor.is
    (record {
      given = other_given c.args.language c.args.numbers c.args.at op.Nor x y _ refl c.logical-in-Nor.ensures.given;
      told = other_told c.args.language c.args.numbers c.args.at op.Nor x y _ refl c.logical-in-Nor.ensures.given c.logical-in-Nor.ensures.told;
    })

pub returns-in-Equal : goal.returns-in-Equal
returns-in-Equal c =
    let x = typed_view c.args.operands.0 in
    let y = typed_view c.args.operands.1 in
    let given = gives_along typed_view _ _ _ (equal_is c.args.language c.args.numbers c.args.at x y) c.equality.ensures.given in
    rw c.in-Equal.is (record { given = given; told = told_of typed_view _ c.args.at _ _ given c.equality.ensures.told })

pub returns-in-NotEqual : goal.returns-in-NotEqual
returns-in-NotEqual c =
    let x = typed_view c.args.operands.0 in
    let y = typed_view c.args.operands.1 in
    let given = gives_along typed_view _ _ _ (unequal_is c.args.language c.args.numbers c.args.at x y) c.equality-in-NotEqual.ensures.given in
    rw c.in-NotEqual.is (record { given = given; told = told_of typed_view _ c.args.at _ _ given c.equality-in-NotEqual.ensures.told })

pub returns-in-Less : goal.returns-in-Less
returns-in-Less c =
    let x = typed_view c.args.operands.0 in
    let y = typed_view c.args.operands.1 in
    rw c.in-Less.is
    (record {
      given = other_given c.args.language c.args.numbers c.args.at op.Less x y _ refl c.ordering.ensures.given;
      told = other_told c.args.language c.args.numbers c.args.at op.Less x y _ refl c.ordering.ensures.given c.ordering.ensures.told;
    })

pub returns-in-LessEqual : goal.returns-in-LessEqual
returns-in-LessEqual c =
    let x = typed_view c.args.operands.0 in
    let y = typed_view c.args.operands.1 in
    rw c.in-LessEqual.is
    (record {
      given = other_given c.args.language c.args.numbers c.args.at op.LessEqual x y _ refl c.ordering-in-LessEqual.ensures.given;
      told = other_told c.args.language c.args.numbers c.args.at op.LessEqual x y _ refl c.ordering-in-LessEqual.ensures.given c.ordering-in-LessEqual.ensures.told;
    })

pub returns-in-Greater : goal.returns-in-Greater
returns-in-Greater c =
    let x = typed_view c.args.operands.0 in
    let y = typed_view c.args.operands.1 in
    rw c.in-Greater.is
    (record {
      given = other_given c.args.language c.args.numbers c.args.at op.Greater x y _ refl c.ordering-in-Greater.ensures.given;
      told = other_told c.args.language c.args.numbers c.args.at op.Greater x y _ refl c.ordering-in-Greater.ensures.given c.ordering-in-Greater.ensures.told;
    })

pub returns-in-GreaterEqual : goal.returns-in-GreaterEqual
returns-in-GreaterEqual c =
    let x = typed_view c.args.operands.0 in
    let y = typed_view c.args.operands.1 in
    rw c.in-GreaterEqual.is
    (record {
      given = other_given c.args.language c.args.numbers c.args.at op.GreaterEqual x y _ refl c.ordering-in-GreaterEqual.ensures.given;
      told = other_told c.args.language c.args.numbers c.args.at op.GreaterEqual x y _ refl c.ordering-in-GreaterEqual.ensures.given c.ordering-in-GreaterEqual.ensures.told;
    })

pub returns-in-Add : goal.returns-in-Add
returns-in-Add c =
    let x = typed_view c.args.operands.0 in
    let y = typed_view c.args.operands.1 in
    rw c.in-Add.is
    (record {
      given = other_given c.args.language c.args.numbers c.args.at op.Add x y _ refl c.arithmetic.ensures.given;
      told = other_told c.args.language c.args.numbers c.args.at op.Add x y _ refl c.arithmetic.ensures.given c.arithmetic.ensures.told;
    })

pub returns-in-Subtract : goal.returns-in-Subtract
returns-in-Subtract c =
    let x = typed_view c.args.operands.0 in
    let y = typed_view c.args.operands.1 in
    rw c.in-Subtract.is
    (record {
      given = other_given c.args.language c.args.numbers c.args.at op.Subtract x y _ refl c.arithmetic-in-Subtract.ensures.given;
      told = other_told c.args.language c.args.numbers c.args.at op.Subtract x y _ refl c.arithmetic-in-Subtract.ensures.given c.arithmetic-in-Subtract.ensures.told;
    })

pub returns-in-Concatenate : goal.returns-in-Concatenate
returns-in-Concatenate c =
    let x = typed_view c.args.operands.0 in
    let y = typed_view c.args.operands.1 in
    rw c.in-Concatenate.is
    (record {
      given = other_given c.args.language c.args.numbers c.args.at op.Concatenate x y _ refl c.concatenated.ensures.given;
      told = other_told c.args.language c.args.numbers c.args.at op.Concatenate x y _ refl c.concatenated.ensures.given c.concatenated.ensures.told;
    })

pub returns-in-Multiply : goal.returns-in-Multiply
returns-in-Multiply c =
    let x = typed_view c.args.operands.0 in
    let y = typed_view c.args.operands.1 in
    rw c.in-Multiply.is
    (record {
      given = other_given c.args.language c.args.numbers c.args.at op.Multiply x y _ refl c.arithmetic-in-Multiply.ensures.given;
      told = other_told c.args.language c.args.numbers c.args.at op.Multiply x y _ refl c.arithmetic-in-Multiply.ensures.given c.arithmetic-in-Multiply.ensures.told;
    })

pub returns-in-Divide : goal.returns-in-Divide
returns-in-Divide c =
    let x = typed_view c.args.operands.0 in
    let y = typed_view c.args.operands.1 in
    rw c.in-Divide.is
    (record {
      given = other_given c.args.language c.args.numbers c.args.at op.Divide x y _ refl c.integral.ensures.given;
      told = other_told c.args.language c.args.numbers c.args.at op.Divide x y _ refl c.integral.ensures.given c.integral.ensures.told;
    })

pub returns-in-Modulo : goal.returns-in-Modulo
returns-in-Modulo c =
    let x = typed_view c.args.operands.0 in
    let y = typed_view c.args.operands.1 in
    rw c.in-Modulo.is
    (record {
      given = other_given c.args.language c.args.numbers c.args.at op.Modulo x y _ refl c.integral-in-Modulo.ensures.given;
      told = other_told c.args.language c.args.numbers c.args.at op.Modulo x y _ refl c.integral-in-Modulo.ensures.given c.integral-in-Modulo.ensures.told;
    })

pub returns-in-Remainder : goal.returns-in-Remainder
returns-in-Remainder c =
    let x = typed_view c.args.operands.0 in
    let y = typed_view c.args.operands.1 in
    rw c.in-Remainder.is
    (record {
      given = other_given c.args.language c.args.numbers c.args.at op.Remainder x y _ refl c.integral-in-Remainder.ensures.given;
      told = other_told c.args.language c.args.numbers c.args.at op.Remainder x y _ refl c.integral-in-Remainder.ensures.given c.integral-in-Remainder.ensures.told;
    })
