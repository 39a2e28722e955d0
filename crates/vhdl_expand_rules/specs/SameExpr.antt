-- Whether two expanded expressions are the same, part for part (own: the standard asks it of no two).
use Rattle.std.specs.Prelude.{◌==◌, Bool, true, false, ◌&&◌, bytes_eq}
use Rattle.vhdl_values.specs.Scalar as vectors
use Rattle.vhdl_values.specs.declared.kinds.Logic.{Logic}
use Rattle.vhdl_values.specs.declared.kinds.Logic.TheVariants as l
use Rattle.vhdl_values.specs.declared.kinds.Shift.{Shift}
use Rattle.vhdl_values.specs.declared.kinds.Shift.TheVariants as s
use Rattle.vhdl_values.specs.declared.kinds.Counted.{Counted}
use Rattle.vhdl_values.specs.declared.kinds.Counted.TheVariants as c
use Rattle.vhdl_numbers.specs.declared.kinds.Conversion.{Conversion}
use Rattle.vhdl_numbers.specs.declared.kinds.Conversion.TheVariants as n
use Rattle.vhdl_numbers.specs.declared.kinds.SignedOperator.{SignedOperator}
use Rattle.vhdl_numbers.specs.declared.kinds.SignedOperator.TheVariants as o
use Rattle.rtl_model.specs.bodies.Body as bodies
use Rattle.rtl_model.specs.bodies.Body.{Operator, Expr}
use Rattle.vhdl_expand_rules.specs.Aggregates.{are_same}

-- ---- kinds of operators

abbrev pub same_logic : Logic → Logic → Bool
same_logic l.And l.And = true
same_logic l.Or l.Or = true
same_logic l.Nand l.Nand = true
same_logic l.Nor l.Nor = true
same_logic l.Xor l.Xor = true
same_logic l.Xnor l.Xnor = true
same_logic _ _ = false

abbrev pub same_signed : SignedOperator → SignedOperator → Bool
same_signed o.Multiply o.Multiply = true
same_signed o.Divide o.Divide = true
same_signed o.Modulo o.Modulo = true
same_signed o.Remainder o.Remainder = true
same_signed _ _ = false

abbrev pub same_operator : Operator → Operator → Bool
same_operator (bodies.logical a) (bodies.logical b) = same_logic a b
same_operator bodies.joined bodies.joined = true
same_operator bodies.plus bodies.plus = true
same_operator bodies.minus bodies.minus = true
same_operator bodies.times bodies.times = true
same_operator (bodies.signed a) (bodies.signed b) = same_signed a b
same_operator _ _ = false

abbrev pub same_shift : Shift → Shift → Bool
same_shift s.Left s.Left = true
same_shift s.Right s.Right = true
same_shift s.RightSigned s.RightSigned = true
same_shift s.RotateLeft s.RotateLeft = true
same_shift _ _ = false

abbrev pub same_counted : Counted → Counted → Bool
same_counted c.Resize c.Resize = true
same_counted c.ResizeSigned c.ResizeSigned = true
same_counted (c.Shift a) (c.Shift b) = same_shift a b
same_counted _ _ = false

abbrev pub same_conversion : Conversion → Conversion → Bool
same_conversion n.Cleaned n.Cleaned = true
same_conversion n.Magnitude n.Magnitude = true
same_conversion (n.Within least greatest) (n.Within x y) = are_same least x && are_same greatest y
same_conversion _ _ = false

-- ---- expressions

abbrev pub same_expr : Expr → Expr → Bool
same_expr (bodies.signal a) (bodies.signal b) = bytes_eq a b
same_expr (bodies.variable a) (bodies.variable b) = bytes_eq a b
same_expr (bodies.constant a) (bodies.constant b) = vectors.are_same a b
same_expr (bodies.inverse a) (bodies.inverse b) = same_expr a b
same_expr (bodies.filled m a) (bodies.filled n b) = m == n && same_expr a b
same_expr (bodies.Expr.binary o a b) (bodies.Expr.binary p c d) =
    same_operator o p && (same_expr a c && same_expr b d)
same_expr (bodies.counted o m a) (bodies.counted p n b) = same_counted o p && (m == n && same_expr a b)
same_expr (bodies.shifted o m a) (bodies.shifted p n b) = same_shift o p && (same_expr m n && same_expr a b)
same_expr (bodies.converted o a) (bodies.converted p b) = same_conversion o p && same_expr a b
same_expr (bodies.chosen i r a) (bodies.chosen j q b) =
    r.len == q.len && (r.step == q.step && (same_expr i j && same_expr a b))
same_expr _ _ = false
