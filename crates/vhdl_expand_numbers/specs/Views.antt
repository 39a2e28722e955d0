-- What contracts see of numbers, of sums of multiples of them, and of rows.
use Rattle.std.specs.Prelude.{map, Option, Some, None}
use Rattle.rtl_model.specs.bodies.Body as bodies
use Rattle.rtl_net.specs.Bodies.{expr_view}
use Rattle.vhdl_expand_rules.specs.Computed as n
use Rattle.vhdl_expand_rules.specs.Linear as l
use Rattle.vhdl_expand_rules.specs.Expressions as definition
use Rattle.vhdl_expand_numbers.specs.declared.rows.Row.{Row}
use Rattle.vhdl_expand_numbers.specs.declared.measured.Measured.{Measured}
use Rattle.vhdl_expand_numbers.specs.declared.span.Span.{Span}
use Rattle.vhdl_expand_numbers.specs.declared.span.Limits.{Limits}
use Rattle.vhdl_expand_numbers.specs.declared.bounded.Number.{Number}
use Rattle.vhdl_expand_numbers.specs.declared.linear.Term.{Term}
use Rattle.vhdl_expand_numbers.specs.declared.linear.Linear.{Linear}

abbrev pub span_view : Span → n.Span
span_view s = record { least = s.least; greatest = s.greatest }

abbrev pub limits_view : Limits → n.Span
limits_view s = record { least = s.least; greatest = s.greatest }

abbrev pub number_view : Number → n.Number
number_view x = record { digits = expr_view x.operand.expr; span = span_view x.span }

abbrev pub term_view : Term → l.Term
term_view t = record { number = expr_view t.number; factor = t.factor }

abbrev pub linear_view : Linear → l.Linear
linear_view x = record { terms = map term_view x.terms.items; rest = x.rest }

abbrev pub row_view : Row → definition.Row
row_view r = record { index = expr_view r.index.expr; spacing = record { len = r.width.len; step = 1 } }

-- a number without a sum is a term by itself
abbrev pub sum_view : bodies.Expr → Option Linear → l.Linear
sum_view e (Some x) = linear_view x
sum_view e None = l.one_term e

abbrev pub measured_view : Measured → l.Measured
measured_view m = record { number = number_view m.number; linear = sum_view (expr_view m.number.operand.expr) m.linear }
