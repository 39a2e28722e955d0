use Rattle.std.proofs.Common.{◌≡◌, ◌+◌, ◌*◌, ◌^◌, ◌≤◌, Option, Some, None, sym, arith}
use Rattle.std.specs.Prelude.{IfNone}
use Rattle.std.proofs.lemmas.Nat.{mul-lt}
use Rattle.rtl_model.proofs.bodies.Rows.{row_there}
use Rattle.rtl_net.specs.Bodies.{spacing_view}
use Rattle.rtl_eval.specs.Rows.{IsNowhere}
use Rattle.rtl_eval.proofs.Beginnings.{nameless, begins_nowhere}
use Rattle.rtl_eval.proofs.choosing.row_start.Goals as goal

if_none : {X : Type 0} (o : Option X) (P : Type 0) → P → IfNone o P
if_none None P p = p
if_none (Some x) P p = tt

pub overflow_mul-first : goal.overflow_mul-first
overflow_mul-first c =
    let product : c.from.result * c.from-2.result ≡ c.in_ok-number.number * c.args.spacing.step = cc in
    omega (arith, product, mul-lt c.in_ok-number.number c.args.spacing.step (2 ^ 64) (2 ^ 32) (omega arith) (omega arith))

pub overflow_add-first : goal.overflow_add-first
overflow_add-first c =
    let product : c.from.result * c.from-2.result ≡ c.in_ok-number.number * c.args.spacing.step = cc in
    omega (arith, product, mul-lt c.in_ok-number.number c.args.spacing.step (2 ^ 64) (2 ^ 32) (omega arith) (omega arith))

pub returns-in_err-number-clause-none : goal.returns-in_err-number-clause-none
returns-in_err-number-clause-none c =
    if_none c.from_residual.result (IsNowhere (spacing_view c.args.spacing) c.args.elements c.args.index.now) (nameless (spacing_view c.args.spacing) c.args.elements c.args.index.now c.in_err-number.ensures)

pub returns-then-first-from-clause-some : goal.returns-then-first-from-clause-some
returns-then-first-from-clause-some c =
    let s = spacing_view c.args.spacing in
    let number = c.in_ok-number.number in
    let product : c.from.result * c.from-2.result ≡ number * s.step = cc in
    let within : number * s.step + s.len ≤ c.args.elements = omega (arith, product, c.if-first-from.true) in
    record {
      number = number;
      named = sym c.in_ok-number.ensures;
      there = row_there s c.args.elements number (omega (arith, c.requires.1)) within;
      begins = omega (arith, product, within);
    }

pub returns-else-first-from-clause-none : goal.returns-else-first-from-clause-none
returns-else-first-from-clause-none c =
    let s = spacing_view c.args.spacing in
    let number = c.in_ok-number.number in
    let product : c.from.result * c.from-2.result ≡ number * s.step = cc in
    begins_nowhere s c.args.elements number c.args.index.now (sym c.in_ok-number.ensures) (omega (arith, product, c.if-first-from.false))
