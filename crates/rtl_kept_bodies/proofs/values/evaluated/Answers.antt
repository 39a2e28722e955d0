use Rattle.std.proofs.Common.{ℕ, ◌<◌, List, length, subst, sym, ap}
use Rattle.rtl_model.specs.bodies.Fits.{FitsExpr}
use Rattle.rtl_net.specs.Bodies.{expr_view, value_view}
use Rattle.rtl_eval.specs.Seeing.{Within}
use Rattle.rtl_variable_registers.specs.Known.{at_start}
use Rattle.rtl_kept_bodies.specs.Steps.{CanEvaluate}
use Rattle.rtl_kept_bodies.proofs.Evaluating.{expr_within, element_within}
use Rattle.rtl_kept_bodies.proofs.values.evaluated.Goals as goal

pub value-requires : goal.value-requires
value-requires c =
    let vars = c.args.out.now.variables in
    subst (λ (vs : List ℕ). Within (at_start vs) (λ scope. FitsExpr scope (expr_view c.in-Elements.expr))) (sym c.variables.ensures)
    (expr_within vars (expr_view c.in-Elements.expr) (subst (CanEvaluate vars) (ap value_view c.in-Elements.is) c.requires))

pub bounds-seen-element : goal.bounds-seen-element
bounds-seen-element c =
    let vars = c.args.out.now.variables in
    subst (λ (vs : List ℕ). c.in-PositionIn.element < length vs) (sym c.variables.ensures) (element_within vars c.in-PositionIn.element (subst (CanEvaluate vars) (ap value_view c.in-PositionIn.is) c.requires))
