use Rattle.std.proofs.Common.{◌≡◌, subst, sym, ◌∙◌}
use Rattle.rtl_model.specs.bodies.Body.{step, done}
use Rattle.rtl_net.specs.declared.body.Statement.{Statement}
use Rattle.rtl_net.specs.declared.body.Statement.TheVariants as vs
use Rattle.rtl_net.specs.Bodies.{statement_view}
use Rattle.rtl_kept_bodies.specs.Steps.{CanCompute}
use Rattle.rtl_kept_bodies.proofs.Knowing.{can_evaluate_assigned, can_evaluate_set}
use Rattle.rtl_kept_bodies.proofs.Evaluating.{set_many, set_there}
use Rattle.rtl_kept_bodies.proofs.values.make_constant.Goals as goal

pub evaluated-constant-requires : goal.evaluated-constant-requires
evaluated-constant-requires c =
    let places = c.replace-places.ensures.value ∙ c.in-Assign.places-is in
    let value = c.replace-value.ensures.value ∙ c.in-Assign.value-is in
    let is : c.args.statement.now ≡ vs.Assign c.replace-places.result c.replace-value.result = c.in-Assign.is ∙ (λ i. vs.Assign (sym places i) (sym value i)) in
    can_evaluate_assigned c.args.out.now.variables _ _ done (subst (λ (s : Statement). CanCompute c.args.out.now.variables (step (statement_view s) done)) is c.requires)

pub evaluated-constant-requires-in-Set : goal.evaluated-constant-requires-in-Set
evaluated-constant-requires-in-Set c =
    let elements = c.replace-elements.ensures.value ∙ c.in-Set.elements-is in
    let value = c.replace-value-in-Set.ensures.value ∙ c.in-Set.value-is in
    let is : c.args.statement.now ≡ vs.Set c.replace-elements.result c.replace-value-in-Set.result = c.in-Set.is ∙ (λ i. vs.Set (sym elements i) (sym value i)) in
    can_evaluate_set c.args.out.now.variables _ _ done (subst (λ (s : Statement). CanCompute c.args.out.now.variables (step (statement_view s) done)) is c.requires)

pub set-requires-clause-as_many : goal.set-requires-clause-as_many
set-requires-clause-as_many c =
    let elements = c.replace-elements.ensures.value ∙ c.in-Set.elements-is in
    let value = c.replace-value-in-Set.ensures.value ∙ c.in-Set.value-is in
    let is : c.args.statement.now ≡ vs.Set c.replace-elements.result c.replace-value-in-Set.result = c.in-Set.is ∙ (λ i. vs.Set (sym elements i) (sym value i)) in
    set_many c.args.out.now.variables _ _ (subst (λ (s : Statement). CanCompute c.args.out.now.variables (step (statement_view s) done)) is c.requires) _ c.evaluated-constant-in-Set.ensures

pub set-requires-clause-there : goal.set-requires-clause-there
set-requires-clause-there c =
    let elements = c.replace-elements.ensures.value ∙ c.in-Set.elements-is in
    let value = c.replace-value-in-Set.ensures.value ∙ c.in-Set.value-is in
    let is : c.args.statement.now ≡ vs.Set c.replace-elements.result c.replace-value-in-Set.result = c.in-Set.is ∙ (λ i. vs.Set (sym elements i) (sym value i)) in
    set_there c.args.out.now.variables _ _ (subst (λ (s : Statement). CanCompute c.args.out.now.variables (step (statement_view s) done)) is c.requires) _ c.evaluated-constant-in-Set.ensures
