use Rattle.std.proofs.Common.{◌≡◌, true, [], Option, Some, None, refl, ap, ◌∙◌}
use Rattle.std.specs.Prelude.{is_some, option_map}
use Rattle.rtl_model.specs.bodies.Kinds.{clocking}
use Rattle.rtl_net.specs.Bodies.{statements_of}
use Rattle.rtl_body_facts.specs.Timing.{clocking_view}
use Rattle.rtl_kept_bodies.proofs.registers.is_clocked.Goals as goal

still : {A B : Type 0} (f : A → B) (o : Option A) → is_some (option_map f o) ≡ is_some o
still f None = refl
still f (Some x) = refl

pub returns : goal.returns
returns c = c.is_some.ensures ∙ (ap is_some c.clocking_of.ensures ∙ still clocking_view (clocking true [] (statements_of c.args.body.now)))
