use Rattle.std.proofs.Common.{◌≡◌, Bool, true, false, Result, Ok, Err, refl}
use Rattle.std.specs.Prelude.{◌||◌, OnErr}
use Rattle.rtlsim_refusals.proofs.stimulus.explain_stim.Goals as goal

or_later : {T E : Type 0} (r : Result T E) (a b : Bool) → OnErr r (b ≡ true) → OnErr r ((a || b) ≡ true)
or_later (Ok x) a b h = tt
or_later (Err e) true b h = refl
or_later (Err e) false b h = h

pub returns-in_default-clause-memory : goal.returns-in_default-clause-memory
returns-in_default-clause-memory g c = or_later c.explain_plain.result _ _ c.explain_plain.ensures.memory
