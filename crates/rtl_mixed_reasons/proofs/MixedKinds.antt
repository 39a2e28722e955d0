-- The kind of a process tells whether it is mixed.
use Rattle.std.proofs.Common.{◌≡◌, ℕ, true, false, ◌&&◌, List, [], ◌∷◌, Option, Some, None, refl}
use Rattle.std.specs.Prelude.{is_none}
use Rattle.rtl_model.specs.bodies.Kinds as k
use Rattle.rtl_body_facts.specs.Reading.{some}
use Rattle.rtl_body_facts.specs.Timing.{kind_view}
use Rattle.rtl_body_facts.specs.declared.kinds.Clocking.{Clocking}
use Rattle.rtl_body_facts.specs.declared.kinds.ProcessKind.TheVariants as v

pub of_combinational : (o : Option k.Clocking) (ns : List ℕ) → v.Combinational ≡ kind_view o ns → false ≡ is_none o && some ns
of_combinational None [] e = refl
of_combinational None (n ∷ ns) e = absurd cc
of_combinational (Some c) ns e = absurd cc

pub of_clocked : (o : Option k.Clocking) (ns : List ℕ) (c : Clocking) → v.Clocked c ≡ kind_view o ns → false ≡ is_none o && some ns
of_clocked None [] c e = absurd cc
of_clocked None (n ∷ ns) c e = absurd cc
of_clocked (Some x) ns c e = refl

pub of_mixed : (o : Option k.Clocking) (ns : List ℕ) → v.Mixed ≡ kind_view o ns → true ≡ is_none o && some ns
of_mixed None [] e = absurd cc
of_mixed None (n ∷ ns) e = refl
of_mixed (Some c) ns e = absurd cc
