-- What is told of parts of instances.
use Rattle.std.proofs.Common.{◌≡◌, ◌≢◌, Option, Some, None, Result, Ok, Err, IfOk, ap, true≢false}
use Rattle.std.specs.Prelude.{IsErrAnd, is_some}
use Rattle.vhdl_names_rules.specs.declared.fault.NameFault.{NameFault}
use Rattle.vhdl_names_rules.specs.declared.fault.NameFault.TheVariants.{At, NoMemory}
use Rattle.vhdl_names_rules.specs.Gives.{Gives}
use Rattle.vhdl_names_rules.specs.problems.Broken.{Broken, Tells}
use Rattle.vhdl_names_rules.proofs.Telling.{at_is_told, told_same}

-- want of memory is always told
pub or_memory : (b : Broken) (f : NameFault) → (f ≢ NoMemory → Tells b f) → Tells b f
or_memory b (At p at) h = h (at_is_told p at)
or_memory b NoMemory h = tt

-- nor is anything else told where something is given
pub only_memory : {A : Type 0} (b : Broken) (x : A) (f : NameFault) → (f ≢ NoMemory → Some x ≡ None) → Tells b f
only_memory b x f h = or_memory b f (λ n. absurd (true≢false (ap is_some (h n))))

-- along an equation of what is looked at
pub told_along : {A : Type 0} (b : A → Broken) (x y : A) → x ≡ y → (f : NameFault) → Tells (b x) f → Tells (b y) f
told_along b x y e f h = told_same (b x) (b y) f (ap b e) h

-- what holds where something is answered
pub ok_on : {X : Type 0} {P Q : Type 0} (r : Result X NameFault) → IfOk r (λ _. P) → (P → Q) → IfOk r (λ _. Q)
ok_on (Ok x) h more = more h
ok_on (Err f) h more = tt

-- a refusal gives nothing
pub refused_gives : {X Y : Type 0} (view : X → Y) (o : Option Y) (P : NameFault → Type 0) (r : Result X NameFault) → IsErrAnd r P → o ≡ None → Gives view o r
refused_gives view o P (Ok x) h e = absurd h
refused_gives view o P (Err f) h e = λ n. e
