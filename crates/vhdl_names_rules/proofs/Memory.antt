-- Want of memory, which is passed on.
use Rattle.std.proofs.Common.{◌≡◌, Option, Result, Ok, Err, IfErr, sym, subst}
use Rattle.std.specs.Prelude.{IsErrAnd}
use Rattle.vhdl_names_rules.specs.Gives.{Gives}
use Rattle.vhdl_names_rules.specs.declared.fault.NameFault.{NameFault}
use Rattle.vhdl_names_rules.specs.declared.fault.NameFault.TheVariants.{NoMemory}
use Rattle.vhdl_names_rules.specs.problems.Broken.{Broken, Tells}

pub memory_gives : {X Y : Type 0} (view : X → Y) (given : Option Y) (P : NameFault → Type 0) (r : Result X NameFault) → IsErrAnd r P
    → ((e : NameFault) → P e → e ≡ NoMemory) → Gives view given r
memory_gives view given P (Ok x) h same = absurd h
memory_gives view given P (Err e) h same = λ n. absurd (n (same e h))

pub memory_told : {X : Type 0} (b : Broken) (P : NameFault → Type 0) (r : Result X NameFault) → IsErrAnd r P → ((e : NameFault) → P e → e ≡ NoMemory) → IfErr r (Tells b)
memory_told b P (Ok x) h same = absurd h
memory_told b P (Err e) h same = subst (Tells b) (sym (same e h)) tt
