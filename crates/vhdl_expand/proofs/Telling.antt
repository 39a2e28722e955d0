-- Where TooMany may be told of what expansion refuses: turns tell it at their byte, and static integers, truths, names
-- of signals and what is declared not at all.
use Rattle.std.proofs.Common.{◌≡◌, ℕ, List, Result, Ok, Err, All, sym, ap, ◌∙◌, subst}
use Rattle.std.specs.Prelude.{Contains, IsErrAnd, ℤ}
use Rattle.vhdl_names_rules.specs.units.Expressions.{StaticTest, Range, SignalPart}
use Rattle.vhdl_names_rules.specs.units.Statements.{Statements}
use Rattle.vhdl_names_rules.specs.units.Units as units
use Rattle.vhdl_names_rules.specs.units.Units.{Sensitivity}
use Rattle.vhdl_names_rules.specs.units.Bytes.{static_test_bytes, range_bytes, place_bytes}
use Rattle.vhdl_expand_rules.specs.declared.fault.ElabFault.{ElabFault}
use Rattle.vhdl_expand_rules.specs.declared.fault.ElabProblem.TheVariants.{TooMany}
use Rattle.vhdl_expand_rules.specs.Elab.{Told, Elab, fault_told, MayTell}
use Rattle.vhdl_expand_rules.specs.Integers.{Integers, decision, turns}
use Rattle.vhdl_expand_rules.specs.Site.{Site}
use Rattle.vhdl_expand_rules.specs.Prefixes.{targets, names, names_elements, prefixes_elements}
use Rattle.vhdl_expand_rules.specs.Expansion.{sensitivity}
use Rattle.vhdl_expand_processes.specs.Driven.{drives_of}
use Rattle.vhdl_expand_rules.proofs.Steps.{given}
use Rattle.vhdl_expand_rules.proofs.Items.{all_any}
use Rattle.vhdl_expand_rules.proofs.Tells.{Tells, IsOwn, At, tells_none, tells_then}
use Rattle.vhdl_expand_rules.proofs.laws.told.Static.{decision_tells, turns_tells}
use Rattle.vhdl_expand_rules.proofs.laws.told.Names.{names_tell, prefixes_tell}
use Rattle.vhdl_expand_tree.proofs.Alike.{wrong, same_told, tells}
use Rattle.vhdl_expand.specs.Turning.{TellsTurns}

abbrev pub IsPlaced : List ℕ → Told → Type 0
IsPlaced bytes told = told.0 ≡ TooMany → Contains bytes told.1

-- where it is told, it is at one of these bytes
pub record Places (bytes : List ℕ) {A : Type 0} (r : Elab A) : Type 0 where
  pub placed : (told : Told) → r ≡ Err told → told.0 ≡ TooMany → Contains bytes told.1

pub told_there : {A : Type 0} {bytes : List ℕ} {told : Told} (r : Elab A) → Places bytes r → r ≡ Err told → MayTell bytes r told
told_there {A} {bytes} {told} r h e = tells (h.placed told e) e

pub tells_places : {A : Type 0} (bytes : List ℕ) (r : Elab A) → Tells (IsPlaced bytes) r → Places bytes r
tells_places bytes r h = record { placed = λ told e. h.told_at told e }

-- where turns are refused, and where they are given
pub turns_told : {X : Type 0} (here : Integers) (at : ℕ) (range : Range) (fault : ElabFault) (P : ElabFault → Type 0) (r : Result X ElabFault) → IsErrAnd r P
    → ((e : ElabFault) → P e → e ≡ fault) → turns here at range ≡ Err (fault_told fault) → TellsTurns here at range r
turns_told here at range fault P (Ok x) h same g = absurd h
turns_told here at range fault P (Err e) h same g = λ told k. ap (λ (f : ElabFault). fault_told f) (same e h) ∙ same_told {A = List ℤ} (fault_told fault) told (sym g ∙ k)

pub turns_given : {X : Type 0} (here : Integers) (at : ℕ) (range : Range) (is : List ℤ) (r : Result X ElabFault) → turns here at range ≡ Ok is → TellsTurns here at range r
turns_given here at range is r g = λ told k. let clash : given is ≡ wrong told = sym g ∙ k in absurd cc

module _ (bytes : List ℕ) where
  -- a problem of a rule is none of a budget, wherever it is told
  pub anywhere : (at : ℕ) → At (IsPlaced bytes) at
  anywhere at problem own too = absurd (subst IsOwn too own)

  pub all_anywhere : (ns : List ℕ) → All (At (IsPlaced bytes)) ns
  all_anywhere ns = all_any (At (IsPlaced bytes)) anywhere ns

  pub each_anywhere : {A : Type 0} (f : A → List ℕ) (xs : List A) → All (λ (x : A). All (At (IsPlaced bytes)) (f x)) xs
  each_anywhere {A} f xs = all_any (λ (x : A). All (At (IsPlaced bytes)) (f x)) (λ x. all_anywhere (f x)) xs

  pub decision_places : (here : Integers) (t : StaticTest) → Places bytes (decision here t)
  decision_places here t = tells_places bytes _ (decision_tells (IsPlaced bytes) here t (all_anywhere (static_test_bytes t)))

  pub turns_places : (here : Integers) (at : ℕ) (r : Range) → Contains bytes at → Places bytes (turns here at r)
  turns_places here at r h = tells_places bytes _ (turns_tells (IsPlaced bytes) here at r (λ too. h) (anywhere at) (all_anywhere (range_bytes r)))

  -- ---- what a process drives, and what resumes it

  prefixed : (here : Site) (ps : List SignalPart) → Tells (IsPlaced bytes) (prefixes_elements here ps)
  prefixed here ps = prefixes_tell (IsPlaced bytes) here ps (each_anywhere place_bytes ps)

  pub drives_places : (here : Site) (body : Statements) → Places bytes (drives_of here body)
  drives_places here body =
      tells_places bytes _ (tells_then (IsPlaced bytes) (prefixes_elements here (targets body)) _ (prefixed here (targets body)) (λ ds. tells_none (IsPlaced bytes) _))

  resumed : (here : Site) (on : Sensitivity) (body : Statements) → Tells (IsPlaced bytes) (sensitivity here on body)
  unfolding sensitivity
  resumed here (units.listed ps) body =
      tells_then (IsPlaced bytes) (names_elements here ps) _ (names_tell (IsPlaced bytes) here ps (each_anywhere place_bytes ps)) (λ es. tells_none (IsPlaced bytes) _)
  resumed here units.every body =
      tells_then (IsPlaced bytes) (prefixes_elements here (names body)) _ (prefixed here (names body)) (λ es. tells_none (IsPlaced bytes) _)
  resumed here units.as_read body = tells_none (IsPlaced bytes) _

  pub sensitivity_places : (here : Site) (on : Sensitivity) (body : Statements) → Places bytes (sensitivity here on body)
  sensitivity_places here on body = tells_places bytes _ (resumed here on body)
