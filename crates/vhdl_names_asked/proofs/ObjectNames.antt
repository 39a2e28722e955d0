-- What the name of an object breaks, by what it is declared to be and what stands behind it.
use Rattle.std.proofs.Common.{◌≡◌, ◌≢◌, ℕ, Bool, true, false, not, Option, Some, None, Result, IfErr, refl, sym, ap}
use Rattle.std.specs.Prelude.{is_none}
use Rattle.vhdl_tree.specs.Tree as t
use Rattle.vhdl_names_rules.specs.declared.fault.NameFault.{NameFault}
use Rattle.vhdl_names_rules.specs.declared.fault.NameFault.TheVariants.{At, NoMemory}
use Rattle.vhdl_names_rules.specs.declared.fault.NameProblem.{NameProblem}
use Rattle.vhdl_names_rules.specs.declared.fault.NameProblem.TheVariants.{WriteOfIn}
use Rattle.vhdl_names_rules.specs.Gives.{Gives}
use Rattle.vhdl_names_rules.specs.Visibility.{Sight, Meaning, Declared, declaration}
use Rattle.vhdl_names_rules.specs.Names.{Suffix}
use Rattle.vhdl_names_rules.specs.Expressions as are
use Rattle.vhdl_names_rules.specs.problems.Broken.{Broken, Tells, refused, ◌▸◌, unless, lacking, where_given}
use Rattle.vhdl_names_rules.specs.Statements.{is_input, mode_of, Target, as_signal_target}
use Rattle.vhdl_names_rules.specs.problems.Statements.{named, signal_problem, target_by_declaration, target_by}
use Rattle.vhdl_names_rules.proofs.Telling.{lacking_kept, told_same, told_left, told_right, told_lacking, told_given, told_on}
use Rattle.vhdl_names_rules.proofs.laws.Rules.{comes, kept}
use Rattle.vhdl_names_rules.proofs.kept.Statements.{named_kept}
use Rattle.vhdl_names_asked.specs.Asked.{unattributed}
use Rattle.vhdl_names_asked.proofs.Asking.{both}
use Rattle.vhdl_names_expressions.proofs.Breaking.{told_fault, refused_told}

-- what an object's name breaks is that of what it is declared to be, where nothing else of it breaks a rule
module _ (sight : Sight) (n : t.Name) (more : Declared → Suffix → Broken) where
  abbrev pub behind_name : Broken
  behind_name = where_given (declaration sight n.identifier.text) (λ d. where_given (are.typed_suffix sight n.suffix) (more d))

  pub name_told : {X : Type 0} (m : Declared × Suffix) (r : Result X NameFault) → unattributed sight n ≡ Some m → IfErr r (Tells (more m.0 m.1)) →
      IfErr r (Tells (named sight n ▸ behind_name))
  name_told m r h =
      let a = comes (declaration sight n.identifier.text) _ m h in
      let b = comes (are.typed_suffix sight n.suffix) _ m a.rest in
      let c = kept (is_none n.attribute) _ m b.rest in
      let same : Some (both a.value b.value) ≡ Some m = c.1 in
      let e : m ≡ both a.value b.value = cc in
      told_on _ _ r (λ f w. told_right (named sight n) behind_name f (named_kept sight n a.value b.value a.is b.is c.0)
      (told_given _ (declaration sight n.identifier.text) a.value f a.is
      (told_given (more a.value) (are.typed_suffix sight n.suffix) b.value f b.is
      (told_same (more m.0 m.1) (more a.value b.value) f (ap (λ p. more p.0 p.1) e) w))))

-- what is refused of a name by its meaning
pub name_refused : {X Y : Type 0} (sight : Sight) (n : t.Name) (see : X → Y) (problem : Meaning → NameProblem) (wanted : Declared → Suffix → Option Y) (m : Declared × Suffix) (r : Result X NameFault) →
    unattributed sight n ≡ Some m → Gives see (wanted m.0 m.1) r → IfErr r (Tells (refused (problem m.0.meaning) n.identifier.at)) →
    IfErr r (Tells (named sight n ▸ behind_name sight n (λ d s. lacking (problem d.meaning) n.identifier.at (wanted d s))))
name_refused sight n see problem wanted m r is given told =
    name_told sight n (λ d s. lacking (problem d.meaning) n.identifier.at (wanted d s)) m r is
    (refused_told see (problem m.0.meaning) n.identifier.at n.identifier.at (wanted m.0 m.1) r refl given told)

-- ---- targets

-- what a target's name breaks
pub target_first : (sight : Sight) (is_variable : Bool) (n : t.Name) (f : NameFault) → Tells (named sight n) f → Tells (target_by sight is_variable n) f
target_first sight true n f h = told_left (named sight n) _ f h
target_first sight false n f h = told_left (named sight n) _ f h

module _ (at : ℕ) (d : Declared) (s : Suffix) where
  lacks : Broken
  lacks = lacking (signal_problem d.meaning) at (as_signal_target at d s)

  written : Broken
  written = unless WriteOfIn at (not (is_input (mode_of d.meaning)))

  parts : target_by_declaration at d s ≡ (lacks ▸ written)
  unfolding lacks written
  parts = refl

  pub target_refused : (f : NameFault) → (f ≢ NoMemory → as_signal_target at d s ≡ None) → Tells (refused (signal_problem d.meaning) at) f → Tells (target_by_declaration at d s) f
  unfolding lacks
  target_refused f none h = told_same _ _ f (sym parts) (told_left lacks written f (told_lacking (signal_problem d.meaning) at (as_signal_target at d s) f none h))

  pub input_refused : (x : Target) (f : NameFault) → as_signal_target at d s ≡ Some x → is_input (mode_of d.meaning) ≡ true → f ≡ At WriteOfIn at → Tells (target_by_declaration at d s) f
  unfolding lacks written
  input_refused x f given input is =
      told_same _ _ f (sym parts)
      (told_right lacks written f (lacking_kept (signal_problem d.meaning) at (as_signal_target at d s) x given)
      (told_fault written (At WriteOfIn at) f is (ap (λ b. unless WriteOfIn at (not b)) input)))
