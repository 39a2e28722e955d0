-- What is told of an architecture up to the first entity that it names and that isn't given.
use Rattle.std.proofs.Common.{◌≡◌, ℕ, Bool, true, false, List, [], ◌∷◌, Some, refl, ap, ◌∙◌}
use Rattle.std.specs.Prelude.{◌&&◌, ◌||◌, nat_eq, if◌then◌else◌}
use Rattle.vhdl_tree.specs.Tree as t
use Rattle.vhdl_tree.specs.Tree.{Ident}
use Rattle.vhdl_names_rules.specs.declared.fault.NameFault.{NameFault}
use Rattle.vhdl_names_rules.specs.declared.fault.NameFault.TheVariants.{At, NoMemory}
use Rattle.vhdl_names_rules.specs.declared.fault.NameProblem.{NameProblem}
use Rattle.vhdl_names_rules.specs.declared.fault.NameProblem.TheVariants.{Twice}
use Rattle.vhdl_names_rules.specs.Visibility.{Name}
use Rattle.vhdl_names_rules.specs.problems.Broken.{Broken, Tells, nothing, refused}
use Rattle.vhdl_names_rules.specs.problems.Files.{up_to_hidden, mentions}
use Rattle.vhdl_names.specs.Views.{is_hidden, one_is_hidden, is_undeclared, is_of_hidden}
use Rattle.vhdl_names.specs.declared.tables.Given.{Given}

module _ (g : Given) (a : t.Architecture) where
  abbrev told : Broken → Broken
  told = up_to_hidden (is_hidden g) a

  of_fault : (p : NameProblem) (at : ℕ) → told (Some (p, at)) ≡ (if is_undeclared p && one_is_hidden g at (mentions a) then nothing else refused p at)
  of_fault Twice at = refl
  of_fault x at = refl

  pub hidden_there : (b : Broken) (f : NameFault) → is_of_hidden g a f ≡ true → Tells b f → told b ≡ nothing
  hidden_there b (At p at) h w = ap told w ∙ of_fault p at ∙ ap (λ c. if c then nothing else refused p at) h
  hidden_there b NoMemory h w = absurd cc

  pub told_there : (b : Broken) (f : NameFault) → is_of_hidden g a f ≡ false → Tells b f → Tells (told b) f
  told_there b (At p at) h w = ap told w ∙ of_fault p at ∙ ap (λ c. if c then nothing else refused p at) h
  told_there b NoMemory h w = tt

  -- where no entity is hidden
  none_among : ((n : Name) → is_hidden g n ≡ false) → (at : ℕ) (is : List Ident) → one_is_hidden g at is ≡ false
  none_among none at [] = refl
  none_among none at (i ∷ is) = go (nat_eq i.at at) (none i.text) (none_among none at is)
    where
      go : (c : Bool) → is_hidden g i.text ≡ false → one_is_hidden g at is ≡ false → ((c && is_hidden g i.text) || one_is_hidden g at is) ≡ false
      go true h more = ap (λ x. x || one_is_hidden g at is) h ∙ more
      go false h more = more

  pub none_there : ((n : Name) → is_hidden g n ≡ false) → (f : NameFault) → is_of_hidden g a f ≡ false
  none_there none (At p at) = ap (λ x. is_undeclared p && x) (none_among none at (mentions a)) ∙ and_false (is_undeclared p)
    where
      and_false : (x : Bool) → (x && false) ≡ false
      and_false true = refl
      and_false false = refl
  none_there none NoMemory = refl
