-- The units of a file one after another: what their architectures break, and what they give.
use Rattle.std.proofs.Common.{◌≡◌, ℕ, ◌+◌, ◌<◌, List, [], ◌∷◌, length, get_or, Option, Some, ap, sym, ◌∙◌}
use Rattle.vhdl_tree.specs.Tree as t
use Rattle.vhdl_tree.specs.Tree.{ContextItem}
use Rattle.vhdl_tree.specs.View as view
use Rattle.vhdl_tree.specs.declared.unit.DesignUnit.{DesignUnit}
use Rattle.vhdl_names_rules.specs.declared.fault.NameFault.{NameFault}
use Rattle.vhdl_names_rules.specs.Rules.{◌>>=◌}
use Rattle.vhdl_names_rules.specs.Files.{as_architecture, architectures_of}
use Rattle.vhdl_names_rules.specs.problems.Broken.{Broken, Tells, nothing, any_of, ◌▸◌}
use Rattle.vhdl_names_rules.proofs.Telling.{any_append, behind_kept, told_left, told_same}
use Rattle.vhdl_names_rules.proofs.kept.Files.{one_behind}
use Rattle.vhdl_names_units.specs.Lists.{in_turn}
use Rattle.vhdl_names.proofs.Passing.{left_at, next}

any_one : (b : List ContextItem × t.Architecture → Broken) (d : t.DesignUnit) (ds : List t.DesignUnit)
    → any_of b (architectures_of (d ∷ ds)) ≡ any_of b (architectures_of (d ∷ [])) ▸ any_of b (architectures_of ds)
any_one b d ds = ap (any_of b) (sym (one_behind (as_architecture d) (architectures_of ds))) ∙ any_append b (architectures_of (d ∷ [])) (architectures_of ds)

module _ (us : List DesignUnit) (i : ℕ) (d : DesignUnit) (lt : i < length us) (is : d ≡ get_or us i d) where
  left_is : (b : List ContextItem × t.Architecture → Broken)
      → any_of b (architectures_of (left_at us i)) ≡ any_of b (architectures_of (view.unit_view d ∷ [])) ▸ any_of b (architectures_of (left_at us (i + 1)))
  left_is b = ap (λ l. any_of b (architectures_of l)) (next us i d lt is) ∙ any_one b (view.unit_view d) (left_at us (i + 1))

  -- what this unit breaks is told, where none before it breaks anything
  pub told_here : (b : List ContextItem × t.Architecture → Broken) (whole : Broken) (f : NameFault) → whole ≡ any_of b (architectures_of (left_at us i))
      → Tells (any_of b (architectures_of (view.unit_view d ∷ []))) f → Tells whole f
  told_here b whole f e w =
      told_same (any_of b (architectures_of (view.unit_view d ∷ [])) ▸ any_of b (architectures_of (left_at us (i + 1)))) whole f (sym (e ∙ left_is b))
      (told_left (any_of b (architectures_of (view.unit_view d ∷ []))) (any_of b (architectures_of (left_at us (i + 1)))) f w)

  -- and where it breaks nothing what is left is told
  pub told_behind : (b : List ContextItem × t.Architecture → Broken) → any_of b (architectures_of (view.unit_view d ∷ [])) ≡ nothing
      → any_of b (architectures_of (left_at us i)) ≡ any_of b (architectures_of (left_at us (i + 1)))
  told_behind b k = left_is b ∙ behind_kept (any_of b (architectures_of (view.unit_view d ∷ []))) (any_of b (architectures_of (left_at us (i + 1)))) k

  pub given_behind : {A : Type 0} (f : A → t.DesignUnit → Option A) (x y : A) → f x (view.unit_view d) ≡ Some y → in_turn f x (left_at us i) ≡ in_turn f y (left_at us (i + 1))
  given_behind f x y h = ap (in_turn f x) (next us i d lt is) ∙ ap (λ o. o >>= λ z. in_turn f z (left_at us (i + 1))) h
