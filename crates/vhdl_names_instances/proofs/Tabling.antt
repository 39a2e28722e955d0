-- What instances see of an entity, declaration by declaration.
use Rattle.std.proofs.Common.{◌≡◌, ℕ, zero, suc, ◌+◌, arith, List, [], ◌∷◌, map, drop, Option, Some, None, Vec, Global, refl, ap, sym, ◌∙◌}
use Rattle.std.specs.Prelude.{option_map, slice_get}
use Rattle.std.proofs.lemmas.Option.{slice_get-map}
use Rattle.vhdl_names_rules.specs.Rules.{◌>>=◌}
use Rattle.vhdl_names_rules.specs.Visibility.{Declared}
use Rattle.vhdl_names_sight.specs.declared.meaning.Entry.{Entry}
use Rattle.vhdl_names_sight.specs.Views.{entry_view}
use Rattle.vhdl_names_units.specs.Lists.{in_turn}
use Rattle.vhdl_names_instances.specs.Table.{Seen}
use Rattle.vhdl_names_instances.specs.steps.Tables.{with_declared, with_declared_at}

unrolled : (f : Seen) (ds : List Declared) (i : ℕ)
    → in_turn with_declared f (drop i ds) ≡ (with_declared_at f ds i >>= λ g. in_turn with_declared g (drop (suc i) ds))
unrolled f [] zero = refl
unrolled f [] (suc i) = refl
unrolled f (d ∷ ds) zero = refl
unrolled f (d ∷ ds) (suc i) = unrolled f ds i

-- an entry of a region, as contracts see it
pub entry_at : (es : List (Vec ℕ Global × Entry)) (i : ℕ) (o : Option (Vec ℕ Global × Entry)) → o ≡ slice_get es i
    → slice_get (map entry_view es) i ≡ option_map entry_view o
entry_at es i o e = slice_get-map entry_view es i ∙ ap (option_map entry_view) (sym e)

module _ (whole : Option Seen) (f : Seen) (ds : List Declared) (i : ℕ) (h : whole ≡ in_turn with_declared f (drop i ds)) where
  pub declared_fails : with_declared_at f ds i ≡ None → whole ≡ None
  declared_fails e = h ∙ unrolled f ds i ∙ ap (λ o. o >>= λ g. in_turn with_declared g (drop (suc i) ds)) e

  pub declared_goes : (g : Seen) → with_declared_at f ds i ≡ Some g → whole ≡ in_turn with_declared g (drop (i + 1) ds)
  declared_goes g e =
      let s : suc i ≡ i + 1 = omega arith in
      h ∙ unrolled f ds i ∙ ap (λ o. o >>= λ g. in_turn with_declared g (drop (suc i) ds)) e ∙ ap (λ j. in_turn with_declared g (drop j ds)) s
