-- The values of generics, one after another.
use Rattle.std.proofs.Common.{◌≡◌, ℕ, zero, suc, List, [], ◌∷◌, drop, Option, Ok, Err, refl, sym, ap, ◌∙◌, subst}
use Rattle.vhdl_names_rules.specs.units.Units.{Fixed, Generic, Entity}
use Rattle.vhdl_expand_rules.specs.Elab.{Elab, ◌>>=◌, Told}
use Rattle.vhdl_expand_rules.specs.Site.{Site, no_site}
use Rattle.vhdl_expand_rules.specs.Declarations.{InstanceObjects, first_of, rest_of}
use Rattle.vhdl_expand_rules.specs.Declarations as definition
use Rattle.vhdl_expand_rules.proofs.Steps.{given}
use Rattle.vhdl_expand_rules.proofs.Chains.{err_first}
use Rattle.vhdl_expand_declarations.specs.Generics.{Further, next_generic, all_generics}
use Rattle.vhdl_expand_declarations.specs.Objects.{nothing_declared}
use Rattle.vhdl_expand_declarations.specs.Stepwise.{stepwise}

pub rest_behind : {A : Type 0} (n : ℕ) (xs : List A) → rest_of (drop n xs) ≡ drop (suc n) xs
rest_behind zero [] = refl
rest_behind (suc n) (x ∷ xs) = rest_behind n xs
rest_behind _ _ = refl

module _ (above : Site) (actuals : List (Option Fixed)) where
  -- those that are left, of which so many are declared
  abbrev left_from : Further → List Generic → Elab InstanceObjects
  left_from s gs = definition.generics above s.known.site (drop s.count actuals) gs >>= λ here. given (record s.known { site = here })

  as-run : (s : Further) (gs : List Generic) → left_from s gs ≡ (stepwise (next_generic above actuals) s gs >>= λ t. given t.known)
  unfolding definition.generics
  as-run s [] = refl
  as-run s (g ∷ gs) = go (definition.generic above s.known.site (first_of (drop s.count actuals)) g) (λ t. as-run t gs)
    where
      next : Site → Further
      next here = record { count = suc s.count; known = record s.known { site = here } }

      go : (r : Elab Site) → ((t : Further) → left_from t gs ≡ (stepwise (next_generic above actuals) t gs >>= λ t. given t.known))
          → ((r >>= λ here. definition.generics above here (rest_of (drop s.count actuals)) gs) >>= λ here. given (record s.known { site = here }))
          ≡ (((r >>= λ here. given (next here)) >>= λ t. stepwise (next_generic above actuals) t gs) >>= λ t. given t.known)
      go (Ok here) rest =
          ap (λ left. definition.generics above here left gs >>= λ there. given (record s.known { site = there })) (rest_behind s.count actuals) ∙ rest (next here)
      go (Err told) rest = refl

  abbrev pub none_of : InstanceObjects → Further
  none_of d = record { count = 0; known = d }

  pub all_stepped : (d : InstanceObjects) (e : Further) (gs : List Generic) → stepwise (next_generic above actuals) (none_of d) gs ≡ Ok e
      → all_generics above actuals d gs ≡ Ok e.known
  all_stepped d e gs h = as-run (none_of d) gs ∙ ap (λ r. r >>= λ t. given t.known) h

  pub all_stopped : {told : Told} → (d : InstanceObjects) (gs : List Generic) → stepwise (next_generic above actuals) (none_of d) gs ≡ Err told
      → all_generics above actuals d gs ≡ Err told
  all_stopped d gs h = as-run (none_of d) gs ∙ err_first (stepwise (next_generic above actuals) (none_of d) gs) (λ t. given t.known) h

  -- one more
  pub generic_stepped : (s t : Further) (actual : Option Fixed) (g : Generic) (here : Site) → actual ≡ first_of (drop s.count actuals)
      → definition.generic above s.known.site actual g ≡ Ok here → t ≡ record { count = suc s.count; known = record s.known { site = here } }
      → next_generic above actuals s g ≡ Ok t
  generic_stepped s t actual g here is h e =
      let next : Site → Further = λ there. record { count = suc s.count; known = record s.known { site = there } } in
      ap (λ a. definition.generic above s.known.site a g >>= λ there. given (next there)) (sym is) ∙ ap (λ r. r >>= λ there. given (next there)) h ∙ ap given (sym e)

  pub generic_stopped : {told : Told} → (s : Further) (actual : Option Fixed) (g : Generic) → actual ≡ first_of (drop s.count actuals)
      → definition.generic above s.known.site actual g ≡ Err told → next_generic above actuals s g ≡ Err told
  generic_stopped {told} s actual g is h =
      err_first (definition.generic above s.known.site (first_of (drop s.count actuals)) g) _ (subst (λ a. definition.generic above s.known.site a g ≡ Err told) is h)

-- and the ports behind them
pub interface_of : (above : Site) (actuals : List (Option Fixed)) (unit : Entity)
    → definition.interface above actuals unit ≡ (all_generics above actuals nothing_declared unit.generics >>= λ d. definition.ports d unit.ports)
unfolding definition.interface
interface_of above actuals unit = go (definition.generics above no_site actuals unit.generics)
  where
    go : (r : Elab Site) → (r >>= λ here. definition.ports (record { site = here; objects = [] }) unit.ports)
        ≡ ((r >>= λ here. given (record nothing_declared { site = here })) >>= λ d. definition.ports d unit.ports)
    go (Ok here) = refl
    go (Err told) = refl
