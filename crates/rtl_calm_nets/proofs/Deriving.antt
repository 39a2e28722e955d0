-- What an origin says of a net.
use Rattle.std.proofs.Common.{◌≡◌, ℕ, List, [], ◌∷◌, Option, Some, None, refl, sym, ap, subst, ◌∙◌, ◌⊎◌, inl, inr, Contains}
use Rattle.rtl_model.specs.bodies.Copies.{passed_on}
use Rattle.rtl_model.specs.simulation.Netlist as m
use Rattle.rtl_model.specs.simulation.Netlist.{Netlist, Source, Driver, Reset, Copy, sources_of, reset_of, reset_entry, HasReset, IsCombinational}
use Rattle.rtl_model.specs.simulation.Calm.{IsFromOutside, IsCombinationalNet, IsRegister, Copies, FollowsInputs}
use Rattle.rtl_model.proofs.basics.Lists.{Contains-one, Contains-first}
use Rattle.rtl_process_kinds.specs.declared.copies.Copied.{Copied}
use Rattle.rtl_calm_nets.specs.declared.origins.Origin.{Origin}
use Rattle.rtl_calm_nets.specs.declared.origins.Origin.TheVariants as o
use Rattle.rtl_calm_nets.specs.NetOrigins.{IsClocked, LooksOutside, Gives, IsOrigin, outside, driven, without}

abbrev pub copy_by : Copied → Copy
copy_by c = record { net = c.net; passed = passed_on c.inverted }

module _ (net : Netlist) where
  -- no process is clocked and combinational
  one_kind : {A : Type 0} (p : ℕ) → IsClocked net p → IsCombinational net p → A
  one_kind p (clock, (edge, (reset, e))) (l, f) = let h : m.Clocked clock edge reset ≡ m.Combinational = sym e ∙ f in absurd cc

  abbrev HasSource : ℕ → ℕ → ℕ → Type 0
  HasSource n p place = sources_of net n ≡ Driver p place ∷ []

  same_source : (n p place q qp : ℕ) → HasSource n p place → HasSource n q qp → (p ≡ q) × (place ≡ qp)
  same_source n p place q qp e f =
      let same : Driver p place ≡ Driver q qp = Contains-one (Driver p place) (Driver q qp) (subst (λ (xs : List Source). Contains xs (Driver q qp)) (sym f ∙ e) (Contains-first (Driver q qp) [])) in
      let a : p ≡ q = cc in
      let b : place ≡ qp = cc in
      (a, b)

  -- a property of the driver of one source is one of that of the same source
  moved : (P : ℕ → ℕ → Type 0) (n p place q qp : ℕ) → HasSource n p place → HasSource n q qp → P q qp → P p place
  moved P n p place q qp e f h =
      let (a, b) = same_source n p place q qp e f in
      subst (λ (k : ℕ). P p k) (sym b) (subst (λ (k : ℕ). P k qp) (sym a) h)

  -- ---- from the origin

  pub follows_if : (n : ℕ) (x : Origin) → IsOrigin net n x → x ≡ o.Inputs → FollowsInputs net n
  follows_if n _ (outside f) e = inl f
  follows_if n _ (driven p place x not src gives) e = let h : Gives net p place o.Inputs = subst (Gives net p place) e gives in inr (p, place, (h.0, src), h.1)
  follows_if n _ (without not none) e = absurd cc

  pub copied_if : (n : ℕ) (x : Origin) (c : Copied) → IsOrigin net n x → x ≡ o.Copied c → (p : ℕ) × (place : ℕ) × IsCombinationalNet net n p place × Copies net p place (copy_by c)
  copied_if n _ c (outside f) e = absurd cc
  copied_if n _ c (driven p place x not src gives) e = let h : Gives net p place (o.Copied c) = subst (Gives net p place) e gives in (p, place, (h.1, src), h.2)
  copied_if n _ c (without not none) e = absurd cc

  pub unreset_if : (n : ℕ) (x : Origin) → IsOrigin net n x → x ≡ o.Unreset → (p : ℕ) × (place : ℕ) × IsRegister net n p place × (reset_entry (reset_of net p) place ≡ None)
  unreset_if n _ (outside f) e = absurd cc
  unreset_if n _ (driven p place x not src gives) e = let h : Gives net p place o.Unreset = subst (Gives net p place) e gives in (p, place, (h.0, src), h.1)
  unreset_if n _ (without not none) e = absurd cc

  pub reset_if : (n : ℕ) (x : Origin) (by value : ℕ) → IsOrigin net n x → x ≡ o.Reset by value
      → (p : ℕ) × (place : ℕ) × IsRegister net n p place × ((reset : Reset) × HasReset net p reset × (reset.net ≡ by)) × (reset_entry (reset_of net p) place ≡ Some value)
  reset_if n _ by value (outside f) e = absurd cc
  reset_if n _ by value (driven p place x not src gives) e = let h : Gives net p place (o.Reset by value) = subst (Gives net p place) e gives in (p, place, (h.0, src), h.1, h.2)
  reset_if n _ by value (without not none) e = absurd cc

  -- ---- to the origin

  of_follower : (p place : ℕ) (x : Origin) → LooksOutside net p place → Gives net p place x → x ≡ o.Inputs
  of_follower p place o.Inputs h g = refl
  of_follower p place (o.Copied c) h g = absurd (g.0 h)
  of_follower p place o.Unreset h g = one_kind p g.0 h.0
  of_follower p place (o.Reset by value) h g = one_kind p g.0 h.0
  of_follower p place o.Other h g = absurd (g.0 h)

  pub is_inputs : (n : ℕ) (x : Origin) → IsOrigin net n x → FollowsInputs net n → x ≡ o.Inputs
  is_inputs n _ (outside f) h = refl
  is_inputs n _ (driven p place x not src gives) (inl f) = absurd (not f)
  is_inputs n _ (driven p place x not src gives) (inr (q, qp, is, all)) = of_follower p place x (moved (LooksOutside net) n p place q qp src is.1 (is.0, all)) gives
  is_inputs n _ (without not none) (inl f) = absurd (not f)
  is_inputs n _ (without not none) (inr (q, qp, is, all)) = absurd (none q qp is.1)

  abbrev OfCopy : Copy → Origin → Type 0
  OfCopy copy x = (x ≡ o.Inputs) ⊎ ((c : Copied) × (x ≡ o.Copied c) × (copy ≡ copy_by c))

  of_copy : (p place : ℕ) (copy : Copy) (x : Origin) → IsCombinational net p × Copies net p place copy → Gives net p place x → OfCopy copy x
  of_copy p place copy o.Inputs h g = inl refl
  of_copy p place copy (o.Copied c) h g = let e : Some copy ≡ Some (copy_by c) = sym h.1 ∙ g.2 in inr (c, refl, some_one e)
    where
      some_one : {a b : Copy} → Some a ≡ Some b → a ≡ b
      some_one e = cc
  of_copy p place copy o.Unreset h g = one_kind p g.0 h.0
  of_copy p place copy (o.Reset by value) h g = one_kind p g.0 h.0
  of_copy p place copy o.Other h g = absurd (g.2 copy h.0 h.1)

  pub is_copy : (n : ℕ) (x : Origin) → IsOrigin net n x → (q qp : ℕ) (copy : Copy) → IsCombinationalNet net n q qp → Copies net q qp copy → OfCopy copy x
  is_copy n _ (outside f) q qp copy is copies = inl refl
  is_copy n _ (driven p place x not src gives) q qp copy is copies =
      of_copy p place copy x (moved (λ p place. IsCombinational net p × Copies net p place copy) n p place q qp src is.1 (is.0, copies)) gives
  is_copy n _ (without not none) q qp copy is copies = absurd (none q qp is.1)

  abbrev OfRegister : Option ℕ → Option Reset → Origin → Type 0
  OfRegister entry reset x = ((x ≡ o.Unreset) × (entry ≡ None)) ⊎ ((r : Reset) × (value : ℕ) × (x ≡ o.Reset r.net value) × (reset ≡ Some r) × (entry ≡ Some value))

  of_register : (p place : ℕ) (x : Origin) → IsClocked net p → Gives net p place x → OfRegister (reset_entry (reset_of net p) place) (reset_of net p) x
  of_register p place o.Inputs c g = one_kind p c g.0
  of_register p place (o.Copied copied) c g = one_kind p c g.1
  of_register p place o.Unreset c g = inl (refl, g.1)
  of_register p place (o.Reset by value) c g = let (r, has, same) = g.1 in inr (r, value, ap (λ (k : ℕ). o.Reset k value) (sym same), has, g.2)
  of_register p place o.Other c g = absurd (g.1 c)

  -- a register is driven, so that it doesn't come from outside
  pub is_register : (n : ℕ) (x : Origin) → IsOrigin net n x → (q qp : ℕ) → (IsFromOutside net n → ⊥) → IsRegister net n q qp → OfRegister (reset_entry (reset_of net q) qp) (reset_of net q) x
  is_register n _ (outside f) q qp not is = absurd (not f)
  is_register n _ (driven p place x odd src gives) q qp not is =
      let (a, b) = same_source n p place q qp src is.1 in
      subst (λ (k : ℕ). OfRegister (reset_entry (reset_of net q) k) (reset_of net q) x) b (subst (λ (k : ℕ). OfRegister (reset_entry (reset_of net k) place) (reset_of net k) x) a
      (of_register p place x (subst (IsClocked net) (sym a) is.0) gives))
  is_register n _ (without odd none) q qp not is = absurd (none q qp is.1)
