-- Where concurrent statements are given, so is how many turns their generates have.
use Rattle.std.proofs.Common.{◌≡◌, ℕ, ◌+◌, Bool, true, false, if◌then◌else◌, List, [], ◌∷◌, length, sum, Ok, Err, refl, ap, ◌∙◌}
use Rattle.std.specs.Prelude.{ℤ}
use Rattle.vhdl_names_rules.specs.units.Units as u
use Rattle.vhdl_names_rules.specs.units.Units.{Units, Entity}
use Rattle.vhdl_expand_rules.specs.Elab.{Elab, ◌>>=◌, each}
use Rattle.vhdl_expand_rules.specs.Integers.{decision, turns}
use Rattle.vhdl_expand_rules.specs.Declarations.{InstanceObjects}
use Rattle.vhdl_expand_rules.specs.Tree.{Instance, Parts, no_parts}
use Rattle.vhdl_expand_rules.specs.Expansion.{Spot, in_turn, in_branch, concurrent, concurrents, concurrent_turns, concurrents_turns}
use Rattle.vhdl_expand_rules.proofs.Steps.{given, bound}

each-counted : (f : ℤ → Elab Parts) (g : ℤ → Elab ℕ) → ((i : ℤ) (x : Parts) → f i ≡ Ok x → (n : ℕ) × (g i ≡ Ok n))
    → (is : List ℤ) (ps : List Parts) → each f is ≡ Ok ps → (ns : List ℕ) × (each g is ≡ Ok ns)
each-counted f g counted [] ps h = ([], refl)
each-counted f g counted (i ∷ is) ps h =
    let x = bound (f i) _ ps h in
    let xs = bound (each f is) _ ps x.then_gave in
    let n = counted i x.x x.gave in
    let ns = each-counted f g counted is xs.x xs.gave in
    (n.0 ∷ ns.0, λ k. n.1 k >>= λ m. ns.1 k >>= λ ms. given (m ∷ ms))

branch-counted : (q : Elab Bool) (x : Elab Parts) (y : Elab ℕ) (ps : Parts) → ((z : Parts) → x ≡ Ok z → (n : ℕ) × (y ≡ Ok n))
    → (q >>= λ holds. if holds then x else Ok no_parts) ≡ Ok ps → (n : ℕ) × ((q >>= λ holds. if holds then y else Ok 0) ≡ Ok n)
branch-counted (Ok true) x y ps counted h = counted ps h
branch-counted (Ok false) x y ps counted h = (0, refl)
branch-counted (Err told) x y ps counted h = absurd cc

module _ (units : Units) (go : ℕ → Entity → InstanceObjects → Elab Instance) where
  mutual
    unfolding concurrent concurrents concurrent_turns concurrents_turns

    pub concurrent_counted : (here : Spot) (x : u.Concurrent) (ps : Parts) → concurrent units go here x ≡ Ok ps → (n : ℕ) × (concurrent_turns here x ≡ Ok n)
    concurrent_counted here (u.generate_for at label r body) ps h =
        let is = bound (turns here.site.integers at r) _ ps h in
        let pss = bound (each (λ i. concurrents units go (in_turn here label i) body) is.x) _ ps is.then_gave in
        let ns = each-counted (λ i. concurrents units go (in_turn here label i) body) (λ i. concurrents_turns (in_turn here label i) body)
        (λ i x e. concurrents_counted (in_turn here label i) body x e) is.x pss.x pss.gave in (
          length is.x + sum ns.0,
          ap (λ q. q >>= λ js. each (λ i. concurrents_turns (in_turn here label i) body) js >>= λ ms. given (length js + sum ms)) is.gave
              ∙ ap (λ q. q >>= λ ms. given (length is.x + sum ms)) ns.1,
        )
    concurrent_counted here (u.generate_if at label t body) ps h =
        branch-counted (decision here.site.integers t) (concurrents units go (in_branch here label) body) (concurrents_turns (in_branch here label) body) ps
        (λ z e. concurrents_counted (in_branch here label) body z e) h
    concurrent_counted here _ ps h = (0, refl)

    pub concurrents_counted : (here : Spot) (xs : u.Concurrents) (ps : Parts) → concurrents units go here xs ≡ Ok ps → (n : ℕ) × (concurrents_turns here xs ≡ Ok n)
    concurrents_counted here u.no_concurrents ps h = (0, refl)
    concurrents_counted here (u.concurrent x rest) ps h =
        let p = bound (concurrent units go here x) _ ps h in
        let q = bound (concurrents units go here rest) _ ps p.then_gave in
        let m = concurrent_counted here x p.x p.gave in
        let n = concurrents_counted here rest q.x q.gave in
        (m.0 + n.0, λ i. m.1 i >>= λ a. n.1 i >>= λ b. given (a + b))
