-- What a netlist doesn't have has no name.
use Rattle.std.proofs.Common.{◌≡◌, ℕ, suc, ◌<◌, ◌≤◌, false, ◌==◌, List, [], ◌∷◌, length, refl, ap, ◌∙◌, arith, cond, All}
use Rattle.std.specs.Prelude.{Some, None, option_map}
use Rattle.std.proofs.lemmas.Option.{slice_get_within}
use Rattle.std.proofs.lemmas.Bool.Decides.{nat_tests}
use Rattle.rtl_model.specs.bodies.Types.{ElementType, HasType}
use Rattle.rtl_net.specs.Nets.{NetlistView, SignalView, element_type}
use Rattle.rtl_net.specs.Names.{place_in, element_or, element_from, element_name, net_name}
use Rattle.rtl_net.specs.Elaborated.{IsNet, SignalInRange}

no_place : (types : List ElementType) (t : ElementType) (nets : List ℕ) (n : ℕ) → All (HasType types t) nets → length types ≤ n → place_in nets n ≡ None
no_place types t [] n there le = refl
no_place types t (m ∷ ms) n there le =
    let low : m < length types = slice_get_within types m t (there 0 m (omega arith)) in
    let other : (m == n) ≡ false = grind (arith, nat_tests) in
    ap (λ b. cond b (Some 0) (option_map suc (place_in ms n))) other
    ∙ ap (option_map suc) (no_place types t ms n (λ k d lt. there (suc k) d (omega (arith, lt))) le)

no_element : (types : List ElementType) (scopes number : ℕ) (signals : List SignalView) (n : ℕ) → All (SignalInRange types scopes) signals → length types ≤ n
    → element_from number signals n ≡ None
no_element types scopes number [] n there le = refl
no_element types scopes number (s ∷ ss) n there le =
    let first = there 0 s (omega arith) in
    ap (λ p. element_or number p (element_from (suc number) ss n)) (no_place types (element_type s.kind) s.nets n first.nets le)
    ∙ no_element types scopes (suc number) ss n (λ k d lt. there (suc k) d (omega (arith, lt))) le

pub no_net : (net : NetlistView) → IsNet net → (n : ℕ) → length net.types ≤ n → net_name net n ≡ []
no_net net is n le = ap (element_name net) (no_element net.types (length net.scopes) 0 net.signals n is.signals le)
