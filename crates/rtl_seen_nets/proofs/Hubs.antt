-- What was found behind hubs.
use Rattle.std.proofs.Common.{◌≡◌, ℕ, zero, suc, ◌+◌, ◌<◌, ◌≤◌, Bool, List, [], ◌∷◌, ◌++◌, length, get_or, map, drop, Option, Some, None, refl, sym, ap, ◌∙◌}
use Rattle.std.proofs.lemmas.List.{drop_more, drop_all, map_push}
use Rattle.rtl_looks.specs.declared.hubs.Look.{Look}
use Rattle.rtl_looks.specs.declared.hubs.Look.TheVariants as l
use Rattle.rtl_looks.specs.declared.hubs.Hub.{Hub}
use Rattle.rtl_model.specs.bodies.Body.{Stmts}
use Rattle.rtl_model.specs.bodies.Looks.{looked_nets}
use Rattle.rtl_looks.specs.Denoting.{nets_by, nets_behind, nets_of, look_at, DriversLook}
use Rattle.rtl_seen_nets.specs.Behind.{lowest_at, lowest_behind, lowest_seen}
use Rattle.rtl_seen_nets.specs.Lowest.{lower, if_wanted, lowest}
use Rattle.rtl_seen_nets.proofs.Lists.{lower-none, lowest-append, lowest-same}

module _ (wanted : List Bool) where
  found-at : (known : List (List ℕ)) (hub : ℕ) → lowest_at (map (lowest wanted) known) hub ≡ lowest wanted (get_or known hub [])
  found-at [] hub = refl
  found-at (ns ∷ known) zero = refl
  found-at (ns ∷ known) (suc hub) = found-at known hub

  behind-is : (known : List (List ℕ)) (look : Look) → lowest_behind wanted (map (lowest wanted) known) look ≡ lowest wanted (nets_by known look)
  behind-is known (l.Net n) = sym (lower-none (if_wanted wanted n))
  behind-is known (l.Hub hub) = found-at known hub

  -- what was found behind the first hubs, where those behind them are left
  pub record FoundSoFar (hubs : List Hub) (i : ℕ) (found : List (Option ℕ)) : Type 0 where
    pub known : List (List ℕ)
    pub left : nets_behind known (drop i hubs) ≡ nets_behind [] hubs
    pub are : found ≡ map (lowest wanted) known

  pub begins : (hubs : List Hub) (found : List (Option ℕ)) → found ≡ [] → FoundSoFar hubs 0 found
  begins hubs found e = record { known = []; left = refl; are = e }

  pub goes_on : (hubs : List Hub) (i : ℕ) (found seen-left seen-right new : List (Option ℕ)) (d : Hub) (left right both : Option ℕ) → FoundSoFar hubs i found → i < length hubs → seen-left ≡ found → seen-right ≡ found
      → left ≡ lowest_behind wanted seen-left (get_or hubs i d).left → right ≡ lowest_behind wanted seen-right (get_or hubs i d).right → both ≡ lower left right → new ≡ found ++ both ∷ [] → FoundSoFar hubs (i + 1) new
  goes_on hubs i found seen-left seen-right new d left right both so l sl sr el er e n = record {
    known = so.known ++ nets ∷ [];
    left = sym (ap (nets_behind so.known) (drop_more hubs i d l)) ∙ so.left;
    are = n ∙ ((λ j. so.are j ++ found-both j ∷ []) ∙ sym (map_push (lowest wanted) so.known nets));
  }
    where
      nets : List ℕ
      nets = nets_by so.known (get_or hubs i d).left ++ nets_by so.known (get_or hubs i d).right

      side : (seen : List (Option ℕ)) (look : Look) → seen ≡ found → lowest_behind wanted seen look ≡ lowest wanted (nets_by so.known look)
      side seen look s = ap (λ (xs : List (Option ℕ)). lowest_behind wanted xs look) (s ∙ so.are) ∙ behind-is so.known look

      found-both : both ≡ lowest wanted (nets_by so.known (get_or hubs i d).left ++ nets_by so.known (get_or hubs i d).right)
      found-both =
          e ∙ ((λ j. lower ((el ∙ side seen-left (get_or hubs i d).left sl) j) ((er ∙ side seen-right (get_or hubs i d).right sr) j))
          ∙ sym (lowest-append wanted (nets_by so.known (get_or hubs i d).left) (nets_by so.known (get_or hubs i d).right)))

  pub ends : (hubs : List Hub) (i : ℕ) (found : List (Option ℕ)) → FoundSoFar hubs i found → length hubs ≤ i → found ≡ map (lowest wanted) (nets_behind [] hubs)
  ends hubs i found so l = so.are ∙ ap (map (lowest wanted)) (sym (ap (nets_behind so.known) (drop_all i hubs l)) ∙ so.left)

  -- ---- what drivers look at

  at-place : (found : List (Option ℕ)) (looks : List (Option Look)) (place : ℕ) → lowest_at (map (lowest_seen wanted found) looks) place ≡ lowest_seen wanted found (look_at looks place)
  at-place found [] place = refl
  at-place found (look ∷ looks) zero = refl
  at-place found (look ∷ looks) (suc place) = at-place found looks place

  seen-is : (hubs : List Hub) (look : Option Look) → lowest_seen wanted (map (lowest wanted) (nets_behind [] hubs)) look ≡ lowest wanted (nets_of hubs look)
  seen-is hubs None = refl
  seen-is hubs (Some look) = behind-is (nets_behind [] hubs) look

  pub drivers-see : (body : Stmts) (old hubs : List Hub) (looks : List (Option Look)) (found seen : List (Option ℕ)) → DriversLook body old hubs looks → found ≡ map (lowest wanted) (nets_behind [] hubs)
      → seen ≡ map (lowest_seen wanted found) looks → (place : ℕ) → lowest_at seen place ≡ lowest wanted (looked_nets body place)
  drivers-see body old hubs looks found seen drivers f s place =
      ap (λ (xs : List (Option ℕ)). lowest_at xs place) s
      ∙ (at-place found looks place
      ∙ (ap (λ (xs : List (Option ℕ)). lowest_seen wanted xs (look_at looks place)) f
      ∙ (seen-is hubs (look_at looks place) ∙ lowest-same wanted (nets_of hubs (look_at looks place)) (looked_nets body place) (drivers.denotes place).nets)))
