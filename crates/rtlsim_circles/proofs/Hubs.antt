-- The marks of hubs, one behind the other.
use Rattle.std.proofs.Common.{◌≡◌, ℕ, zero, suc, ◌==◌, ◌||◌, Bool, true, false, List, [], ◌∷◌, ◌++◌, map, Option, Some, None, refl, sym, ap, ◌∙◌}
use Rattle.std.specs.Prelude.{slice_index_or}
use Rattle.std.proofs.lemmas.List.{map-append}
use Rattle.std.proofs.lemmas.List.Folds.{list_any-append}
use Rattle.rtl_body_facts.specs.Reading.{is_in}
use Rattle.rtl_looks.specs.declared.hubs.Hub.{Hub}
use Rattle.rtl_looks.specs.declared.hubs.Look.{Look}
use Rattle.rtl_looks.specs.declared.hubs.Look.TheVariants as l
use Rattle.rtl_looks.specs.Denoting.{nets_by, nets_behind, nets_of}
use Rattle.rtlsim_circles.specs.LooksAt.{is_behind, is_behind_hub, has_behind}

-- the marks of further hubs behind these
abbrev pub marks_from : (n : ℕ) → (marks : List Bool) → List Hub → List Bool
marks_from n marks [] = marks
marks_from n marks (hub ∷ hubs) = marks_from n (marks ++ is_behind_hub n marks hub ∷ []) hubs

or_false : (b : Bool) → (b || false) ≡ b
or_false true = refl
or_false false = refl

module _ (n : ℕ) where
  marked : (known : List (List ℕ)) (hub : ℕ) → slice_index_or (map (is_in n) known) hub false ≡ is_in n (slice_index_or known hub [])
  marked [] hub = refl
  marked (nets ∷ known) zero = refl
  marked (nets ∷ known) (suc hub) = marked known hub

  look_is : (known : List (List ℕ)) (look : Look) → is_behind n (map (is_in n) known) look ≡ is_in n (nets_by known look)
  look_is known (l.Net net) = sym (or_false (net == n))
  look_is known (l.Hub hub) = marked known hub

  hub_is : (known : List (List ℕ)) (hub : Hub) → is_behind_hub n (map (is_in n) known) hub ≡ is_in n (nets_by known hub.left ++ nets_by known hub.right)
  hub_is known hub =
      rw (look_is known hub.left, look_is known hub.right) (sym (list_any-append (λ m. m == n) (nets_by known hub.left) (nets_by known hub.right)))

  pub marks_are : (known : List (List ℕ)) (hubs : List Hub) → marks_from n (map (is_in n) known) hubs ≡ map (is_in n) (nets_behind known hubs)
  marks_are known [] = refl
  marks_are known (hub ∷ hubs) =
      let behind = nets_by known hub.left ++ nets_by known hub.right in
      let pushed = ap (λ b. map (is_in n) known ++ b ∷ []) (hub_is known hub) ∙ sym (map-append (is_in n) known (behind ∷ [])) in
      ap (λ marks. marks_from n marks hubs) pushed ∙ marks_are (known ++ behind ∷ []) hubs

  pub place_is : (hubs : List Hub) (look : Option Look) → has_behind n (map (is_in n) (nets_behind [] hubs)) look ≡ is_in n (nets_of hubs look)
  place_is hubs None = refl
  place_is hubs (Some look) = look_is (nets_behind [] hubs) look
