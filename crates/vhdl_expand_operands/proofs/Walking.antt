-- What a loop has found so far of the whole, where each item gives some of it.
use Rattle.std.proofs.Common.{◌≡◌, ℕ, ◌+◌, ◌<◌, ◌≤◌, List, [], ◌∷◌, ◌++◌, length, map, get_or, drop, sym, ap, ◌∙◌}
use Rattle.std.proofs.lemmas.List.{append-nil, append_assoc}
use Rattle.vhdl_expand_rules.proofs.Items.{next_left, none_left}

module _ {X Y Z : Type 0} (v : X → Y) (f : List Y → List Z) (total made : List Z) (xs : List X) (i : ℕ) where
  -- an item that gives these
  pub found_goes : (x : X) (part : List Z) → i < length xs → x ≡ get_or xs i x → total ≡ made ++ f (map v (drop i xs)) → ((rest : List Y) → f (v x ∷ rest) ≡ part ++ f rest)
      → total ≡ (made ++ part) ++ f (map v (drop (i + 1) xs))
  found_goes x part below is so_far gives =
      so_far ∙ ap (λ ys. made ++ f (map v ys)) (next_left xs i x below is) ∙ ap (λ zs. made ++ zs) (gives (map v (drop (i + 1) xs)))
      ∙ sym (append_assoc made part (f (map v (drop (i + 1) xs))))

  pub found_all : length xs ≤ i → total ≡ made ++ f (map v (drop i xs)) → f [] ≡ [] → total ≡ made
  found_all past so_far none = so_far ∙ ap (λ ys. made ++ f (map v ys)) (none_left xs i past) ∙ ap (λ zs. made ++ zs) none ∙ append-nil made
