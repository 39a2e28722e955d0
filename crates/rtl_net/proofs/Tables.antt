-- Tables by number.
use Rattle.std.proofs.Common.{◌≡◌, ℕ, ◌<◌, List, map, length, slice_index_or, sym, ap, ◌∙◌, arith}
use Rattle.std.proofs.lemmas.List.{get_or-map, length-map}
use Rattle.std.proofs.lemmas.List.FromFn.{length-map-range_with_len, get_or-map-range_with_len}
use Rattle.rtl_net.specs.NetOf.{tabled}

module _ {X Y : Type 0} (f : X → Y) (g : ℕ → Y) (xs : List X) (n : ℕ) (e : map f xs ≡ tabled n g) where
  -- a list whose elements are seen as a table of n things has n
  pub tabled-length : length xs ≡ n
  tabled-length = sym (length-map xs f) ∙ ap length e ∙ length-map-range_with_len g 0 n

  -- and its k-th element is seen as the k-th of them
  pub tabled-at : (k : ℕ) (d : X) → k < n → f (slice_index_or xs k d) ≡ g k
  tabled-at k d l =
      sym (get_or-map f xs k d (g k) (omega (arith, tabled-length))) ∙ ap (λ ys. slice_index_or ys k (g k)) e ∙ get_or-map-range_with_len g 0 n k k (g k) l (omega arith)
