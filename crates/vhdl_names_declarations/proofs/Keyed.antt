-- Tables by their keys' names.
use Rattle.std.proofs.Common.{◌≡◌, Bool, true, false, cond, not, ◌&&◌, ◌||◌, ℕ, List, [], ◌∷◌, map, Option, Some, None, Vec, Global, refl, ap, sym, ◌∙◌, true≢false}
use Rattle.std.specs.Prelude.{bytes_eq, is_some}
use Rattle.std.specs.List.{IsDistinct, AllByRecursion}
use Rattle.std.specs.Map.{lookup, keys_of}
use Rattle.std.proofs.lemmas.Map.Keys.{IsDistinct-head, IsDistinct-tail}
use Rattle.vhdl_names_rules.specs.Visibility.{Name, is_among, are_distinct}

module _ {A : Type 0} where
  none_of : (o : Option A) → is_some o ≡ false → o ≡ None
  none_of None h = refl
  none_of (Some x) h = absurd (true≢false h)

  pub absent : (es : List (Vec ℕ Global × A)) (n : Name) → is_some (lookup (λ k. bytes_eq n k.items) es) ≡ false → lookup (λ k. bytes_eq n k.items) es ≡ None
  absent es n h = none_of (lookup (λ k. bytes_eq n k.items) es) h

-- what is seen of an entry has the name that is its key
module _ {A V : Type 0} (see : Vec ℕ Global × A → V) (name : V → Name) (named : (e : Vec ℕ Global × A) → e.0.items ≡ name (see e)) where
  abbrev names : List (Vec ℕ Global × A) → List Name
  names es = map name (map see es)

  pub among_table : (n : Name) (es : List (Vec ℕ Global × A)) → is_some (lookup (λ k. bytes_eq n k.items) es) ≡ is_among n (map name (map see es))
  among_table n [] = refl
  among_table n (e ∷ es) = by (bytes_eq n e.0.items) (among_table n es) ∙ ap (λ m. bytes_eq n m || is_among n (names es)) (named e)
    where
      by : (b : Bool) → is_some (lookup (λ k. bytes_eq n k.items) es) ≡ is_among n (names es)
          → is_some (cond b (Some e.1) (lookup (λ k. bytes_eq n k.items) es)) ≡ b || is_among n (names es)
      by true h = refl
      by false h = h

  none_among : (k : Vec ℕ Global) (es : List (Vec ℕ Global × A)) → AllByRecursion (λ y. bytes_eq k.items y.items ≡ false) (keys_of es) → is_among k.items (names es) ≡ false
  none_among k [] h = refl
  none_among k (e ∷ es) h =
      ap (λ m. bytes_eq k.items m || is_among k.items (names es)) (sym (named e)) ∙ ap (λ b. b || is_among k.items (names es)) h.0 ∙ none_among k es h.1

  -- a table's names are distinct
  pub table_apart : (es : List (Vec ℕ Global × A)) → IsDistinct (λ a b. bytes_eq a.items b.items) (keys_of es) → are_distinct (map name (map see es)) ≡ true
  table_apart [] h = refl
  table_apart (e ∷ es) h =
      ap (λ m. not (is_among m (names es)) && are_distinct (names es)) (sym (named e))
      ∙ ap (λ b. not b && are_distinct (names es)) (none_among e.0 es (IsDistinct-head (λ a b. bytes_eq a.items b.items) e.0 (keys_of es) h))
      ∙ table_apart es (IsDistinct-tail (λ a b. bytes_eq a.items b.items) e.0 (keys_of es) h)
