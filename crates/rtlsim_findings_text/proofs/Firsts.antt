-- The text of so many elements, and behind it another text of the others.
use Rattle.std.proofs.Common.{◌≡◌, ℕ, List, ◌++◌, map, take, drop, Result, sym, ap, subst, ◌∙◌}
use Rattle.std.proofs.lemmas.List.{drop-map, take-map}
use Rattle.byte_streams.specs.Written.{SinkState, Goes}
use Rattle.rtlsim_listing.specs.Printing.{GoesInPart, Prints}
use Rattle.rtlsim_listing.proofs.Printing.{longer, then}

module _ {A V : Type 0} (seen : A → V) (count : ℕ) (write : List V → List ℕ) (xs first : List A) (are : first ≡ take count xs) where
  first_views : write (map seen first) ≡ write (take count (map seen xs))
  first_views = ap write (ap (map seen) are ∙ sym (take-map seen count xs))

  -- the first alone
  pub first_part : (a b : SinkState) (rest : List ℕ) → GoesInPart a b (write (map seen first)) → GoesInPart a b (write (take count (map seen xs)) ++ rest)
  first_part a b rest part = longer a b (write (take count (map seen xs))) rest (subst (GoesInPart a b) first_views part)

  -- and the others, by what they are told with
  pub first_and_others : {T E S : Type 0} (r : Result T E) (a b c : SinkState) (next : S → List V → List ℕ) (given told : S) (others : List A) → given ≡ told
      → others ≡ drop count xs → Goes a b (write (map seen first)) → Prints r b c (next given (map seen others))
      → Prints r a c (write (take count (map seen xs)) ++ next told (drop count (map seen xs)))
  first_and_others {S = S} r a b c next given told others same left one two =
      let other_views = ap (λ (s : S). next s (map seen others)) same ∙ ap (next told) (ap (map seen) left ∙ sym (drop-map seen count xs)) in
      then r a b c (write (take count (map seen xs))) (next told (drop count (map seen xs))) (subst (Goes a b) first_views one) (subst (λ (text : List ℕ). Prints r b c text) other_views two)
