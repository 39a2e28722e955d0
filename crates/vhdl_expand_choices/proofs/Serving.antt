-- The choices of a case on an integer serve, or which rule they break first.
use Rattle.std.proofs.Common.{◌≡◌, ℕ, ◌≤◌, ◌-◌, ◌^◌, min, ◌==◌, ◌||◌, Bool, true, false, nat_le, List, [], ◌∷◌, ◌++◌, length, map, Ok, Err, refl, ap, ◌∙◌, arith}
use Rattle.std.proofs.lemmas.Bool.{eqb-true, eqb-false, leb-true, le-leb}
use Rattle.vhdl_tree.specs.declared.operator.Direction.TheVariants.{To}
use Rattle.vhdl_names_rules.specs.units.Statements.{Choice}
use Rattle.vhdl_expand_rules.specs.declared.fault.ElabProblem.TheVariants.{StaticError, TooMany}
use Rattle.vhdl_expand_rules.specs.Elab.{Elab, ◌>>=◌, ◌>>◌, unless}
use Rattle.vhdl_expand_rules.specs.Integers.{Integers, extent}
use Rattle.vhdl_expand_rules.specs.Computed.{Span}
use Rattle.vhdl_expand_rules.specs.Statements.{choices_spans, are_apart, numbers_count, may_be_spread}
use Rattle.vhdl_expand_rules.proofs.Steps.{ok}
use Rattle.vhdl_expand_choices.specs.Views.{put_behind, is_empty, served}

unequal : (x y : ℕ) → (x ≡ y → ⊥) → (x == y) ≡ false
unequal x y h = by (x == y) refl
  where
    by : (b : Bool) → (x == y) ≡ b → b ≡ false
    by true e = absurd (h (eqb-true x y e))
    by false e = refl

equal : (x y : ℕ) → x ≡ y → (x == y) ≡ true
equal x y h = by (x == y) refl
  where
    by : (b : Bool) → (x == y) ≡ b → b ≡ true
    by true e = refl
    by false e = absurd (eqb-false x y e h)

-- a list has none where what is seen of it has none
pub emptied : {X Y : Type 0} (f : X → Y) (xs : List X) → (length xs == 0) ≡ is_empty (map f xs)
emptied f [] = refl
emptied f (x ∷ xs) = unequal (length (x ∷ xs)) 0 (λ e. omega (arith, e))

module _ (here : Integers) (at : ℕ) (among all : Span) (cs ds : List Choice) (ss whole : List (ℕ × Span)) (first : put_behind [] (choices_spans here among cs) ≡ Ok ss)
    (second : put_behind ss (choices_spans here among ds) ≡ Ok whole) (apart : are_apart [] whole ≡ Ok tt) where
  abbrev ended : (spread every : List (ℕ × Span)) → Elab (Unit {0})
  ended xs ys = unless StaticError at (is_empty ds || numbers_count all ys == extent To all.least all.greatest) >> may_be_spread at all xs

  left : served here at among all cs ds ≡ ended ss whole
  left = go (choices_spans here among cs) (choices_spans here among ds) first second
    where
      go : (p q : Elab (List (ℕ × Span))) → put_behind [] p ≡ Ok ss → put_behind ss q ≡ Ok whole → (p >>= λ xs. q >>= λ ys. are_apart [] (xs ++ ys) >> ended xs (xs ++ ys)) ≡ ended ss whole
      go (Ok xs) (Ok ys) f g =
          ap (λ zs. are_apart [] (zs ++ ys) >> ended zs (zs ++ ys)) (ok xs ss f) ∙ ap (λ zs. are_apart [] zs >> ended ss zs) (ok (ss ++ ys) whole g)
          ∙ ap (λ r. r >> ended ss whole) apart
      go (Ok xs) (Err p) f g = absurd cc
      go (Err p) q f g = absurd cc

  pub serve_unfinished : (n : ℕ) → is_empty ds ≡ false → n ≡ min (2 ^ 64 - 1) (numbers_count all whole) → (n ≡ extent To all.least all.greatest → ⊥) → extent To all.least all.greatest ≤ 4294967296
      → served here at among all cs ds ≡ Err (StaticError, at)
  serve_unfinished n none is other few =
      left ∙ ap (λ b. unless StaticError at (b || numbers_count all whole == extent To all.least all.greatest) >> may_be_spread at all ss) none
      ∙ ap (λ b. unless StaticError at b >> may_be_spread at all ss) (unequal (numbers_count all whole) (extent To all.least all.greatest) (λ e. other (omega (arith, is, few, e))))

  -- all have a choice
  pub finished : (n : ℕ) → n ≡ min (2 ^ 64 - 1) (numbers_count all whole) → n ≡ extent To all.least all.greatest → extent To all.least all.greatest ≤ 4294967296
      → (is_empty ds || numbers_count all whole == extent To all.least all.greatest) ≡ true
  finished n is same few = by (is_empty ds) (numbers_count all whole) (extent To all.least all.greatest) (omega (arith, is, same, few))
    where
      by : (b : Bool) (x y : ℕ) → x ≡ y → (b || x == y) ≡ true
      by true x y e = refl
      by false x y e = equal x y e

  pub given_others : is_empty ds ≡ true → (is_empty ds || numbers_count all whole == extent To all.least all.greatest) ≡ true
  given_others e = ap (λ b. b || numbers_count all whole == extent To all.least all.greatest) e

  pub serve_many : (n : ℕ) → (is_empty ds || numbers_count all whole == extent To all.least all.greatest) ≡ true → n ≡ min (2 ^ 64 - 1) (numbers_count all ss) → (n ≤ 4096 → ⊥)
      → served here at among all cs ds ≡ Err (TooMany, at)
  serve_many n done is many =
      left ∙ ap (λ b. unless StaticError at b >> may_be_spread at all ss) done ∙ by (nat_le (numbers_count all ss) 4096) refl
    where
      by : (b : Bool) → nat_le (numbers_count all ss) 4096 ≡ b → unless TooMany at b ≡ Err (TooMany, at)
      by true e = let few = leb-true (numbers_count all ss) 4096 e in absurd (many (omega (arith, is, few)))
      by false e = refl

  pub serve_ends : (n : ℕ) → (is_empty ds || numbers_count all whole == extent To all.least all.greatest) ≡ true → n ≡ min (2 ^ 64 - 1) (numbers_count all ss) → n ≤ 4096
      → served here at among all cs ds ≡ Ok tt
  serve_ends n done is few =
      left ∙ ap (λ b. unless StaticError at b >> may_be_spread at all ss) done ∙ ap (λ b. unless TooMany at b) (le-leb (numbers_count all ss) 4096 (omega (arith, is, few)))
