-- The lowest wanted net of a list: of two lists, and of two with the same nets.
use Rattle.std.proofs.Common.{◌≡◌, ℕ, ◌≤◌, ◌==◌, Bool, true, false, ◌||◌, List, [], ◌∷◌, ◌++◌, Option, Some, None, refl, sym, ap, subst, ◌∙◌, ◌⊎◌, inl, inr, arith}
use Rattle.std.specs.Prelude.{min, if◌then◌else◌}
use Rattle.std.proofs.lemmas.Bool.{eqb-true, eq-eqb, or_cases}
use Rattle.rtl_body_facts.specs.Reading.{is_in}
use Rattle.rtl_seen_nets.specs.Lowest.{lower, is_wanted, if_wanted, lowest}

pub lower-none : (o : Option ℕ) → lower o None ≡ o
lower-none None = refl
lower-none (Some n) = refl

lower-more : (a b c : Option ℕ) → lower (lower a b) c ≡ lower a (lower b c)
lower-more None b c = refl
lower-more (Some l) None c = refl
lower-more (Some l) (Some m) None = refl
lower-more (Some l) (Some m) (Some n) = ap (λ (k : ℕ). Some k) (let e : min (min l m) n ≡ min l (min m n) = omega arith in e)

module _ (wanted : List Bool) where
  pub lowest-append : (xs ys : List ℕ) → lowest wanted (xs ++ ys) ≡ lower (lowest wanted xs) (lowest wanted ys)
  lowest-append [] ys = refl
  lowest-append (x ∷ xs) ys = ap (lower (if_wanted wanted x)) (lowest-append xs ys) ∙ sym (lower-more (if_wanted wanted x) (lowest wanted xs) (lowest wanted ys))

  -- what the lowest is, by which nets are there
  abbrev Bounds : (there : ℕ → Bool) → Option ℕ → Type 0
  Bounds there None = (n : ℕ) → there n ≡ true → is_wanted wanted n ≡ false
  Bounds there (Some m) = (there m ≡ true) × (is_wanted wanted m ≡ true) × ((n : ℕ) → there n ≡ true → is_wanted wanted n ≡ true → m ≤ n)

  or-true : (b : Bool) → (b || true) ≡ true
  or-true true = refl
  or-true false = refl

  bounds : (xs : List ℕ) → Bounds (λ n. is_in n xs) (lowest wanted xs)
  bounds [] = λ n e. absurd (let k : false ≡ true = e in cc)
  bounds (x ∷ xs) = go (is_wanted wanted x) refl (lowest wanted xs) (bounds xs)
    where
      there : is_in x (x ∷ xs) ≡ true
      there = ap (λ (b : Bool). b || is_in x xs) (eq-eqb x x refl)

      behind : (n : ℕ) → is_in n xs ≡ true → is_in n (x ∷ xs) ≡ true
      behind n e = ap (λ (b : Bool). (x == n) || b) e ∙ or-true (x == n)

      parts : (n : ℕ) → is_in n (x ∷ xs) ≡ true → (x ≡ n) ⊎ (is_in n xs ≡ true)
      parts n e = part (or_cases (x == n) (is_in n xs) e)
        where
          part : ((x == n) ≡ true) ⊎ (is_in n xs ≡ true) → (x ≡ n) ⊎ (is_in n xs ≡ true)
          part (inl s) = inl (eqb-true x n s)
          part (inr h) = inr h

      go : (b : Bool) → is_wanted wanted x ≡ b → (o : Option ℕ) → Bounds (λ n. is_in n xs) o → Bounds (λ n. is_in n (x ∷ xs)) (lower (if b then Some x else None) o)
      go false not None h = λ n e. first n (parts n e)
        where
          first : (n : ℕ) → (x ≡ n) ⊎ (is_in n xs ≡ true) → is_wanted wanted n ≡ false
          first n (inl s) = ap (is_wanted wanted) (sym s) ∙ not
          first n (inr e) = h n e
      go false not (Some m) h = (behind m h.0, h.1, λ n e w. least n (parts n e) w)
        where
          least : (n : ℕ) → (x ≡ n) ⊎ (is_in n xs ≡ true) → is_wanted wanted n ≡ true → m ≤ n
          least n (inl s) w = absurd (let k : true ≡ false = sym w ∙ (ap (is_wanted wanted) (sym s) ∙ not) in cc)
          least n (inr e) w = h.2 n e w
      go true is None h = (there, is, λ n e w. least n (parts n e) w)
        where
          least : (n : ℕ) → (x ≡ n) ⊎ (is_in n xs ≡ true) → is_wanted wanted n ≡ true → x ≤ n
          least n (inl s) w = omega arith
          least n (inr e) w = absurd (let k : true ≡ false = sym w ∙ h n e in cc)
      go true is (Some m) h = (one-of (less x m), wanted-of (less x m), λ n e w. least n (parts n e) w)
        where
          less : (a b : ℕ) → (min a b ≡ a) ⊎ (min a b ≡ b)
          less a b = grind arith

          one-of : (min x m ≡ x) ⊎ (min x m ≡ m) → is_in (min x m) (x ∷ xs) ≡ true
          one-of (inl s) = ap (λ (k : ℕ). is_in k (x ∷ xs)) s ∙ there
          one-of (inr s) = ap (λ (k : ℕ). is_in k (x ∷ xs)) s ∙ behind m h.0

          wanted-of : (min x m ≡ x) ⊎ (min x m ≡ m) → is_wanted wanted (min x m) ≡ true
          wanted-of (inl s) = ap (is_wanted wanted) s ∙ is
          wanted-of (inr s) = ap (is_wanted wanted) s ∙ h.1

          least : (n : ℕ) → (x ≡ n) ⊎ (is_in n xs ≡ true) → is_wanted wanted n ≡ true → min x m ≤ n
          least n (inl s) w = omega arith
          least n (inr e) w = let l = h.2 n e w in omega arith

  one-lowest : (there : ℕ → Bool) (a b : Option ℕ) → Bounds there a → Bounds there b → a ≡ b
  one-lowest there None None g h = refl
  one-lowest there None (Some n) g h = absurd (let k : true ≡ false = sym h.1 ∙ g n h.0 in cc)
  one-lowest there (Some m) None g h = absurd (let k : true ≡ false = sym g.1 ∙ h m g.0 in cc)
  one-lowest there (Some m) (Some n) g h =
      let up = g.2 n h.0 h.1 in
      let down = h.2 m g.0 g.1 in
      ap (λ (k : ℕ). Some k) (let e : m ≡ n = omega arith in e)

  pub lowest-same : (xs ys : List ℕ) → ((n : ℕ) → is_in n xs ≡ is_in n ys) → lowest wanted xs ≡ lowest wanted ys
  lowest-same xs ys same =
      let there : ℕ → Bool = λ n. is_in n xs in
      one-lowest there (lowest wanted xs) (lowest wanted ys) (bounds xs) (subst (λ (f : ℕ → Bool). Bounds f (lowest wanted ys)) (λ i n. sym (same n) i) (bounds ys))
