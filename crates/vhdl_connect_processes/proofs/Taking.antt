-- What is taken out of the tree, one after another.
use Rattle.std.proofs.Common.{◌≡◌, ℕ, zero, suc, ◌+◌, ◌-◌, ◌<◌, ◌≤◌, List, [], ◌∷◌, ◌++◌, length, get_or, set, take, map, refl, sym, ap, ◌∙◌, arith, get_or-set_other}
use Rattle.std.specs.Prelude.{codes, slice_index}
use Rattle.std.proofs.lemmas.List.{take_more, map-append}
use Rattle.rtl_net.specs.declared.process.Driver.{Driver}
use Rattle.rtl_net.specs.Names.{generates_prefix}
use Rattle.rtl_net.specs.Nets.{driver_view}
use Rattle.vhdl_connect_processes.specs.Located.{driver_in}

-- ---- labels without their last dot

take-front : (xs ys : List ℕ) → take (length xs) (xs ++ ys) ≡ xs
take-front [] ys = refl
take-front (x ∷ xs) ys = ap (λ zs. x ∷ zs) (take-front xs ys)

take-none : (n : ℕ) → take {A = ℕ} n [] ≡ []
take-none zero = refl
take-none (suc n) = refl

dot-behind : (bs : List ℕ) → length (bs ++ codes ".") ≡ length bs + 1
dot-behind [] = refl
dot-behind (b ∷ bs) = let h = dot-behind bs in omega arith

pub dotless : (prefix labels rest : List ℕ) (n : ℕ) → prefix ≡ generates_prefix labels → n ≡ length prefix → rest ≡ take (n - 1) prefix → generates_prefix rest ≡ prefix
dotless prefix [] rest n h l r = ap generates_prefix (r ∙ ap (take (n - 1)) h ∙ take-none (n - 1)) ∙ sym h
dotless prefix (b ∷ bs) rest n h l r =
    let k : n - 1 ≡ suc (length bs) = omega (arith, l, ap length h, dot-behind bs) in
    ap generates_prefix (r ∙ (λ i. take (k i) (h i)) ∙ take-front (b ∷ bs) (codes ".")) ∙ sym h

-- ---- things of a list, each made of one that was there

module _ {V M W : Type 0} (shown : M → W) (of : V → W) where
  pub untouched_next : (old xs : List V) (i : ℕ) (y : V) → ((k : ℕ) (d : V) → i ≤ k → get_or xs k d ≡ get_or old k d)
      → (k : ℕ) (d : V) → i + 1 ≤ k → get_or (set xs i y) k d ≡ get_or old k d
  untouched_next old xs i y h k d l = get_or-set_other xs i k y d (λ e. absurd (omega (arith, e, l))) ∙ h k d (omega (arith, l))

  pub taken_next : (old xs : List V) (i : ℕ) (x : V) (made : List M) (y : M) → i < length old → x ≡ get_or xs i x → ((k : ℕ) (d : V) → i ≤ k → get_or xs k d ≡ get_or old k d)
      → shown y ≡ of x → map shown made ≡ map of (take i old) → map shown (made ++ y ∷ []) ≡ map of (take (i + 1) old)
  taken_next old xs i x made y l is h e so_far =
      map-append shown made (y ∷ []) ∙ ap (λ zs. zs ++ shown y ∷ []) so_far ∙ ap (λ z. map of (take i old) ++ z ∷ []) (e ∙ ap of (is ∙ h i x (omega arith)))
      ∙ sym (map-append of (take i old) (get_or old i x ∷ [])) ∙ ap (map of) (sym (take_more old i x l))

pub map-twice : {X Y Z : Type 0} (f : Y → Z) (g : X → Y) (xs : List X) → map (λ x. f (g x)) xs ≡ map f (map g xs)
map-twice f g [] = refl
map-twice f g (x ∷ xs) = ap (λ zs. f (g x) ∷ zs) (map-twice f g xs)

-- ---- drivers

pub driver_next : (nets defaults es : List ℕ) (i x : ℕ) (made : List Driver) (d : Driver) → i < length es → x ≡ get_or es i 0 → d.net ≡ slice_index nets x → d.start ≡ slice_index defaults x
    → map driver_view made ≡ map (driver_in nets defaults) (take i es) → map driver_view (made ++ d ∷ []) ≡ map (driver_in nets defaults) (take (i + 1) es)
driver_next nets defaults es i x made d l is h k so_far =
    map-append driver_view made (d ∷ []) ∙ ap (λ zs. zs ++ driver_view d ∷ []) so_far ∙ (λ j. map (driver_in nets defaults) (take i es) ++ record { net = h j; start = k j } ∷ [])
    ∙ ap (λ z. map (driver_in nets defaults) (take i es) ++ driver_in nets defaults z ∷ []) is
    ∙ sym (map-append (driver_in nets defaults) (take i es) (get_or es i 0 ∷ [])) ∙ ap (map (driver_in nets defaults)) (sym (take_more es i 0 l))
