-- The nets of the top's in ports rise.
use Rattle.std.proofs.Common.{◌≡◌, ℕ, zero, suc, ◌+◌, ◌<◌, ◌≤◌, Bool, true, false, cond, List, [], ◌∷◌, ◌++◌, length, map, replicate, refl, sym, ap, ◌∙◌, subst, arith}
use Rattle.std.specs.Prelude.{⊤, slice_index, filter}
use Rattle.std.specs.List.{range_with_len}
use Rattle.std.specs.List.Sorted.{IsStrictlyIncreasing}
use Rattle.std.proofs.lemmas.List.{map-append, length-append, length-replicate}
use Rattle.std.proofs.lemmas.List.FromFn.{get_or-range_with_len}
use Rattle.vhdl_expand_rules.specs.Kinds.{size}
use Rattle.vhdl_expand_rules.specs.Tree.{Object}
use Rattle.vhdl_expand_rules.specs.laws.Trees.{object_roles}
use Rattle.vhdl_elab_rules.specs.Numbering.{Placed}
use Rattle.vhdl_elab_rules.specs.Wiring.{Element, element_of, elements_from}
use Rattle.vhdl_elab_rules.proofs.Segments.{run-append}

abbrev net : Element → ℕ
net e = e.net

-- rising, and none below this
abbrev pub Rises : ℕ → List ℕ → Type 0
Rises a [] = ⊤
Rises a (n ∷ ns) = (a ≤ n) × Rises (suc n) ns

rises-lower : (a b : ℕ) (ns : List ℕ) → b ≤ a → Rises a ns → Rises b ns
rises-lower a b [] l h = tt
rises-lower a b (n ∷ ns) l h = let k : a ≤ n = h.0 in (omega (arith, k, l), h.1)

pub rises-run : (n a : ℕ) → Rises a (range_with_len a n)
rises-run zero a = tt
rises-run (suc n) a = (omega arith, rises-lower (a + 1) (suc a) (range_with_len (a + 1) n) (omega arith) (rises-run n (a + 1)))

pub rises-filter : (f : Element → Bool) (es : List Element) (a : ℕ) → Rises a (map net es) → Rises a (map net (filter f es))
rises-filter f [] a h = tt
rises-filter f (e ∷ es) a h =
    let below : a ≤ e.net = h.0 in
    by (f e) below (rises-filter f es (suc e.net) h.1)
  where
    by : (t : Bool) → a ≤ e.net → Rises (suc e.net) (map net (filter f es)) → Rises a (map net (cond t (e ∷ filter f es) (filter f es)))
    by true l r = (l, r)
    by false l r = rises-lower (suc e.net) a (map net (filter f es)) (omega (arith, l)) r

pub rises-strictly : (ns : List ℕ) (a : ℕ) → Rises a ns → IsStrictlyIncreasing ns
rises-strictly (n ∷ m ∷ ns) a h zero l = let k : suc n ≤ m = h.1.0 in omega (arith, k)
rises-strictly (n ∷ m ∷ ns) a h (suc k) l =
    let more : slice_index (m ∷ ns) k < slice_index (m ∷ ns) (k + 1) = rises-strictly (m ∷ ns) (suc n) h.1 k (omega (arith, l)) in
    let at : suc k + 1 ≡ suc (k + 1) = omega arith in
    subst (λ j. slice_index (m ∷ ns) k < slice_index (n ∷ m ∷ ns) j) (sym at) more
rises-strictly _ a h _ l = absurd (omega (arith, l))

-- the nets of elements, where an instance's nets are a run from 0 on
run-read : (len first : ℕ) (n k : ℕ) → first + k + n ≤ len → map (λ j. slice_index (range_with_len 0 len) (first + j)) (range_with_len k n) ≡ range_with_len (first + k) n
run-read len first zero k l = refl
run-read len first (suc n) k l =
    let at : slice_index (range_with_len 0 len) (first + k) ≡ first + k = get_or-range_with_len 0 len (first + k) 0 (omega (arith, l)) ∙ none (first + k) in
    ap (λ m. m ∷ map (λ j. slice_index (range_with_len 0 len) (first + j)) (range_with_len (k + 1) n)) at
    ∙ ap (λ (ms : List ℕ). (first + k) ∷ ms) (run-read len first n (k + 1) (omega (arith, l)) ∙ ap (λ m. range_with_len m n) (assoc first k))
  where
    none : (n : ℕ) → 0 + n ≡ n
    none n = omega arith

    assoc : (a b : ℕ) → a + (b + 1) ≡ a + b + 1
    assoc a b = omega arith

pub elements-nets : (os : List Object) (p : Placed) (len first : ℕ) → p.nets ≡ range_with_len 0 len → first + length (object_roles os) ≤ len
    → map net (elements_from p first os) ≡ range_with_len first (length (object_roles os))
elements-nets [] p len first h l = refl
elements-nets (o ∷ os) p len first h l =
    let n : ℕ = size o.kind in
    let m : ℕ = length (object_roles os) in
    let all : length (object_roles (o ∷ os)) ≡ n + m = length-append (replicate n o.role) (object_roles os) ∙ ap (λ j. j + m) (length-replicate n o.role) in
    let mine : List Element = map (λ k. element_of p o (first + k) k) (range_with_len 0 n) in
    map-append net mine (elements_from p (first + n) os)
    ∙ ap (λ (ns : List ℕ). ns ++ map net (elements_from p (first + n) os))
    (map-map n ∙ ap (λ (ns : List ℕ). map (λ j. slice_index ns (first + j)) (range_with_len 0 n)) h ∙ run-read len first n 0 (omega (arith, l, all)) ∙ ap (λ j. range_with_len j n) (plus-none first))
    ∙ ap (λ (ns : List ℕ). range_with_len first n ++ ns) (elements-nets os p len (first + n) h (omega (arith, l, all)))
    ∙ run-append first n m ∙ ap (range_with_len first) (sym all)
  where
    plus-none : (n : ℕ) → n + 0 ≡ n
    plus-none n = omega arith

    map-over : (ks : List ℕ) → map net (map (λ k. element_of p o (first + k) k) ks) ≡ map (λ j. slice_index p.nets (first + j)) ks
    map-over [] = refl
    map-over (k ∷ ks) = ap (λ ns. slice_index p.nets (first + k) ∷ ns) (map-over ks)

    map-map : (n : ℕ) → map net (map (λ k. element_of p o (first + k) k) (range_with_len 0 n)) ≡ map (λ j. slice_index p.nets (first + j)) (range_with_len 0 n)
    map-map n = map-over (range_with_len 0 n)
