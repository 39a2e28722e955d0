-- Rows by the places at which they begin.
use Rattle.std.proofs.Common.{◌≡◌, ℕ, zero, suc, ◌+◌, ◌-◌, ◌*◌, ◌<◌, ◌≤◌, ◌⊎◌, List, ◌∷◌, length, map, take, drop, Some, None, inl, inr, refl, sym, ap, ◌∙◌, subst, arith, length-take, length-drop}
use Rattle.std.specs.List.{All, range_with_len}
use Rattle.std.proofs.lemmas.List.FromFn.{length-range_with_len, get_or-range_with_len}
use Rattle.std.proofs.lemmas.Bool.{cases_lt}
use Rattle.std.proofs.lemmas.List.{take-map, drop-map}
use Rattle.vhdl_values.specs.declared.scalar.Nine.{Nine}
use Rattle.vhdl_numbers.specs.Counts.{natural_of}
use Rattle.rtl_model.specs.bodies.Rows.{Spacing, row_count, row_at}
use Rattle.rtl_model.proofs.bodies.Rows.{row_within, row_at-some, row_at-none, all-part}
use Rattle.rtl_eval.specs.Rows.{BeginsAt, IsNowhere}

pub begun_within : (spacing : Spacing) (elements : ℕ) (index : List Nine) (place : ℕ) → BeginsAt spacing elements index place → place + spacing.len ≤ elements
begun_within spacing elements index place b = omega (arith, row_within spacing elements b.number b.there, b.begins)

-- where a row would end past what rows lie in, there is none with its number
row_absent : (spacing : Spacing) (elements k : ℕ) → elements < k * spacing.step + spacing.len → row_count spacing elements ≤ k
row_absent spacing elements k past = go (cases_lt k (row_count spacing elements))
  where
    go : (k < row_count spacing elements) ⊎ (row_count spacing elements ≤ k) → row_count spacing elements ≤ k
    go (inl below) = let h = row_within spacing elements k below in absurd (omega arith)
    go (inr least) = least

-- an index that names no number
pub nameless : (spacing : Spacing) (elements : ℕ) (index : List Nine) → None ≡ natural_of index → IsNowhere spacing elements index
nameless spacing elements index none number named = absurd cc

-- nor one whose number's row would end past what rows lie in
pub begins_nowhere : (spacing : Spacing) (elements number : ℕ) (index : List Nine) → natural_of index ≡ Some number → elements < number * spacing.step + spacing.len → IsNowhere spacing elements index
begins_nowhere spacing elements number index named past k is =
    let same : number ≡ k = cc in
    subst (λ (n : ℕ). row_count spacing elements ≤ n) same (row_absent spacing elements number past)

module _ {X : Type 0} (spacing : Spacing) (vs : List X) (index : List Nine) where
  pub begun : (place : ℕ) → BeginsAt spacing (length vs) index place → row_at spacing vs index ≡ Some (take spacing.len (drop place vs))
  begun place b = row_at-some spacing vs index b.number b.named b.there ∙ ap (λ (n : ℕ). Some (take spacing.len (drop n vs))) (sym b.begins)

  pub nowhere : IsNowhere spacing (length vs) index → row_at spacing vs index ≡ None
  nowhere h = row_at-none spacing vs index h

-- a part has as many as it is long
pub row_long : {X : Type 0} (vs : List X) (at len : ℕ) → at + len ≤ length vs → length (take len (drop at vs)) ≡ len
row_long vs at len within = rw (length-take, length-drop) (omega (arith, within))

-- and so code has it
pub part_is : {X : Type 0} (xs vs : List X) (at len many : ℕ) → xs ≡ vs → len ≡ many → take (at + len - at) (drop at xs) ≡ take many (drop at vs)
part_is xs vs at len many is e = let counted : at + len - at ≡ many = omega (arith, e) in λ k. take (counted k) (drop at (is k))

-- a part of what is made of each, and a part of a run
pub map-part : {X Y : Type 0} (f : X → Y) (vs : List X) (first len : ℕ) → take len (drop first (map f vs)) ≡ map f (take len (drop first vs))
map-part f vs first len = ap (take len) (drop-map f first vs) ∙ take-map f len (drop first vs)

take_run : (len first many : ℕ) → len ≤ many → take len (range_with_len first many) ≡ range_with_len first len
take_run zero first many l = refl
take_run (suc len) first zero l = absurd (omega arith)
take_run (suc len) first (suc many) l = ap (λ (ns : List ℕ). first ∷ ns) (take_run len (first + 1) many (omega arith))

drop_run : (at first many : ℕ) → at ≤ many → drop at (range_with_len first many) ≡ range_with_len (first + at) (many - at)
drop_run zero first many l =
    let start : first ≡ first + 0 = omega arith in
    let left : many ≡ many - 0 = omega arith in
    λ i. range_with_len (start i) (left i)
drop_run (suc at) first zero l = absurd (omega arith)
drop_run (suc at) first (suc many) l =
    let start : first + 1 + at ≡ first + suc at = omega arith in
    let left : many - at ≡ suc many - suc at = omega arith in
    drop_run at (first + 1) many (omega arith) ∙ (λ i. range_with_len (start i) (left i))

-- so the part of places that are a run is one
pub run_part : (places : List ℕ) (first many at len : ℕ) → places ≡ range_with_len first many → at + len ≤ length places → take len (drop at places) ≡ range_with_len (first + at) len
run_part places first many at len is within =
    let inside : at + len ≤ many = omega (arith, within, ap length is, length-range_with_len first many) in
    ap (λ (ps : List ℕ). take len (drop at ps)) is ∙ ap (take len) (drop_run at first many (omega arith)) ∙ take_run len (first + at) (many - at) (omega arith)

-- and each of its places is where all are
pub run_below : (most : ℕ) (places : List ℕ) (start at len : ℕ) → take len (drop at places) ≡ range_with_len start len → All (λ place. place < most) places
    → (k : ℕ) → k < len → start + k < most
run_below most places start at len is there k l =
    let h = subst (λ (ps : List ℕ). All (λ place. place < most) ps) is (all-part (λ place. place < most) places at len there) k 0 (omega (arith, l, length-range_with_len start len)) in
    subst (λ (place : ℕ). place < most) (get_or-range_with_len start len k 0 l) h
