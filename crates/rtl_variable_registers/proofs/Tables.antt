-- The variables of a process that are kept: their types, their numbers, and their places among each other.
use Rattle.std.proofs.Common.{◌≡◌, ℕ, zero, suc, ◌+◌, ◌-◌, ◌<◌, ◌≤◌, Bool, true, false, cond, List, [], ◌∷◌, ◌++◌, Some, length, replicate, slice_get}
use Rattle.std.proofs.Common.{refl, sym, ap, ◌∙◌, subst, arith, ◌⊎◌, inl, inr, All, Contains}
use Rattle.std.specs.List.{list_any, range_with_len}
use Rattle.std.proofs.lemmas.Bool.{cases_lt, cases_eq, eq-eqb}
use Rattle.std.proofs.lemmas.List.{length-append, length-replicate}
use Rattle.std.proofs.lemmas.List.Elements.{All-head, All-tail, Contains-append_left, Contains-append_right, Contains-append_cases}
use Rattle.std.proofs.lemmas.List.FromFn.{length-range_with_len, get_or-range_with_len}
use Rattle.rtl_model.specs.bodies.Fits.{IsWidth}
use Rattle.rtl_model.specs.bodies.Types.{ElementType}
use Rattle.rtl_model.specs.nets.FlatNetlist.{FlatVariable, VariableInRange, element_starts, element_types}
use Rattle.rtl_model.proofs.basics.Lists.{Contains-none, Contains-one, any_true}
use Rattle.rtl_variable_registers.specs.Bodies.{KeptVariable}
use Rattle.rtl_variable_registers.specs.Processes.{kept_among, rank_in}
use Rattle.rtl_variable_registers.proofs.Putting.{eqb_other}
use Rattle.rtl_variable_registers.proofs.Recalling.{all_elements}
use Rattle.rtl_variable_registers.proofs.Running.{IsTyped, AreTyped}

-- ---- numbers in a row

pub in_range : (first n e : ℕ) → Contains (range_with_len first n) e → (first ≤ e) × (e < first + n)
in_range first n e (k, l, at) =
    let m : k < n = omega (arith, length-range_with_len first n) in
    let s : first + k ≡ e = sym (get_or-range_with_len first n k e m) ∙ at in
    (omega arith, omega arith)

pub range_has : (first n e : ℕ) → first ≤ e → e < first + n → Contains (range_with_len first n) e
range_has first n e l m =
    let s : first + (e - first) ≡ e = omega arith in
    (e - first, omega (arith, length-range_with_len first n), get_or-range_with_len first n (e - first) e (omega arith) ∙ s)

-- ---- types

get_replicate : (n : ℕ) (t : ElementType) (ys : List ElementType) (k : ℕ) → k < n → slice_get (replicate n t ++ ys) k ≡ Some t
get_replicate zero t ys k l = absurd (omega arith)
get_replicate (suc n) t ys zero l = refl
get_replicate (suc n) t ys (suc k) l = get_replicate n t ys k (omega arith)

get_past_replicate : (n : ℕ) (t : ElementType) (ys : List ElementType) (k : ℕ) → slice_get (replicate n t ++ ys) (n + k) ≡ slice_get ys k
get_past_replicate zero t ys k = ap (slice_get ys) (omega arith)
get_past_replicate (suc n) t ys k =
    let s : suc n + k ≡ suc (n + k) = omega arith in
    ap (slice_get (t ∷ (replicate n t ++ ys))) s ∙ get_past_replicate n t ys k

-- a variable's elements, the first of which has this number
abbrev pub of_variable : ℕ → FlatVariable → KeptVariable
of_variable first v = record { type_of = v.type_of; elements = range_with_len first (length v.starts) }

pub typed_among : (types : List ElementType) (keeps : ℕ → Bool) (first : ℕ) (vs : List FlatVariable) → All VariableInRange vs
    → ((k : ℕ) → slice_get types (first + k) ≡ slice_get (element_types vs) k) → AreTyped types (kept_among keeps first vs)
typed_among types keeps first [] r h = tt
typed_among types keeps first (v ∷ vs) r h =
    go (list_any keeps (range_with_len first (length v.starts)))
    (record {
      width = subst IsWidth (sym (length-range_with_len first (length v.starts))) (All-head VariableInRange v vs r).width;
      fit = record { one = λ n s. length-range_with_len first (length v.starts) ∙ (All-head VariableInRange v vs r).one_literal n s };
      has = λ e c. typed e (in_range first (length v.starts) e c);
    })
    (typed_among types keeps (first + length v.starts) vs (All-tail VariableInRange v vs r) (λ k. later k))
  where
    go : (b : Bool) → IsTyped types (of_variable first v) → AreTyped types (kept_among keeps (first + length v.starts) vs)
        → AreTyped types (cond b (of_variable first v ∷ kept_among keeps (first + length v.starts) vs) (kept_among keeps (first + length v.starts) vs))
    go true a b = (a, b)
    go false a b = b

    typed : (e : ℕ) → (first ≤ e) × (e < first + length v.starts) → slice_get types e ≡ Some v.type_of
    typed e b =
        let s : e ≡ first + (e - first) = omega (arith, b.0) in
        ap (slice_get types) s ∙ h (e - first) ∙ get_replicate (length v.starts) v.type_of (element_types vs) (e - first) (omega (arith, b.0, b.1))

    later : (k : ℕ) → slice_get types (first + length v.starts + k) ≡ slice_get (element_types vs) k
    later k =
        let s : first + length v.starts + k ≡ first + (length v.starts + k) = omega arith in
        ap (slice_get types) s ∙ h (length v.starts + k) ∙ get_past_replicate (length v.starts) v.type_of (element_types vs) k

pub length_types : (vs : List FlatVariable) → length (element_types vs) ≡ length (element_starts vs)
length_types [] = refl
length_types (v ∷ vs) = omega (arith, length_types vs, length-append (replicate (length v.starts) v.type_of) (element_types vs), length-append v.starts (element_starts vs), length-replicate (length v.starts) v.type_of)

-- ---- which are kept

pub covers_among : (keeps : ℕ → Bool) (first : ℕ) (vs : List FlatVariable) (e : ℕ) → first ≤ e → e < first + length (element_starts vs) → keeps e ≡ true
    → Contains (all_elements (kept_among keeps first vs)) e
covers_among keeps first [] e l m h = absurd (omega arith)
covers_among keeps first (v ∷ vs) e l m h =
    go (cases_lt e (first + length v.starts)) (λ g. covers_among keeps (first + length v.starts) vs e g (omega (arith, length-append v.starts (element_starts vs))) h)
  where
    own : Contains (range_with_len first (length v.starts)) e
        → Contains (all_elements (cond (list_any keeps (range_with_len first (length v.starts))) (of_variable first v ∷ kept_among keeps (first + length v.starts) vs) (kept_among keeps (first + length v.starts) vs))) e
    own c = rw (any_true keeps (range_with_len first (length v.starts)) e c h)
        (Contains-append_left (range_with_len first (length v.starts)) (all_elements (kept_among keeps (first + length v.starts) vs)) e c)

    more : (b : Bool) → Contains (all_elements (kept_among keeps (first + length v.starts) vs)) e
        → Contains (all_elements (cond b (of_variable first v ∷ kept_among keeps (first + length v.starts) vs) (kept_among keeps (first + length v.starts) vs))) e
    more true c = Contains-append_right (range_with_len first (length v.starts)) (all_elements (kept_among keeps (first + length v.starts) vs)) e c
    more false c = c

    go : (e < first + length v.starts) ⊎ (first + length v.starts ≤ e) → (first + length v.starts ≤ e → Contains (all_elements (kept_among keeps (first + length v.starts) vs)) e)
        → Contains (all_elements (kept_among keeps first (v ∷ vs))) e
    go (inl g) k = own (range_has first (length v.starts) e l g)
    go (inr g) k = more (list_any keeps (range_with_len first (length v.starts))) (k g)

-- ---- places

pub place_apart : (ks : List ℕ) (d e : ℕ) → Contains ks d → Contains ks e → rank_in ks d ≡ rank_in ks e → d ≡ e
place_apart [] d e c b h = absurd (Contains-none d c)
place_apart (k ∷ ks) d e c b h = go (λ x y. place_apart ks d e x y) (cases_eq k d) (cases_eq k e)
  where
    later : (x : ℕ) → (k ≡ x → ⊥) → Contains (k ∷ ks) x → Contains ks x
    later x n a = by (Contains-append_cases (k ∷ []) ks x a)
      where
        by : Contains (k ∷ []) x ⊎ Contains ks x → Contains ks x
        by (inl i) = absurd (n (Contains-one k x i))
        by (inr i) = i

    go : (Contains ks d → Contains ks e → rank_in ks d ≡ rank_in ks e → d ≡ e) → (k ≡ d) ⊎ (k ≡ d → ⊥) → (k ≡ e) ⊎ (k ≡ e → ⊥) → d ≡ e
    go rest (inl p) (inl q) = sym p ∙ q
    go rest (inl p) (inr q) = let i = rw (eq-eqb k d p, eqb_other k e q) at h in absurd (omega arith)
    go rest (inr p) (inl q) = let i = rw (eqb_other k d p, eq-eqb k e q) at h in absurd (omega arith)
    go rest (inr p) (inr q) = let i = rw (eqb_other k d p, eqb_other k e q) at h in rest (later d p c) (later e q b) (omega arith)

pub place_within : (ks : List ℕ) (e : ℕ) → Contains ks e → rank_in ks e < length ks
place_within [] e c = absurd (Contains-none e c)
place_within (k ∷ ks) e c = go (λ x. place_within ks e x) (cases_eq k e)
  where
    by : (k ≡ e → ⊥) → Contains (k ∷ []) e ⊎ Contains ks e → Contains ks e
    by n (inl i) = absurd (n (Contains-one k e i))
    by n (inr i) = i

    go : (Contains ks e → rank_in ks e < length ks) → (k ≡ e) ⊎ (k ≡ e → ⊥) → rank_in (k ∷ ks) e < suc (length ks)
    go rest (inl p) = rw (eq-eqb k e p) (omega arith)
    go rest (inr p) = rw (eqb_other k e p) (let i = rest (by p (Contains-append_cases (k ∷ []) ks e c)) in omega arith)
