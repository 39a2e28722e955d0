-- Variables that are kept stand in a row: their elements, nets and places go by one another.
use Rattle.std.proofs.Common.{◌≡◌, ℕ, zero, suc, ◌+◌, ◌-◌, ◌<◌, ◌≤◌, ◌==◌, nat_lt, nat_le, ◌^◌, Bool, true, false, ◌&&◌, if◌then◌else◌, List, [], ◌∷◌, ◌++◌, length, map, All, append_assoc, length-append, refl, sym, ap, ◌∙◌, arith}
use Rattle.std.specs.Prelude.{flat_map, slice_index}
use Rattle.std.specs.List.{list_any, range_with_len}
use Rattle.std.proofs.lemmas.Bool.{eqb-true, eqb-false, leb-true, leb-false, ltb-true, ltb-false}
use Rattle.std.proofs.lemmas.List.{map-append, length-map}
use Rattle.std.proofs.lemmas.List.Elements.{All-nil, All-cons}
use Rattle.std.proofs.lemmas.List.FromFn.{length-range_with_len}
use Rattle.rtl_model.specs.bodies.Body.{step, set, assign, position_of, position_in}
use Rattle.rtl_model.specs.bodies.Types.{ElementType, nine_valued, enumeration}
use Rattle.rtl_model.specs.nets.FlatNetlist.{element_starts}
use Rattle.rtl_net.specs.Nets.{element_type, variable_view}
use Rattle.rtl_net.specs.declared.process.Variable.{Variable}
use Rattle.rtl_variable_registers.specs.Bodies as spec
use Rattle.rtl_variable_registers.specs.Processes.{kept_among, rank_in, drivers_from}
use Rattle.rtl_kept_bodies.specs.declared.kept.Kept.{Kept}
use Rattle.rtl_kept_bodies.specs.Rules.{keeps_each}
use Rattle.rtl_kept_bodies.specs.Steps.{kept_count, kept_from, IsWithin, held_by, had_by, recall_all, remember_all, placed, placed_by, all_drivers_of}

-- ---- numbers from one on

pub range_more : (a k : ℕ) → range_with_len a (k + 1) ≡ range_with_len a k ++ (a + k) ∷ []
range_more a zero = ap (λ (x : ℕ). x ∷ []) (let e : a ≡ a + 0 = omega arith in e)
range_more a (suc k) =
    ap (range_with_len a) (let e : suc k + 1 ≡ suc (k + 1) = omega arith in e)
    ∙ (ap (λ (xs : List ℕ). a ∷ xs) (range_more (a + 1) k) ∙ ap (λ (x : ℕ). (a ∷ range_with_len (a + 1) k) ++ x ∷ []) (let e : (a + 1) + k ≡ a + suc k = omega arith in e))

-- ---- ranks

rank_within : (a n e : ℕ) (ys : List ℕ) → a ≤ e → e < a + n → a + rank_in (range_with_len a n ++ ys) e ≡ e
rank_within a zero e ys l u = absurd (omega arith)
rank_within a (suc n) e ys l u = go (a == e) refl (λ d. rank_within (a + 1) n e ys (omega (arith, d)) (omega arith))
  where
    go : (b : Bool) → (a == e) ≡ b → ((a ≡ e → ⊥) → (a + 1) + rank_in (range_with_len (a + 1) n ++ ys) e ≡ e)
        → a + (if b then 0 else suc (rank_in (range_with_len (a + 1) n ++ ys) e)) ≡ e
    go true t h = let same = eqb-true a e t in omega (arith, same)
    go false f h = let k = h (eqb-false a e f) in omega (arith, k)

rank_below : (a n e : ℕ) (ys : List ℕ) → e < a → rank_in (range_with_len a n ++ ys) e ≡ n + rank_in ys e
rank_below a zero e ys l = omega arith
rank_below a (suc n) e ys l = go (a == e) refl (rank_below (a + 1) n e ys (omega arith))
  where
    go : (b : Bool) → (a == e) ≡ b → rank_in (range_with_len (a + 1) n ++ ys) e ≡ n + rank_in ys e
        → (if b then 0 else suc (rank_in (range_with_len (a + 1) n ++ ys) e)) ≡ suc n + rank_in ys e
    go true t h = let same = eqb-true a e t in absurd (omega (arith, same))
    go false f h = omega (arith, h)

rank_behind : (a n e : ℕ) (ys : List ℕ) → a + n ≤ e → rank_in (range_with_len a n ++ ys) e ≡ n + rank_in ys e
rank_behind a zero e ys l = omega arith
rank_behind a (suc n) e ys l = go (a == e) refl (rank_behind (a + 1) n e ys (omega arith))
  where
    go : (b : Bool) → (a == e) ≡ b → rank_in (range_with_len (a + 1) n ++ ys) e ≡ n + rank_in ys e
        → (if b then 0 else suc (rank_in (range_with_len (a + 1) n ++ ys) e)) ≡ suc n + rank_in ys e
    go true t h = let same = eqb-true a e t in absurd (omega (arith, same))
    go false f h = omega (arith, h)

-- numbers that go by one another
map_range : (f : ℕ → ℕ) (a n net : ℕ) → ((e : ℕ) → a ≤ e → e < a + n → f e + a ≡ net + e) → map f (range_with_len a n) ≡ range_with_len net n
map_range f a zero net h = refl
map_range f a (suc n) net h =
    let first : f a ≡ net = (let k = h a (omega arith) (omega arith) in omega (arith, k)) in
    let rest = map_range f (a + 1) n (net + 1) (λ e l u. let k = h e (omega arith) (omega arith) in omega (arith, k)) in
    ap (λ x. x ∷ map f (range_with_len (a + 1) n)) first ∙ ap (λ xs. net ∷ xs) rest

-- ---- variables in a row

abbrev pub elements_of : List Kept → List ℕ
elements_of ks = flat_map (λ (k : Kept). range_with_len k.element k.len) ks

-- elements rise from `lo` on; nets and places go on from these
pub data Stand : (lo net place : ℕ) → List Kept → Type 0 where
  nothing : (lo net place : ℕ) → Stand lo net place []
  more : (lo net place : ℕ) (k : Kept) (ks : List Kept) → lo ≤ k.element → k.net ≡ net → k.place ≡ place
      → Stand (k.element + k.len) (net + k.len) (place + k.len) ks → Stand lo net place (k ∷ ks)

lower : (lo from net place : ℕ) (ks : List Kept) → from ≤ lo → Stand lo net place ks → Stand from net place ks
lower lo from net place [] l (nothing _ _ _) = nothing from net place
lower lo from net place (k ∷ ks) l (more _ _ _ _ _ e n p rest) = more from net place k ks (omega arith) n p rest

pub stand : (e net place : ℕ) (flags : List Bool) (vs : List Variable) → Stand e net place (kept_from e net place flags vs)
stand e net place (true ∷ flags) (v ∷ vs) =
    let len = length v.starts.items in
    more e net place _ _ (omega arith) refl refl (stand (e + len) (net + len) (place + len) flags vs)
stand e net place (false ∷ flags) (v ∷ vs) =
    let len = length v.starts.items in
    lower (e + len) e net place _ (omega arith) (stand (e + len) net place flags vs)
stand e net place [] vs = nothing e net place
stand e net place (true ∷ flags) [] = nothing e net place
stand e net place (false ∷ flags) [] = nothing e net place

-- ---- places

module _ (k : Kept) (ys : List ℕ) (r d e : ℕ) (is : d ≡ (k.place + k.len) + rank_in ys e) where
  abbrev Placed : (l u : Bool) → Type 0
  Placed l u = (if l && u then k.place + (e - k.element) else d) ≡ k.place + rank_in (range_with_len k.element k.len ++ ys) e

  placed_next : placed k d e ≡ k.place + rank_in (range_with_len k.element k.len ++ ys) e
  placed_next = from (nat_le k.element e) (nat_lt e (k.element + k.len)) refl refl
    where
      from : (l u : Bool) → nat_le k.element e ≡ l → nat_lt e (k.element + k.len) ≡ u → Placed l u
      from true true hl hu =
          let above : k.element ≤ e = leb-true k.element e hl in
          let below : e < k.element + k.len = ltb-true e (k.element + k.len) hu in
          let at = rank_within k.element k.len e ys above below in omega (arith, at)
      from true false hl hu =
          let past : k.element + k.len ≤ e = ltb-false e (k.element + k.len) hu in
          let at = rank_behind k.element k.len e ys past in omega (arith, at, is)
      from false u hl hu =
          let before : e < k.element = leb-false k.element e hl in
          let at = rank_below k.element k.len e ys before in omega (arith, at, is)

pub places_are : (lo net place d : ℕ) (ks : List Kept) → Stand lo net place ks → d ≡ place + length (elements_of ks)
    → (e : ℕ) → placed_by ks d e ≡ place + rank_in (elements_of ks) e
places_are lo net place d [] (nothing _ _ _) h e = h
places_are lo net place d (k ∷ ks) (more _ _ _ _ _ l n p rest) h e =
    let long = length-append (range_with_len k.element k.len) (elements_of ks) in
    let own = length-range_with_len k.element k.len in
    let behind = places_are (k.element + k.len) (net + k.len) (place + k.len) d ks rest (omega (arith, h, long, own)) e in
    placed_next k (elements_of ks) 0 (placed_by ks d e) e (behind ∙ ap (λ x. (x + k.len) + rank_in (elements_of ks) e) (sym p))
    ∙ ap (λ x. x + rank_in (range_with_len k.element k.len ++ elements_of ks) e) p

-- ---- what is recalled and remembered

-- these stand before all elements from `lo` on
abbrev Skips : (lo : ℕ) → List ℕ → Type 0
Skips lo pre = (ys : List ℕ) (e : ℕ) → lo ≤ e → rank_in (pre ++ ys) e ≡ length pre + rank_in ys e

skips_more : (lo a n : ℕ) (pre : List ℕ) → lo ≤ a → Skips lo pre → Skips (a + n) (pre ++ range_with_len a n)
skips_more lo a n pre l h ys e u =
    let one = h (range_with_len a n ++ ys) e (omega arith) in
    let two = rank_behind a n e ys u in
    let long = length-append pre (range_with_len a n) in
    let own = length-range_with_len a n in
    ap (λ zs. rank_in zs e) (append_assoc pre (range_with_len a n) ys) ∙ one ∙ (let s : length pre + rank_in (range_with_len a n ++ ys) e ≡ length (pre ++ range_with_len a n) + rank_in ys e = omega (arith, two, long, own) in s)

abbrev pub kept_view : Kept → spec.KeptVariable
kept_view k = record { type_of = element_type k.kind; elements = range_with_len k.element k.len }

-- a variable of an enumeration has one element
abbrev pub IsOne : Kept → Type 0
IsOne k = (literals : ℕ) → element_type k.kind ≡ enumeration literals → k.len ≡ 1

held_is : (t : ElementType) (net len : ℕ) → ((literals : ℕ) → t ≡ enumeration literals → len ≡ 1) → held_by t net len ≡ spec.of_nets t (range_with_len net len)
held_is nine_valued net len one = refl
held_is (enumeration literals) net len one = sym (ap (λ m. position_of (slice_index (range_with_len net m) 0)) (one literals refl))

had_is : (t : ElementType) (element len : ℕ) → ((literals : ℕ) → t ≡ enumeration literals → len ≡ 1) → had_by t element len ≡ spec.variable_value t (range_with_len element len)
had_is nine_valued element len one = refl
had_is (enumeration literals) element len one = sym (ap (λ m. position_in (slice_index (range_with_len element m) 0)) (one literals refl))

module _ (first base : ℕ) where
  abbrev net_in : List ℕ → ℕ → ℕ
  net_in whole e = first + rank_in whole e

  abbrev place_in : List ℕ → ℕ → ℕ
  place_in whole e = base + rank_in whole e

  module _ (pre : List ℕ) (lo : ℕ) (k : Kept) (ks : List Kept) (skips : Skips lo pre) (l : lo ≤ k.element) where
    abbrev whole : List ℕ
    whole = pre ++ (range_with_len k.element k.len ++ elements_of ks)

    go_by : (from at : ℕ) → at ≡ from + length pre → map (λ e. from + rank_in whole e) (range_with_len k.element k.len) ≡ range_with_len at k.len
    go_by from at is = map_range (λ e. from + rank_in whole e) k.element k.len at (λ e a u.
        let s = skips (range_with_len k.element k.len ++ elements_of ks) e (omega arith) in
        let w = rank_within k.element k.len e (elements_of ks) a u in omega (arith, s, w, is))

  longer : (pre : List ℕ) (k : Kept) (from at : ℕ) → at ≡ from + length pre → at + k.len ≡ from + length (pre ++ range_with_len k.element k.len)
  longer pre k from at is =
      let long = length-append pre (range_with_len k.element k.len) in
      let own = length-range_with_len k.element k.len in omega (arith, long, own, is)

  pub recalls : (pre : List ℕ) (lo net place : ℕ) (ks : List Kept) → Skips lo pre → net ≡ first + length pre → place ≡ base + length pre
      → Stand lo net place ks → All IsOne ks
      → recall_all ks ≡ spec.recalled (net_in (pre ++ elements_of ks)) (place_in (pre ++ elements_of ks)) (map kept_view ks)
  recalls pre lo net place [] skips hn hp (nothing _ _ _) one = refl
  recalls pre lo net place (k ∷ ks) skips hn hp (more _ _ _ _ _ l n p rest) one =
      let es = range_with_len k.element k.len in
      let here = go_by pre lo k ks skips l first k.net (n ∙ hn) in
      let behind = recalls (pre ++ es) (k.element + k.len) (net + k.len) (place + k.len) ks (skips_more lo k.element k.len pre l skips)
      (longer pre k first net hn) (longer pre k base place hp) rest (λ i d m. one (suc i) d (omega arith)) in
      ap (λ v. step (set es v) (recall_all ks)) (held_is (element_type k.kind) k.net k.len (one 0 k (omega arith)))
      ∙ ap (λ ns. step (set es (spec.of_nets (element_type k.kind) ns)) (recall_all ks)) (sym here)
      ∙ ap (step (set es (spec.of_nets (element_type k.kind) (map (net_in (pre ++ (es ++ elements_of ks))) es)))) (behind ∙ ap (λ zs. spec.recalled (net_in zs) (place_in zs) (map kept_view ks)) (append_assoc pre es (elements_of ks)))

  pub remembers : (pre : List ℕ) (lo net place : ℕ) (ks : List Kept) → Skips lo pre → net ≡ first + length pre → place ≡ base + length pre
      → Stand lo net place ks → All IsOne ks
      → remember_all ks ≡ spec.remembered (net_in (pre ++ elements_of ks)) (place_in (pre ++ elements_of ks)) (map kept_view ks)
  remembers pre lo net place [] skips hn hp (nothing _ _ _) one = refl
  remembers pre lo net place (k ∷ ks) skips hn hp (more _ _ _ _ _ l n p rest) one =
      let es = range_with_len k.element k.len in
      let here = go_by pre lo k ks skips l base k.place (p ∙ hp) in
      let behind = remembers (pre ++ es) (k.element + k.len) (net + k.len) (place + k.len) ks (skips_more lo k.element k.len pre l skips)
      (longer pre k first net hn) (longer pre k base place hp) rest (λ i d m. one (suc i) d (omega arith)) in
      ap (λ v. step (assign (range_with_len k.place k.len) v) (remember_all ks)) (had_is (element_type k.kind) k.element k.len (one 0 k (omega arith)))
      ∙ ap (λ ns. step (assign ns (spec.variable_value (element_type k.kind) es)) (remember_all ks)) (sym here)
      ∙ ap (step (assign (map (place_in (pre ++ (es ++ elements_of ks))) es) (spec.variable_value (element_type k.kind) es))) (behind ∙ ap (λ zs. spec.remembered (net_in zs) (place_in zs) (map kept_view ks)) (append_assoc pre es (elements_of ks)))

-- ---- drivers

pub drivers_append : (n : ℕ) (xs ys : List ℕ) → drivers_from n (xs ++ ys) ≡ drivers_from n xs ++ drivers_from (n + length xs) ys
drivers_append n [] ys = ap (λ m. drivers_from m ys) (omega arith)
drivers_append n (x ∷ xs) ys =
    ap (λ ds. record { net = n; start = x } ∷ ds) (drivers_append (suc n) xs ys ∙ ap (λ m. drivers_from (suc n) xs ++ drivers_from m ys) (omega arith))

pub drivers_are : (starts : List ℕ) (lo net place : ℕ) (ks : List Kept) → Stand lo net place ks
    → all_drivers_of starts ks ≡ drivers_from net (map (slice_index starts) (elements_of ks))
drivers_are starts lo net place [] (nothing _ _ _) = refl
drivers_are starts lo net place (k ∷ ks) (more _ _ _ _ _ l n p rest) =
    let es = range_with_len k.element k.len in
    let f = slice_index starts in
    let long : length (map f es) ≡ k.len = length-map es f ∙ length-range_with_len k.element k.len in
    ap (λ m. drivers_from m (map f es) ++ all_drivers_of starts ks) n
    ∙ ap (λ ds. drivers_from net (map f es) ++ ds) (drivers_are starts (k.element + k.len) (net + k.len) (place + k.len) ks rest ∙ ap (λ m. drivers_from (net + m) (map f (elements_of ks))) (sym long))
    ∙ sym (drivers_append net (map f es) (map f (elements_of ks)))
    ∙ ap (drivers_from net) (sym (map-append f es (elements_of ks)))

-- ---- the variables that are listed

module _ (keeps : ℕ → Bool) where
  pub views_are : (e net place : ℕ) (vs : List Variable)
      → map kept_view (kept_from e net place (keeps_each keeps e (map variable_view vs)) vs) ≡ kept_among keeps e (map variable_view vs)
  views_are e net place [] = refl
  views_are e net place (v ∷ vs) =
      go (list_any keeps (range_with_len e (length v.starts.items)))
      (views_are (e + length v.starts.items) (net + length v.starts.items) (place + length v.starts.items) vs)
      (views_are (e + length v.starts.items) net place vs)
    where
      go : (b : Bool)
          → map kept_view (kept_from (e + length v.starts.items) (net + length v.starts.items) (place + length v.starts.items) (keeps_each keeps (e + length v.starts.items) (map variable_view vs)) vs)
          ≡ kept_among keeps (e + length v.starts.items) (map variable_view vs)
          → map kept_view (kept_from (e + length v.starts.items) net place (keeps_each keeps (e + length v.starts.items) (map variable_view vs)) vs)
          ≡ kept_among keeps (e + length v.starts.items) (map variable_view vs)
          → map kept_view (kept_from e net place (b ∷ keeps_each keeps (e + length v.starts.items) (map variable_view vs)) (v ∷ vs))
          ≡ (if b then record { type_of = element_type v.kind; elements = range_with_len e (length v.starts.items) } ∷ kept_among keeps (e + length v.starts.items) (map variable_view vs)
          else kept_among keeps (e + length v.starts.items) (map variable_view vs))
      go true h k = ap (λ ks. record { type_of = element_type v.kind; elements = range_with_len e (length v.starts.items) } ∷ ks) h
      go false h k = k

pub elements_viewed : (ks : List Kept) → flat_map (λ (v : spec.KeptVariable). v.elements) (map kept_view ks) ≡ elements_of ks
elements_viewed [] = refl
elements_viewed (k ∷ ks) = ap (λ xs. range_with_len k.element k.len ++ xs) (elements_viewed ks)

pub counted : (e net place : ℕ) (flags : List Bool) (vs : List Variable) → length (elements_of (kept_from e net place flags vs)) ≡ kept_count flags vs
counted e net place (true ∷ flags) (v ∷ vs) =
    let len = length v.starts.items in
    length-append (range_with_len e len) (elements_of (kept_from (e + len) (net + len) (place + len) flags vs))
    ∙ ap (λ m. m + length (elements_of (kept_from (e + len) (net + len) (place + len) flags vs))) (length-range_with_len e len)
    ∙ ap (λ m. len + m) (counted (e + len) (net + len) (place + len) flags vs)
counted e net place (false ∷ flags) (v ∷ vs) = counted (e + length v.starts.items) net place flags vs
counted e net place [] vs = refl
counted e net place (true ∷ flags) [] = refl
counted e net place (false ∷ flags) [] = refl

pub are_within : (many e net place : ℕ) (flags : List Bool) (vs : List Variable) → e + length (element_starts (map variable_view vs)) ≤ many
    → place + kept_count flags vs < 2 ^ 32 → All (IsWithin many) (kept_from e net place flags vs)
are_within many e net place (true ∷ flags) (v ∷ vs) h w =
    let len = length v.starts.items in
    let long = length-append v.starts.items (element_starts (map variable_view vs)) in
    All-cons (IsWithin many) _ _ (record { elements = omega (arith, h, long); places = omega arith })
    (are_within many (e + len) (net + len) (place + len) flags vs (omega (arith, h, long)) (omega arith))
are_within many e net place (false ∷ flags) (v ∷ vs) h w =
    let len = length v.starts.items in
    let long = length-append v.starts.items (element_starts (map variable_view vs)) in
    are_within many (e + len) net place flags vs (omega (arith, h, long)) w
are_within many e net place [] vs h w = All-nil (IsWithin many)
are_within many e net place (true ∷ flags) [] h w = All-nil (IsWithin many)
are_within many e net place (false ∷ flags) [] h w = All-nil (IsWithin many)
