-- The numbers of the elements of a process's variables.
use Rattle.std.proofs.Common.{◌≡◌, ℕ, zero, suc, ◌+◌, ◌<◌, ◌≤◌, Bool, nat_lt, cond, List, [], ◌∷◌, ◌++◌, length, get_or, map, refl, sym, ap, ◌∙◌, arith, ◌⊎◌, inl, inr, Option, Some, None, append_assoc, append-nil}
use Rattle.std.specs.List.{range_with_len}
use Rattle.std.proofs.lemmas.Bool.{cases_lt, lt-ltb, le-ltb}
use Rattle.std.proofs.lemmas.List.{length-append}
use Rattle.std.proofs.lemmas.List.FromFn.{get_or-map-range_with_len, length-map-range_with_len}
use Rattle.rtl_model.specs.nets.CoreNetlist.{element_number, raised_by}
use Rattle.rtl_net.specs.declared.process.Variable.{Variable}
use Rattle.rtl_net.specs.Nets.{variable_view}
use Rattle.rtl_check.specs.declared.variables.VariableElement.{VariableElement}
use Rattle.rtl_check.specs.Places.{widths, place_in, places_from}

-- the number of an element by widths alone
abbrev pub number_of : List ℕ → (variable place : ℕ) → Option ℕ
number_of [] variable place = None
number_of (w ∷ ws) zero place = cond (nat_lt place w) (Some place) None
number_of (w ∷ ws) (suc variable) place = raised_by w (number_of ws variable place)

pub number_is : (vs : List Variable) (variable place : ℕ) → element_number (map variable_view vs) variable place ≡ number_of (widths vs) variable place
number_is [] variable place = refl
number_is (v ∷ vs) zero place = refl
number_is (v ∷ vs) (suc variable) place = ap (raised_by (length v.starts.items)) (number_is vs variable place)

-- a number that is there is of the first variable, or of a later one
first_number : (w place e : ℕ) → cond (nat_lt place w) (Some place) None ≡ Some e → (place ≡ e) × (place < w)
first_number w place e h = go (cases_lt place w)
  where
    go : (place < w) ⊎ (w ≤ place) → (place ≡ e) × (place < w)
    go (inl l) = let k : Some place ≡ Some e = sym (ap (λ (b : Bool). cond b (Some place) None) (lt-ltb place w l)) ∙ h in (cc, l)
    go (inr l) = let k : None ≡ Some e = sym (ap (λ (b : Bool). cond b (Some place) None) (le-ltb place w l)) ∙ h in absurd cc

later_number : (w e : ℕ) (o : Option ℕ) → raised_by w o ≡ Some e → (i : ℕ) × (o ≡ Some i) × (w + i ≡ e)
later_number w e None h = absurd cc
later_number w e (Some i) h = (i, refl, cc)

-- ---- numbers are below the number of elements, and rise with variables and places

pub number_below : (ws : List ℕ) (first variable place e : ℕ) → number_of ws variable place ≡ Some e → e < length (places_from first ws)
number_below [] first variable place e h = absurd cc
number_below (w ∷ ws) first zero place e h =
    let (same, l) = first_number w place e h in
    let m = length-append (map (place_in first) (range_with_len 0 w)) (places_from (suc first) ws) in
    let n = length-map-range_with_len (place_in first) 0 w in
    omega arith
number_below (w ∷ ws) first (suc variable) place e h =
    let (i, is, sum) = later_number w e (number_of ws variable place) h in
    let l = number_below ws (suc first) variable place i is in
    let m = length-append (map (place_in first) (range_with_len 0 w)) (places_from (suc first) ws) in
    let n = length-map-range_with_len (place_in first) 0 w in
    omega arith

-- an element comes before another: its variable does, or it has the lower place in the same
abbrev pub IsBefore : (variable place variable' place' : ℕ) → Type 0
IsBefore v p v' p' = (v < v') ⊎ ((v ≡ v') × (p < p'))

pub number_order : (ws : List ℕ) (v p v' p' e e' : ℕ) → number_of ws v p ≡ Some e → number_of ws v' p' ≡ Some e' → e < e' → IsBefore v p v' p'
number_order [] v p v' p' e e' h h' l = absurd cc
number_order (w ∷ ws) zero p zero p' e e' h h' l = let (a, b) = first_number w p e h in let (c, d) = first_number w p' e' h' in inr (refl, omega arith)
number_order (w ∷ ws) zero p (suc v') p' e e' h h' l = inl (omega arith)
number_order (w ∷ ws) (suc v) p zero p' e e' h h' l =
    let (i, is, sum) = later_number w e (number_of ws v p) h in
    let (c, d) = first_number w p' e' h' in
    absurd (omega arith)
number_order (w ∷ ws) (suc v) p (suc v') p' e e' h h' l =
    let (i, is, sum) = later_number w e (number_of ws v p) h in
    let (j, at, more) = later_number w e' (number_of ws v' p') h' in
    go (number_order ws v p v' p' i j is at (omega arith))
  where
    go : IsBefore v p v' p' → IsBefore (suc v) p (suc v') p'
    go (inl m) = inl (omega arith)
    go (inr (m, n)) = inr (ap suc m, n)

pub one_number : (ws : List ℕ) (v p v' p' e : ℕ) → number_of ws v p ≡ Some e → number_of ws v' p' ≡ Some e → (v ≡ v') × (p ≡ p')
one_number [] v p v' p' e h h' = absurd cc
one_number (w ∷ ws) zero p zero p' e h h' = let (a, b) = first_number w p e h in let (c, d) = first_number w p' e h' in (refl, a ∙ sym c)
one_number (w ∷ ws) zero p (suc v') p' e h h' =
    let (a, b) = first_number w p e h in
    let (j, at, more) = later_number w e (number_of ws v' p') h' in
    absurd (omega arith)
one_number (w ∷ ws) (suc v) p zero p' e h h' =
    let (a, b) = first_number w p' e h' in
    let (j, at, more) = later_number w e (number_of ws v p) h in
    absurd (omega arith)
one_number (w ∷ ws) (suc v) p (suc v') p' e h h' =
    let (i, is, sum) = later_number w e (number_of ws v p) h in
    let (j, at, more) = later_number w e (number_of ws v' p') h' in
    let same : j ≡ i = omega arith in
    let (a, b) = one_number ws v p v' p' i is (at ∙ ap Some same) in
    (ap suc a, b)

-- ---- the element at a place of the list has that number

in_front : {X : Type 0} (xs ys : List X) (i : ℕ) (d : X) → i < length xs → get_or (xs ++ ys) i d ≡ get_or xs i d
in_front [] ys i d l = absurd (omega arith)
in_front (x ∷ xs) ys zero d l = refl
in_front (x ∷ xs) ys (suc i) d l = in_front xs ys i d (omega arith)

behind : {X : Type 0} (xs ys : List X) (k : ℕ) (d : X) → get_or (xs ++ ys) (length xs + k) d ≡ get_or ys k d
behind [] ys k d = ap (λ (i : ℕ). get_or ys i d) (none k)
  where
    none : (k : ℕ) → 0 + k ≡ k
    none k = omega arith
behind (x ∷ xs) ys k d = ap (λ (i : ℕ). get_or (x ∷ (xs ++ ys)) i d) (one (length xs) k) ∙ behind xs ys k d
  where
    one : (l k : ℕ) → suc l + k ≡ suc (l + k)
    one l k = omega arith

-- its variable counts from the first
pub place_at : (ws : List ℕ) (first e : ℕ) (d : VariableElement) → e < length (places_from first ws)
    → (v : ℕ) × ((get_or (places_from first ws) e d).variable ≡ first + v) × (number_of ws v (get_or (places_from first ws) e d).place ≡ Some e)
place_at [] first e d l = absurd (omega arith)
place_at (w ∷ ws) first e d l = go (λ k m. place_at ws (suc first) k d m) (cases_lt e w)
  where
    many : length (map (place_in first) (range_with_len 0 w)) ≡ w
    many = length-map-range_with_len (place_in first) 0 w

    go : ((k : ℕ) → k < length (places_from (suc first) ws) → (v : ℕ) × ((get_or (places_from (suc first) ws) k d).variable ≡ suc first + v) × (number_of ws v (get_or (places_from (suc first) ws) k d).place ≡ Some k))
        → (e < w) ⊎ (w ≤ e) → (v : ℕ) × ((get_or (places_from first (w ∷ ws)) e d).variable ≡ first + v) × (number_of (w ∷ ws) v (get_or (places_from first (w ∷ ws)) e d).place ≡ Some e)
    go more (inl m) =
        let at : get_or (places_from first (w ∷ ws)) e d ≡ place_in first e =
        in_front (map (place_in first) (range_with_len 0 w)) (places_from (suc first) ws) e d (rw many m) ∙ get_or-map-range_with_len (place_in first) 0 w e e d m (omega arith) in (
          0,
          ap (λ (x : VariableElement). x.variable) at ∙ omega arith,
          ap (λ (x : VariableElement). number_of (w ∷ ws) 0 x.place) at ∙ ap (λ (b : Bool). cond b (Some e) None) (lt-ltb e w m),
        )
    go more (inr m) = later (split e w m)
      where
        split : (e w : ℕ) → w ≤ e → (k : ℕ) × (e ≡ w + k)
        split e zero m = (e, omega arith)
        split zero (suc w) m = absurd (omega arith)
        split (suc e) (suc w) m = let (k, is) = split e w (omega arith) in (k, omega arith)

        later : (k : ℕ) × (e ≡ w + k) → (v : ℕ) × ((get_or (places_from first (w ∷ ws)) e d).variable ≡ first + v) × (number_of (w ∷ ws) v (get_or (places_from first (w ∷ ws)) e d).place ≡ Some e)
        later (k, is) =
            let at : get_or (places_from first (w ∷ ws)) e d ≡ get_or (places_from (suc first) ws) k d =
            ap (λ (i : ℕ). get_or (places_from first (w ∷ ws)) i d) (is ∙ ap (λ (i : ℕ). i + k) (sym many)) ∙ behind (map (place_in first) (range_with_len 0 w)) (places_from (suc first) ws) k d in
            let n = length-append (map (place_in first) (range_with_len 0 w)) (places_from (suc first) ws) in
            let (v, var, number) = more k (omega (arith, many)) in (
              suc v,
              ap (λ (x : VariableElement). x.variable) at ∙ (var ∙ omega arith),
              ap (λ (x : VariableElement). raised_by w (number_of ws v x.place)) at ∙ (ap (raised_by w) number ∙ ap Some (sym is)),
            )

-- ---- variables one after another

pub places_push : (ws : List ℕ) (first w : ℕ) → places_from first (ws ++ w ∷ []) ≡ places_from first ws ++ map (place_in (first + length ws)) (range_with_len 0 w)
places_push [] first w = append-nil (map (place_in first) (range_with_len 0 w)) ∙ ap (λ (i : ℕ). map (place_in i) (range_with_len 0 w)) (none first)
  where
    none : (a : ℕ) → a ≡ a + 0
    none a = omega arith
places_push (v ∷ ws) first w =
    ap (λ (ps : List VariableElement). map (place_in first) (range_with_len 0 v) ++ ps) (places_push ws (suc first) w ∙ ap (λ (i : ℕ). places_from (suc first) ws ++ map (place_in i) (range_with_len 0 w)) (one first (length ws)))
    ∙ sym (append_assoc (map (place_in first) (range_with_len 0 v)) (places_from (suc first) ws) (map (place_in (first + suc (length ws))) (range_with_len 0 w)))
  where
    one : (a l : ℕ) → suc a + l ≡ a + suc l
    one a l = omega arith
