-- Lists in one row, by where they start.
use Rattle.std.proofs.Common.{◌≡◌, ℕ, zero, suc, ◌+◌, ◌-◌, ◌<◌, ◌≤◌, List, [], ◌∷◌, ◌++◌, length, get_or, take, drop, refl, sym, ap, subst, ◌∙◌, arith}
use Rattle.std.specs.List.{between}
use Rattle.std.proofs.lemmas.List.{drop_at, drop-append-le, get_or_default, take-append-le, take_all, length-drop}
use Rattle.rtl_net_groups.specs.Lists.{lists_of, EndAt}

-- ---- where they start

pub ends_below : (starts : List ℕ) (last k : ℕ) → EndAt starts last → k < length starts → get_or starts k 0 ≤ last
ends_below [] last k E l = absurd E
ends_below (a ∷ []) last zero E l = omega arith
ends_below (a ∷ []) last (suc k) E l = absurd (omega arith)
ends_below (a ∷ b ∷ starts) last zero E l = let h = ends_below (b ∷ starts) last 0 E.1 (omega arith) in omega (arith, E.0, h)
ends_below (a ∷ b ∷ starts) last (suc k) E l = ends_below (b ∷ starts) last k E.1 (omega arith)

pub ends_rise : (starts : List ℕ) (last k : ℕ) → EndAt starts last → k + 1 < length starts → get_or starts k 0 ≤ get_or starts (k + 1) 0
ends_rise starts last k E l =
    let e : suc k ≡ k + 1 = omega arith in
    subst (λ (m : ℕ). get_or starts k 0 ≤ get_or starts m 0) e (by starts k E (omega arith))
  where
    by : (starts : List ℕ) (k : ℕ) → EndAt starts last → suc k < length starts → get_or starts k 0 ≤ get_or starts (suc k) 0
    by [] k E l = absurd E
    by (a ∷ []) k E l = absurd (omega arith)
    by (a ∷ b ∷ starts) zero E l = E.0
    by (a ∷ b ∷ starts) (suc k) E l = by (b ∷ starts) k E.1 (omega arith)

-- what a read of one gives
pub start_read : (starts : List ℕ) (k x : ℕ) → k < length starts → x ≡ get_or starts k x → x ≡ get_or starts k 0
start_read starts k x within is = is ∙ get_or_default starts k x 0 within

pub ends_more : (starts : List ℕ) (last more : ℕ) → EndAt starts last → last ≤ more → EndAt (starts ++ more ∷ []) more
ends_more [] last more E l = absurd E
ends_more (a ∷ []) last more E l = (omega (arith, E, l), refl)
ends_more (a ∷ b ∷ starts) last more E l = (E.0, ends_more (b ∷ starts) last more E.1 l)

module _ {X : Type 0} where
  -- ---- how many lists

  pub length-lists_of : (starts : List ℕ) (last : ℕ) (items : List X) → EndAt starts last → length (lists_of starts items) + 1 ≡ length starts
  length-lists_of [] last items E = absurd E
  length-lists_of (a ∷ []) last items E = refl
  length-lists_of (a ∷ b ∷ starts) last items E = let h = length-lists_of (b ∷ starts) last items E.1 in omega (arith, h)

  -- ---- one of them

  pub list_at : (starts : List ℕ) (items : List X) (k : ℕ) → k + 1 < length starts → get_or (lists_of starts items) k [] ≡ between (get_or starts k 0) (get_or starts (k + 1) 0) items
  list_at starts items k l = (let e : suc k ≡ k + 1 = omega arith in by starts k (omega arith) ∙ ap (λ (m : ℕ). between (get_or starts k 0) (get_or starts m 0) items) e)
    where
      by : (starts : List ℕ) (k : ℕ) → suc k < length starts → get_or (lists_of starts items) k [] ≡ between (get_or starts k 0) (get_or starts (suc k) 0) items
      by [] k l = absurd (omega arith)
      by (a ∷ []) k l = absurd (omega arith)
      by (a ∷ b ∷ starts) zero l = refl
      by (a ∷ b ∷ starts) (suc k) l = by (b ∷ starts) k (omega arith)

  -- ---- one more

  between_within : (a b : ℕ) (xs ys : List X) → a ≤ b → b ≤ length xs → between a b (xs ++ ys) ≡ between a b xs
  between_within a b xs ys le within =
      ap (take (b - a)) (drop-append-le a xs ys (omega arith))
      ∙ take-append-le (b - a) (drop a xs) ys (omega (arith, length-drop a xs))

  between_behind : (a n : ℕ) (xs ys : List X) → a ≡ length xs → n ≡ length xs + length ys → between a n (xs ++ ys) ≡ ys
  between_behind a n xs ys e all = ap (take (n - a)) (drop_at xs ys a (sym e)) ∙ take_all (n - a) ys (omega arith)

  pub lists_more : (starts : List ℕ) (last n : ℕ) (items list : List X) → EndAt starts last → last ≡ length items → n ≡ length items + length list
      → lists_of (starts ++ n ∷ []) (items ++ list) ≡ lists_of starts items ++ list ∷ []
  lists_more [] last n items list E e all = absurd E
  lists_more (a ∷ []) last n items list E e all = ap (λ (ys : List X). ys ∷ []) (between_behind a n items list (E ∙ e) all)
  lists_more (a ∷ b ∷ starts) last n items list E e all =
      let below = ends_below (b ∷ starts) last 0 E.1 (omega arith) in
      let first = between_within a b items list E.0 (omega (arith, below, e)) in
      let rest = lists_more (b ∷ starts) last n items list E.1 e all in
      λ i. first i ∷ rest i
