-- The texts of names one after another, and names that are shown.
use Rattle.std.proofs.Common.{◌≡◌, ℕ, suc, ◌+◌, ◌-◌, ◌<◌, ◌≤◌, List, [], ◌∷◌, ◌++◌, length, map, take, take-add, drop, get_or, sym, ap, subst, ◌∙◌, arith, append_assoc, append-nil, All}
use Rattle.std.proofs.lemmas.List.{take_more, take_rest, length-map, length-take-le, get_or-map, length-drop, get_or-drop, take-map, drop-map}
use Rattle.std.proofs.lemmas.List.Elements.{All-get_or, All-take, All-drop}
use Rattle.rtl_net.specs.declared.signal.Signal.{Signal}
use Rattle.rtl_net.specs.Nets.{SignalView, signal_view}
use Rattle.rtl_vcd_values.specs.Values.{numbered}
use Rattle.rtl_net.specs.Showing.{IsShown}

pub numbered-append : (f : ℕ → SignalView → List ℕ) (k : ℕ) (xs ys : List SignalView) → numbered f k (xs ++ ys) ≡ numbered f k xs ++ numbered f (k + length xs) ys
numbered-append f k [] ys = let e : k ≡ k + 0 = omega arith in ap (λ n. numbered f n ys) e
numbered-append f k (x ∷ xs) ys =
    let e : suc k + length xs ≡ k + suc (length xs) = omega arith in
    ap (λ t. f k x ++ t) (numbered-append f (suc k) xs ys ∙ ap (λ n. numbered f (suc k) xs ++ numbered f n ys) e)
    ∙ sym (append_assoc (f k x) (numbered f (suc k) xs) (numbered f (k + suc (length xs)) ys))

-- one name more
pub numbered_next : (f : ℕ → SignalView → List ℕ) (k : ℕ) (names : List SignalView) (i : ℕ) (s : SignalView) → i < length names
    → numbered f k (take (i + 1) names) ≡ numbered f k (take i names) ++ f (k + i) (get_or names i s)
numbered_next f k names i s lt =
    let one = get_or names i s in
    let count : length (take i names) ≡ i = length-take-le i names (omega (arith, lt)) in
    ap (numbered f k) (take_more names i s lt) ∙ numbered-append f k (take i names) (one ∷ [])
    ∙ ap (λ t. numbered f k (take i names) ++ t) (append-nil (f (k + length (take i names)) one) ∙ ap (λ n. f (k + n) one) count)

pub numbered_more : (f : ℕ → SignalView → List ℕ) (signals : List Signal) (i : ℕ) (s : Signal) → i < length signals → s ≡ get_or signals i s
    → numbered f 0 (map signal_view (take (i + 1) signals)) ≡ numbered f 0 (map signal_view (take i signals)) ++ f i (signal_view s)
numbered_more f signals i s lt is =
    let e : 0 + i ≡ i = omega arith in
    let views = map signal_view signals in
    let name = get_or-map signal_view signals i s (signal_view s) lt ∙ ap signal_view (sym is) in
    ap (numbered f 0) (sym (take-map signal_view (i + 1) signals)) ∙ numbered_next f 0 views i (signal_view s) (omega (arith, lt, length-map signals signal_view))
    ∙ ap (λ t. numbered f 0 t ++ f (0 + i) (get_or views i (signal_view s))) (take-map signal_view i signals)
    ∙ ap (λ x. numbered f 0 (map signal_view (take i signals)) ++ f (0 + i) x) name
    ∙ ap (λ n. numbered f 0 (map signal_view (take i signals)) ++ f n (signal_view s)) e

-- the first names, and some behind them
pub numbered_further : (f : ℕ → SignalView → List ℕ) (k n m : ℕ) (names : List SignalView) → n ≤ length names
    → numbered f k (take (n + m) names) ≡ numbered f k (take n names) ++ numbered f (k + n) (take m (drop n names))
numbered_further f k n m names le =
    let count : k + length (take n names) ≡ k + n = omega (arith, length-take-le n names le) in
    ap (numbered f k) (take-add n m names)
    ∙ numbered-append f k (take n names) (take m (drop n names))
    ∙ ap (λ i. numbered f k (take n names) ++ numbered f i (take m (drop n names))) count

pub length-rest : {X : Type 0} (n : ℕ) (xs : List X) → length (take (length xs - n) (drop n xs)) ≡ length xs - n
length-rest n xs = ap length (take_rest xs n) ∙ length-drop n xs

pub rest_of_names : (signals : List Signal) (n : ℕ) → map signal_view (take (length signals - n) (drop n signals)) ≡ drop n (map signal_view signals)
rest_of_names signals n = ap (map signal_view) (take_rest signals n) ∙ sym (drop-map signal_view n signals)

-- each of these names is shown
pub shown_at : (nets : ℕ) (signals : List Signal) (i : ℕ) (s : Signal) → i < length signals → s ≡ get_or signals i s
    → All (IsShown nets) (map signal_view signals) → IsShown nets (signal_view s)
shown_at nets signals i s lt is all =
    let within : i < length (map signal_view signals) = omega (arith, length-map signals signal_view) in
    subst (IsShown nets) (get_or-map signal_view signals i s (signal_view s) lt ∙ ap signal_view (sym is))
    (All-get_or (IsShown nets) (map signal_view signals) i (signal_view s) within all)

-- the name at hand, as contracts see it
pub name_at : (signals : List Signal) (i : ℕ) (s : Signal) → i < length signals → s ≡ get_or signals i s → get_or (map signal_view signals) i (signal_view s) ≡ signal_view s
name_at signals i s lt is = get_or-map signal_view signals i s (signal_view s) lt ∙ ap signal_view (sym is)

-- the names from one on, and one name more
pub take_next : (signals : List Signal) (first k i : ℕ) (s : Signal) → i < length signals → first + k ≡ i → s ≡ get_or signals i s
    → take (k + 1) (drop first (map signal_view signals)) ≡ take k (drop first (map signal_view signals)) ++ signal_view s ∷ []
take_next signals first k i s lt at is =
    let names : List SignalView = map signal_view signals in
    let within : k < length (drop first names) = omega (arith, lt, at, length-drop first names, length-map signals signal_view) in
    let one : get_or (drop first names) k (signal_view s) ≡ signal_view s =
    get_or-drop first names k (signal_view s) ∙ ap (λ n. get_or names n (signal_view s)) at
    ∙ get_or-map signal_view signals i s (signal_view s) lt ∙ ap signal_view (sym is) in
    take_more (drop first names) k (signal_view s) within ∙ ap (λ t. take k (drop first names) ++ t ∷ []) one

-- so many names, behind the first ones
pub part_of_names : (signals : List Signal) (first n : ℕ) → map signal_view (take (first + n - first) (drop first signals)) ≡ take n (drop first (map signal_view signals))
part_of_names signals first n =
    let e : first + n - first ≡ n = omega arith in
    ap (λ k. map signal_view (take k (drop first signals))) e ∙ sym (take-map signal_view n (drop first signals)) ∙ ap (take n) (sym (drop-map signal_view first signals))

-- they are shown too
pub part_shown : (types : ℕ) (signals : List Signal) → All (IsShown types) (map signal_view signals) → (nets first n : ℕ) → nets ≡ types
    → All (IsShown nets) (map signal_view (take (first + n - first) (drop first signals)))
part_shown types signals all nets first n as_many =
    subst (All (IsShown nets)) (sym (part_of_names signals first n))
    (All-take (IsShown nets) n (drop first (map signal_view signals))
    (All-drop (IsShown nets) first (map signal_view signals) (subst (λ k. All (IsShown k) (map signal_view signals)) (sym as_many) all)))
