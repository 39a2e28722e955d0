-- Scopes by their depth, and the names of one of them.
use Rattle.std.proofs.Common.{◌≡◌, ℕ, zero, suc, ◌+◌, ◌<◌, ◌≤◌, ◌==◌, true, false, List, [], ◌∷◌, ◌++◌, length, map, take, drop, get_or, refl, sym, ap, ◌∙◌, arith, ne_eqb, eq-eqb, append-nil, Option, Some, None, ◌⊎◌, inl, inr, AllPairs}
use Rattle.std.specs.Prelude.{if◌then◌else◌, codes, unwrap_or}
use Rattle.std.proofs.lemmas.List.{length-map, get_or-map, get_or-drop, get_or-take, get_or_default, length-drop, take-append-drop, map-append, length-take-le}
use Rattle.std.proofs.lemmas.Option.{none-some}
use Rattle.std.proofs.lemmas.Bool.{cases_lt}
use Rattle.rtl_net.specs.declared.signal.Scope.{Scope}
use Rattle.rtl_net.specs.declared.signal.Signal.{Signal}
use Rattle.rtl_net.specs.Nets.{ScopeView, SignalView, scope_view, signal_view, parent_of, label_at}
use Rattle.rtl_net.specs.Elaborated.{AreScopes}
use Rattle.rtl_vcd.specs.Header.{depth, depth_within, one_deeper, upscopes, variable_line_in, variable_line}
use Rattle.rtl_vcd_values.specs.Values.{numbered}
use Rattle.rtl_vcd.specs.Shown.{StandInOrder, StartsScope}
use Rattle.rtl_vcd.proofs.Names.{numbered-append}

-- ---- depth

module _ (scopes : List ScopeView) (are : AreScopes scopes) where
  parent_is_lower : (k p : ℕ) → k < length scopes → parent_of scopes k ≡ Some p → p < k
  parent_is_lower zero p lt e = absurd (none-some p (sym are.top ∙ e))
  parent_is_lower (suc k) p lt e =
      let f = are.others k lt in
      let same : f.parent ≡ p = ap (λ o. unwrap_or o 0) (sym f.is ∙ e) in
      omega (arith, f.before, same)

  -- in enough steps the depth is the same
  enough_up : (n m k : ℕ) → k ≤ suc n → k ≤ suc m → k < length scopes
      → ((p : ℕ) → p ≤ n → p ≤ m → p < length scopes → depth_within n scopes p ≡ depth_within m scopes p)
      → (o : Option ℕ) → parent_of scopes k ≡ o
      → one_deeper (depth_within n scopes) (parent_of scopes k) ≡ one_deeper (depth_within m scopes) (parent_of scopes k)
  enough_up n m k a b lt same None e = ap (one_deeper (depth_within n scopes)) e ∙ sym (ap (one_deeper (depth_within m scopes)) e)
  enough_up n m k a b lt same (Some p) e =
      let low = parent_is_lower k p lt e in
      ap (one_deeper (depth_within n scopes)) e ∙ ap suc (same p (omega arith) (omega arith) (omega arith))
      ∙ sym (ap (one_deeper (depth_within m scopes)) e)

  enough : (n m k : ℕ) → k ≤ n → k ≤ m → k < length scopes → depth_within n scopes k ≡ depth_within m scopes k
  enough zero zero k a b lt = refl
  enough zero (suc m) zero a b lt = sym (ap (one_deeper (depth_within m scopes)) are.top)
  enough zero (suc m) (suc k) a b lt = absurd (omega arith)
  enough (suc n) zero zero a b lt = ap (one_deeper (depth_within n scopes)) are.top
  enough (suc n) zero (suc k) a b lt = absurd (omega arith)
  enough (suc n) (suc m) k a b lt = enough_up n m k a b lt (λ p x y z. enough n m p x y z) (parent_of scopes k) refl

  depth_top : (k : ℕ) → k < length scopes → parent_of scopes k ≡ None → depth scopes k ≡ 0
  depth_top zero lt e = refl
  depth_top (suc k) lt e = ap (one_deeper (depth_within k scopes)) e

  -- a scope is one deeper than its parent, which has a lower number
  depth_in : (k p : ℕ) → k < length scopes → parent_of scopes k ≡ Some p → (p < k) × (depth scopes k ≡ suc (depth scopes p))
  depth_in zero p lt e = absurd (none-some p (sym are.top ∙ e))
  depth_in (suc k) p lt e =
      let low = parent_is_lower (suc k) p lt e in
      (low, ap (one_deeper (depth_within k scopes)) e ∙ ap suc (enough k p p (omega arith) (omega arith) (omega arith)))

-- a scope's parent and label, as contracts see them
parent_is : (scopes : List Scope) (k : ℕ) (d : Scope) → k < length scopes → parent_of (map scope_view scopes) k ≡ (get_or scopes k d).parent
parent_is scopes k d lt =
    let views : List ScopeView = map scope_view scopes in
    let within : k < length views = omega (arith, length-map scopes scope_view) in
    get_or-map (λ (v : ScopeView). v.parent) views k (scope_view d) None within
    ∙ ap (λ (v : ScopeView). v.parent) (get_or-map scope_view scopes k d (scope_view d) lt)

-- the depth of a scope with no parent, and of one with a parent
module _ (scopes : List Scope) (are : AreScopes (map scope_view scopes)) (k : ℕ) (d : Scope) (within : k < length scopes) where
  inside : k < length (map scope_view scopes)
  inside = omega (arith, within, length-map scopes scope_view)

  pub depth_of_top : (get_or scopes k d).parent ≡ None → depth (map scope_view scopes) k ≡ 0
  depth_of_top is = depth_top (map scope_view scopes) are k inside (parent_is scopes k d within ∙ is)

  pub depth_of_inner : (p : ℕ) → (get_or scopes k d).parent ≡ Some p → (p < k) × (depth (map scope_view scopes) k ≡ suc (depth (map scope_view scopes) p))
  depth_of_inner p is = depth_in (map scope_view scopes) are k p inside (parent_is scopes k d within ∙ is)

pub label_is : (scopes : List Scope) (k : ℕ) (s : Scope) → k < length scopes → s ≡ get_or scopes k s → label_at (map scope_view scopes) k ≡ s.label.items
label_is scopes k s lt is =
    let views : List ScopeView = map scope_view scopes in
    let within : k < length views = omega (arith, length-map scopes scope_view) in
    get_or-map (λ (v : ScopeView). v.label) views k (scope_view s) [] within
    ∙ ap (λ (v : ScopeView). v.label) (get_or-map scope_view scopes k s (scope_view s) lt)
    ∙ ap (λ (t : Scope). t.label.items) (sym is)

-- one closing more
pub upscopes_more : (n : ℕ) → upscopes (n + 1) ≡ upscopes n ++ codes "$upscope $end\n"
upscopes_more n = let e : n + 1 ≡ suc n = omega arith in ap upscopes e ∙ behind n where
  behind : (n : ℕ) → upscopes (suc n) ≡ upscopes n ++ codes "$upscope $end\n"
  behind zero = refl
  behind (suc n) = ap (λ t. codes "$upscope $end\n" ++ t) (behind n)

-- ---- the names of a scope

-- a name of another scope says nothing
other : (scope k : ℕ) (s : SignalView) → (s.scope ≡ scope → ⊥) → variable_line_in scope k s ≡ []
other scope k s ne = let e : (s.scope == scope) ≡ false = ne_eqb s.scope scope ne in ap (λ b. if b then variable_line k s else []) e

pub none : (scope k : ℕ) (xs : List Signal) → ((i : ℕ) (d : Signal) → i < length xs → (get_or xs i d).scope ≡ scope → ⊥)
    → numbered (variable_line_in scope) k (map signal_view xs) ≡ []
none scope k [] h = refl
none scope k (x ∷ xs) h =
    ap (λ t. t ++ numbered (variable_line_in scope) (suc k) (map signal_view xs)) (other scope k (signal_view x) (h 0 x (omega arith)))
    ∙ none scope (suc k) xs (λ i d lt. h (suc i) d (omega arith))

-- once the names of a scope are printed, the rest says nothing more
pub rest_is_none : (scope : ℕ) (xs : List Signal) (next : ℕ) → next ≤ length xs
    → ((i : ℕ) (d : Signal) → next ≤ i → i < length xs → (get_or xs i d).scope ≡ scope → ⊥)
    → numbered (variable_line_in scope) 0 (map signal_view xs) ≡ numbered (variable_line_in scope) 0 (map signal_view (take next xs))
rest_is_none scope xs next le h =
    let f = variable_line_in scope in
    let front : List SignalView = map signal_view (take next xs) in
    let back = none scope (0 + length front) (drop next xs)
    (λ i d lt e. h (next + i) d (omega arith) (omega (arith, lt, length-drop next xs)) (ap (λ (s : Signal). s.scope) (sym (get_or-drop next xs i d)) ∙ e)) in
    ap (λ t. numbered f 0 (map signal_view t)) (sym (take-append-drop next xs))
    ∙ ap (numbered f 0) (map-append signal_view (take next xs) (drop next xs))
    ∙ numbered-append f 0 front (map signal_view (drop next xs))
    ∙ ap (λ t. numbered f 0 front ++ t) back
    ∙ append-nil (numbered f 0 front)

-- a name of the scope
pub own : (scope k : ℕ) (s : SignalView) → s.scope ≡ scope → variable_line_in scope k s ≡ variable_line k s
own scope k s e = let same : (s.scope == scope) ≡ true = eq-eqb s.scope scope e in ap (λ b. if b then variable_line k s else []) same

-- the names before the place where a scope starts say nothing in it
pub front_is_none : (scope : ℕ) (xs : List Signal) (start : ℕ) → StartsScope xs scope start
    → numbered (variable_line_in scope) 0 (map signal_view (take start xs)) ≡ []
front_is_none scope xs start starts = none scope 0 (take start xs)
    (λ i d lt e. let l : i < start = omega (arith, length-take-le start xs starts.within) in
    let same = ap (λ (s : Signal). s.scope) (get_or-take start xs i d l) in omega (arith, same, e, starts.before i d l))

-- where names stand in order, those behind one of a higher scope are of higher ones
pub above : (xs : List Signal) (order : StandInOrder xs) (scope next : ℕ) (s : Signal) → next < length xs → s ≡ get_or xs next s
    → scope ≤ (get_or xs next s).scope → (s.scope ≡ scope → ⊥) → (i : ℕ) (d : Signal) → next ≤ i → i < length xs → scope < (get_or xs i d).scope
above xs order scope next s lt is le ne i d ge within = by_place (cases_lt next i)
  where
    high : scope < s.scope
    high = let same : s.scope ≡ (get_or xs next s).scope = ap (λ (t : Signal). t.scope) is in omega (arith, same, le)

    here : s.scope ≡ (get_or xs next d).scope
    here = ap (λ (t : Signal). t.scope) (is ∙ get_or_default xs next s d lt)

    by_place : (next < i) ⊎ (i ≤ next) → scope < (get_or xs i d).scope
    by_place (inl l) = omega (arith, high, here, order next i d l within)
    by_place (inr n) = let same : next ≡ i = omega arith in omega (arith, high, here, ap (λ k. (get_or xs k d).scope) same)

-- of the names up to this one of the scope none is of a higher one
pub up_to : (xs : List Signal) (scope next : ℕ) (s : Signal) → next < length xs → s ≡ get_or xs next s → s.scope ≡ scope
    → ((i : ℕ) (d : Signal) → i < next → (get_or xs i d).scope ≤ scope) → (i : ℕ) (d : Signal) → i < next + 1 → (get_or xs i d).scope ≤ scope
up_to xs scope next s lt is of_scope before i d l = by_place (cases_lt i next)
  where
    here : s.scope ≡ (get_or xs next d).scope
    here = ap (λ (t : Signal). t.scope) (is ∙ get_or_default xs next s d lt)

    by_place : (i < next) ⊎ (next ≤ i) → (get_or xs i d).scope ≤ scope
    by_place (inl l) = before i d l
    by_place (inr n) = let same : next ≡ i = omega arith in omega (arith, of_scope, here, ap (λ k. (get_or xs k d).scope) same)

-- names as the code has them stand in order
pub in_order : (signals : List Signal) → AllPairs (λ (s t : SignalView). s.scope ≤ t.scope) (map signal_view signals) → StandInOrder signals
in_order signals pairs i j d l within =
    let views : List SignalView = map signal_view signals in
    let many = length-map signals signal_view in
    let p = pairs i j (signal_view d) l (omega (arith, many)) in
    let first = get_or-map signal_view signals i d (signal_view d) (omega arith) in
    let second = get_or-map signal_view signals j d (signal_view d) within in
    let a : (get_or views i (signal_view d)).scope ≡ (get_or signals i d).scope = ap (λ (v : SignalView). v.scope) first in
    let b : (get_or views j (signal_view d)).scope ≡ (get_or signals j d).scope = ap (λ (v : SignalView). v.scope) second in
    omega (arith, p, a, b)
