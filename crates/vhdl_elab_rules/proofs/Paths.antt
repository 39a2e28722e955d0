-- The paths of scopes, and the names of nets and processes.
use Rattle.std.proofs.Common.{◌≡◌, ℕ, zero, suc, ◌+◌, ◌<◌, ◌≤◌, List, [], ◌∷◌, ◌++◌, length, map, Option, Some, None, All, refl, sym, ap, ◌∙◌, subst, arith, codes, append_assoc}
use Rattle.std.specs.Prelude.{flat_map, slice_get}
use Rattle.std.specs.List.{AllZip, range_with_len}
use Rattle.std.proofs.lemmas.Option.{same_Some, slice_get_within}
use Rattle.std.proofs.lemmas.List.{length-append}
use Rattle.std.proofs.lemmas.List.Elements.{All-nil, All-cons, All-head, All-tail, All-weaker}
use Rattle.rtl_net.specs.Nets.{ScopeView, SignalView, label_at, parent_of}
use Rattle.rtl_net.specs.Names.{behind_parent, path_within, path, place_in}
use Rattle.vhdl_expand_rules.specs.Tree.{Object}
use Rattle.vhdl_elab_rules.specs.Numbering.{object_nets, own_size, own_sizes, Placed}
use Rattle.vhdl_elab_rules.specs.Names.{scope_of, own_names}
use Rattle.vhdl_elab_rules.specs.laws.Scopes.{scope_views}
use Rattle.vhdl_elab_rules.proofs.Segments.{run-append}
use Rattle.vhdl_elab_rules.proofs.laws.Typed.{zip_append, zip_weaker}
use Rattle.vhdl_elab_rules.proofs.Placed.{IsBelow, JoinedTo, StandsIn, as_top, inside, Follow, object-below, get-still}
use Rattle.vhdl_elab_rules.proofs.Objects.{object_signal, object_signals, all_signals, first-signals}
use Rattle.vhdl_elab_rules.proofs.Found.{FoundAs, found-more, found-behind, not-in, names_of, objects-found, run-weaker}

-- ---- scopes

abbrev pub views : List Placed → List ScopeView
views ps = scope_views (map scope_of ps)

label-is : (ps : List Placed) (k : ℕ) (p : Placed) → slice_get ps k ≡ Some p → label_at (views ps) k ≡ p.label
label-is [] k p h = absurd cc
label-is (q ∷ ps) zero p h = ap (λ (x : Placed). x.label) (same_Some q p h)
label-is (q ∷ ps) (suc k) p h = label-is ps k p h

parent-is : (ps : List Placed) (k : ℕ) (p : Placed) → slice_get ps k ≡ Some p → parent_of (views ps) k ≡ p.parent
parent-is [] k p h = absurd cc
parent-is (q ∷ ps) zero p h = ap (λ (x : Placed). x.parent) (same_Some q p h)
parent-is (q ∷ ps) (suc k) p h = parent-is ps k p h

-- the instance of this number is the top, or stands in one before it
data StandsAt (all : List Placed) (k : ℕ) (p : Placed) : Type 0 where
  is_top : p.parent ≡ None → p.path ≡ p.label → StandsAt all k p
  is_in : (m : ℕ) (round : Placed) → m < k → slice_get all m ≡ Some round → p.parent ≡ Some m → p.path ≡ (round.path ++ codes ".") ++ p.label → StandsAt all k p

stands-first : (before ps : List Placed) (p : Placed) → StandsIn before p → StandsAt (before ++ ps) (length before) p
stands-first before ps p (as_top e parent is alone) = is_top parent is
stands-first before ps p (inside m round there parent is) = is_in m round (slice_get_within before m round there) (get-still before ps m round there) parent is

stands-at : (before : List Placed) (count : ℕ) (ps : List Placed) (total : ℕ) → Follow before count ps total → (k : ℕ) (p : Placed) → slice_get ps k ≡ Some p → StandsAt (before ++ ps) (length before + k) p
stands-at before count [] total h k p e = absurd cc
stands-at before count (q ∷ ps) total h zero p e =
    let at : length before ≡ length before + 0 = omega arith in
    subst (λ n. StandsAt (before ++ q ∷ ps) n p) at (subst (StandsAt (before ++ q ∷ ps) (length before)) (same_Some q p e) (stands-first before (q ∷ ps) q h.0.stands))
stands-at before count (q ∷ ps) total h (suc k) p e =
    let len : length (before ++ q ∷ []) ≡ length before + 1 = length-append before (q ∷ []) in
    let at : length (before ++ q ∷ []) + k ≡ length before + suc k = omega (arith, len) in
    subst (λ (all : List Placed). StandsAt all (length before + suc k) p) (append_assoc before (q ∷ []) ps)
    (subst (λ n. StandsAt ((before ++ q ∷ []) ++ ps) n p) at (stands-at (before ++ q ∷ []) (count + own_sizes q.objects) ps total h.1 k p e))

path-in : (steps : ℕ) (all : List Placed) → ((k : ℕ) (p : Placed) → slice_get all k ≡ Some p → StandsAt all k p) → (k : ℕ) (p : Placed) → k ≤ steps → slice_get all k ≡ Some p → path_within steps (views all) k ≡ p.path
path-in zero all go k p l h = by (go k p h)
  where
    by : StandsAt all k p → label_at (views all) k ≡ p.path
    by (is_top parent is) = label-is all k p h ∙ sym is
    by (is_in m round less there parent is) = absurd (omega (arith, less, l))
path-in (suc steps) all go k p l h = by (go k p h) (λ m round low there. path-in steps all go m round low there)
  where
    by : StandsAt all k p → ((m : ℕ) (round : Placed) → m ≤ steps → slice_get all m ≡ Some round → path_within steps (views all) m ≡ round.path) → path_within (suc steps) (views all) k ≡ p.path
    by (is_top parent is) further =
        ap (λ (o : Option ℕ). behind_parent (path_within steps (views all)) o ++ label_at (views all) k) (parent-is all k p h ∙ parent) ∙ label-is all k p h ∙ sym is
    by (is_in m round less there parent is) further =
        ap (λ (o : Option ℕ). behind_parent (path_within steps (views all)) o ++ label_at (views all) k) (parent-is all k p h ∙ parent)
        ∙ ap (λ (t : List ℕ). (t ++ codes ".") ++ label_at (views all) k) (further m round (omega (arith, less, l)) there)
        ∙ ap (λ (t : List ℕ). (round.path ++ codes ".") ++ t) (label-is all k p h) ∙ sym is

pub path-is : (all : List Placed) (total : ℕ) → Follow [] 0 all total → (k : ℕ) (p : Placed) → slice_get all k ≡ Some p → path (views all) k ≡ p.path
path-is all total h k p e = path-in k all (λ j q g. subst (λ n. StandsAt all n q) (none j) (stands-at [] 0 all total h j q g)) k p (omega arith) e
  where
    none : (j : ℕ) → 0 + j ≡ j
    none j = omega arith

-- ---- nets

abbrev HasBelow : ℕ → SignalView → Type 0
HasBelow n s = All (IsBelow n) s.nets

signals-below : (scope : ℕ) (os : List Object) (above : List ℕ) (first : ℕ) → All (IsBelow first) above → All (JoinedTo (length above)) os → All (HasBelow (first + own_sizes os)) (object_signals scope above first os)
signals-below scope [] above first b j = All-nil (HasBelow (first + 0))
signals-below scope (o ∷ os) above first b j =
    let n : ℕ = first + own_sizes (o ∷ os) in
    let same : first + own_size o + own_sizes os ≡ n = omega arith in
    All-cons (HasBelow n) (object_signal scope (object_nets above first o) o) (object_signals scope above (first + own_size o) os)
    (All-weaker (IsBelow (first + own_size o)) (IsBelow n) (λ k l. omega (arith, l)) (object_nets above first o) (object-below above first o b (All-head (JoinedTo (length above)) o os j)))
    (subst (λ m. All (HasBelow m) (object_signals scope above (first + own_size o) os)) same
    (signals-below scope os above (first + own_size o) (All-weaker (IsBelow first) (IsBelow (first + own_size o)) (λ k l. omega (arith, l)) above b) (All-tail (JoinedTo (length above)) o os j)))

-- how many nets of their own these have together
abbrev pub all_sizes : List Placed → ℕ
all_sizes [] = 0
all_sizes (p ∷ ps) = own_sizes p.objects + all_sizes ps

pub total-is : (before : List Placed) (count : ℕ) (ps : List Placed) (total : ℕ) → Follow before count ps total → count + all_sizes ps ≡ total
total-is before count [] total h = let e : count ≡ total = h in omega (arith, e)
total-is before count (p ∷ ps) total h =
    let e : count + own_sizes p.objects + all_sizes ps ≡ total = total-is (before ++ p ∷ []) (count + own_sizes p.objects) ps total h.1 in
    omega (arith, e)

-- the own nets of these instances, in order, have their names
pub all-found : (scopes : List ScopeView) (from : ℕ) (before : List Placed) (count : ℕ) (ps : List Placed) (total : ℕ) → ((k : ℕ) (p : Placed) → slice_get ps k ≡ Some p → path scopes (from + k) ≡ p.path)
    → Follow before count ps total → AllZip (FoundAs scopes (all_signals from ps)) (range_with_len count (all_sizes ps)) (flat_map own_names ps)
all-found scopes from before count [] total named h = tt
all-found scopes from before count (p ∷ ps) total named h =
    let at = h.0 in
    let n : ℕ = count + own_sizes p.objects in
    let mine : List SignalView = object_signals from at.above count p.objects in
    let later : List SignalView = all_signals (from + 1) ps in
    let own : AllZip (FoundAs scopes mine) (range_with_len count (own_sizes p.objects)) (own_names p) =
    subst (λ (t : List ℕ). AllZip (FoundAs scopes mine) (range_with_len count (own_sizes p.objects)) (names_of t p.objects)) (ap (path scopes) (none from) ∙ named 0 p refl)
    (objects-found scopes from p.objects at.above count at.kinds at.below at.joined) in
    let rest : AllZip (FoundAs scopes later) (range_with_len n (all_sizes ps)) (flat_map own_names ps) =
    all-found scopes (from + 1) (before ++ p ∷ []) n ps total (λ k q e. ap (path scopes) (further from k) ∙ named (suc k) q e) h.1 in
    let below = signals-below from p.objects at.above count at.below at.joined in
    subst (λ (ss : List SignalView). AllZip (FoundAs scopes ss) (range_with_len count (all_sizes (p ∷ ps))) (flat_map own_names (p ∷ ps))) (sym (first-signals from before count p ps at))
    (subst (λ (ns : List ℕ). AllZip (FoundAs scopes (mine ++ later)) ns (flat_map own_names (p ∷ ps))) (run-append count (own_sizes p.objects) (all_sizes ps))
    (zip_append (FoundAs scopes (mine ++ later)) (range_with_len count (own_sizes p.objects)) (own_names p) (range_with_len n (all_sizes ps)) (flat_map own_names ps)
    (zip_weaker (FoundAs scopes mine) (FoundAs scopes (mine ++ later)) (λ k name g. found-more scopes mine later k name g) (range_with_len count (own_sizes p.objects)) (own_names p) own)
    (run-weaker (FoundAs scopes later) (FoundAs scopes (mine ++ later)) n (all_sizes ps) (flat_map own_names ps)
    (λ k name l g. found-behind scopes mine later k name (All-weaker (HasBelow n) (λ (s : SignalView). place_in s.nets k ≡ None)
    (λ s b. not-in s.nets k (All-weaker (IsBelow n) (IsBelow k) (λ j m. omega (arith, m, l)) s.nets b)) mine below) g) rest)))
  where
    none : (m : ℕ) → m ≡ m + 0
    none m = omega arith

    further : (m k : ℕ) → m + 1 + k ≡ m + suc k
    further m k = omega arith

-- ---- the whole

-- every net is found by its own name
pub nets-found : (ps : List Placed) (total : ℕ) → Follow [] 0 ps total → AllZip (FoundAs (views ps) (all_signals 0 ps)) (range_with_len 0 total) (flat_map own_names ps)
nets-found ps total h =
    subst (λ n. AllZip (FoundAs (views ps) (all_signals 0 ps)) (range_with_len 0 n) (flat_map own_names ps)) (none (all_sizes ps) ∙ total-is [] 0 ps total h)
    (all-found (views ps) 0 [] 0 ps total (λ k p e. ap (path (views ps)) (sym (none k)) ∙ path-is ps total h k p e) h)
  where
    none : (m : ℕ) → m ≡ 0 + m
    none m = omega arith
