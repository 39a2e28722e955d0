-- Paths of scopes, and the elements that nets were declared as.
use Rattle.std.proofs.Common.{◌≡◌, ℕ, zero, suc, ◌+◌, ◌-◌, ◌<◌, ◌≤◌, Bool, true, false, ◌==◌, cond, List, [], ◌∷◌, ◌++◌, length, map, slice_index_or, slice_get, Option, Some, None, refl, sym, ap, ◌∙◌, arith, codes, subst}
use Rattle.std.specs.Prelude.{option_map}
use Rattle.std.proofs.lemmas.List.{append_assoc, get_or-map, length-map}
use Rattle.std.proofs.lemmas.Option.{get_or_from_slice_get}
use Rattle.rtl_net.specs.declared.signal.Scope.{Scope}
use Rattle.rtl_net.specs.Nets.{ScopeView, SignalView, scope_view, label_at, parent_of}
use Rattle.rtl_net.specs.Names.{Element, place_in, element_or, element_from, behind_parent, path_within, path}
use Rattle.rtl_net.specs.declared.net.Owner.{Owner}
use Rattle.rtl_net.specs.declared.net.Net.TheInside.{Inside}
use Rattle.rtl_net.specs.Nets.{type_of}
use Rattle.rtl_net.specs.NetOf.{net_of, owner_view, IsKept}
use Rattle.rtl_net.proofs.Tables.{tabled-at}
use Rattle.rtl_net.specs.Nets.{NetlistView}
use Rattle.rtl_net.specs.Names.{element_of}
use Rattle.rtl_net.specs.Elaborated.{AreScopes, IsNet, SignalInRange, width_of}

-- ---- scopes

pub appended : (a b c d : List ℕ) → ((a ++ b) ++ c) ++ d ≡ a ++ ((b ++ c) ++ d)
appended a b c d = ap (λ x. x ++ d) (append_assoc a b c) ∙ append_assoc a (b ++ c) d

or_else : {X : Type 0} → X → Option X → X
or_else x (Some y) = y
or_else x None = x

pub some-same : {X : Type 0} (x y : X) → Some x ≡ Some y → x ≡ y
unfolding or_else
some-same x y e = ap (or_else x) e

pub label-at : (xs : List Scope) (k : ℕ) (d : Scope) → k < length xs → label_at (map scope_view xs) k ≡ (slice_index_or xs k d).label.items
label-at xs k d l =
    get_or-map (λ (s : ScopeView). s.label) (map scope_view xs) k (scope_view d) [] (omega (arith, length-map xs scope_view))
    ∙ ap (λ (s : ScopeView). s.label) (get_or-map scope_view xs k d (scope_view d) l)

pub parent-at : (xs : List Scope) (k : ℕ) (d : Scope) → k < length xs → parent_of (map scope_view xs) k ≡ (slice_index_or xs k d).parent
parent-at xs k d l =
    get_or-map (λ (s : ScopeView). s.parent) (map scope_view xs) k (scope_view d) None (omega (arith, length-map xs scope_view))
    ∙ ap (λ (s : ScopeView). s.parent) (get_or-map scope_view xs k d (scope_view d) l)

module _ (scopes : List ScopeView) (are : AreScopes scopes) where
  -- a parent comes before what stands in it
  pub parent-before : (k p : ℕ) → k < length scopes → parent_of scopes k ≡ Some p → p < k
  parent-before zero p l e = let none = sym are.top ∙ e in absurd cc
  parent-before (suc k) p l e =
      let f = are.others k l in
      omega (arith, f.before, some-same f.parent p (sym f.is ∙ e))

  enough-steps : (f g k : ℕ) → k ≤ f → k ≤ g → k < length scopes → path_within f scopes k ≡ path_within g scopes k
  enough-steps zero zero k a b l = refl
  enough-steps zero (suc g) k a b l =
      let z : k ≡ 0 = omega arith in
      ap (λ o. behind_parent (path_within g scopes) o ++ label_at scopes k) (sym are.top ∙ ap (parent_of scopes) (sym z))
  enough-steps (suc f) zero k a b l =
      let z : k ≡ 0 = omega arith in
      ap (λ o. behind_parent (path_within f scopes) o ++ label_at scopes k) (ap (parent_of scopes) z ∙ are.top)
  enough-steps (suc f) (suc g) k a b l = ap (λ x. x ++ label_at scopes k) (at (parent_of scopes k) refl (λ p x y z. enough-steps f g p x y z))
    where
      at : (o : Option ℕ) → parent_of scopes k ≡ o → ((p : ℕ) → p ≤ f → p ≤ g → p < length scopes → path_within f scopes p ≡ path_within g scopes p)
          → behind_parent (path_within f scopes) o ≡ behind_parent (path_within g scopes) o
      at None e same = refl
      at (Some p) e same =
          let before = parent-before k p l e in
          ap (λ x. x ++ codes ".") (same p (omega arith) (omega arith) (omega arith))

  pub path-of_top : (k : ℕ) → k < length scopes → parent_of scopes k ≡ None → path scopes k ≡ label_at scopes k
  path-of_top k l e =
      enough-steps k (suc k) k (omega arith) (omega arith) l ∙ ap (λ o. behind_parent (path_within k scopes) o ++ label_at scopes k) e

  pub path-in_parent : (k p : ℕ) → k < length scopes → parent_of scopes k ≡ Some p → path scopes k ≡ (path scopes p ++ codes ".") ++ label_at scopes k
  path-in_parent k p l e =
      let before = parent-before k p l e in
      enough-steps k (suc k) k (omega arith) (omega arith) l ∙ ap (λ o. behind_parent (path_within k scopes) o ++ label_at scopes k) e
      ∙ ap (λ x. (x ++ codes ".") ++ label_at scopes k) (enough-steps k p p (omega arith) (omega arith) (omega arith))

-- ---- elements

pub place-below : (nets : List ℕ) (n k : ℕ) → place_in nets n ≡ Some k → k < length nets
place-below [] n k e = absurd cc
place-below (m ∷ ms) n k e = go (m == n) refl (place_in ms n) refl (λ j f. place-below ms n j f)
  where
    go : (b : Bool) → (m == n) ≡ b → (o : Option ℕ) → place_in ms n ≡ o → ((j : ℕ) → place_in ms n ≡ Some j → j < length ms) → k < suc (length ms)
    go true t o f below = omega (arith, some-same 0 k (sym (ap (λ x. cond x (Some 0) (option_map suc (place_in ms n))) t) ∙ e))
    go false t None f below = let none = sym (ap (λ x. cond x (Some 0) (option_map suc (place_in ms n))) t ∙ ap (option_map suc) f) ∙ e in absurd cc
    go false t (Some j) f below =
        omega (arith, below j f, some-same (suc j) k (sym (ap (λ x. cond x (Some 0) (option_map suc (place_in ms n))) t ∙ ap (option_map suc) f) ∙ e))

-- the signal is there and has the net at the place, the first in it
pub record IsElement (number : ℕ) (ss : List SignalView) (n : ℕ) (e : Element) : Type 0 where
  pub after : number ≤ e.signal
  pub there : e.signal < number + length ss
  pub signal : SignalView
  pub is : slice_get ss (e.signal - number) ≡ Some signal
  pub place : place_in signal.nets n ≡ Some e.place

pub element-there : (number : ℕ) (ss : List SignalView) (n : ℕ) (e : Element) → element_from number ss n ≡ Some e → IsElement number ss n e
element-there number [] n e h = absurd cc
element-there number (s ∷ ss) n e h = go (place_in s.nets n) refl (λ g. element-there (suc number) ss n e g)
  where
    go : (o : Option ℕ) → place_in s.nets n ≡ o → (element_from (suc number) ss n ≡ Some e → IsElement (suc number) ss n e) → IsElement number (s ∷ ss) n e
    go (Some k) f further =
        let same : record { signal = number; place = k } ≡ e = some-same _ _ (sym (ap (λ x. element_or number x (element_from (suc number) ss n)) f) ∙ h) in
        let signal : number ≡ e.signal = ap (λ (x : Element). x.signal) same in
        let place : k ≡ e.place = ap (λ (x : Element). x.place) same in
        record {
          after = omega (arith, signal);
          there = omega (arith, signal);
          signal = s;
          is = ap (slice_get (s ∷ ss)) (let z : e.signal - number ≡ 0 = omega (arith, signal) in z);
          place = f ∙ ap (λ (x : ℕ). Some x) place;
        }
    go None f further =
        let later = further (sym (ap (λ x. element_or number x (element_from (suc number) ss n)) f) ∙ h) in
        let step : e.signal - number ≡ suc (e.signal - suc number) = omega (arith, later.after) in
        record {
          after = omega (arith, later.after);
          there = omega (arith, later.there);
          signal = later.signal;
          is = ap (slice_get (s ∷ ss)) step ∙ later.is;
          place = later.place;
        }

-- the signal that a net was declared as, and the place of its element
pub record IsOwner (net : NetlistView) (e : Element) : Type 0 where
  pub there : e.signal < length net.signals
  pub signal : SignalView
  pub is : slice_get net.signals e.signal ≡ Some signal
  pub within : e.place < width_of signal.kind

pub owner-sound : (net : NetlistView) → IsNet net → (n : ℕ) (e : Element) → element_of net n ≡ Some e → IsOwner net e
owner-sound net is_net n e h =
    let found = element-there 0 net.signals n e h in
    let place : e.signal - 0 ≡ e.signal = omega arith in
    let is : slice_get net.signals e.signal ≡ Some found.signal = ap (slice_get net.signals) (sym place) ∙ found.is in
    let same : slice_index_or net.signals e.signal found.signal ≡ found.signal = get_or_from_slice_get net.signals e.signal found.signal found.signal is in
    let l : e.signal < length net.signals = omega (arith, found.there) in
    let sound = is_net.signals e.signal found.signal l in
    let shown = subst (λ s. SignalInRange net.types (length net.scopes) s) same sound in
    record {
      there = l;
      signal = found.signal;
      is = is;
      within = omega (arith, place-below found.signal.nets n e.place found.place, shown.as_declared);
    }

-- ---- the tables of a netlist

pub kept-element : (i : Inside) → IsKept i → (n : ℕ) (o : Owner) → n < length (net_of i).types → o ≡ slice_index_or i.owners.items n o → element_of (net_of i) n ≡ Some (owner_view o)
kept-element i kept n o l e =
    let l' : n < length i.kinds.items = omega (arith, l, length-map i.kinds.items type_of) in
    sym (tabled-at (λ x. Some (owner_view x)) (element_of (net_of i)) i.owners.items (length i.kinds.items) kept.owners n o l') ∙ ap (λ x. Some (owner_view x)) (sym e)

pub kept-owner : (i : Inside) → IsKept i → (n : ℕ) (o : Owner) → n < length (net_of i).types → o ≡ slice_index_or i.owners.items n o → IsOwner (net_of i) (owner_view o)
kept-owner i kept n o l e = owner-sound (net_of i) kept.net n (owner_view o) (kept-element i kept n o l e)
