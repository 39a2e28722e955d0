-- The rules of associations, in the order in which the code comes to them.
use Rattle.std.proofs.Common.{◌≡◌, ℕ, zero, suc, ◌+◌, arith, Bool, true, false, not, List, [], ◌∷◌, map, drop, Option, Some, None, Vec, Global, refl, ap, sym, ◌∙◌}
use Rattle.std.specs.Prelude.{◌&&◌, ◌||◌, option_map, bytes_eq, slice_get, if◌then◌else◌, position}
use Rattle.std.specs.List.{list_all, position_from}
use Rattle.std.proofs.lemmas.Option.{slice_get-map}
use Rattle.std.proofs.lemmas.Iterator.Adapters.{position_from-zero}
use Rattle.vhdl_tree.specs.Tree.{Ident, Expr, Association}
use Rattle.vhdl_tree.specs.View.{association_view}
use Rattle.vhdl_tree.specs.declared.expression.Association as a
use Rattle.vhdl_names_rules.specs.Rules.{◌>>=◌, ◌>>◌, met, then_some}
use Rattle.vhdl_names_rules.specs.Visibility.{Name, is_among, are_distinct}
use Rattle.vhdl_names_rules.specs.Instances.{is_named, positional_first, formal_of, formals_of, expression_of, actual_of, associated}
use Rattle.vhdl_names_units.specs.Lists.{in_turn}
use Rattle.vhdl_names_units.specs.Once.{one_name}
use Rattle.vhdl_names_units.proofs.Lists.{bound}
use Rattle.vhdl_names_units.proofs.Once.{once}
use Rattle.vhdl_names_instances.specs.steps.Associations.{formal_at, one_taken, taking, all_taken, actuals, actual_at}

abbrev items : Vec ℕ Global → List ℕ
items v = v.items

-- ---- formals by their places

pub named_at : (ks : List (Vec ℕ Global)) (k : ℕ) (o : Option (Vec ℕ Global)) → o ≡ slice_get ks k → slice_get (map items ks) k ≡ option_map items o
named_at ks k o e = slice_get-map items ks k ∙ ap (option_map items) (sym e)

by_place : (ns : List Name) (k : ℕ) → formal_of (drop k ns) None ≡ slice_get ns k
by_place [] zero = refl
by_place [] (suc k) = refl
by_place (n ∷ ns) zero = refl
by_place (n ∷ ns) (suc k) = by_place ns k

pub by_either : (ns : List Name) (k : ℕ) (o : Option Ident) → formal_of (drop k ns) o ≡ formal_at ns k o
by_either ns k (Some i) = refl
by_either ns k None = by_place ns k

pub next_drop : {A : Type 0} (ns : List A) (k : ℕ) → drop 1 (drop k ns) ≡ drop (suc k) ns
next_drop [] zero = refl
next_drop [] (suc k) = refl
next_drop (n ∷ ns) zero = refl
next_drop (n ∷ ns) (suc k) = next_drop ns k

-- ---- positional associations come first

abbrev first : Bool → List Association → Bool
first true as' = list_all is_named as'
first false as' = positional_first as'

split_behind : (c : Bool) (as' : List Association) → met (c && list_all is_named as') ≡ (met (not true || c) >> met (first c as'))
split_behind true as' = refl
split_behind false as' = refl

split_before : (c : Bool) (as' : List Association)
    → met (if c then list_all is_named as' else positional_first as') ≡ (met (not false || c) >> met (first c as'))
split_before true as' = refl
split_before false as' = refl

split : (b : Bool) (a : Association) (as' : List Association) → met (first b (a ∷ as')) ≡ (met (not b || is_named a) >> met (first (is_named a) as'))
split true a as' = split_behind (is_named a) as'
split false a as' = split_before (is_named a) as'

-- ---- one association after another

module _ (formals : List Name) where
  abbrev all : List Name → Bool
  all fs = list_all (λ f. is_among f formals) fs

  abbrev rest : List Name → Option (List Name) → Option (List Name)
  rest taken o = o >>= λ fs. met (all fs) >> in_turn one_name taken fs

  nothing : (c : Bool) (o : Option (List Name)) → (met c >> o >>= λ ns. let n : Option (List Name) = None in n) ≡ None
  nothing true None = refl
  nothing true (Some ns) = refl
  nothing false o = refl

  both : (c d : Bool) (o : Option (List Name)) (t : List Name → Option (List Name))
      → (met (c && d) >> (o >>= t)) ≡ ((met c >> o) >>= λ ns. met d >> t ns)
  both false d o t = refl
  both true true None t = refl
  both true true (Some ns) t = refl
  both true false None t = refl
  both true false (Some ns) t = refl

  one_more : (taken : List Name) (a b : Bool) (f : Option Name) (g : Option (List Name))
      → ((met a >> (f >>= λ n. met (is_among n formals) >> one_name taken n)) >>= λ ns. met b >> rest ns g)
      ≡ ((met a >> met b) >> rest taken (f >>= λ n. g >>= λ fs. Some (n ∷ fs)))
  one_more taken false b f g = refl
  one_more taken true true None g = refl
  one_more taken true false None g = refl
  one_more taken true true (Some n) None = nothing (is_among n formals) (one_name taken n)
  one_more taken true true (Some n) (Some fs) = sym (both (is_among n formals) (all fs) (one_name taken n) (λ ns. in_turn one_name ns fs))
  one_more taken true false (Some n) g = nothing (is_among n formals) (one_name taken n)

  turned : (k : ℕ) (b : Bool) (taken : List Name) (as' : List Association)
      → taking formals k b taken as' ≡ (met (first b as') >> rest taken (formals_of (drop k formals) as'))
  turned k true taken [] = refl
  turned k false taken [] = refl
  turned k b taken (a ∷ as') =
      bound (one_taken formals k b taken a) (λ ns. taking formals (suc k) (is_named a) ns as')
      (λ ns. met (first (is_named a) as') >> rest ns (formals_of (drop (suc k) formals) as')) (λ ns. turned (suc k) (is_named a) ns as')
      ∙ one_more taken (not b || is_named a) (first (is_named a) as') (formal_at formals k a.formal) (formals_of (drop (suc k) formals) as')
      ∙ ap (λ o. o >> rest taken (formal_at formals k a.formal >>= λ n. formals_of (drop (suc k) formals) as' >>= λ fs. Some (n ∷ fs))) (sym (split b a as'))
      ∙ ap (λ o. met (first b (a ∷ as')) >> rest taken (o >>= λ n. formals_of (drop (suc k) formals) as' >>= λ fs. Some (n ∷ fs))) (sym (by_either formals k a.formal))
      ∙ ap (λ ds. met (first b (a ∷ as')) >> rest taken (formal_of (drop k formals) a.formal >>= λ n. formals_of ds as' >>= λ fs. Some (n ∷ fs))) (sym (next_drop formals k))

  abbrev found : List Association → List Name → List (Option Expr)
  found as' taken = actuals formals taken as'

  last : (as' : List Association) (q : Bool) (fs : List Name) (o : Option (List Name)) → o ≡ then_some (are_distinct fs) fs
      → (met q >> (met (are_distinct fs) >> Some (found as' fs))) ≡ ((met q >> o) >>= λ taken. Some (found as' taken))
  last as' false fs o e = refl
  last as' true fs o e = go (are_distinct fs) ∙ ap (λ o. o >>= λ taken. Some (found as' taken)) (sym e)
    where
      go : (d : Bool) → (met d >> Some (found as' fs)) ≡ (then_some d fs >>= λ taken. Some (found as' taken))
      go true = refl
      go false = refl

  done : (as' : List Association) (p : Bool) (g : Option (List Name))
      → (met p >> (g >>= λ fs. met (all fs) >> (met (are_distinct fs) >> Some (found as' fs))))
      ≡ ((met p >> rest [] g) >>= λ taken. Some (found as' taken))
  done as' false g = refl
  done as' true None = refl
  done as' true (Some fs) = last as' (all fs) fs (in_turn one_name [] fs) (once fs)

pub in_order : (formals : List Name) (as' : List Association) → associated formals as' ≡ (all_taken formals as' >>= λ taken. Some (actuals formals taken as'))
unfolding associated
in_order formals as' =
    done formals as' (positional_first as') (formals_of formals as')
    ∙ ap (λ o. o >>= λ taken. Some (actuals formals taken as')) (sym (turned formals 0 false [] as'))

-- ---- actuals by the places of their associations

abbrev head : List Association → Option Association
head [] = None
head (a ∷ as') = Some a

head_is : (as' : List Association) (i : ℕ) → head (drop i as') ≡ slice_get as' i
head_is [] zero = refl
head_is [] (suc i) = refl
head_is (a ∷ as') zero = refl
head_is (a ∷ as') (suc i) = head_is as' i

none_left : (n : Name) (ns : List Name) → actual_of n ns [] ≡ None
none_left n [] = refl
none_left n (m ∷ ns) = refl

here : (n m : Name) (ns : List Name) (b : Bool) (bs : List Association) → bytes_eq n m ≡ b
    → actual_of n (m ∷ ns) bs ≡ (if b then (head bs >>= λ a. expression_of a.actual) else actual_of n ns (drop 1 bs))
here n m ns true [] e = refl
here n m ns false [] e = sym (none_left n ns)
here n m ns b (a ∷ bs) e = ap (λ c. if c then expression_of a.actual else actual_of n ns bs) e

-- an association at a place
pub association_at : (as' : List a.Association) (i : ℕ) (o : Option a.Association) → o ≡ slice_get as' i
    → slice_get (map association_view as') i ≡ option_map association_view o
association_at as' i o e = slice_get-map association_view as' i ∙ ap (option_map association_view) (sym e)

from : (n : Name) (ks : List (Vec ℕ Global)) (i : ℕ) (as' : List Association)
    → actual_of n (map items ks) (drop i as') ≡ actual_at as' (position_from (λ k. bytes_eq n k.items) i ks)
from n [] i as' = refl
from n (k ∷ ks) i as' = here n k.items (map items ks) (bytes_eq n k.items) (drop i as') refl ∙ go (bytes_eq n k.items) (from n ks (i + 1) as')
  where
    go : (b : Bool) → actual_of n (map items ks) (drop (i + 1) as') ≡ actual_at as' (position_from (λ k. bytes_eq n k.items) (i + 1) ks)
        → (if b then (head (drop i as') >>= λ a. expression_of a.actual) else actual_of n (map items ks) (drop 1 (drop i as')))
        ≡ actual_at as' (if b then Some i else position_from (λ k. bytes_eq n k.items) (i + 1) ks)
    go true h = ap (λ o. o >>= λ a. expression_of a.actual) (head_is as' i)
    go false h =
        let e : suc i ≡ i + 1 = omega arith in
        ap (actual_of n (map items ks)) (next_drop as' i ∙ ap (λ j. drop j as') e) ∙ h

pub placed : (n : Name) (ks : List (Vec ℕ Global)) (as' : List Association) (o : Option ℕ) → o ≡ position (λ k. bytes_eq n k.items) ks
    → actual_of n (map items ks) as' ≡ actual_at as' o
placed n ks as' o e = from n ks 0 as' ∙ ap (actual_at as') (sym (position_from-zero (λ k. bytes_eq n k.items) ks) ∙ sym e)
