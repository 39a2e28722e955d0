-- Each association is for a formal, and each formal has the actual of its association.
use Rattle.std.proofs.Common.{◌≡◌, ℕ, zero, suc, Bool, true, false, not, List, [], ◌∷◌, length, map, Option, Some, None, cond, refl, ap, sym, ◌∙◌, subst}
use Rattle.std.specs.List.{slice_get, list_all}
use Rattle.std.specs.Option.{option_map}
use Rattle.std.specs.Str.{bytes_eq}
use Rattle.std.proofs.Math.ListN.{drop}
use Rattle.std.proofs.lemmas.List.{length-map}
use Rattle.std.proofs.lemmas.Option.{slice_get-map}
use Rattle.std.proofs.lemmas.Slice.Eq.{bytes_eq-Decides}
use Rattle.vhdl_tree.specs.Tree.{Ident, Expr, Association}
use Rattle.vhdl_names_rules.specs.Rules.{◌>>=◌, ◌>>◌, met}
use Rattle.vhdl_names_rules.specs.Visibility.{Name, is_among, are_distinct}
use Rattle.vhdl_names_rules.specs.Instances.{positional_first, formal_of, formals_of, expression_of, actual_of, associated}
use Rattle.vhdl_names_rules.specs.laws.Associations.{IsFor, AreForFormals, FormalsHaveActuals}
use Rattle.vhdl_names_rules.proofs.laws.Rules.{comes, Comes, kept, both, each_passes}
use Rattle.vhdl_names_rules.proofs.laws.Once.{differs, stand_once, place_among}

-- ---- for which formal an association is

one_formal : (formals : List Name) (k : ℕ) (o : Option Ident) (n m : Name) → IsFor formals k o n → IsFor formals k o m → n ≡ m
one_formal formals k None n m p q = cc
one_formal formals k (Some i) n m p q = cc

first_is_for : (formals : List Name) (o : Option Ident) (n : Name) → formal_of formals o ≡ Some n → IsFor formals 0 o n
first_is_for formals (Some i) n e = cc
first_is_for [] None n e = cc
first_is_for (f ∷ fs) None n e = e

later_is_for : (formals : List Name) (k : ℕ) (o : Option Ident) (n : Name) → IsFor (drop 1 formals) k o n → IsFor formals (suc k) o n
later_is_for [] k None n e = cc
later_is_for _ k _ n e = e

-- the name at a place of formals_of is the formal's
record HasFormal (formals fs : List Name) (k : ℕ) (a : Association) : Type 0 where
  name : Name
  at : slice_get fs k ≡ Some name
  is : IsFor formals k a.formal name

has_formal : (formals : List Name) (as' : List Association) (fs : List Name) (k : ℕ) (a : Association)
    → formals_of formals as' ≡ Some fs → slice_get as' k ≡ Some a → HasFormal formals fs k a
has_formal formals [] fs k a e p = cc
has_formal formals (b ∷ as') fs k a e p =
    let c = comes (formal_of formals b.formal) (λ f. formals_of (drop 1 formals) as' >>= λ fs. Some (f ∷ fs)) fs e in
    let d = comes (formals_of (drop 1 formals) as') (λ fs. Some (c.value ∷ fs)) fs c.rest in
    go c.value d.value c.is (cc) (λ k. has_formal (drop 1 formals) as' d.value k a d.is) k p
  where
    go : (f : Name) (gs : List Name) → formal_of formals b.formal ≡ Some f → f ∷ gs ≡ fs
        → ((k : ℕ) → slice_get as' k ≡ Some a → HasFormal (drop 1 formals) gs k a)
        → (k : ℕ) → slice_get (b ∷ as') k ≡ Some a → HasFormal formals fs k a
    go f gs is g more zero p =
        let h : b ≡ a = cc in
        let i = first_is_for formals a.formal f (ap (λ (a : Association). formal_of formals a.formal) (sym h) ∙ is) in
        record { name = f; at = ap (λ fs. slice_get fs 0) (sym g); is = i }
    go f gs is g more (suc k) p =
        let m = more k p in
        record { name = m.name; at = ap (λ fs. slice_get fs (suc k)) (sym g) ∙ m.at; is = later_is_for formals k a.formal m.name m.is }

-- ---- the actual of a formal

actual_is : (n : Name) (fs : List Name) (as' : List Association) (k : ℕ) (a : Association)
    → are_distinct fs ≡ true → slice_get fs k ≡ Some n → slice_get as' k ≡ Some a → actual_of n fs as' ≡ expression_of a.actual
actual_is n (f ∷ fs) (b ∷ as') zero a e p q =
    let h : f ≡ n = cc in
    let g : b ≡ a = cc in
    ap (λ t. cond t (expression_of b.actual) (actual_of n fs as')) ((bytes_eq-Decides n f).1 (sym h)) ∙ ap (λ (b : Association). expression_of b.actual) g
actual_is n (f ∷ fs) (b ∷ as') (suc k) a e p q =
    go (bytes_eq n f) refl (actual_is n fs as' k a (both (not (is_among f fs)) (are_distinct fs) e).1 p q)
  where
    go : (t : Bool) → bytes_eq n f ≡ t → actual_of n fs as' ≡ expression_of a.actual
        → cond t (expression_of b.actual) (actual_of n fs as') ≡ expression_of a.actual
    go true h m = absurd (differs f n fs k e p (sym ((bytes_eq-Decides n f).0 h)))
    go false h m = m
actual_is n _ _ _ a e p q = cc

no_actual : (n : Name) (fs : List Name) (as' : List Association)
    → ((k : ℕ) (a : Association) → slice_get fs k ≡ Some n → slice_get as' k ≡ Some a → ⊥) → actual_of n fs as' ≡ None
no_actual n (f ∷ fs) (b ∷ as') none = go (bytes_eq n f) refl (no_actual n fs as' (λ k a p q. none (suc k) a p q))
  where
    go : (t : Bool) → bytes_eq n f ≡ t → actual_of n fs as' ≡ None → cond t (expression_of b.actual) (actual_of n fs as') ≡ None
    go true h m = absurd (none 0 b (ap Some (sym ((bytes_eq-Decides n f).0 h))) refl)
    go false h m = m
no_actual n _ _ none = refl

-- ---- all of them

record IsAssociated (formals : List Name) (as' : List Association) (es : List (Option Expr)) : Type 0 where
  names : List Name
  formal : formals_of formals as' ≡ Some names
  among : list_all (λ f. is_among f formals) names ≡ true
  distinct : are_distinct names ≡ true
  actuals : map (λ n. actual_of n names as') formals ≡ es

is_associated : (formals : List Name) (as' : List Association) (es : List (Option Expr)) → associated formals as' ≡ Some es → IsAssociated formals as' es
unfolding associated
is_associated formals as' es e = first (kept (positional_first as') _ es e)
  where
    then : List Name → Option (List (Option Expr))
    then fs = do
      met (list_all (λ f. is_among f formals) fs)
      met (are_distinct fs)
      Some (map (λ n. actual_of n fs as') formals)

    second : Comes (formals_of formals as') then es → IsAssociated formals as' es
    second c =
        let d = kept (list_all (λ f. is_among f formals) c.value) _ es c.rest in
        let g = kept (are_distinct c.value) _ es d.1 in
        record { names = c.value; formal = c.is; among = d.0; distinct = g.0; actuals = cc }

    first : (positional_first as' ≡ true) × ((formals_of formals as' >>= then) ≡ Some es) → IsAssociated formals as' es
    first k = second (comes (formals_of formals as') then es k.1)

module _ (formals : List Name) (as' : List Association) (es : List (Option Expr)) (i : IsAssociated formals as' es) where
  formal_at : (k : ℕ) (a : Association) → slice_get as' k ≡ Some a → HasFormal formals i.names k a
  formal_at k a p = has_formal formals as' i.names k a i.formal p

  name_at : (k : ℕ) (a : Association) (n : Name) → slice_get as' k ≡ Some a → IsFor formals k a.formal n → slice_get i.names k ≡ Some n
  name_at k a n p h =
      let m = formal_at k a p in
      m.at ∙ ap Some (one_formal formals k a.formal m.name n m.is h)

  entry_at : (j : ℕ) (n : Name) → slice_get formals j ≡ Some n → slice_get es j ≡ Some (actual_of n i.names as')
  entry_at j n p =
      ap (λ es. slice_get es j) (sym i.actuals)
      ∙ slice_get-map (λ n. actual_of n i.names as') formals j
      ∙ ap (option_map (λ n. actual_of n i.names as')) p

  for_one : (k : ℕ) (a : Association) → slice_get as' k ≡ Some a
      → (j : ℕ) × (n : Name) × (slice_get formals j ≡ Some n) × IsFor formals k a.formal n
  for_one k a p =
      let m = formal_at k a p in
      let q = place_among m.name formals (each_passes (λ f. is_among f formals) i.names k m.name i.among m.at) in
      (q.0, m.name, q.1, m.is)

  are_for_formals : AreForFormals formals as' es
  are_for_formals = record {
    each_for_one = for_one;
    once = λ j k a b n p q g h. stand_once i.names i.distinct j k n (name_at j a n p g) (name_at k b n q h);
    as_many = ap length (sym i.actuals) ∙ length-map formals (λ n. actual_of n i.names as');
    entry = λ j k n a p q h. entry_at j n p ∙ ap Some (actual_is n i.names as' k a i.distinct (name_at k a n q h) q);
    no_entry = λ j n p none. entry_at j n p ∙ ap Some (no_actual n i.names as' (λ k a q r.
        let m = formal_at k a r in
        let h : m.name ≡ n = cc in
        none k a r (subst (λ n. IsFor formals k a.formal n) h m.is)));
  }

pub formals_have_actuals : FormalsHaveActuals
formals_have_actuals formals as' es e = are_for_formals formals as' es (is_associated formals as' es e)
