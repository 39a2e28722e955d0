-- Associations of formals with actuals that break no rule are given (IEEE 1076-2008, 6.5.7).
use Rattle.std.proofs.Common.{◌≡◌, ℕ, zero, suc, Bool, true, false, not, ◌||◌, cond, List, [], ◌∷◌, ◌++◌, map, Option, Some, None, refl, ap, sym, ◌∙◌, ◌⊎◌, inl, inr}
use Rattle.std.specs.Prelude.{bytes_eq}
use Rattle.std.specs.List.{slice_get, list_all}
use Rattle.std.proofs.Math.ListN.{drop}
use Rattle.std.proofs.lemmas.Bool.{and_from}
use Rattle.std.proofs.lemmas.List.{append_assoc, append-nil}
use Rattle.std.proofs.lemmas.Slice.Eq.{bytes_eq-Decides}
use Rattle.vhdl_tree.specs.Tree.{Expr, Association}
use Rattle.vhdl_names_rules.specs.declared.fault.NameProblem.TheVariants.{Undeclared, Twice, WrongKind}
use Rattle.vhdl_names_rules.specs.Rules.{◌>>=◌}
use Rattle.vhdl_names_rules.specs.Visibility.{Name, is_among, are_distinct}
use Rattle.vhdl_names_rules.specs.Instances as are
use Rattle.vhdl_names_rules.specs.Instances.{is_named, positional_first, formal_of, formals_of, expression_of, actual_of}
use Rattle.vhdl_names_rules.specs.problems.Broken.{Broken, ◌▸◌, unless, of_any}
use Rattle.vhdl_names_rules.specs.problems.Places.{association_place}
use Rattle.vhdl_names_rules.specs.problems.Instances as broken
use Rattle.vhdl_names_rules.proofs.laws.Rules.{some_is, not_true}
use Rattle.vhdl_names_rules.proofs.Telling.{IsKept}
use Rattle.vhdl_names_rules.proofs.kept.Twice.{distinct_next}
use Rattle.vhdl_names_rules.proofs.kept.Associations.{AreKept, are_placed}
use Rattle.vhdl_names_laws.proofs.given.Giving.{bound_is, ruled_is, parts, holds, given, of_given}

-- ---- positional associations come first

none_placed : (behind : Bool) → are_placed behind [] ≡ true
none_placed true = refl
none_placed false = refl

placed_from : (behind : Bool) (a : Association) (as' : List Association) → (not behind || is_named a) ≡ true → are_placed (is_named a) as' ≡ true
    → are_placed behind (a ∷ as') ≡ true
placed_from true a as' h g = and_from (is_named a) (list_all is_named as') h (ap (λ t. are_placed t as') (sym h) ∙ g)
placed_from false a as' h g = go (is_named a) g
  where
    go : (t : Bool) → are_placed t as' ≡ true → cond t (list_all is_named as') (positional_first as') ≡ true
    go true g = g
    go false g = g

-- ---- all of them

first_kept : (actual : Name → Expr → Broken) (n : Name) (ns : List Name) (a : Association) (as' : List Association) → IsKept (of_any (actual n) (expression_of a.actual))
    → AreKept actual ns as' → AreKept actual (n ∷ ns) (a ∷ as')
first_kept actual n ns a as' one more zero m b p q =
    let e : n ≡ m = some_is n m p in
    let f : a ≡ b = some_is a b q in
    ap (λ m. of_any (actual m) (expression_of b.actual)) (sym e) ∙ ap (λ (b : Association). of_any (actual n) (expression_of b.actual)) (sym f) ∙ one
first_kept actual n ns a as' one more (suc k) m b p q = more k m b p q

-- associations behind others that are for these formals
record AreTaken (formals : List Name) (actual : Name → Expr → Broken) (left : List Name) (behind : Bool) (taken : List Name) (as' : List Association) : Type 0 where
  names : List Name
  formal : formals_of left as' ≡ Some names
  placed : are_placed behind as' ≡ true
  among : list_all (λ f. is_among f formals) names ≡ true
  distinct : are_distinct (taken ++ names) ≡ true
  actuals : AreKept actual names as'

associations_given : (formals : List Name) (actual : Name → Expr → Broken) (as' : List Association) (left : List Name) (behind : Bool) (taken : List Name)
    → are_distinct taken ≡ true → IsKept (broken.associations formals actual left behind taken as') → AreTaken formals actual left behind taken as'
associations_given formals actual [] left behind taken d h = record {
  names = [];
  formal = refl;
  placed = none_placed behind;
  among = refl;
  distinct = ap are_distinct (append-nil taken) ∙ d;
  actuals = λ k n a p q. absurd cc;
}
associations_given formals actual (a ∷ as') left behind taken d h =
    let place : ℕ = association_place a in
    let k = parts _ _ h in
    let l = parts _ _ k.0 in
    let m = parts _ _ l.1 in
    let n = given WrongKind place (formal_of left a.formal) m.0 in
    let q = parts _ _ (of_given (λ n. unless Undeclared place (is_among n formals) ▸ unless Twice place (not (is_among n taken)) ▸ of_any (actual n) (expression_of a.actual))
    (formal_of left a.formal) n.value n.is m.1) in
    let r = parts _ _ q.1 in
    let apart = not_true (is_among n.value taken) (holds Twice place (not (is_among n.value taken)) r.0) in
    let rest = associations_given formals actual as' (drop 1 left) (is_named a) (taken ++ n.value ∷ []) (distinct_next taken n.value d apart)
    (of_given (λ n. broken.associations formals actual (drop 1 left) (is_named a) (taken ++ n ∷ []) as') (formal_of left a.formal) n.value n.is k.1) in
    record {
      names = n.value ∷ rest.names;
      formal =
          bound_is (formal_of left a.formal) (λ f. formals_of (drop 1 left) as' >>= λ fs. Some (f ∷ fs)) n.value (n.value ∷ rest.names) n.is
          (bound_is (formals_of (drop 1 left) as') (λ fs. Some (n.value ∷ fs)) rest.names (n.value ∷ rest.names) rest.formal refl);
      placed = placed_from behind a as' (holds WrongKind place (not behind || is_named a) l.0) rest.placed;
      among =
          and_from (is_among n.value formals) (list_all (λ f. is_among f formals) rest.names) (holds Undeclared place (is_among n.value formals) q.0) rest.among;
      distinct = ap are_distinct (sym (append_assoc taken (n.value ∷ []) rest.names)) ∙ rest.distinct;
      actuals = first_kept actual n.value rest.names a as' r.1 rest.actuals;
    }

-- each formal has the actual of its association
pub record AreAssociated (formals : List Name) (actual : Name → Expr → Broken) (as' : List Association) : Type 0 where
  pub names : List Name
  pub is : are.associated formals as' ≡ Some (map (λ n. actual_of n names as') formals)
  pub actuals : AreKept actual names as'

pub associated_given : (formals : List Name) (actual : Name → Expr → Broken) (as' : List Association) → IsKept (broken.associated formals actual as')
    → AreAssociated formals actual as'
unfolding are.associated
associated_given formals actual as' h =
    let t = associations_given formals actual as' formals false [] refl h in
    let actuals : List (Option Expr) = map (λ n. actual_of n t.names as') formals in
    record {
      names = t.names;
      is =
          ruled_is (positional_first as') _ actuals t.placed
          (bound_is (formals_of formals as') _ t.names actuals t.formal
          (ruled_is (list_all (λ f. is_among f formals) t.names) _ actuals t.among (ruled_is (are_distinct t.names) (Some actuals) actuals t.distinct refl)));
      actuals = t.actuals;
    }

-- ---- the actual of a formal

-- it is that of an association, if there is one
pub record IsActual (n : Name) (fs : List Name) (as' : List Association) : Type 0 where
  pub place : ℕ
  pub association : Association
  pub named : slice_get fs place ≡ Some n
  pub at : slice_get as' place ≡ Some association
  pub is : actual_of n fs as' ≡ expression_of association.actual

pub actual_from : (n : Name) (fs : List Name) (as' : List Association) → (actual_of n fs as' ≡ None) ⊎ IsActual n fs as'
actual_from n (f ∷ fs) (a ∷ as') = go (bytes_eq n f) refl (actual_from n fs as')
  where
    go : (b : Bool) → bytes_eq n f ≡ b → (actual_of n fs as' ≡ None) ⊎ IsActual n fs as' → (actual_of n (f ∷ fs) (a ∷ as') ≡ None) ⊎ IsActual n (f ∷ fs) (a ∷ as')
    go true e more = inr (record {
      place = 0;
      association = a;
      named = ap Some (sym ((bytes_eq-Decides n f).0 e));
      at = refl;
      is = ap (λ b. cond b (expression_of a.actual) (actual_of n fs as')) e;
    })
    go false e (inl none) = inl (ap (λ b. cond b (expression_of a.actual) (actual_of n fs as')) e ∙ none)
    go false e (inr x) = inr (record {
      place = suc x.place;
      association = x.association;
      named = x.named;
      at = x.at;
      is = ap (λ b. cond b (expression_of a.actual) (actual_of n fs as')) e ∙ x.is;
    })
actual_from n _ _ = inl refl
