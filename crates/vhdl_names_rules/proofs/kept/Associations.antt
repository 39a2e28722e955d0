-- Associations of formals with actuals that are given break no rule (IEEE 1076-2008, 6.5.7).
use Rattle.std.proofs.Common.{◌≡◌, ℕ, zero, suc, Bool, true, false, not, ◌||◌, cond, List, [], ◌∷◌, ◌++◌, Option, Some, None, refl, ap, sym, ◌∙◌}
use Rattle.std.specs.List.{slice_get, list_all}
use Rattle.std.proofs.Math.ListN.{drop}
use Rattle.std.proofs.lemmas.Bool.{and_parts}
use Rattle.std.proofs.lemmas.List.{append_assoc}
use Rattle.vhdl_tree.specs.Tree.{Ident, Expr, Association}
use Rattle.vhdl_names_rules.specs.declared.fault.NameProblem.TheVariants.{Undeclared, Twice, WrongKind}
use Rattle.vhdl_names_rules.specs.Visibility.{Name, is_among, are_distinct}
use Rattle.vhdl_names_rules.specs.Instances as are
use Rattle.vhdl_names_rules.specs.Instances.{is_named, positional_first, formal_of, formals_of, expression_of}
use Rattle.vhdl_names_rules.specs.laws.Associations.{IsFor}
use Rattle.vhdl_names_rules.specs.problems.Broken.{Broken, ◌▸◌, unless, of_any}
use Rattle.vhdl_names_rules.specs.problems.Places.{association_place}
use Rattle.vhdl_names_rules.specs.problems.Instances as broken
use Rattle.vhdl_names_rules.proofs.laws.Rules.{comes, kept, some_is}
use Rattle.vhdl_names_rules.proofs.Telling.{IsKept, both_kept, unless_kept, lacking_kept, given_kept}
use Rattle.vhdl_names_rules.proofs.kept.Keeping.{nothing_kept}
use Rattle.vhdl_names_rules.proofs.kept.Twice.{apart}

-- ---- which formal an association is for

first_is_for : (formals : List Name) (o : Option Ident) (n : Name) → formal_of formals o ≡ Some n → IsFor formals 0 o n
first_is_for formals (Some i) n e = some_is i.text n e
first_is_for [] None n e = absurd cc
first_is_for (f ∷ fs) None n e = e

later_is_for : (formals : List Name) (k : ℕ) (o : Option Ident) (n : Name) → IsFor (drop 1 formals) k o n → IsFor formals (suc k) o n
later_is_for [] k None n e = absurd cc
later_is_for _ k _ n e = e

-- the formal at a place is that of the association there
pub is_for : (as' : List Association) (formals fs : List Name) (k : ℕ) (n : Name) (a : Association) → formals_of formals as' ≡ Some fs → slice_get fs k ≡ Some n
    → slice_get as' k ≡ Some a → IsFor formals k a.formal n
is_for [] formals fs k n a h p q = absurd cc
is_for (b ∷ as') formals fs zero n a h p q =
    let c = comes (formal_of formals b.formal) _ fs h in
    let d = comes (formals_of (drop 1 formals) as') _ fs c.rest in
    let same : b ≡ a = some_is b a q in
    let is : Some c.value ≡ Some n = ap (λ fs. slice_get fs 0) (some_is (c.value ∷ d.value) fs d.rest) ∙ p in
    first_is_for formals a.formal n (ap (λ (a : Association). formal_of formals a.formal) (sym same) ∙ c.is ∙ is)
is_for (b ∷ as') formals fs (suc k) n a h p q =
    let c = comes (formal_of formals b.formal) _ fs h in
    let d = comes (formals_of (drop 1 formals) as') _ fs c.rest in
    later_is_for formals k a.formal n
    (is_for as' (drop 1 formals) d.value k n a d.is (ap (λ fs. slice_get fs (suc k)) (some_is (c.value ∷ d.value) fs d.rest) ∙ p) q)

-- ---- positional associations come first

-- behind a named association there are named ones alone
abbrev pub are_placed : Bool → List Association → Bool
are_placed true as' = list_all is_named as'
are_placed false as' = positional_first as'

placed_first : (behind : Bool) (a : Association) (as' : List Association) → are_placed behind (a ∷ as') ≡ true → (not behind || is_named a) ≡ true
placed_first true a as' h = (and_parts (is_named a) (list_all is_named as') h).0
placed_first false a as' h = refl

placed_rest : (behind : Bool) (a : Association) (as' : List Association) → are_placed behind (a ∷ as') ≡ true → are_placed (is_named a) as' ≡ true
placed_rest true a as' h =
    let b = and_parts (is_named a) (list_all is_named as') h in
    ap (λ t. are_placed t as') b.0 ∙ b.1
placed_rest false a as' h = go (is_named a) h
  where
    go : (t : Bool) → cond t (list_all is_named as') (positional_first as') ≡ true → are_placed t as' ≡ true
    go true h = h
    go false h = h

-- ---- all of them

-- the actual of each association breaks no rule
abbrev pub AreKept : (Name → Expr → Broken) → List Name → List Association → Type 0
AreKept actual fs as' = (k : ℕ) (n : Name) (a : Association) → slice_get fs k ≡ Some n → slice_get as' k ≡ Some a → IsKept (of_any (actual n) (expression_of a.actual))

module _ (formals : List Name) (actual : Name → Expr → Broken) where
  pub associations_kept : (as' : List Association) (left : List Name) (behind : Bool) (taken fs : List Name) → are_placed behind as' ≡ true
      → formals_of left as' ≡ Some fs → list_all (λ f. is_among f formals) fs ≡ true → are_distinct (taken ++ fs) ≡ true → AreKept actual fs as'
      → IsKept (broken.associations formals actual left behind taken as')
  associations_kept [] left behind taken fs first given among distinct actuals = nothing_kept
  associations_kept (a ∷ as') left behind taken fs first given among distinct actuals =
      let c = comes (formal_of left a.formal) _ fs given in
      let d = comes (formals_of (drop 1 left) as') _ fs c.rest in
      let same : c.value ∷ d.value ≡ fs = some_is (c.value ∷ d.value) fs d.rest in
      let both = and_parts (is_among c.value formals) (list_all (λ f. is_among f formals) d.value) (ap (list_all (λ f. is_among f formals)) same ∙ among) in
      let all : are_distinct (taken ++ c.value ∷ d.value) ≡ true = ap (λ fs. are_distinct (taken ++ fs)) same ∙ distinct in
      both_kept _ _
      (both_kept _ _ (unless_kept WrongKind (association_place a) (not behind || is_named a) (placed_first behind a as' first))
      (both_kept _ _ (lacking_kept WrongKind (association_place a) (formal_of left a.formal) c.value c.is)
      (given_kept (λ n. unless Undeclared (association_place a) (is_among n formals) ▸ unless Twice (association_place a) (not (is_among n taken)) ▸ of_any (actual n) (expression_of a.actual))
      (formal_of left a.formal) c.value c.is
      (both_kept _ _ (unless_kept Undeclared (association_place a) (is_among c.value formals) both.0)
      (both_kept _ _ (unless_kept Twice (association_place a) (not (is_among c.value taken)) (ap not (apart taken c.value d.value all)))
      (actuals 0 c.value a (ap (λ fs. slice_get fs 0) (sym same)) refl))))))
      (given_kept (λ n. broken.associations formals actual (drop 1 left) (is_named a) (taken ++ n ∷ []) as') (formal_of left a.formal) c.value c.is
      (associations_kept as' (drop 1 left) (is_named a) (taken ++ c.value ∷ []) d.value (placed_rest behind a as' first) d.is both.1
      (ap are_distinct (append_assoc taken (c.value ∷ []) d.value) ∙ all)
      (λ k n a p q. actuals (suc k) n a (ap (λ fs. slice_get fs (suc k)) (sym same) ∙ p) q)))

  pub associated_kept : (as' : List Association) (es : List (Option Expr)) → are.associated formals as' ≡ Some es
      → ((fs : List Name) → formals_of formals as' ≡ Some fs → AreKept actual fs as') → IsKept (broken.associated formals actual as')
  unfolding are.associated
  associated_kept as' es h actuals =
      let a = kept (positional_first as') _ es h in
      let b = comes (formals_of formals as') _ es a.1 in
      let c = kept (list_all (λ f. is_among f formals) b.value) _ es b.rest in
      let d = kept (are_distinct b.value) _ es c.1 in
      associations_kept as' formals false [] b.value a.0 b.is c.0 d.0 (actuals b.value b.is)
