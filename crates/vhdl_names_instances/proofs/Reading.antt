-- Maps, association by association: what is told of one is told of all where those before it break nothing.
use Rattle.std.proofs.Common.{◌≡◌, ℕ, suc, ◌+◌, ◌<◌, ◌≤◌, length, get_or, arith, Bool, true, false, not, List, [], ◌∷◌, ◌++◌, map, drop, Option, Some, None, refl, ap, sym, ◌∙◌, drop-cons, append_assoc, append-nil}
use Rattle.std.specs.Prelude.{◌||◌, ◌&&◌, bytes_eq, if◌then◌else◌}
use Rattle.std.proofs.lemmas.List.{drop_all}
use Rattle.std.proofs.lemmas.Slice.Eq.{bytes_eq-Decides}
use Rattle.vhdl_tree.specs.Tree.{Expr, Association}
use Rattle.vhdl_tree.specs.View.{association_view}
use Rattle.vhdl_tree.specs.declared.expression.Association.{Association as CodeAssociation}
use Rattle.vhdl_names_rules.specs.declared.fault.NameFault.{NameFault}
use Rattle.vhdl_names_rules.specs.declared.fault.NameFault.TheVariants.{At, NoMemory}
use Rattle.vhdl_names_rules.specs.declared.fault.NameProblem.TheVariants.{Undeclared, Twice, WrongKind}
use Rattle.vhdl_names_rules.specs.Rules.{◌>>=◌, ◌>>◌, met}
use Rattle.vhdl_names_rules.specs.Visibility.{Name, is_among}
use Rattle.vhdl_names_rules.specs.Instances as rules
use Rattle.vhdl_names_rules.specs.Instances.{is_named, formal_of, expression_of, actual_of}
use Rattle.vhdl_names_rules.proofs.laws.Rules.{comes, kept, both, some_is}
use Rattle.vhdl_names_units.specs.Once.{one_name}
use Rattle.vhdl_names_rules.specs.problems.Broken.{Broken, Tells, nothing, ◌▸◌, unless, lacking, where_given, of_any}
use Rattle.vhdl_names_rules.specs.problems.Places.{association_place}
use Rattle.vhdl_names_rules.specs.problems.Instances.{association, associations}
use Rattle.vhdl_names_rules.proofs.Telling.{IsKept, behind_kept, told_same, told_left}
use Rattle.vhdl_names_instances.specs.Breaking.{one_association}
use Rattle.vhdl_names_instances.specs.steps.Associations.{formal_at, one_taken, taking, actuals}
use Rattle.vhdl_names_instances.specs.steps.Maps.{holds_if_any, one_read, reading}
use Rattle.vhdl_names_instances.proofs.Associating.{by_either, next_drop, in_order}
use Rattle.vhdl_names_instances.proofs.Taking.{then_is}

-- ---- one association

wider : (a b : Broken) (o : Option Name) (u v w : Name → Broken) (f : NameFault) → Tells (a ▸ b ▸ where_given o (λ n. u n ▸ v n)) f
    → Tells (a ▸ b ▸ where_given o (λ n. u n ▸ v n ▸ w n)) f
unfolding ◌▸◌
wider a b o u v w NoMemory h = tt
wider (Some x) b o u v w (At p at) h = h
wider None (Some x) o u v w (At p at) h = h
wider None None None u v w (At p at) h = h
wider None None (Some n) u v w (At p at) h = go (u n) (v n) (w n) h
  where
    go : (a b c : Broken) → (a ▸ b) ≡ Some (p, at) → (a ▸ b ▸ c) ≡ Some (p, at)
    go (Some x) b c h = h
    go None (Some x) c h = h
    go None None c h = absurd cc

all_true : (at : ℕ) (a b c : Bool) (x : Broken) → a ≡ true → b ≡ true → c ≡ true → (unless WrongKind at a ▸ nothing ▸ unless Undeclared at b ▸ unless Twice at c ▸ x) ≡ x
unfolding ◌▸◌
all_true at true true true x h i j = refl
all_true at true true false x h i j = absurd cc
all_true at true false c x h i j = absurd cc
all_true at false b c x h i j = absurd cc

-- where it is for a formal, what it breaks is what its actual does
pub record IsRead (formals : List Name) (k : ℕ) (taken : List Name) (a : Association) (taken' : List Name) : Type 0 where
  pub name : Name
  pub formal : formal_at formals k a.formal ≡ Some name
  pub more : taken' ≡ taken ++ name ∷ []
  pub known : is_among name formals ≡ true
  pub new : not (is_among name taken) ≡ true

pub is_read : (formals : List Name) (k : ℕ) (behind : Bool) (taken : List Name) (a : Association) (taken' : List Name) → one_taken formals k behind taken a ≡ Some taken'
    → ((not behind || is_named a) ≡ true) × IsRead formals k taken a taken'
is_read formals k behind taken a taken' h =
    let c = kept (not behind || is_named a) (formal_at formals k a.formal >>= λ n. met (is_among n formals) >> one_name taken n) taken' h in
    let d = comes (formal_at formals k a.formal) (λ n. met (is_among n formals) >> one_name taken n) taken' c.1 in
    let e = kept (is_among d.value formals) (one_name taken d.value) taken' d.rest in
    let t = then_is (not (is_among d.value taken)) (taken ++ d.value ∷ []) taken' e.1 in
    (c.0, record { name = d.value; formal = d.is; more = t.1; known = e.0; new = t.0 })

-- an association in front of others
front : (cs : List CodeAssociation) (k : ℕ) (c : CodeAssociation) → k < length cs → c ≡ get_or cs k c
    → map association_view (drop k cs) ≡ association_view c ∷ map association_view (drop (suc k) cs)
front cs k c lt is = ap (map association_view) (drop-cons cs k c lt) ∙ ap (λ a. association_view a ∷ map association_view (drop (suc k) cs)) (sym is)

module _ (formals : List Name) (actual : Name → Expr → Broken) where
  abbrev with_formal : Bool → List Name → Association → Option Name → Broken
  with_formal behind taken a o =
      unless WrongKind (association_place a) (not behind || is_named a)
      ▸ lacking WrongKind (association_place a) o
      ▸ where_given o (λ n.
      unless Undeclared (association_place a) (is_among n formals)
      ▸ unless Twice (association_place a) (not (is_among n taken))
      ▸ of_any (actual n) (expression_of a.actual))

  module _ (k : ℕ) (behind : Bool) (taken : List Name) (a : Association) where
    abbrev this : Broken
    this = association formals actual (drop k formals) behind taken a

    -- what is told of its formal is told of it
    pub formal_told : (f : NameFault) → Tells (one_association formals k behind taken a) f → Tells this f
    formal_told f w =
        told_same (with_formal behind taken a (formal_at formals k a.formal)) this f (sym (ap (with_formal behind taken a) (by_either formals k a.formal)))
        (wider (unless WrongKind (association_place a) (not behind || is_named a)) (lacking WrongKind (association_place a) (formal_at formals k a.formal))
        (formal_at formals k a.formal) (λ n. unless Undeclared (association_place a) (is_among n formals)) (λ n. unless Twice (association_place a) (not (is_among n taken)))
        (λ n. of_any (actual n) (expression_of a.actual)) f w)

    -- so is what is told of its actual
    pub actual_is : (taken' : List Name) (h : one_taken formals k behind taken a ≡ Some taken')
        → this ≡ of_any (actual (is_read formals k behind taken a taken' h).1.name) (expression_of a.actual)
    actual_is taken' h =
        let r = is_read formals k behind taken a taken' h in
        ap (with_formal behind taken a) (by_either formals k a.formal ∙ r.1.formal)
        ∙ all_true (association_place a) (not behind || is_named a) (is_among r.1.name formals) (not (is_among r.1.name taken)) (of_any (actual r.1.name) (expression_of a.actual))
        r.0 r.1.known r.1.new

    pub actual_told : (taken' : List Name) → one_taken formals k behind taken a ≡ Some taken' → (n : Name) → formal_at formals k a.formal ≡ Some n
        → (f : NameFault) → Tells (of_any (actual n) (expression_of a.actual)) f → Tells this f
    actual_told taken' h n e f w =
        let r = is_read formals k behind taken a taken' h in
        let same : n ≡ r.1.name = some_is n r.1.name (sym e ∙ r.1.formal) in
        told_same (of_any (actual n) (expression_of a.actual)) this f (ap (λ n. of_any (actual n) (expression_of a.actual)) same ∙ sym (actual_is taken' h)) w

  pub told_here : (cs : List CodeAssociation) (k : ℕ) (c : CodeAssociation) → k < length cs → c ≡ get_or cs k c → (b : Bool) (taken : List Name) (whole : Broken)
      → whole ≡ associations formals actual (drop k formals) b taken (map association_view (drop k cs)) → (f : NameFault)
      → Tells (association formals actual (drop k formals) b taken (association_view c)) f → Tells whole f
  told_here cs k c lt is b taken whole w f h =
      told_same (associations formals actual (drop k formals) b taken (association_view c ∷ map association_view (drop (suc k) cs))) whole f
      (sym (w ∙ ap (associations formals actual (drop k formals) b taken) (front cs k c lt is)))
      (told_left (association formals actual (drop k formals) b taken (association_view c))
      (where_given (formal_of (drop k formals) (association_view c).formal)
      (λ n. associations formals actual (drop 1 (drop k formals)) (is_named (association_view c)) (taken ++ n ∷ []) (map association_view (drop (suc k) cs)))) f h)

  -- ---- one behind another

  module _ (holds : Name → Expr → Bool) (keeps : (n : Name) (e : Expr) → holds n e ≡ true → IsKept (actual n e)) where
    if_any_keeps : (n : Name) (o : Option Expr) → holds_if_any (holds n) o ≡ true → IsKept (of_any (actual n) o)
    if_any_keeps n None h = refl
    if_any_keeps n (Some e) h = keeps n e h

    step : (k : ℕ) (behind : Bool) (taken : List Name) (a : Association) (taken' : List Name) (rest : List Association) → one_read formals holds k behind taken a ≡ Some taken'
        → associations formals actual (drop k formals) behind taken (a ∷ rest) ≡ associations formals actual (drop (suc k) formals) (is_named a) taken' rest
    step k behind taken a taken' rest h =
        let c = comes (one_taken formals k behind taken a) (λ ns. formal_at formals k a.formal >>= λ n. met (holds_if_any (holds n) (expression_of a.actual)) >> Some ns) taken' h in
        let d = comes (formal_at formals k a.formal) (λ n. met (holds_if_any (holds n) (expression_of a.actual)) >> Some c.value) taken' c.rest in
        let e = kept (holds_if_any (holds d.value) (expression_of a.actual)) (Some c.value) taken' d.rest in
        let r = is_read formals k behind taken a c.value c.is in
        let same : d.value ≡ r.1.name = some_is d.value r.1.name (sym d.is ∙ r.1.formal) in
        let names : taken ++ r.1.name ∷ [] ≡ taken' = sym r.1.more ∙ some_is c.value taken' e.1 in
        let is_kept : IsKept (association formals actual (drop k formals) behind taken a) =
        actual_is k behind taken a c.value c.is ∙ ap (λ n. of_any (actual n) (expression_of a.actual)) (sym same) ∙ if_any_keeps d.value (expression_of a.actual) e.0 in
        behind_kept (association formals actual (drop k formals) behind taken a)
        (where_given (formal_of (drop k formals) a.formal) (λ n. associations formals actual (drop 1 (drop k formals)) (is_named a) (taken ++ n ∷ []) rest)) is_kept
        ∙ ap (λ o. where_given o (λ n. associations formals actual (drop 1 (drop k formals)) (is_named a) (taken ++ n ∷ []) rest)) (by_either formals k a.formal ∙ r.1.formal)
        ∙ ap (λ ns. associations formals actual (drop 1 (drop k formals)) (is_named a) ns rest) names
        ∙ ap (λ ds. associations formals actual ds (is_named a) taken' rest) (next_drop formals k)

    module _ (cs : List CodeAssociation) (k : ℕ) (c : CodeAssociation) (lt : k < length cs) (is : c ≡ get_or cs k c) (b : Bool) (taken : List Name) where
      pub broken_here : (whole : Broken) → whole ≡ associations formals actual (drop k formals) b taken (map association_view (drop k cs)) → (b' : Bool) → b' ≡ is_named (association_view c)
          → (taken' : List Name) → one_read formals holds k b taken (association_view c) ≡ Some taken'
          → whole ≡ associations formals actual (drop (k + 1) formals) b' taken' (map association_view (drop (k + 1) cs))
      broken_here whole w b' e taken' h =
          let s : suc k ≡ k + 1 = omega arith in
          w ∙ ap (associations formals actual (drop k formals) b taken) (front cs k c lt is) ∙ step k b taken (association_view c) taken' (map association_view (drop (suc k) cs)) h
          ∙ ap (λ b. associations formals actual (drop (suc k) formals) b taken' (map association_view (drop (suc k) cs))) (sym e)
          ∙ ap (λ j. associations formals actual (drop j formals) b' taken' (map association_view (drop j cs))) s

      pub reading_here : (whole : Option (List Name)) → whole ≡ reading formals holds k b taken (map association_view (drop k cs)) → (b' : Bool) → b' ≡ is_named (association_view c)
          → (taken' : List Name) → one_read formals holds k b taken (association_view c) ≡ Some taken'
          → whole ≡ reading formals holds (k + 1) b' taken' (map association_view (drop (k + 1) cs))
      reading_here whole w b' e taken' h =
          let s : suc k ≡ k + 1 = omega arith in
          w ∙ ap (reading formals holds k b taken) (front cs k c lt is)
          ∙ ap (λ o. o >>= λ ns. reading formals holds (suc k) (is_named (association_view c)) ns (map association_view (drop (suc k) cs))) h
          ∙ ap (λ b. reading formals holds (suc k) b taken' (map association_view (drop (suc k) cs))) (sym e)
          ∙ ap (λ j. reading formals holds j b' taken' (map association_view (drop j cs))) s

  -- at the end
  pub broken_end : (cs : List CodeAssociation) (k : ℕ) (b : Bool) (taken : List Name) (whole : Broken) → length cs ≤ k
      → whole ≡ associations formals actual (drop k formals) b taken (map association_view (drop k cs)) → whole ≡ nothing
  broken_end cs k b taken whole le w = w ∙ ap (λ l. associations formals actual (drop k formals) b taken (map association_view l)) (drop_all k cs le)

-- ---- what is read as a whole

module _ (formals : List Name) (holds : Name → Expr → Bool) where
  pub one_read_is : (k : ℕ) (behind : Bool) (taken : List Name) (a : Association) (taken' : List Name) → one_taken formals k behind taken a ≡ Some taken'
      → ((n : Name) → formal_at formals k a.formal ≡ Some n → holds_if_any (holds n) (expression_of a.actual) ≡ true) → one_read formals holds k behind taken a ≡ Some taken'
  one_read_is k behind taken a taken' h hold =
      let r = (is_read formals k behind taken a taken' h).1 in
      ap (λ o. o >>= λ ns. formal_at formals k a.formal >>= λ n. met (holds_if_any (holds n) (expression_of a.actual)) >> Some ns) h
      ∙ ap (λ o. o >>= λ n. met (holds_if_any (holds n) (expression_of a.actual)) >> Some taken') r.formal
      ∙ ap (λ b. met b >> Some taken') (hold r.name r.formal)

  pub reading_end : (cs : List CodeAssociation) (k : ℕ) (b : Bool) (taken : List Name) (whole : Option (List Name)) → length cs ≤ k
      → whole ≡ reading formals holds k b taken (map association_view (drop k cs)) → whole ≡ Some taken
  reading_end cs k b taken whole le w = w ∙ ap (λ l. reading formals holds k b taken (map association_view l)) (drop_all k cs le)

  abbrev all_hold : List Name → List Association → Bool
  all_hold (t ∷ ts) (a ∷ as') = holds_if_any (holds t) (expression_of a.actual) && all_hold ts as'
  all_hold _ _ = true

  record AreRead (k : ℕ) (behind : Bool) (taken : List Name) (as' : List Association) (ts : List Name) : Type 0 where
    pub new : List Name
    pub is : ts ≡ taken ++ new
    pub all : taking formals k behind taken as' ≡ Some ts
    pub hold : all_hold new as' ≡ true

  and_true : (a b : Bool) → a ≡ true → b ≡ true → (a && b) ≡ true
  and_true true b h k = k
  and_true false b h k = absurd cc

  are_read : (k : ℕ) (behind : Bool) (taken : List Name) (as' : List Association) (ts : List Name) → reading formals holds k behind taken as' ≡ Some ts → AreRead k behind taken as' ts
  are_read k behind taken [] ts h = record { new = []; is = sym (some_is taken ts h) ∙ sym (append-nil taken); all = h; hold = refl }
  are_read k behind taken (a ∷ as') ts h =
      let o = comes (one_read formals holds k behind taken a) (λ ns. reading formals holds (suc k) (is_named a) ns as') ts h in
      let c = comes (one_taken formals k behind taken a) (λ ns. formal_at formals k a.formal >>= λ n. met (holds_if_any (holds n) (expression_of a.actual)) >> Some ns) o.value o.is in
      let d = comes (formal_at formals k a.formal) (λ n. met (holds_if_any (holds n) (expression_of a.actual)) >> Some c.value) o.value c.rest in
      let e = kept (holds_if_any (holds d.value) (expression_of a.actual)) (Some c.value) o.value d.rest in
      let r = is_read formals k behind taken a c.value c.is in
      let same : d.value ≡ r.1.name = some_is d.value r.1.name (sym d.is ∙ r.1.formal) in
      let next : o.value ≡ taken ++ d.value ∷ [] = sym (some_is c.value o.value e.1) ∙ r.1.more ∙ ap (λ n. taken ++ n ∷ []) (sym same) in
      let more = are_read (suc k) (is_named a) o.value as' ts o.rest in
      record {
        new = d.value ∷ more.new;
        is = more.is ∙ ap (λ ns. ns ++ more.new) next ∙ append_assoc taken (d.value ∷ []) more.new;
        all = ap (λ o. o >>= λ ns. taking formals (suc k) (is_named a) ns as') (c.is ∙ e.1) ∙ more.all;
        hold = and_true (holds_if_any (holds d.value) (expression_of a.actual)) (all_hold more.new as') e.0 more.hold;
      }

  -- what is associated with a name is as is asked
  for_name : (n : Name) (ts : List Name) (as' : List Association) → all_hold ts as' ≡ true → holds_if_any (holds n) (actual_of n ts as') ≡ true
  for_name n [] as' h = refl
  for_name n (t ∷ ts) [] h = refl
  for_name n (t ∷ ts) (a ∷ as') h =
      let b = both (holds_if_any (holds t) (expression_of a.actual)) (all_hold ts as') h in
      go (bytes_eq n t) refl b.0 (for_name n ts as' b.1)
    where
      go : (x : Bool) → bytes_eq n t ≡ x → holds_if_any (holds t) (expression_of a.actual) ≡ true → holds_if_any (holds n) (actual_of n ts as') ≡ true
          → holds_if_any (holds n) (if x then expression_of a.actual else actual_of n ts as') ≡ true
      go true e h k = ap (λ m. holds_if_any (holds m) (expression_of a.actual)) ((bytes_eq-Decides n t).0 e) ∙ h
      go false e h k = k

  -- the actuals of formals, each of which is as is asked
  pub record AreActuals (as' : List Association) : Type 0 where
    pub taken : List Name
    pub is : rules.associated formals as' ≡ Some (actuals formals taken as')
    pub hold : (n : Name) → holds_if_any (holds n) (actual_of n taken as') ≡ true

  pub are_actuals : (as' : List Association) (ts : List Name) → reading formals holds 0 false [] as' ≡ Some ts → AreActuals as'
  are_actuals as' ts h =
      let r = are_read 0 false [] as' ts h in
      record {
        taken = r.new;
        is = in_order formals as' ∙ ap (λ o. o >>= λ taken. Some (actuals formals taken as')) (r.all ∙ ap (λ ts. Some ts) r.is);
        hold = λ n. for_name n r.new as' r.hold;
      }
