-- Actuals of generics and ports, by the names of their formals.
use Rattle.std.proofs.Common.{◌≡◌, ℕ, zero, suc, ◌+◌, ◌<◌, ◌≤◌, length, arith, Bool, true, false, not, cond, ◌||◌, List, [], ◌∷◌, map, drop, Option, Some, None, Vec, Global, refl, ap, sym, ◌∙◌}
use Rattle.std.specs.Prelude.{◌&&◌, bytes_eq, filter, option_map, slice_get, is_some, if◌then◌else◌}
use Rattle.std.specs.List.{list_all}
use Rattle.std.proofs.lemmas.List.{drop_all, length-map}
use Rattle.std.proofs.lemmas.Option.{slice_get-map}
use Rattle.vhdl_tree.specs.Tree.{Expr, Association}
use Rattle.vhdl_names_rules.specs.declared.fault.NameFault.{NameFault}
use Rattle.vhdl_names_rules.specs.declared.fault.NameFault.TheVariants.{At, NoMemory}
use Rattle.vhdl_names_rules.specs.Rules.{◌>>=◌, if_any}
use Rattle.vhdl_names_rules.specs.Visibility.{Name}
use Rattle.vhdl_names_rules.specs.Instances as rules
use Rattle.vhdl_names_rules.specs.Instances.{actual_of}
use Rattle.vhdl_names_rules.proofs.laws.Rules.{both}
use Rattle.vhdl_names_rules.specs.problems.Broken.{Broken, Tells, nothing, any_of, where_given}
use Rattle.vhdl_names_rules.proofs.Telling.{IsKept, behind_kept, told_same, told_left}
use Rattle.vhdl_names_instances.specs.Table.{items}
use Rattle.vhdl_names_instances.specs.steps.Actuals.{each_of}
use Rattle.vhdl_names_instances.specs.steps.Maps.{holds_if_any, reading}
use Rattle.vhdl_names_instances.proofs.Reading.{are_actuals}
use Rattle.vhdl_names_instances.proofs.Taking.{same_name}

-- ---- what is given

some_value : {A : Type 0} (o : Option A) → is_some o ≡ true → (x : A) × (o ≡ Some x)
some_value None h = absurd cc
some_value (Some x) h = (x, refl)

behind_both : {A B : Type 0} (o : Option A) (p : Option (List B)) (f : A → List B → Option (List B)) → ((x : A) (ys : List B) → is_some (f x ys) ≡ true)
    → is_some o ≡ true → is_some p ≡ true → is_some (o >>= λ x. p >>= λ ys. f x ys) ≡ true
behind_both None p f g h k = absurd cc
behind_both (Some x) None f g h k = absurd cc
behind_both (Some x) (Some ys) f g h k = g x ys

if_any_given : {B : Type 0} (f : Expr → Option B) (o : Option Expr) → holds_if_any (λ e. is_some (f e)) o ≡ true → is_some (if_any f o) ≡ true
if_any_given f None h = refl
if_any_given f (Some e) h = go (f e) h
  where
    go : {B : Type 0} (o : Option B) → is_some o ≡ true → is_some (o >>= λ y. Some (Some y)) ≡ true
    go None h = absurd cc
    go (Some y) h = refl

-- ---- formals by their places

module _ {F T : Type 0} (name : F → Name) (type : F → T) where
  abbrev pub named : List F → ℕ → Name → Option T
  named fs i n = slice_get fs i >>= λ f. if bytes_eq n (name f) then Some (type f) else None

  -- the formal at a place of the table
  pub at_place : (all : List F) (ks : List (Vec ℕ Global)) (types : List T) → map items ks ≡ map name all → types ≡ map type all
      → (i : ℕ) (n : Name) → (slice_get ks i >>= λ k. if bytes_eq n k.items then slice_get types i else None) ≡ named all i n
  at_place all ks types h g i n =
      by_name (slice_get ks i)
      ∙ ap (λ o. o >>= λ m. if bytes_eq n m then slice_get types i else None) (sym (slice_get-map items ks i) ∙ ap (λ l. slice_get l i) h ∙ slice_get-map name all i)
      ∙ ap (λ t. option_map name (slice_get all i) >>= λ m. if bytes_eq n m then t else None) (ap (λ l. slice_get l i) g ∙ slice_get-map type all i)
      ∙ by_formal (slice_get all i)
    where
      by_name : (o : Option (Vec ℕ Global)) → (o >>= λ k. if bytes_eq n k.items then slice_get types i else None) ≡ (option_map items o >>= λ m. if bytes_eq n m then slice_get types i else None)
      by_name None = refl
      by_name (Some k) = refl

      by_formal : (o : Option F) → (option_map name o >>= λ m. if bytes_eq n m then option_map type o else None) ≡ (o >>= λ f. if bytes_eq n (name f) then Some (type f) else None)
      by_formal None = refl
      by_formal (Some f) = refl

-- Formals with names, that have types; what an actual of one breaks, and what it gives, rests on its type alone; and
-- what is given breaks nothing.
pub record Kind (F T X : Type 0) : Type 0 where
  pub name : F → Name
  pub type : F → T
  pub formal : T → F
  pub actual : F → Expr → Broken
  pub given : F → Expr → Option X
  pub same_actual : (f : F) (e : Expr) → actual (formal (type f)) e ≡ actual f e
  pub same_given : (f : F) (e : Expr) → given (formal (type f)) e ≡ given f e
  pub keeps : (f : F) (e : Expr) (x : X) → given f e ≡ Some x → IsKept (actual f e)

module _ {F T X : Type 0} (k : Kind F T X) where
  abbrev pub those : List F → Name → List F
  those fs n = filter (λ f. bytes_eq n (k.name f)) fs

  -- what is associated with a name is an actual of a formal, if the formal has this name
  abbrev pub fits_one : Name → Expr → F → Bool
  fits_one n e f = not (bytes_eq n (k.name f)) || is_some (k.given f e)

  abbrev pub fit : List F → Name → Expr → Bool
  fit fs n e = list_all (fits_one n e) fs

  abbrev pub fits_type : Expr → T → Bool
  fits_type e t = is_some (k.given (k.formal t) e)

  -- ---- formals of one name

  module _ (n : Name) (e : Expr) where
    abbrev pub of_those : List F → Broken
    of_those fs = any_of (λ f. k.actual f e) (those fs n)

    pub all_keep : (fs : List F) → fit fs n e ≡ true → IsKept (of_those fs)
    all_keep [] h = refl
    all_keep (f ∷ fs) h =
        let b = both (fits_one n e f) (fit fs n e) h in
        go (bytes_eq n (k.name f)) b.0 (all_keep fs b.1)
      where
        go : (x : Bool) → (not x || is_some (k.given f e)) ≡ true → IsKept (of_those fs) → IsKept (any_of (λ f. k.actual f e) (cond x (f ∷ those fs n) (those fs n)))
        go true h r =
            let s = some_value (k.given f e) h in
            behind_kept (k.actual f e) (of_those fs) (k.keeps f e s.0 s.1) ∙ r
        go false h r = r

    -- one formal behind others
    record IsAt (fs : List F) (i : ℕ) : Type 0 where
      formal : F
      at : slice_get fs i ≡ Some formal
      rest : drop i fs ≡ formal ∷ drop (suc i) fs

    is_at : (fs : List F) (i : ℕ) → i < length fs → IsAt fs i
    is_at [] i lt = absurd (omega (arith, lt))
    is_at (f ∷ fs) zero lt = record { formal = f; at = refl; rest = refl }
    is_at (f ∷ fs) (suc i) lt = let m = is_at fs i (omega (arith, lt)) in record { formal = m.formal; at = m.at; rest = m.rest }

    module _ (fs : List F) (i : ℕ) (lt : i < length fs) where
      abbrev here : IsAt fs i
      here = is_at fs i lt

      abbrev of_type : T → Broken
      of_type t = k.actual (k.formal t) e

      named_is : named k.name k.type fs i n ≡ (if bytes_eq n (k.name here.formal) then Some (k.type here.formal) else None)
      named_is = ap (λ o. o >>= λ f. if bytes_eq n (k.name f) then Some (k.type f) else None) here.at

      pub one_told : (whole : Broken) → whole ≡ of_those (drop i fs) → (f : NameFault) → Tells (where_given (named k.name k.type fs i n) of_type) f → Tells whole f
      one_told whole w f h =
          told_same (of_those (here.formal ∷ drop (suc i) fs)) whole f (sym (w ∙ ap of_those here.rest))
          (go (bytes_eq n (k.name here.formal)) (told_same _ _ f (ap (λ o. where_given o of_type) named_is) h))
        where
          none_told : (b : Broken) (f : NameFault) → Tells nothing f → Tells b f
          none_told b (At p at) h = absurd cc
          none_told b NoMemory h = tt

          go : (x : Bool) → Tells (where_given (if x then Some (k.type here.formal) else None) of_type) f
              → Tells (any_of (λ f. k.actual f e) (cond x (here.formal ∷ those (drop (suc i) fs) n) (those (drop (suc i) fs) n))) f
          go true h = told_left (k.actual here.formal e) (of_those (drop (suc i) fs)) f (told_same (of_type (k.type here.formal)) (k.actual here.formal e) f (k.same_actual here.formal e) h)
          go false h = none_told _ f h

      fits_here : holds_if_any (fits_type e) (named k.name k.type fs i n) ≡ true → fits_one n e here.formal ≡ true
      fits_here h = go (bytes_eq n (k.name here.formal)) (ap (holds_if_any (fits_type e)) (sym named_is) ∙ h)
        where
          go : (x : Bool) → holds_if_any (fits_type e) (if x then Some (k.type here.formal) else None) ≡ true → (not x || is_some (k.given here.formal e)) ≡ true
          go true h = ap is_some (sym (k.same_given here.formal e)) ∙ h
          go false h = refl

      pub those_go : (whole : Broken) → whole ≡ of_those (drop i fs) → holds_if_any (fits_type e) (named k.name k.type fs i n) ≡ true → whole ≡ of_those (drop (i + 1) fs)
      those_go whole w h =
          let s : suc i ≡ i + 1 = omega arith in
          w ∙ ap of_those here.rest ∙ go (bytes_eq n (k.name here.formal)) (fits_here h) ∙ ap (λ j. of_those (drop j fs)) s
        where
          go : (x : Bool) → (not x || is_some (k.given here.formal e)) ≡ true
              → any_of (λ f. k.actual f e) (cond x (here.formal ∷ those (drop (suc i) fs) n) (those (drop (suc i) fs) n)) ≡ of_those (drop (suc i) fs)
          go true h =
              let s = some_value (k.given here.formal e) h in
              behind_kept (k.actual here.formal e) (of_those (drop (suc i) fs)) (k.keeps here.formal e s.0 s.1)
          go false h = refl

      pub fits_go : (whole : Bool) → whole ≡ fit (drop i fs) n e → holds_if_any (fits_type e) (named k.name k.type fs i n) ≡ true → whole ≡ fit (drop (i + 1) fs) n e
      fits_go whole w h =
          let s : suc i ≡ i + 1 = omega arith in
          w ∙ ap (λ fs. fit fs n e) here.rest ∙ ap (λ b. b && fit (drop (suc i) fs) n e) (fits_here h) ∙ ap (λ j. fit (drop j fs) n e) s

    pub fits_end : (fs : List F) (i : ℕ) (whole : Bool) → length fs ≤ i → whole ≡ fit (drop i fs) n e → whole ≡ true
    fits_end fs i whole le w = w ∙ ap (λ fs. fit fs n e) (drop_all i fs le)

  -- a place within the table is one of a formal
  pub within : (all : List F) (ks : List (Vec ℕ Global)) → map items ks ≡ map k.name all → length ks ≡ length all
  within all ks h = sym (length-map ks items) ∙ ap length h ∙ length-map all k.name

  -- ---- all formals

  abbrev pub one_entry : T → Option Expr → Option (Option X)
  one_entry t o = if_any (k.given (k.formal t)) o

  module _ (fs : List F) where
    one_given : (g : F) (o : Option Expr) → holds_if_any (λ e. fits_one (k.name g) e g) o ≡ true → is_some (one_entry (k.type g) o) ≡ true
    one_given g o h = if_any_given (k.given (k.formal (k.type g))) o (go o h)
      where
        go : (o : Option Expr) → holds_if_any (λ e. fits_one (k.name g) e g) o ≡ true → holds_if_any (λ e. is_some (k.given (k.formal (k.type g)) e)) o ≡ true
        go None h = refl
        go (Some e) h = ap is_some (k.same_given g e) ∙ sym (ap (λ b. not b || is_some (k.given g e)) (same_name (k.name g))) ∙ h

    all_given : (ts : List Name) (as' : List Association) → ((n : Name) → holds_if_any (fit fs n) (actual_of n ts as') ≡ true) → (gs : List F)
        → ((n : Name) (e : Expr) → fit fs n e ≡ true → fit gs n e ≡ true) → is_some (each_of one_entry (map k.type gs) (map (λ n. actual_of n ts as') (map k.name gs))) ≡ true
    all_given ts as' h [] within = refl
    all_given ts as' h (g ∷ gs) within =
        behind_both (one_entry (k.type g) (actual_of (k.name g) ts as')) (each_of one_entry (map k.type gs) (map (λ n. actual_of n ts as') (map k.name gs))) (λ y ys. Some (y ∷ ys)) (λ y ys. refl)
        (one_given g (actual_of (k.name g) ts as') (go (actual_of (k.name g) ts as') (h (k.name g))))
        (all_given ts as' h gs (λ n e q. (both (fits_one n e g) (fit gs n e) (within n e q)).1))
      where
        go : (o : Option Expr) → holds_if_any (fit fs (k.name g)) o ≡ true → holds_if_any (λ e. fits_one (k.name g) e g) o ≡ true
        go None h = refl
        go (Some e) h = (both (fits_one (k.name g) e g) (fit gs (k.name g) e) (within (k.name g) e h)).0

    pub formals_given : (as' : List Association) (ts : List Name) → reading (map k.name fs) (fit fs) 0 false [] as' ≡ Some ts
        → is_some (rules.associated (map k.name fs) as' >>= λ es. each_of one_entry (map k.type fs) es) ≡ true
    formals_given as' ts h =
        let a = are_actuals (map k.name fs) (fit fs) as' ts h in
        ap (λ o. is_some (o >>= λ es. each_of one_entry (map k.type fs) es)) a.is ∙ all_given a.taken as' a.hold fs (λ n e q. q)
