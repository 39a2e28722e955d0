-- The formals that associations are for, one association after another, and what is told of one that is refused.
use Rattle.std.proofs.Common.{◌≡◌, ℕ, suc, ◌+◌, ◌<◌, length, get_or, arith, Bool, true, false, not, List, [], ◌∷◌, ◌++◌, map, drop, Option, Some, None, Vec, Global, refl, ap, sym, ◌∙◌, drop-cons}
use Rattle.std.specs.Prelude.{◌||◌, bytes_eq, if◌then◌else◌}
use Rattle.std.specs.List.{list_any}
use Rattle.indexmap.specs.IndexSet.{insert_key}
use Rattle.std.proofs.lemmas.Slice.Eq.{bytes_eq-Decides}
use Rattle.vhdl_tree.specs.Tree.{Association}
use Rattle.vhdl_tree.specs.View.{association_view}
use Rattle.vhdl_tree.specs.declared.expression.Association.{Association as CodeAssociation}
use Rattle.vhdl_names_rules.specs.declared.fault.NameFault.{NameFault}
use Rattle.vhdl_names_rules.specs.declared.fault.NameProblem.TheVariants.{Undeclared, Twice, WrongKind}
use Rattle.vhdl_names_rules.specs.Rules.{◌>>=◌, then_some}
use Rattle.vhdl_names_rules.specs.Visibility.{Name, is_among}
use Rattle.vhdl_names_rules.specs.Instances.{is_named}
use Rattle.vhdl_names_rules.proofs.laws.Rules.{some_is}
use Rattle.vhdl_names_units.proofs.Once.{contained}
use Rattle.vhdl_names_rules.specs.problems.Broken.{Broken, Tells, ◌▸◌, refused, unless, lacking, where_given}
use Rattle.vhdl_names_rules.specs.problems.Places.{association_place}
use Rattle.vhdl_names_rules.proofs.Telling.{IsKept, unless_kept, lacking_kept, told_left, told_right, told_given, told_unless}
use Rattle.vhdl_names_instances.specs.Breaking.{one_association}
use Rattle.vhdl_names_instances.specs.steps.Associations.{formal_at, one_taken, taking}

-- ---- names

pub then_is : {A : Type 0} (b : Bool) (x y : A) → then_some b x ≡ Some y → (b ≡ true) × (y ≡ x)
then_is true x y h = (refl, sym (some_is x y h))
then_is false x y h = cc

pub same_name : (n : Name) → bytes_eq n n ≡ true
same_name n = (bytes_eq-Decides n n).1 refl

-- ---- a name that a table has

abbrev text : Vec ℕ Global → Name
text v = v.items

pub stands : (k : Vec ℕ Global) (ks : List (Vec ℕ Global)) (new : Bool) → new ≡ not (list_any (λ x. bytes_eq k.items x.items) ks) → new ≡ false → is_among k.items (map text ks) ≡ true
stands k ks new e t = sym (contained k.items ks) ∙ no_not (list_any (λ x. bytes_eq k.items x.items) ks) (sym e ∙ t)
  where
    no_not : (x : Bool) → not x ≡ false → x ≡ true
    no_not true h = refl
    no_not false h = sym h

pub unchanged : (k : Vec ℕ Global) (ks ks' : List (Vec ℕ Global)) (new : Bool) → new ≡ not (list_any (λ x. bytes_eq k.items x.items) ks)
    → ks' ≡ insert_key (λ a b. bytes_eq a.items b.items) ks k → new ≡ false → map text ks' ≡ map text ks
unchanged k ks ks' new e h t = ap (map text) (h ∙ go (list_any (λ x. bytes_eq k.items x.items) ks) (sym e ∙ t))
  where
    go : (b : Bool) → not b ≡ false → (if b then ks else ks ++ k ∷ []) ≡ ks
    go true q = refl
    go false q = cc

-- ---- one after another

module _ (formals : List Name) (cs : List CodeAssociation) (k : ℕ) (c : CodeAssociation) (lt : k < length cs) (is : c ≡ get_or cs k c) (b : Bool) (taken : List Name) (whole : Option (List Name))
    (w : whole ≡ taking formals k b taken (map association_view (drop k cs))) where
  here : whole ≡ (one_taken formals k b taken (association_view c) >>= λ ns. taking formals (suc k) (is_named (association_view c)) ns (map association_view (drop (suc k) cs)))
  here =
      w ∙ ap (λ l. taking formals k b taken (map association_view l)) (drop-cons cs k c lt)
      ∙ ap (λ a. taking formals k b taken (association_view a ∷ map association_view (drop (suc k) cs))) (sym is)

  pub refused_taking : one_taken formals k b taken (association_view c) ≡ None → whole ≡ None
  refused_taking h = here ∙ ap (λ o. o >>= λ ns. taking formals (suc k) (is_named (association_view c)) ns (map association_view (drop (suc k) cs))) h

  pub taking_here : (b' : Bool) → b' ≡ is_named (association_view c) → (taken' : List Name) → one_taken formals k b taken (association_view c) ≡ Some taken'
      → whole ≡ taking formals (k + 1) b' taken' (map association_view (drop (k + 1) cs))
  taking_here b' e taken' h =
      let s : suc k ≡ k + 1 = omega arith in
      here ∙ ap (λ o. o >>= λ ns. taking formals (suc k) (is_named (association_view c)) ns (map association_view (drop (suc k) cs))) h
      ∙ ap (λ b. taking formals (suc k) b taken' (map association_view (drop (suc k) cs))) (sym e)
      ∙ ap (λ j. taking formals j b' taken' (map association_view (drop j cs))) s

-- ---- what is told of one association

module _ (formals : List Name) (k : ℕ) (behind : Bool) (taken : List Name) (a : Association) (f : NameFault) where
  abbrev place : ℕ
  place = association_place a

  abbrev formal : Option Name
  formal = formal_at formals k a.formal

  abbrev known : Name → Broken
  known n = unless Undeclared place (is_among n formals)

  abbrev new : Name → Broken
  new n = unless Twice place (not (is_among n taken))

  abbrev of_formal : Name → Broken
  of_formal n = known n ▸ new n

  abbrev in_place : Broken
  in_place = unless WrongKind place (not behind || is_named a)

  abbrev has_formal : Broken
  has_formal = lacking WrongKind place formal

  pub behind_told : (not behind || is_named a) ≡ false → Tells (refused WrongKind place) f → Tells (one_association formals k behind taken a) f
  behind_told h w = told_left in_place (has_formal ▸ where_given formal of_formal) f (told_unless WrongKind place (not behind || is_named a) f (λ m. h) w)

  module _ (h : (not behind || is_named a) ≡ true) where
    in_its_place : IsKept in_place
    in_its_place = unless_kept WrongKind place (not behind || is_named a) h

    pub no_formal_told : Tells (lacking WrongKind place formal) f → Tells (one_association formals k behind taken a) f
    no_formal_told w = told_right in_place (has_formal ▸ where_given formal of_formal) f in_its_place (told_left has_formal (where_given formal of_formal) f w)

    formal_told : (n : Name) → formal ≡ Some n → Tells (of_formal n) f → Tells (one_association formals k behind taken a) f
    formal_told n e w =
        told_right in_place (has_formal ▸ where_given formal of_formal) f in_its_place
        (told_right has_formal (where_given formal of_formal) f (lacking_kept WrongKind place formal n e) (told_given of_formal formal n f e w))

    pub unknown_told : (n : Name) → formal ≡ Some n → is_among n formals ≡ false → Tells (refused Undeclared place) f → Tells (one_association formals k behind taken a) f
    unknown_told n e q w = formal_told n e (told_left (known n) (new n) f (told_unless Undeclared place (is_among n formals) f (λ m. q) w))

    pub twice_told : (n : Name) → formal ≡ Some n → is_among n formals ≡ true → Tells (unless Twice place (not (is_among n taken))) f
        → Tells (one_association formals k behind taken a) f
    twice_told n e q w = formal_told n e (told_right (known n) (new n) f (unless_kept Undeclared place (is_among n formals) q) w)
