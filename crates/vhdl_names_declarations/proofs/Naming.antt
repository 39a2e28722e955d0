-- Labels of things in a list, thing by thing.
use Rattle.std.proofs.Common.{◌≡◌, ℕ, suc, ◌+◌, ◌<◌, ◌≤◌, List, [], ◌∷◌, ◌++◌, map, length, drop, get_or, Some, Vec, Global, sym, ap, ◌∙◌, arith}
use Rattle.std.specs.Prelude.{bytes_eq}
use Rattle.std.specs.List.{IsDistinct}
use Rattle.std.specs.Map.{keys_of}
use Rattle.std.proofs.Math.Seq.{drop-cons}
use Rattle.std.proofs.lemmas.List.{drop_all, map-append}
use Rattle.vhdl_tree.specs.Tree.{Ident}
use Rattle.vhdl_names_rules.specs.Rules.{◌>>=◌}
use Rattle.vhdl_names_rules.specs.Visibility as visibility
use Rattle.vhdl_names_rules.specs.Visibility.{Name, Declared, names_of}
use Rattle.vhdl_names_rules.specs.Interfaces.{declared_names}
use Rattle.vhdl_names_rules.specs.Files.{labelled}
use Rattle.vhdl_names_rules.specs.declared.fault.NameFault.{NameFault}
use Rattle.vhdl_names_rules.specs.problems.Broken.{Tells}
use Rattle.vhdl_names_rules.specs.problems.Declarations.{standing_twice}
use Rattle.vhdl_names_rules.proofs.Telling.{told_same}
use Rattle.vhdl_names_sight.specs.declared.meaning.Entry.{Entry}
use Rattle.vhdl_names_sight.specs.Views.{entry_view}
use Rattle.vhdl_names_declarations.specs.Entered.{more}
use Rattle.vhdl_names_declarations.proofs.Breaking.{twice_more, standing_behind}
use Rattle.vhdl_names_declarations.proofs.Regions.{more_split, more_none, names_apart, names-all}

pub one_left : {C : Type 0} (cs : List C) (i : ℕ) (c : C) → i < length cs → c ≡ get_or cs i c → drop i cs ≡ c ∷ drop (i + 1) cs
one_left cs i c lt is =
    let n : suc i ≡ i + 1 = omega arith in
    drop-cons cs i c lt ∙ ap (λ k. k ∷ drop (suc i) cs) (sym is) ∙ ap (λ j. c ∷ drop j cs) n

-- labels of one thing and of several, as names and with their bytes
module _ {C : Type 0} (name : C → List Name) (names : List C → List Name) (ident : C → List Ident) (idents : List C → List Ident)
    (more_names : (c : C) (cs : List C) → names (c ∷ cs) ≡ name c ++ names cs) (more_idents : (c : C) (cs : List C) → idents (c ∷ cs) ≡ ident c ++ idents cs)
    (named : (c : C) → names_of (ident c) ≡ name c) where
  module _ (cs : List C) (i : ℕ) (c : C) (lt : i < length cs) (is : c ≡ get_or cs i c) where
    idents_from : idents (drop i cs) ≡ ident c ++ idents (drop (i + 1) cs)
    idents_from = ap idents (one_left cs i c lt is) ∙ more_idents c (drop (i + 1) cs)

    pub one_told : (ds : List Declared) (f : NameFault) → Tells (standing_twice ds (ident c)) f → Tells (standing_twice ds (idents (drop i cs))) f
    one_told ds f h =
        told_same (standing_twice ds (ident c ++ idents (drop (i + 1) cs))) (standing_twice ds (idents (drop i cs))) f
        (ap (standing_twice ds) (sym idents_from)) (twice_more (declared_names ds) (ident c) (idents (drop (i + 1) cs)) f h)

    pub one_behind : (ds r : List Declared) → more ds (labelled (name c)) ≡ Some r → standing_twice ds (idents (drop i cs)) ≡ standing_twice r (idents (drop (i + 1) cs))
    one_behind ds r h =
        ap (standing_twice ds) idents_from
        ∙ standing_behind ds (labelled (name c)) (ident c) (names-all visibility.label (name c) ∙ sym (named c)) r h (idents (drop (i + 1) cs))

    pub next_one : (ds : List Declared) → more ds (labelled (names (drop i cs))) ≡ (more ds (labelled (name c)) >>= λ r. more r (labelled (names (drop (i + 1) cs))))
    next_one ds =
        ap (λ ns. more ds (labelled ns)) (ap names (one_left cs i c lt is) ∙ more_names c (drop (i + 1) cs))
        ∙ ap (more ds) (map-append (λ n. visibility.declare n visibility.label) (name c) (names (drop (i + 1) cs)))
        ∙ more_split ds (labelled (name c)) (labelled (names (drop (i + 1) cs)))

pub none_left : {C : Type 0} (names : List C → List Name) → names [] ≡ [] → (es : List (Vec ℕ Global × Entry)) (cs : List C) (i : ℕ) → length cs ≤ i → IsDistinct (λ a b. bytes_eq a.items b.items) (keys_of es) →
    more (map entry_view es) (labelled (names (drop i cs))) ≡ Some (map entry_view es)
none_left names none es cs i le apart =
    ap (λ l. more (map entry_view es) (labelled (names l))) (drop_all i cs le) ∙ ap (λ l. more (map entry_view es) (labelled l)) none
    ∙ more_none (map entry_view es) (names_apart es apart)
