-- Of labels one behind another the first that stands twice is told.
use Rattle.std.proofs.Common.{◌≡◌, ℕ, ◌+◌, ◌<◌, Bool, true, false, not, cond, List, [], ◌∷◌, ◌++◌, map, length, get_or, drop, Option, Some, None, refl, ap, sym, ◌∙◌}
use Rattle.std.proofs.lemmas.List.{append_assoc, append-nil}
use Rattle.vhdl_tree.specs.Tree as t
use Rattle.vhdl_tree.specs.Tree.{Ident}
use Rattle.vhdl_names_rules.specs.declared.fault.NameFault.{NameFault}
use Rattle.vhdl_names_rules.specs.declared.fault.NameFault.TheVariants.{At, NoMemory}
use Rattle.vhdl_names_rules.specs.declared.fault.NameProblem.{NameProblem}
use Rattle.vhdl_names_rules.specs.declared.fault.NameProblem.TheVariants.{Twice}
use Rattle.vhdl_names_rules.specs.Rules.{◌>>=◌, then_some}
use Rattle.vhdl_names_rules.specs.Visibility.{Name, names_of, is_among}
use Rattle.vhdl_names_rules.specs.Statements as are
use Rattle.vhdl_names_rules.specs.problems.Broken.{Tells, nothing, refused, unless}
use Rattle.vhdl_names_rules.specs.problems.Labels.{label_if_any, inner_labels, statement_labels, conditional_labels, alternative_labels}
use Rattle.vhdl_names_rules.specs.problems.Twice.{twice}
use Rattle.vhdl_names_rules.proofs.Telling.{told_same}
use Rattle.vhdl_names_rules.proofs.kept.Labels.{statements_named}
use Rattle.vhdl_names_units.specs.Lists.{in_turn}
use Rattle.vhdl_names_units.proofs.Behind.{next}
use Rattle.vhdl_names.specs.steps.Labels.{with_statements, with_branch}
use Rattle.vhdl_names.proofs.Labelling.{each_statement, each_branch}
use Rattle.vhdl_names_units.specs.Once.{one_name}

pub label_told : (names : List Name) (i : Ident) → unless Twice i.at (not (is_among i.text names)) ≡ twice names (i ∷ [])
label_told names i = go (is_among i.text names)
  where
    go : (b : Bool) → unless Twice i.at (not b) ≡ cond b (refused Twice i.at) nothing
    go true = refl
    go false = refl

-- behind labels that are taken
pub twice_past : (names : List Name) (is js : List Ident) (new : List Name) → in_turn one_name names (names_of is) ≡ Some new → twice names (is ++ js) ≡ twice new js
twice_past names [] js new e = let same : names ≡ new = cc in ap (λ n. twice n js) same
twice_past names (i ∷ is) js new e = go (is_among i.text names) refl e (twice_past (names ++ i.text ∷ []) is js new)
  where
    go : (b : Bool) → is_among i.text names ≡ b → (then_some (not b) (names ++ i.text ∷ []) >>= λ z. in_turn one_name z (names_of is)) ≡ Some new
        → (in_turn one_name (names ++ i.text ∷ []) (names_of is) ≡ Some new → twice (names ++ i.text ∷ []) (is ++ js) ≡ twice new js)
        → twice names (i ∷ (is ++ js)) ≡ twice new js
    go true h k rest = absurd cc
    go false h k rest = ap (λ t. cond t (refused Twice i.at) (twice (names ++ i.text ∷ []) (is ++ js))) h ∙ rest k

first_twice : (names : List Name) (is js : List Ident) (x : NameProblem × ℕ) → twice names is ≡ Some x → twice names (is ++ js) ≡ Some x
first_twice names [] js x e = absurd cc
first_twice names (i ∷ is) js x e = go (is_among i.text names) refl e (first_twice (names ++ i.text ∷ []) is js x)
  where
    go : (b : Bool) → is_among i.text names ≡ b → cond b (refused Twice i.at) (twice (names ++ i.text ∷ []) is) ≡ Some x
        → (twice (names ++ i.text ∷ []) is ≡ Some x → twice (names ++ i.text ∷ []) (is ++ js) ≡ Some x) → twice names (i ∷ (is ++ js)) ≡ Some x
    go true h k rest = ap (λ t. cond t (refused Twice i.at) (twice (names ++ i.text ∷ []) (is ++ js))) h ∙ k
    go false h k rest = ap (λ t. cond t (refused Twice i.at) (twice (names ++ i.text ∷ []) (is ++ js))) h ∙ rest k

pub twice_before : (names : List Name) (is js : List Ident) (f : NameFault) → Tells (twice names is) f → Tells (twice names (is ++ js)) f
twice_before names is js (At p at) h = first_twice names is js (p, at) h
twice_before names is js NoMemory h = tt

-- ---- things with labels, one behind another

module _ {A B : Type 0} (view : A → B) (labels : B → List Ident) (all : List B → List Ident) (split : (b : B) (bs : List B) → all (b ∷ bs) ≡ labels b ++ all bs) where
  module _ (xs : List A) (i : ℕ) (x : A) (lt : i < length xs) (is : x ≡ get_or xs i x) where
    parted : (keys : List Name) → twice keys (all (map view (drop i xs))) ≡ twice keys (labels (view x) ++ all (map view (drop (i + 1) xs)))
    parted keys = ap (λ ys. twice keys (all (map view ys))) (next xs i x lt is) ∙ ap (twice keys) (split (view x) (map view (drop (i + 1) xs)))

    pub item_told : (old keys : List Name) (f : NameFault) → twice old (all (map view xs)) ≡ twice keys (all (map view (drop i xs)))
        → Tells (twice keys (labels (view x))) f → Tells (twice old (all (map view xs))) f
    item_told old keys f inv h =
        told_same (twice keys (labels (view x) ++ all (map view (drop (i + 1) xs)))) (twice old (all (map view xs))) f (sym (inv ∙ parted keys))
        (twice_before keys (labels (view x)) (all (map view (drop (i + 1) xs))) f h)

    pub item_left : (old keys new : List Name) → twice old (all (map view xs)) ≡ twice keys (all (map view (drop i xs)))
        → in_turn one_name keys (names_of (labels (view x))) ≡ Some new → twice old (all (map view xs)) ≡ twice new (all (map view (drop (i + 1) xs)))
    item_left old keys new inv h = inv ∙ parted keys ∙ twice_past keys (labels (view x)) (all (map view (drop (i + 1) xs))) new h

    pub item_given : (f : List Name → B → Option (List Name)) (old keys new : List Name) → in_turn f old (map view xs) ≡ in_turn f keys (map view (drop i xs))
        → f keys (view x) ≡ Some new → in_turn f old (map view xs) ≡ in_turn f new (map view (drop (i + 1) xs))
    item_given f old keys new inv h =
        inv ∙ ap (λ ys. in_turn f keys (map view ys)) (next xs i x lt is) ∙ ap (λ o. o >>= λ z. in_turn f z (map view (drop (i + 1) xs))) h

-- of statements

abbrev pub of_statement : t.Sequential → List Ident
of_statement q = label_if_any q.label ++ inner_labels q.statement

abbrev pub of_statements : List t.Sequential → List Ident
of_statements qs = statement_labels (t.statements_of qs)

pub statement_split : (q : t.Sequential) (qs : List t.Sequential) → of_statements (q ∷ qs) ≡ of_statement q ++ of_statements qs
statement_split q qs = sym (append_assoc (label_if_any q.label) (inner_labels q.statement) (of_statements qs))

pub statement_named : (q : t.Sequential) → names_of (of_statement q) ≡ are.label_names q.label ++ are.inner_labels q.statement
statement_named q =
    ap (λ is. names_of (label_if_any q.label ++ is)) (sym (append-nil (inner_labels q.statement)))
    ∙ statements_named (t.step q.label q.statement t.done)
    ∙ ap (λ ns. are.label_names q.label ++ ns) (append-nil (are.inner_labels q.statement))

pub statements_listed : (keys new : List Name) (qs : List t.Sequential) → with_statements keys qs ≡ Some new → in_turn one_name keys (names_of (of_statements qs)) ≡ Some new
statements_listed keys new qs h = ap (in_turn one_name keys) (statements_named (t.statements_of qs)) ∙ each_statement keys qs ∙ h

-- of branches and alternatives

abbrev pub of_branches : List t.Conditional → List Ident
of_branches bs = conditional_labels (t.conditionals_of bs)

abbrev pub of_branch : t.Conditional → List Ident
of_branch b = of_statements b.statements

pub branch_split : (b : t.Conditional) (bs : List t.Conditional) → of_branches (b ∷ bs) ≡ of_branch b ++ of_branches bs
branch_split b bs = refl

branches_named : (bs : t.Conditionals) → names_of (conditional_labels bs) ≡ are.conditional_labels bs
branches_named bs =
    ap names_of (sym (append-nil (conditional_labels bs ++ []) ∙ append-nil (conditional_labels bs)))
    ∙ statements_named (t.step None (t.if_of 0 bs t.no_else None) t.done)
    ∙ append-nil (are.conditional_labels bs ++ []) ∙ append-nil (are.conditional_labels bs)

pub branches_listed : (keys new : List Name) (bs : List t.Conditional) → in_turn with_branch keys bs ≡ Some new → in_turn one_name keys (names_of (of_branches bs)) ≡ Some new
branches_listed keys new bs h = ap (in_turn one_name keys) (branches_named (t.conditionals_of bs)) ∙ each_branch keys bs ∙ h

abbrev pub of_alternatives : List t.Alternative → List Ident
of_alternatives as' = alternative_labels (t.alternatives_of as')

abbrev pub of_alternative : t.Alternative → List Ident
of_alternative a = of_statements a.statements

pub alternative_split : (a : t.Alternative) (as' : List t.Alternative) → of_alternatives (a ∷ as') ≡ of_alternative a ++ of_alternatives as'
alternative_split a as' = refl
