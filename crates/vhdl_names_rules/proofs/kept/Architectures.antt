-- Architectures that are given break no rule (IEEE 1076-2008, 3.3).
use Rattle.std.proofs.Common.{◌≡◌, true, cond, List, [], ◌∷◌, ◌++◌, Some, refl, ap, sym, ◌∙◌}
use Rattle.std.proofs.lemmas.List.{append_assoc, append-nil}
use Rattle.vhdl_tree.specs.Tree as t
use Rattle.vhdl_tree.specs.Tree.{ContextItem}
use Rattle.vhdl_names_rules.specs.units.Units as u
use Rattle.vhdl_names_rules.specs.Visibility.{Name, Declared, Sight, declare, label, are_distinct, with_declared, Declares}
use Rattle.vhdl_names_rules.specs.Packages as packages
use Rattle.vhdl_names_rules.specs.Packages.{sight_of}
use Rattle.vhdl_names_rules.specs.Declarations.{in_order}
use Rattle.vhdl_names_rules.specs.Interfaces.{EntityView, declared_names}
use Rattle.vhdl_names_rules.specs.Concurrent.{concurrent_labels}
use Rattle.vhdl_names_rules.specs.Files as are
use Rattle.vhdl_names_rules.specs.Files.{labelled}
use Rattle.vhdl_names_rules.specs.problems.Labels.{labels_of}
use Rattle.vhdl_names_rules.specs.problems.Declarations as declarations
use Rattle.vhdl_names_rules.specs.problems.Declarations.{standing_twice}
use Rattle.vhdl_names_rules.specs.problems.Concurrent.{concurrents}
use Rattle.vhdl_names_rules.specs.problems.Files as broken
use Rattle.vhdl_names_rules.specs.problems.Files.{with_labels}
use Rattle.vhdl_names_rules.proofs.laws.Parts.{region_of, architecture_parts}
use Rattle.vhdl_names_rules.proofs.Telling.{IsKept, both_kept, given_kept}
use Rattle.vhdl_names_rules.proofs.kept.Keeping.{nothing_kept, among_kept}
use Rattle.vhdl_names_rules.proofs.kept.Twice.{twice_kept, apart, distinct_front, names_append}
use Rattle.vhdl_names_rules.proofs.kept.Labels.{labels_named}
use Rattle.vhdl_names_rules.proofs.kept.Declarations.{context_kept, in_region_kept, signals_kept, constants_kept, subtype_declaration_kept, enumeration_kept, end_name_kept}
use Rattle.vhdl_names_rules.proofs.kept.Interfaces.{component_kept}
use Rattle.vhdl_names_rules.proofs.kept.Concurrent.{concurrents_kept}

-- ---- labels of a region

pub names_labelled : (ns : List Name) → declared_names (labelled ns) ≡ ns
names_labelled [] = refl
names_labelled (n ∷ ns) = ap (λ ns. n ∷ ns) (names_labelled ns)

-- labels of names of their own all enter the region
pub labels_enter : (ls : List Name) (region : List Declared) → are_distinct (declared_names region ++ ls) ≡ true → with_labels region ls ≡ region ++ labelled ls
labels_enter [] region e = sym (append-nil region)
labels_enter (l ∷ ls) region e =
    let more : List Declared = region ++ declare l label ∷ [] in
    let names : declared_names more ++ ls ≡ declared_names region ++ l ∷ ls =
    ap (λ ns. ns ++ ls) (names_append region (declare l label ∷ [])) ∙ append_assoc (declared_names region) (l ∷ []) ls in
    ap (λ t. cond t (with_labels region ls) (with_labels more ls)) (apart (declared_names region) l ls e)
    ∙ labels_enter ls more (ap are_distinct names ∙ e) ∙ append_assoc region (declare l label ∷ []) (labelled ls)

-- the names of an entity's region, with its declarations and its labels
pub region_names : (interface declared : List Declared) (labels : List Name)
    → declared_names (interface ++ declared) ++ labels ≡ declared_names (interface ++ (declared ++ labelled labels))
region_names interface declared labels =
    ap (λ ns. declared_names (interface ++ declared) ++ ns) (sym (names_labelled labels)) ∙ sym (names_append (interface ++ declared) (labelled labels))
    ∙ ap declared_names (append_assoc interface declared (labelled labels))

pub region_is : (interface declared : List Declared) (labels : List Name) → are_distinct (declared_names (interface ++ (declared ++ labelled labels))) ≡ true
    → with_labels (interface ++ declared) labels ≡ interface ++ (declared ++ labelled labels)
region_is interface declared labels e =
    labels_enter labels (interface ++ declared) (ap are_distinct (region_names interface declared labels) ∙ e) ∙ append_assoc interface declared (labelled labels)

-- labels that are distinct from the region stand once in it
pub region_labels_kept : (region : List Declared) (cs : t.Concurrents) → are_distinct (declared_names region ++ concurrent_labels cs) ≡ true
    → IsKept (standing_twice region (labels_of cs))
region_labels_kept region cs e = twice_kept (declared_names region) (labels_of cs) (ap (λ ns. are_distinct (declared_names region ++ ns)) (labels_named cs) ∙ e)

-- ---- architectures

pub declaration_kept : (entities : List EntityView) (sight : Sight) (d : t.Declaration) (x : Declares u.Declaration) → are.declaration entities sight d ≡ Some x
    → are_distinct (declared_names (sight.region ++ x.declared)) ≡ true → IsKept (broken.declaration entities sight d)
declaration_kept entities sight (t.signals d) x h distinct = signals_kept sight d x h distinct
declaration_kept entities sight (t.constants d) x h distinct = constants_kept sight d x h distinct
declaration_kept entities sight (t.enumeration d) x h distinct = enumeration_kept sight d x h distinct
declaration_kept entities sight (t.component c) x h distinct = component_kept entities sight c x h distinct
declaration_kept entities sight (t.subtype_of d) x h distinct = subtype_declaration_kept sight d x h distinct
declaration_kept entities sight (t.attribute_of text) x h distinct = nothing_kept

pub declarations_kept : (entities : List EntityView) (sight : Sight) (ds : List t.Declaration) (x : Declares u.Declaration)
    → in_order with_declared (are.declaration entities) sight ds ≡ Some x → are_distinct (declared_names (sight.region ++ x.declared)) ≡ true
    → IsKept (declarations.in_order with_declared (are.declaration entities) (broken.declaration entities) sight ds)
declarations_kept entities sight ds x h distinct = in_region_kept (are.declaration entities) (broken.declaration entities) (declaration_kept entities) ds sight x h distinct

pub architecture_kept : (entities : List EntityView) (e : EntityView) (items : List ContextItem) (a : t.Architecture) (x : u.Architecture)
    → are.architecture entities e items a ≡ Some x → IsKept (broken.architecture entities e items a)
architecture_kept entities e items a x h =
    let p = architecture_parts entities e items a x h in
    let before : List Declared = e.interface.declared in
    let body : t.Concurrents = t.concurrents_of a.statements in
    let labels : List Name = concurrent_labels body in
    let all : are_distinct (declared_names (before ++ p.own.value.declared) ++ labels) ≡ true = ap are_distinct (region_names before p.own.value.declared labels) ∙ p.distinct in
    both_kept _ _ (context_kept items e.context p.seen.value p.seen.is)
    (both_kept _ _
    (given_kept (λ c. broken.architecture_in entities e c a) (packages.context e.context items) p.seen.value p.seen.is
    (both_kept _ _
    (declarations_kept entities (sight_of p.seen.value before) a.declarations p.own.value p.own.is (distinct_front (declared_names (before ++ p.own.value.declared)) labels all))
    (given_kept (λ ds. broken.body entities (sight_of p.seen.value (before ++ ds.declared)) body)
    (in_order with_declared (are.declaration entities) (sight_of p.seen.value before) a.declarations) p.own.value p.own.is
    (among_kept _ _ (region_labels_kept (before ++ p.own.value.declared) body all)
    (ap (λ region. concurrents entities (sight_of p.seen.value region) body) (region_is before p.own.value.declared labels p.distinct)
    ∙ concurrents_kept body entities (sight_of p.seen.value (region_of e p.own.value.declared a)) p.body.value refl p.body.is)))))
    (end_name_kept a.name a.end_name p.ended))
