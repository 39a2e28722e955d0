-- Architectures that break no rule are given (IEEE 1076-2008, 3.3).
use Rattle.std.proofs.Common.{◌≡◌, true, List, [], ◌++◌, refl, ap, sym, ◌∙◌}
use Rattle.std.proofs.lemmas.List.{append-nil}
use Rattle.vhdl_tree.specs.Tree as t
use Rattle.vhdl_tree.specs.Tree.{ContextItem}
use Rattle.vhdl_names_rules.specs.Visibility.{Name, Declared, Sight, are_distinct, ends, with_declared}
use Rattle.vhdl_names_rules.specs.Packages as packages
use Rattle.vhdl_names_rules.specs.Packages.{sight_of}
use Rattle.vhdl_names_rules.specs.Declarations.{in_order}
use Rattle.vhdl_names_rules.specs.Interfaces.{EntityView, declared_names}
use Rattle.vhdl_names_rules.specs.Concurrent as concurrent
use Rattle.vhdl_names_rules.specs.Concurrent.{concurrent_labels}
use Rattle.vhdl_names_rules.specs.Files as are
use Rattle.vhdl_names_rules.specs.Files.{labelled}
use Rattle.vhdl_names_rules.specs.problems.Broken.{Broken}
use Rattle.vhdl_names_rules.specs.problems.Labels.{labels_of}
use Rattle.vhdl_names_rules.specs.problems.Declarations.{standing_twice}
use Rattle.vhdl_names_rules.specs.problems.Concurrent.{concurrents}
use Rattle.vhdl_names_rules.specs.problems.Files as broken
use Rattle.vhdl_names_rules.specs.problems.Files.{with_labels}
use Rattle.vhdl_names_rules.proofs.Telling.{IsKept}
use Rattle.vhdl_names_rules.proofs.kept.Keeping.{among_left, among_right}
use Rattle.vhdl_names_rules.proofs.kept.Twice.{once_distinct}
use Rattle.vhdl_names_rules.proofs.kept.Labels.{labels_named}
use Rattle.vhdl_names_rules.proofs.kept.Architectures.{region_names, region_is}
use Rattle.vhdl_names_laws.proofs.given.Giving.{IsGiven, this, bound, ruled, parts, of_given}
use Rattle.vhdl_names_laws.proofs.given.Declarations.{IsApart, context_given, in_region_given, signals_given, constants_given, subtype_declaration_given, enumeration_given, end_name_given}
use Rattle.vhdl_names_laws.proofs.given.Interfaces.{component_given}
use Rattle.vhdl_names_laws.proofs.given.Concurrent.{concurrents_given}

declaration_given : (entities : List EntityView) (sight : Sight) (d : t.Declaration) → are_distinct (declared_names sight.region) ≡ true
    → IsKept (broken.declaration entities sight d) → IsApart sight.region (are.declaration entities sight d)
declaration_given entities sight (t.signals d) distinct h = signals_given sight d distinct h
declaration_given entities sight (t.constants d) distinct h = constants_given sight d distinct h
declaration_given entities sight (t.enumeration d) distinct h = enumeration_given sight d distinct h
declaration_given entities sight (t.component c) distinct h = component_given entities sight c distinct h
declaration_given entities sight (t.subtype_of d) distinct h = subtype_declaration_given sight d distinct h
declaration_given entities sight (t.attribute_of text) distinct h = record {
  value = record { declared = []; analysed = [] };
  is = refl;
  distinct = ap (λ ds. are_distinct (declared_names ds)) (append-nil sight.region) ∙ distinct;
}

-- the entity's own names are distinct
pub architecture_given : (entities : List EntityView) (e : EntityView) (items : List ContextItem) (a : t.Architecture)
    → are_distinct (declared_names e.interface.declared) ≡ true → IsKept (broken.architecture entities e items a) → IsGiven (are.architecture entities e items a)
unfolding are.architecture
architecture_given entities e items a own h =
    let before : List Declared = e.interface.declared in
    let body : t.Concurrents = t.concurrents_of a.statements in
    let labels : List Name = concurrent_labels body in
    let k = parts _ _ h in
    let l = parts _ _ k.1 in
    let c = context_given items e.context k.0 in
    let n = parts _ _ (of_given (λ c. broken.architecture_in entities e c a) (packages.context e.context items) c.value c.is l.0) in
    let ds = in_region_given (are.declaration entities) (broken.declaration entities) (declaration_given entities) a.declarations (sight_of c.value before) own n.0 in
    let declared : List Declared = before ++ ds.value.declared in
    let region : List Declared = before ++ (ds.value.declared ++ labelled labels) in
    let whole = of_given (λ ds. broken.body entities (sight_of c.value (before ++ ds.declared)) body)
    (in_order with_declared (are.declaration entities) (sight_of c.value before) a.declarations) ds.value ds.is n.1 in
    let inner : Broken = concurrents entities (sight_of c.value (with_labels declared labels)) body in
    let once = once_distinct (declared_names declared) (labels_of body) ds.distinct (among_left (standing_twice declared (labels_of body)) inner whole) in
    let distinct : are_distinct (declared_names region) ≡ true =
    ap are_distinct (sym (region_names before ds.value.declared labels)) ∙ ap (λ ns. are_distinct (declared_names declared ++ ns)) (sym (labels_named body)) ∙ once in
    let statements = concurrents_given body entities (sight_of c.value region) refl
    (ap (λ region. concurrents entities (sight_of c.value region) body) (sym (region_is before ds.value.declared labels distinct))
    ∙ among_right (standing_twice declared (labels_of body)) inner whole) in
    bound (packages.context e.context items) _ c.value c.is
    (bound (in_order with_declared (are.declaration entities) (sight_of c.value before) a.declarations) _ ds.value ds.is
    (ruled (are_distinct (declared_names region)) _ distinct
    (bound (concurrent.concurrents entities (sight_of c.value region) body) _ statements.value statements.is
    (ruled (ends a.name.text a.end_name) _ (end_name_given a.name a.end_name l.1) (this _)))))
