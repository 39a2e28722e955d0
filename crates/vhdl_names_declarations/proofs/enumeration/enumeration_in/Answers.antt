use Rattle.std.proofs.Common.{arith, ◌≡◌, ◌≢◌, [], ◌∷◌, length, map, Some, None, refl, ap, ◌∙◌, sym, subst}
use Rattle.std.proofs.lemmas.List.{length-map}
use Rattle.vhdl_names_rules.specs.declared.fault.NameFault.TheVariants.{NoMemory}
use Rattle.vhdl_names_rules.specs.Interfaces.{declared_names}
use Rattle.vhdl_names_rules.specs.Rules.{◌>>=◌}
use Rattle.vhdl_names_rules.specs.Declarations as d
use Rattle.vhdl_names_rules.specs.Visibility as visibility
use Rattle.vhdl_names_rules.specs.Visibility.{names_of, declare}
use Rattle.vhdl_tree.specs.View.{ident_view, enumeration_view}
use Rattle.vhdl_names_sight.specs.Views.{region_view}
use Rattle.vhdl_names_declarations.specs.Entered.{more}
use Rattle.vhdl_names_declarations.specs.Enumerating.{enumerated}
use Rattle.vhdl_names_declarations.proofs.Declaring.{too_many, too_many_told, few_enough, enumerated_is, gives_through, itself}
use Rattle.vhdl_names_rules.proofs.Passing.{passed_on, told_by}
use Rattle.vhdl_names_declarations.proofs.enumeration.enumeration_in.Goals as goal
use Rattle.vhdl_names_rules.specs.problems.Broken.{Tells}
use Rattle.vhdl_names_rules.specs.problems.Declarations as broken
use Rattle.vhdl_names_rules.specs.problems.Declarations.{standing_twice}
use Rattle.vhdl_names_rules.proofs.Telling.{told_same, told_on}
use Rattle.vhdl_names_declarations.proofs.Breaking.{twice_more, standing_behind}

pub returns-then-count-gt256-clause-given : goal.returns-then-count-gt256-clause-given
returns-then-count-gt256-clause-given c = λ n.
    let size = length-map c.args.declaration.now.literals.items ident_view in
    too_many (region_view c.args.region.now) c.args.number (enumeration_view c.args.declaration.now) (omega (arith, size))

pub returns-in_err-declare-clause-given : goal.returns-in_err-declare-clause-given
returns-in_err-declare-clause-given c =
    let r = region_view c.args.region.now in
    let d' = enumeration_view c.args.declaration.now in
    let f : c.in_err-declare.field-0.0 ≢ NoMemory → enumerated (region_view c.args.region.now) c.args.number (enumeration_view c.args.declaration.now) ≡ None =
    λ n. enumerated_is r c.args.number c.len-count.result d' (omega (arith, length-map c.args.declaration.now.literals.items ident_view)) (omega arith)
    ∙ ap (λ o. o >>= λ r. more r (d.literals c.args.number c.len-count.result 0 (names_of d'.literals))) (c.in_err-declare.ensures.given n) in
    passed_on _ _ c.in_err-declare.field-0.0 _ c.from_residual.result c.from_residual.ensures.1 (λ e p. p) f

pub returns-then-count-gt256-clause-told : goal.returns-then-count-gt256-clause-told
returns-then-count-gt256-clause-told c =
    let size = length-map c.args.declaration.now.literals.items ident_view in
    subst (Tells (broken.enumeration_in (region_view c.args.region.now) (enumeration_view c.args.declaration.now))) (sym c.at.ensures)
    (too_many_told (region_view c.args.region.now) (enumeration_view c.args.declaration.now) (omega (arith, size)))

pub returns-in_err-declare-clause-told : goal.returns-in_err-declare-clause-told
returns-in_err-declare-clause-told c =
    let r = region_view c.args.region.now in
    let d' = enumeration_view c.args.declaration.now in
    let f : Tells (broken.enumeration_in (region_view c.args.region.now) (enumeration_view c.args.declaration.now)) c.in_err-declare.field-0.0 =
    told_same (standing_twice r (d'.name ∷ d'.literals)) (broken.enumeration_in r d') c.in_err-declare.field-0.0 (sym (few_enough r d' (omega (arith, length-map c.args.declaration.now.literals.items ident_view))))
    (twice_more (declared_names r) (d'.name ∷ []) d'.literals c.in_err-declare.field-0.0 c.in_err-declare.ensures.told) in
    told_by _ c.in_err-declare.field-0.0 _ c.from_residual.result c.from_residual.ensures.1 (λ e p. p) f

pub returns-clause-given : goal.returns-clause-given
returns-clause-given c =
    let r = region_view c.args.region.now in
    let d' = enumeration_view c.args.declaration.now in
    let same : c.len-count.result ≡ length c.deref.result.now = omega (arith, c.deref.ensures.len) in
    let behind = region_view c.declare.new.region in
    gives_through (λ _. region_view c.literals.new.region) (λ _. region_view c.literals.new.region) (more behind (d.literals c.args.number (length c.deref.result.now) 0 (names_of (map ident_view c.deref.result.now)))) _ Some c.literals.result
    (enumerated_is r c.args.number c.len-count.result d' (omega (arith, length-map c.args.declaration.now.literals.items ident_view)) (omega arith)
    ∙ ap (λ o. o >>= λ r. more r (d.literals c.args.number c.len-count.result 0 (names_of d'.literals))) c.in_ok-declare.ensures.given
    ∙ ap (λ k. more behind (d.literals c.args.number k 0 (names_of d'.literals))) same
    ∙ ap (λ l. more behind (d.literals c.args.number (length c.deref.result.now) 0 (names_of (map ident_view l)))) (sym c.deref.ensures.value)
    ∙ itself (more behind (d.literals c.args.number (length c.deref.result.now) 0 (names_of (map ident_view c.deref.result.now)))))
    (λ x. refl) c.literals.ensures.given

pub returns-clause-told : goal.returns-clause-told
returns-clause-told c =
    let r = region_view c.args.region.now in
    let d' = enumeration_view c.args.declaration.now in
    let behind = region_view c.declare.new.region in
    let first = declare d'.name.text (visibility.enumeration_type c.args.number c.len-count.result) in
    told_on (standing_twice behind (map ident_view c.deref.result.now)) (broken.enumeration_in r d') c.literals.result
    (λ f h. told_same (standing_twice behind d'.literals) (broken.enumeration_in r d') f
    (sym (few_enough r d' (omega (arith, length-map c.args.declaration.now.literals.items ident_view)) ∙ standing_behind r (first ∷ []) (d'.name ∷ []) refl behind c.in_ok-declare.ensures.given d'.literals))
    (subst (λ l. Tells (standing_twice behind (map ident_view l)) f) c.deref.ensures.value h))
    c.literals.ensures.told
