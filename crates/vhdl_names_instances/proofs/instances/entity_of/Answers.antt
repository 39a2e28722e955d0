use Rattle.std.proofs.Common.{rules, arith, ◌≡◌, true, false, refl, ap, sym, ◌∙◌, subst}
use Rattle.std.proofs.lemmas.Grind.{common_steps}
use Rattle.std.specs.Prelude.{option_map, bytes_eq, codes}
use Rattle.std.specs.List.{position_from}
use Rattle.vhdl_tree.specs.View as tree
use Rattle.vhdl_names_rules.specs.declared.fault.NameProblem.TheVariants.{Undeclared}
use Rattle.vhdl_names_units.specs.Once.{names_view}
use Rattle.vhdl_names_rules.specs.problems.Broken.{◌▸◌, Tells, refused, unless, lacking, where_given}
use Rattle.vhdl_names_rules.proofs.Telling.{unless_kept, lacking_kept, told_left, told_right, told_given, told_on, told_unless, told_lacking}
use Rattle.vhdl_names_instances.specs.Table.{seens_view}
use Rattle.vhdl_names_instances.specs.Breaking as breaking
use Rattle.vhdl_names_instances.proofs.instances.entity_of.Goals as goal

pub returns-in-None-clause-told : goal.returns-in-None-clause-told
returns-in-None-clause-told c =
    let q : bytes_eq c.args.library.now.text.items (codes "work") ≡ true = first_of (cc, search rules, grind (arith, common_steps)) in
    told_right _ _ _ (unless_kept Undeclared _ _ q)
    (told_left _ _ _ (told_lacking Undeclared _ _ _
    (λ m. sym (c.in-None.ensures ∙ ap (λ n. position_from (bytes_eq n) 0 (names_view c.args.entities.now.names)) c.deref-2.ensures.value))
    (subst (Tells (refused Undeclared c.args.name.now.at)) (sym c.at-in-None.ensures) refl)))

pub returns-in-Some-clause-told : goal.returns-in-Some-clause-told
returns-in-Some-clause-told c =
    let a = option_map tree.ident_view c.args.architecture.now in
    let at = c.args.name.now.at in
    let o = position_from (bytes_eq c.args.name.now.text.items) 0 (names_view c.args.entities.now.names) in
    let q : bytes_eq c.args.library.now.text.items (codes "work") ≡ true = first_of (cc, search rules, grind (arith, common_steps)) in
    let of_library = unless Undeclared c.args.library.now.at (bytes_eq c.args.library.now.text.items (codes "work")) in
    let with_one = breaking.with_architecture (seens_view c.args.entities.now.formals) a at in
    let is = sym (c.in-Some.ensures ∙ ap (λ n. position_from (bytes_eq n) 0 (names_view c.args.entities.now.names)) c.deref-2.ensures.value) in
    told_on (with_one c.in-Some.number) (of_library ▸ lacking Undeclared at o ▸ where_given o with_one) c.with_architecture.result
    (λ f w. told_right of_library (lacking Undeclared at o ▸ where_given o with_one) f
    (unless_kept Undeclared c.args.library.now.at (bytes_eq c.args.library.now.text.items (codes "work")) q)
    (told_right (lacking Undeclared at o) (where_given o with_one) f (lacking_kept Undeclared at o c.in-Some.number is) (told_given with_one o c.in-Some.number f is w)))
    c.with_architecture.ensures.told

pub returns-then-not-is_text-clause-told : goal.returns-then-not-is_text-clause-told
returns-then-not-is_text-clause-told c =
    let a = option_map tree.ident_view c.args.architecture.now in
    let at = c.args.name.now.at in
    let o = position_from (bytes_eq c.args.name.now.text.items) 0 (names_view c.args.entities.now.names) in
    let q : bytes_eq c.args.library.now.text.items (codes "work") ≡ false = first_of (cc, search rules, grind (arith, common_steps)) in
    told_left (unless Undeclared c.args.library.now.at (bytes_eq c.args.library.now.text.items (codes "work")))
    (lacking Undeclared at o ▸ where_given o (breaking.with_architecture (seens_view c.args.entities.now.formals) a at)) c.at.result
    (told_unless Undeclared c.args.library.now.at (bytes_eq c.args.library.now.text.items (codes "work")) c.at.result (λ m. q)
    (subst (Tells (refused Undeclared c.args.library.now.at)) (sym c.at.ensures) refl))
