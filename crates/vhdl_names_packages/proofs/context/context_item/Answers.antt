use Rattle.std.proofs.Common.{◌∷◌, [], map, sym, ap, subst, ◌∙◌}
use Rattle.vhdl_tree.specs.Tree.{library, uses}
use Rattle.vhdl_tree.specs.View as tree
use Rattle.vhdl_names_rules.specs.problems.Broken.{Tells}
use Rattle.vhdl_names_rules.specs.problems.Declarations as broken
use Rattle.vhdl_names_rules.proofs.Telling.{told_on, told_same}
use Rattle.vhdl_names_packages.specs.Contexts.{context_view}
use Rattle.vhdl_names_packages.proofs.Clauses.{broken_by, alone}
use Rattle.vhdl_names_packages.proofs.context.context_item.Goals as goal

pub returns-in-Library-clause-told : goal.returns-in-Library-clause-told
returns-in-Library-clause-told c =
    let b = context_view c.args.before in
    let item = library (map tree.ident_view c.deref.result.now) in
    let is = ap tree.context_view c.in-Library.is ∙ ap (λ l. library (map tree.ident_view l)) (sym c.deref.ensures.value) in
    told_on (broken_by b item) (broken.context b (tree.context_view c.args.item.now ∷ [])) c.libraries.result
    (λ f h. subst (λ i. Tells (broken.context b (i ∷ [])) f) (sym is) (told_same (broken_by b item) (broken.context b (item ∷ [])) f (sym (alone b item)) h)) c.libraries.ensures.told

pub returns-in-Use-clause-told : goal.returns-in-Use-clause-told
returns-in-Use-clause-told c =
    let b = context_view c.args.before in
    let item = uses (map tree.selected_view c.deref-in-Use.result.now) in
    let is = ap tree.context_view c.in-Use.is ∙ ap (λ l. uses (map tree.selected_view l)) (sym c.deref-in-Use.ensures.value) in
    told_on (broken_by b item) (broken.context b (tree.context_view c.args.item.now ∷ [])) c.uses.result
    (λ f h. subst (λ i. Tells (broken.context b (i ∷ [])) f) (sym is) (told_same (broken_by b item) (broken.context b (item ∷ [])) f (sym (alone b item)) h)) c.uses.ensures.told
