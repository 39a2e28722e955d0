use Rattle.std.proofs.Common.{IfErr, sym, subst, ◌∙◌}
use Rattle.std.specs.Prelude.{if◌then◌else◌}
use Rattle.vhdl_tree.specs.View as tree
use Rattle.vhdl_names_rules.specs.Gives.{Gives}
use Rattle.vhdl_names_rules.specs.problems.Broken.{Tells, nothing}
use Rattle.vhdl_names_sight.specs.Views.{entry_of}
use Rattle.vhdl_names_declarations.specs.Subtyping as typed
use Rattle.vhdl_names_declarations.proofs.subtypes.others.Goals as goal

pub returns-then-is_open-clause-given : goal.returns-then-is_open-clause-given
returns-then-is_open-clause-given c = λ n.
    let s = c.args.sight.now in
    let d = tree.subtype_declaration_view c.args.declaration.now in
    let m = entry_of n c.args.mark.now in
    subst (λ b. Gives typed.subtype_view (if b then typed.as_it_was s d m else typed.constrained s d m) c.as_it_was.result)
    (sym (sym (c.is_open.ensures n) ∙ c.if-is_open.true)) (c.as_it_was.ensures.given n)

pub returns-else-is_open-clause-given : goal.returns-else-is_open-clause-given
returns-else-is_open-clause-given c = λ n.
    let s = c.args.sight.now in
    let d = tree.subtype_declaration_view c.args.declaration.now in
    let m = entry_of n c.args.mark.now in
    subst (λ b. Gives typed.subtype_view (if b then typed.as_it_was s d m else typed.constrained s d m) c.constrained.result)
    (sym (sym (c.is_open.ensures n) ∙ c.if-is_open.false)) (c.constrained.ensures.given n)

pub returns-else-is_open-clause-told : goal.returns-else-is_open-clause-told
returns-else-is_open-clause-told c = λ n.
    let breaks = typed.constrained_break c.args.sight.now (tree.subtype_declaration_view c.args.declaration.now) in
    subst (λ b. IfErr c.constrained.result (Tells (if b then nothing else breaks))) (sym (sym (c.is_open.ensures n) ∙ c.if-is_open.false)) c.constrained.ensures.told
