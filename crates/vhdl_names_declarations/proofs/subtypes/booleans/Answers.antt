use Rattle.std.proofs.Common.{arith, ◌≡◌, true, false, sym, subst, ◌∙◌}
use Rattle.std.proofs.lemmas.Grind.{common_steps}
use Rattle.std.specs.Prelude.{not, is_some}
use Rattle.vhdl_tree.specs.View as tree
use Rattle.vhdl_names_rules.specs.declared.fault.NameProblem.TheVariants.{LeftOut}
use Rattle.vhdl_names_rules.specs.Gives.{Gives}
use Rattle.vhdl_names_rules.specs.Rules.{◌>>◌, rule}
use Rattle.vhdl_names_rules.specs.problems.Broken.{Tells}
use Rattle.vhdl_names_sight.specs.Views.{entry_of}
use Rattle.vhdl_names_declarations.specs.Subtyping as typed
use Rattle.vhdl_names_declarations.proofs.Constancy.{constrained}
use Rattle.vhdl_names_declarations.proofs.Counting.{some_seen}
use Rattle.vhdl_names_declarations.proofs.Breaking.{memory_only}
use Rattle.vhdl_names_declarations.proofs.subtypes.booleans.Goals as goal

pub returns-then-is_some-clause-told : goal.returns-then-is_some-clause-told
returns-then-is_some-clause-told c =
    let d = tree.subtype_declaration_view c.args.declaration.now in
    let there : is_some c.args.declaration.now.subtype.constraint ≡ true = grind (arith, common_steps) in
    subst (Tells (typed.booleans_break d)) (sym c.at.ensures) (constrained d.subtype.mark d.subtype.constraint (sym (some_seen tree.constraint_view c.args.declaration.now.subtype.constraint) ∙ there))

pub returns-clause-told : goal.returns-clause-told
returns-clause-told c = memory_only (typed.booleans_break (tree.subtype_declaration_view c.args.declaration.now)) c.as_it_was.result c.as_it_was.ensures.told

pub returns-clause-given : goal.returns-clause-given
returns-clause-given c = λ n.
    let d = tree.subtype_declaration_view c.args.declaration.now in
    let gone : is_some c.args.declaration.now.subtype.constraint ≡ false = grind (arith, common_steps) in
    subst (λ b. Gives typed.subtype_view (rule LeftOut (not b) >> typed.as_it_was c.args.sight.now d (entry_of n c.args.mark.now)) c.as_it_was.result)
    (sym (sym (some_seen tree.constraint_view c.args.declaration.now.subtype.constraint) ∙ gone)) (c.as_it_was.ensures.given n)
