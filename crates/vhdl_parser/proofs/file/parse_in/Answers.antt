use Rattle.std.proofs.Common.{◌≡◌, ℕ, [], Err, refl, sym, ap, ◌∙◌, subst, arith}
use Rattle.vhdl_parser_expressions.specs.declared.stop.Stop.{Stop}
use Rattle.vhdl_parser_expressions.specs.declared.stop.Stop.TheVariants.{TooDeep, NoMemory}
use Rattle.vhdl_parser_expressions.specs.reader.Input.{IsRefused}
use Rattle.vhdl_tree.specs.Levels.{IsShallow, IsDeep}
use Rattle.vhdl_tree.specs.Pieces.{Spells}
use Rattle.vhdl_tree.specs.View.{file_view}
use Rattle.vhdl_tree.specs.grammar.Units.{spell_file}
use Rattle.vhdl_parser.specs.reader.Units.{file}
use Rattle.vhdl_parser.proofs.Stuck.{is_stuck}
use Rattle.vhdl_parser.proofs.Files.{file_made, file_only, file_refused, file_deep}
use Rattle.vhdl_tree.proofs.HeightsFiles.{file_height_bounded}
use Rattle.vhdl_tree.proofs.Narrow.{files_are_wide}
use Rattle.vhdl_parser.proofs.file.parse_in.Goals as goal

not_memory : ◌≡◌ {A = Stop} TooDeep NoMemory → ⊥
not_memory e = let impossible : ◌≡◌ {A = ℕ} 0 1 = cc in omega (arith, impossible)

pub returns-in-Ok-clause-spelled : goal.returns-in-Ok-clause-spelled
returns-in-Ok-clause-spelled c = subst (λ ts. Spells (spell_file (file_view c.in-Ok.file)) ts []) c.new-parser.ensures (file_made c.args.language _ _ _ c.in-Ok.ensures).spelled

pub returns-in-Ok-clause-well_formed : goal.returns-in-Ok-clause-well_formed
returns-in-Ok-clause-well_formed c = (file_made c.args.language _ _ _ c.in-Ok.ensures).formed

pub returns-in-Ok-clause-only : goal.returns-in-Ok-clause-only
returns-in-Ok-clause-only c other good s = file_only c.args.language _ _ _ c.in-Ok.ensures other good (rw c.new-parser.ensures s)

pub returns-in-Ok-clause-shallow : goal.returns-in-Ok-clause-shallow
returns-in-Ok-clause-shallow c = subst (IsShallow 64) c.new-parser.ensures (file_made c.args.language _ _ _ c.in-Ok.ensures).shallow

pub returns-in-Ok-clause-low : goal.returns-in-Ok-clause-low
returns-in-Ok-clause-low c =
    let made = file_made c.args.language _ _ _ c.in-Ok.ensures in
    file_height_bounded c.in-Ok.file 64 _ (files_are_wide c.args.language (file_view c.in-Ok.file) made.formed) made.spelled made.shallow

pub returns-in-Err-clause-refused : goal.returns-in-Err-clause-refused
returns-in-Err-clause-refused c r other good s =
    let why = c.fault_at.ensures.refusal r in
    file_refused c.args.language _ _ _ (c.in-Err.ensures why.0) why.1 other good (rw c.new-parser.ensures s)

pub returns-in-Err-clause-deep : goal.returns-in-Err-clause-deep
returns-in-Err-clause-deep c d =
    let is = c.fault_at.ensures.deep d in
    subst (IsDeep 64) c.new-parser.ensures (file_deep c.args.language _ _ (c.in-Err.ensures (λ e. not_memory (sym is ∙ e)) ∙ ap (λ s. Err (s, c.file.new.parser)) is))

refused_is : (why : Stop) → (why ≡ NoMemory → ⊥) → (why ≡ TooDeep → ⊥) → IsRefused why
refused_is TooDeep enough shallow = absurd (shallow refl)
refused_is NoMemory enough shallow = absurd (enough refl)
refused_is _ enough shallow = tt

pub returns-in-Err-clause-stuck : goal.returns-in-Err-clause-stuck
returns-in-Err-clause-stuck c =
    is_stuck c.args.language _ _ _ _ _ _ c.fault_at.ensures.behind (omega (arith, c.saturating_sub-met.ensures, c.left.ensures))
    (λ r. let why = c.fault_at.ensures.refusal r in (refused_is _ why.0 why.1, subst (λ ts. file c.args.language ts ≡ Err (c.in-Err.stop, c.file.new.parser)) c.new-parser.ensures (c.in-Err.ensures why.0)))
