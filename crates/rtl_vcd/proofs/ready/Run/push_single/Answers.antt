use Rattle.std.proofs.Common.{◌++◌, ◌∷◌, [], ap, ◌∙◌, slice_index, sym, take}
use Rattle.rtl_vcd_values.specs.Values.{character}
use Rattle.rtl_vcd.specs.Ready.{beginning}
use Rattle.rtl_vcd_values.proofs.Puts.{alone_tells}
use Rattle.rtl_vcd.proofs.Forms.{single_is, line_by, other_by}
use Rattle.rtl_vcd.proofs.ready.Run.push_single.Goals as goal

pub returns-then-not-is_other_character-clause-other : goal.returns-then-not-is_other_character-clause-other
returns-then-not-is_other_character-clause-other c =
    let run = c.args.self.now in
    let old = c.args.old.now in
    let new = c.args.new.now in
    other_by run old new (character (slice_index old run.first) ∷ []) (character (slice_index new run.first) ∷ []) _ (single_is run old c.requires.form) (single_is run new c.requires.form)
    (sym c.if-not-is_other_character.true ∙ c.is_other_character.ensures ∙ alone_tells (character (slice_index old run.first)) (character (slice_index new run.first)))

pub returns-clause-line : goal.returns-clause-line
returns-clause-line c =
    let run = c.args.self.now in
    let new = c.args.new.now in
    c.push_character.ensures ∙ ap (λ x. c.args.page.now ++ x ∷ take run.end.len run.end.bytes) c.character.ensures
    ∙ ap (λ t. c.args.page.now ++ t) (sym (line_by run new [] (character (slice_index new run.first) ∷ []) (ap beginning c.requires.form) (single_is run new c.requires.form)))

pub returns-clause-other : goal.returns-clause-other
returns-clause-other c =
    let run = c.args.self.now in
    let old = c.args.old.now in
    let new = c.args.new.now in
    other_by run old new (character (slice_index old run.first) ∷ []) (character (slice_index new run.first) ∷ []) _ (single_is run old c.requires.form) (single_is run new c.requires.form)
    (sym c.if-not-is_other_character.false ∙ c.is_other_character.ensures ∙ alone_tells (character (slice_index old run.first)) (character (slice_index new run.first)))
