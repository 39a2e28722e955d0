use Rattle.std.proofs.Common.{List, ap, ◌∙◌}
use Rattle.vhdl_slips.specs.Forms.{FormWord, Said, form_among, form_behind, slips, unexpected_form}
use Rattle.vhdl_slips.specs.declared.slip.TheConstants.{SLIP}
use Rattle.vhdl_slips.specs.declared.unread.Context.{Context}
use Rattle.vhdl_slips.proofs.unread.unexpected_form.Goals as goal

pub returns : goal.returns
unfolding unexpected_form
returns c =
    let language = c.args.language in
    let at = c.context_of-context.result in
    let word = c.args.word.now in
    let form = c.form_among-form.result in
    c.form_among.ensures
    ∙ ap (λ (tables : List (List FormWord)). form_among tables at word (form.0.now, form.1.now)) c.slips.ensures
    ∙ ap (λ (fallback : Said). form_among (slips language) at word fallback)
    (c.form_among-form.ensures ∙ ap (λ (tables : List (List FormWord)). form_among tables at word (SLIP.0.now, SLIP.1.now)) c.unread.ensures)
    ∙ ap (λ (context : Context). form_behind language context word) c.context_of-context.ensures
