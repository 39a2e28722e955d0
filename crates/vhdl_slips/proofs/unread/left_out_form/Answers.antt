use Rattle.std.proofs.Common.{List, ap, ◌∙◌}
use Rattle.vhdl_slips.specs.Forms.{FormWord, form_among, left_out, left_out_form}
use Rattle.vhdl_slips.specs.declared.form.TheConstants.{OTHER}
use Rattle.vhdl_slips.specs.declared.unread.Context.{Context}
use Rattle.vhdl_slips.proofs.unread.left_out_form.Goals as goal

pub returns : goal.returns
unfolding left_out_form
returns c =
    c.form_among.ensures
    ∙ ap (λ (tables : List (List FormWord)). form_among tables c.context_of.result c.args.word.now (OTHER.0.now, OTHER.1.now)) c.left_out.ensures
    ∙ ap (λ (context : Context). form_among (left_out c.args.language) context c.args.word.now (OTHER.0.now, OTHER.1.now)) c.context_of.ensures
