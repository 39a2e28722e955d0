use Rattle.std.proofs.Common.{slice_index_or, sym, ◌∙◌}
use Rattle.vhdl_parser_further.proofs.Walks.{statement_more, open_within, parens_within}
use Rattle.vhdl_parser_further.proofs.statement.behind_statement.Goals as goal

pub loop-left-preserved : goal.loop-left-preserved
loop-left-preserved c =
    let at = c.loop-left in
    rw (c.open_behind-opened.ensures, c.parens_behind-parens.ensures) (
      statement_more c.args.sequel at.opened at.parens at.last _ at.left.now c.in-len1-up.len_at_least
          (sym c.ends_behind.ensures ∙ c.if-ends_behind.false) (sym c.ends_before.ensures ∙ c.if-ends_before.false) ∙ at.invariant.0,
      open_within at.opened _ at.last (slice_index_or at.left.now 0 _).kind at.left.now c.in-len1-up.len_at_least at.invariant.1,
      parens_within at.parens _ (slice_index_or at.left.now 0 _).kind at.left.now c.in-len1-up.len_at_least at.invariant.2,
    )
