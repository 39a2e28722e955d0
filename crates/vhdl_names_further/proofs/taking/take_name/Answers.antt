use Rattle.std.proofs.Common.{refl, sym, ◌∙◌, None, slice_index_or, arith}
use Rattle.std.proofs.lemmas.Bool.{false≢true}
use Rattle.vhdl_lexer.proofs.Reached.{cut_within}
use Rattle.vhdl_lexer.proofs.Walks.{depth_within}
use Rattle.vhdl_names_further.proofs.Walks.{out_more, rest_within, uses_more, walked_more, walked_none}
use Rattle.vhdl_names_further.proofs.taking.take_name.Goals as goal

pub loop-others-init : goal.loop-others-init
loop-others-init c = record {
  same = refl;
  walked = walked_none c.args.source.now c.args.tokens.now c.requires;
  out = λ out. absurd (false≢true out);
  within = cut_within c.args.source.now None 0 c.args.source.now c.args.tokens.now (omega arith) c.requires;
  few = omega arith;
}

pub loop-others-preserved : goal.loop-others-preserved
loop-others-preserved c =
    let ts = c.loop-others.others.now in
    let held = c.loop-others.invariant in
    rw (c.begun-here.ensures, c.is_still-is_out.ensures, c.begins_behind-begins.ensures, c.depth_behind-depth.ensures) record {
      same = uses_more _ _ _ _ _ _ _ _ _ _ ts c.in-len1-up.len_at_least held.walked (sym c.ends_unit.ensures ∙ c.if-ends_unit.false)
          (rw c.is_named.ensures at c.take_once-is_out.ensures.taken) ∙ held.same;
      walked = walked_more _ _ _ _ _ ts c.in-len1-up.len_at_least held.walked;
      out = out_more _ _ _ _ _ c.take_once-is_out.ensures.out;
      within = rest_within _ ts c.in-len1-up.len_at_least held.within;
      few = depth_within _ _ c.loop-others.last (slice_index_or ts 0 _).kind ts c.in-len1-up.len_at_least held.few;
    }
