use Rattle.std.proofs.Common.{refl, sym, ◌∙◌}
use Rattle.std.proofs.lemmas.Bool.{ne_eqb}
use Rattle.rtl_mixed_reasons.proofs.Branching.{sole-is, sole-not}
use Rattle.rtl_mixed_reasons.proofs.Searches.{from-not}
use Rattle.rtl_mixed_reasons.proofs.ifs.is_sole.Goals as goal

pub returns-then-len-eq1 : goal.returns-then-len-eq1
returns-then-len-eq1 c =
    let i = c.in-If in
    sym (from-not _ _ _ c.is_none.ensures refl) ∙ sole-is c.args.statement.now i.at i.branches i.otherwise i.is (sym (c.len.ensures ∙ i.branches.ok.0) ∙ c.if-len-eq1.true)

pub returns-else-len-eq1 : goal.returns-else-len-eq1
returns-else-len-eq1 c =
    let i = c.in-If in
    ne_eqb c.len.result 1 c.if-len-eq1.false ∙ sole-not c.args.statement.now i.at i.branches i.otherwise i.is (λ e. c.if-len-eq1.false ((c.len.ensures ∙ i.branches.ok.0) ∙ e))
