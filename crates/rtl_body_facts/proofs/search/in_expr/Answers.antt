use Rattle.rtl_body_facts.proofs.Found.{told_any}
use Rattle.rtl_body_facts.proofs.search.in_expr.Goals as goal

pub returns : goal.returns
returns c = told_any _ _ _ _ c.of-search.ensures c.walk_expr.ensures
