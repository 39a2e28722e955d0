use Rattle.std.proofs.Common.{ℕ, List, length, ap, sym, subst, ◌∙◌}
use Rattle.rtl_net.specs.Nets.{NetlistView}
use Rattle.rtl_simulation.specs.Engines.{ComesTo}
use Rattle.rtl_run.proofs.Traces.{comes_to_run}
use Rattle.rtl_run.proofs.level_engine.LevelEngineEngine.values.Goals as goal

pub returns-clause-shows : goal.returns-clause-shows
returns-clause-shows g c r m A = record {
  comes = subst (λ (vs : List ℕ). ComesTo r m vs) (sym (c.values.ensures.value ∙ A.values)) (comes_to_run r.net r.stimulus r.limit A.run A.synchronous m);
  as_many = c.values.ensures.as_many ∙ ap (λ (n : NetlistView). length n.types) A.net;
}
