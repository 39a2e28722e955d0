use Rattle.std.proofs.Common.{◌∙◌}
use Rattle.rtl_run.proofs.level_engine.LevelEngineEngine.touched.Goals as goal

pub returns-clause-nets : goal.returns-clause-nets
returns-clause-nets g c r m A many = c.touched.ensures.nets ∙ many
