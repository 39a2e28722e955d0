use Rattle.rtl_model.proofs.nets.SourcesInRange.{sources_keep_range}
use Rattle.rtl_model.proofs.net_laws.sources_keep_range.Goals as goal

pub returns : goal.returns
returns c = sources_keep_range
