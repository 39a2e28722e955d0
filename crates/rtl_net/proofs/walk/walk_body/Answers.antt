use Rattle.rtl_net.proofs.Walks.{tells_same, each_leaf}
use Rattle.rtl_net.proofs.walk.walk_body.Goals as goal

pub returns : goal.returns
returns g c = tells_same g.V.Visit.takes _ _ _ _ (each_leaf c.args.statements.now) c.walk_statements.ensures
