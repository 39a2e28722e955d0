use Rattle.rtl_recheck.proofs.OneSource.{few_to, few_from}
use Rattle.rtl_recheck.proofs.sources.has_one_source.Goals as goal

pub returns : goal.returns
returns c =
    let xs = c.sources.result.now in
    (few_to c.args.net.now c.args.number c.requires xs c.sources.ensures, few_from c.args.net.now c.args.number c.requires xs c.sources.ensures)
