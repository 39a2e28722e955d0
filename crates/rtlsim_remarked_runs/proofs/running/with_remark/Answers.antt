use Rattle.rtlsim_remarked_runs.proofs.Text.{with_text}
use Rattle.rtlsim_remarked_runs.proofs.running.with_remark.Goals as goal

pub returns-in-Ok : goal.returns-in-Ok
returns-in-Ok g c =
    with_text c.args.telling.now c.args.site.net.now c.args.lost c.args.answer c.in-Ok.answer c.source_name-file.result.now c.lost_text.result c.ok-remark.result c.in-Ok.is c.source_name-file.ensures
    c.lost_text.ensures.text c.lost_text.ensures.nothing c.ok-remark.ensures.value
