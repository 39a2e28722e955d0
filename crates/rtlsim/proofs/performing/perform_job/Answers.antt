use Rattle.rtlsim.proofs.performing.perform_job.Goals as goal

pub returns-in-Json : goal.returns-in-Json
returns-in-Json g c = rw (c.in-Json.is, ← c.asked.ensures) c.describe.ensures
