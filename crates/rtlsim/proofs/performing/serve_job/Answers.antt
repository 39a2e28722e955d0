use Rattle.rtlsim.proofs.performing.serve_job.Goals as goal

pub returns : goal.returns
returns g c = rw (← c.asked.ensures) c.serve.ensures
