use Rattle.rtlsim.proofs.performing.serve_run.Goals as goal

pub returns : goal.returns
returns g c = rw (← c.choice.ensures) c.serve_job.ensures
