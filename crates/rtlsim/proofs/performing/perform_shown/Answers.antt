use Rattle.std.proofs.Common.{sym, ◌∙◌}
use Rattle.rtlsim.proofs.Watching.{serves_by, shows_all, shows_none, shows_whole}
use Rattle.rtlsim.proofs.performing.perform_shown.Goals as goal

pub returns-then-not-shows-clause-serves : goal.returns-then-not-shows-clause-serves
returns-then-not-shows-clause-serves g c =
    serves_by (λ stands told. shows_none c.args.shows c.if-not-shows.true _ _ stands) _ _ _ _ _ _ _ _ _ c.perform_job.ensures

pub returns-clause-serves : goal.returns-clause-serves
returns-clause-serves g c =
    serves_by (λ stands told.
    shows_all c.args.shows c.if-not-shows.false _ _ stands
    (shows_whole g.G.Sink.state c.args.job.now.stimulus.now stands c.args.progress.now c.new-watch.result.sink.now c.perform_job-status.new.watch.sink.now
    c.end.new.self.0 _ _ _ _ _ (c.new-watch.ensures.stop ∙ c.stop_of.ensures) c.new-watch.ensures.shown c.new-watch.ensures.sink
    (c.progress-1.given.1 (sym (told.0 ∙ c.new-watch.ensures.same_reference))) told.1 c.end.ensures))
    _ _ _ _ _ _ _ _ _ c.perform_job-status.ensures
