use Rattle.rtl_simulation.proofs.event_engine.EventEngineEngine.touched.Goals as goal

pub returns-clause-nets : goal.returns-clause-nets
returns-clause-nets g c r m A many = A.of.nets
