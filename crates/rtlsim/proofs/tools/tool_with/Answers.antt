use Rattle.std.proofs.Common.{inl}
use Rattle.rtlsim.proofs.tools.tool_with.Goals as goal

pub returns-in-Ok : goal.returns-in-Ok
returns-in-Ok g c = inl (c.in-Ok.call, c.in-Ok.ensures.said, c.perform.ensures)
