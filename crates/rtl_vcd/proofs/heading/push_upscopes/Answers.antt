use Rattle.byte_streams.proofs.Writing.{Goes-append}
use Rattle.rtl_vcd.proofs.Scopes.{upscopes_more}
use Rattle.rtl_vcd.proofs.heading.push_upscopes.Goals as goal

pub loop-preserved : goal.loop-preserved
loop-preserved g c = rw (upscopes_more c.loop.counter) (Goes-append _ _ _ _ _ c.loop.invariant c.push_text.ensures)
