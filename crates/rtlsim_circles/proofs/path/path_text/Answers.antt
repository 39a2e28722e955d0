use Rattle.rtlsim_circles.proofs.path.path_text.Goals as goal

pub returns-in-ByNets : goal.returns-in-ByNets
returns-in-ByNets c = rw c.in-ByNets.is (rw (c.highest.ensures, c.deref.ensures.value) at c.path_from.ensures)
