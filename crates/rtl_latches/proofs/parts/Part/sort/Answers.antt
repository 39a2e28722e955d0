use Rattle.std.proofs.Common.{refl}
use Rattle.rtl_latches.proofs.Telling.{told-same}
use Rattle.rtl_latches.proofs.parts.Part.sort.Goals as goal

pub returns : goal.returns
returns c = record { rise = c.sort_once.ensures.rise; told = λ n. told-same _ _ _ _ (c.sort_once.ensures.same n) refl }
