use Rattle.std.proofs.Common.{length, sym, ap, ◌∙◌}
use Rattle.std.proofs.lemmas.List.FromFn.{length-range_with_len}
use Rattle.rtl_net.specs.declared.indices.Indices.{Indices}
use Rattle.rtl_net.specs.Indices.{numbers}
use Rattle.rtl_net.proofs.indices.Indices.len.Goals as goal

pub returns-in-Run : goal.returns-in-Run
returns-in-Run c = sym (length-range_with_len c.in-Run.first c.in-Run.len) ∙ sym (ap (λ (i : Indices). length (numbers i)) c.in-Run.is)
