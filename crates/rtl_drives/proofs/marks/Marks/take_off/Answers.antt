use Rattle.std.proofs.Common.{ℕ, Bool, false, List, length, replicate, ap, sym, ◌∙◌}
use Rattle.rtl_drives.proofs.Marking.{all_off, length-marked}
use Rattle.rtl_drives.proofs.marks.Marks.take_off.Goals as goal

pub returns-then-self-gt0 : goal.returns-then-self-gt0
returns-then-self-gt0 c =
    let d = c.self.inside in
    all_off d.marks.items (c.self.invariant.no_other c.if-self-gt0.true)
    ∙ ap (λ (n : ℕ). replicate n false) (sym (length-marked d.alone.first d.alone.len d.marks.items) ∙ ap (λ (ms : List Bool). length ms) c.self.view_is)
