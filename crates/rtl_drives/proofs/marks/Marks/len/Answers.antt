use Rattle.std.proofs.Common.{Bool, List, length, ap, arith}
use Rattle.rtl_drives.proofs.Marking.{length-marked}
use Rattle.rtl_drives.proofs.marks.Marks.len.Goals as goal

pub returns : goal.returns
returns c =
    let d = c.self.inside in
    let many = ap (λ (ms : List Bool). length ms) c.self.view_is in
    omega (arith, c.len.ensures, many, length-marked d.alone.first d.alone.len d.marks.items, d.marks.ok.0)
