use Rattle.std.proofs.Common.{◌+◌, take, arith, length-take-le}
use Rattle.std.proofs.lemmas.Simd.{take_more_put_chunk}
use Rattle.rtl_vcd.proofs.Pages.{end_put}
use Rattle.rtl_vcd.proofs.ending.End.put.Goals as goal

pub returns-clause-text : goal.returns-clause-text
returns-clause-text c =
    let room = c.args.room.now in
    let from = c.args.from in
    let bytes = c.args.self.now.bytes in
    let eight = length-take-le 8 bytes (omega arith) in
    end_put room _ bytes from c.args.self.now.len (omega (arith, c.requires.room)) (omega arith) (omega arith)
    (take_more_put_chunk from room (take 8 bytes) (from + 8) (omega (arith, eight)) (omega (arith, c.requires.room)))
