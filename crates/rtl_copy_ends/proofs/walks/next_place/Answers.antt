use Rattle.std.proofs.Common.{◌<◌, ◌∙◌, length, sym, arith}
use Rattle.rtl_copy_ends.proofs.Walking.{copied-is}
use Rattle.rtl_copy_ends.proofs.walks.next_place.Goals as goal

pub place_of-requires : goal.place_of-requires
place_of-requires c =
    let there : c.in-Copies.standing.net < length c.args.net.now.types = (copied-is c.args.net.now c.standing_at.result c.in-Copies.standing (sym c.in-Copies.is ∙ c.look.ensures)).1 in
    let limit = c.is_elaborated.ensures.nets_limit in
    omega arith
