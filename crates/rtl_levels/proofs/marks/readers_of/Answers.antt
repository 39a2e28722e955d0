use Rattle.std.proofs.Common.{◌<◌, ℕ, List, [], get_or, length, ap, sym, ◌∙◌, arith}
use Rattle.std.proofs.lemmas.List.{length-map}
use Rattle.rtl_kernel.proofs.Grouped.{wakers_at}
use Rattle.rtl_levels.proofs.marks.readers_of.Goals as goal

pub returns : goal.returns
returns c =
    let groups = c.args.groups.now in
    let net = c.args.net in
    let within : net < length groups.of_net = omega (arith, c.requires, length-map groups.of_net (λ (g : ℕ). get_or groups.listed g [])) in
    c.listed.ensures ∙ ap (λ (ns : List ℕ). get_or groups.listed (get_or ns net 0) []) c.of_net.ensures.value ∙ sym (wakers_at groups net within)
