use Rattle.std.proofs.Common.{Bool, map, ap, ◌∙◌}
use Rattle.rtl_latches.specs.Parts.{told, both, rest_told, numbered, is_touched}
use Rattle.rtl_latches.proofs.Telling.{any-map}
use Rattle.rtl_latches.proofs.choosing.choose.Goals as goal

pub returns : goal.returns
returns c =
    let ps = c.args.parts.now in
    λ n. c.in_ok-choose_each.ensures n
    ∙ ap (λ (b : Bool). both (told n c.args.part.now) (rest_told (numbered c.args.counted) 1 b (map (told n) ps)))
    (c.in_ok-some.ensures.are n ∙ any-map is_touched (told n) ps)
