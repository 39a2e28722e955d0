use Rattle.std.proofs.Common.{ap, refl, sym, ◌∙◌}
use Rattle.rtl_lost_integers.specs.Lost.{lost_at}
use Rattle.rtl_lost_integers.proofs.Seeing.{nothing_lost, sees_more, sees_no_more}
use Rattle.rtl_lost_integers.proofs.watching.IntegersWatch.stood.Goals as goal

pub returns : goal.returns
returns c start stands told fresh =
    sees_more _ stands _ c.args.self.now _ (told fresh) (nothing_lost c.args.self.now.lost (sym c.is_some.ensures ∙ c.if-is_some.false)) c.look.ensures.seen refl
    (c.lost_at-self.ensures ∙ ap (lost_at c.args.self.now.since) c.look.ensures.first)

pub returns-then-is_some : goal.returns-then-is_some
returns-then-is_some c start stands told fresh = sees_no_more _ stands _ c.args.self.now c.args.self.now (told fresh) (sym c.is_some.ensures ∙ c.if-is_some.true)
