use Rattle.std.proofs.Common.{◌≡◌, ℕ, ◌++◌, List, inr, subst, ◌∙◌}
use Rattle.byte_streams.proofs.Writing.{Goes-append}
use Rattle.byte_streams.specs.Written.{SinkState, Goes}
use Rattle.vhdl_front_rules.specs.Designs.{IsNetOf}
use Rattle.rtlsim_commands.proofs.freed.push_freed.Goals as goal

goes-both : (a b c : SinkState) (x y z : List ℕ) → Goes a b x → Goes b c y → y ≡ z → Goes a c (x ++ z)
goes-both a b c x y z p q e = subst (λ t. Goes a c (x ++ t)) e (Goes-append a b c x y p q)

pub returns : goal.returns
returns g c = inr (
    record {
      explains = c.requires.explains;
      is_narrow = c.requires.is_narrow;
      net = c.args.site.net.now;
      is_net = c.requires.net;
      narrow = c.in-Ok.narrow;
      is_judged = c.in-Ok.ensures.judgement;
      wider = c.in-Ok-open.wider;
      is_wider = subst (λ asked. IsNetOf asked c.in-Ok-open.wider) c.widely.ensures c.in-Ok-open.ensures.net;
      wide = c.in-Ok-judge.wide;
      is_judged_widely = c.in-Ok-judge.ensures.judgement;
      goes = goes-both _ _ _ _ _ _ c.push_lines.ensures c.push_text.ensures (c.deref.ensures.value ∙ c.in-Ok-split_line.ensures);
    }
    )
