use Rattle.std.proofs.Common.{[], subst, sym}
use Rattle.byte_streams.specs.Written.{Goes}
use Rattle.rtl_vcd.specs.Pages.{Passes}
use Rattle.rtl_vcd.proofs.Pages.{Passes-held, Passes-all}
use Rattle.rtl_vcd.proofs.named.turn.Goals as goal

pub returns-then-not-is_full-clause-text : goal.returns-then-not-is_full-clause-text
returns-then-not-is_full-clause-text g c = Passes-held (g.W.Sink.state c.args.out.now) [] c.args.page.now

pub returns-clause-text : goal.returns-clause-text
returns-clause-text g c =
    let before = g.W.Sink.state c.args.out.now in
    let after = g.W.Sink.state c.push_text.new.sink in
    subst (λ holds. Passes before after [] holds c.args.page.now) (sym c.clear.ensures)
    (Passes-all before after c.args.page.now (subst (Goes before after) c.text.ensures c.push_text.ensures))
