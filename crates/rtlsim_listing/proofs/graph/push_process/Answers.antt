use Rattle.std.proofs.Common.{ℕ, Option, sym, subst}
use Rattle.rtlsim_listing.specs.DotText.{process_text}
use Rattle.rtlsim_listing.specs.Printing.{Prints}
use Rattle.rtlsim_listing.proofs.graph.push_process.Goals as goal

pub returns-in-Some : goal.returns-in-Some
returns-in-Some g c =
    subst (λ (level : Option ℕ). Prints c.push_leveled.result (g.W.Sink.state c.args.out.now) (g.W.Sink.state c.push_leveled.new.out) (process_text c.args.net.now c.args.number level))
    (sym c.in-Some.is) c.push_leveled.ensures

pub returns-in-None : goal.returns-in-None
returns-in-None g c =
    subst (λ (level : Option ℕ). Prints c.push_register.result (g.W.Sink.state c.args.out.now) (g.W.Sink.state c.push_register.new.out) (process_text c.args.net.now c.args.number level))
    (sym c.in-None.is) c.push_register.ensures
