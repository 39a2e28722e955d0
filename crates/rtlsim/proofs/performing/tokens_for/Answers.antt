use Rattle.std.proofs.Common.{sym, ◌∙◌}
use Rattle.rtlsim.proofs.Tokens.{none_cut}
use Rattle.rtlsim.proofs.performing.tokens_for.Goals as goal

-- nothing asks for places
pub returns-then-not-asks_places : goal.returns-then-not-asks_places
returns-then-not-asks_places c = record { only = λ asks short other cuts. absurd (cc (asks, c.asks_places.ensures, c.if-not-asks_places.true)) }

pub returns-in-Ok : goal.returns-in-Ok
returns-in-Ok c = record { only = λ asks short other cuts. c.in-Ok.ensures.only other cuts }

pub returns-in_default : goal.returns-in_default
returns-in_default c = record {
  only = λ asks short other cuts.
      none_cut c.args.source.now other c.in-Err.fault c.in_default.not-NoMemory c.in-Err.ensures.fault c.in-Err.ensures.refused short cuts ∙ sym c.new-in_default.ensures.items;
}
