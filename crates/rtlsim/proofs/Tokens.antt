-- A source that the lexer refuses has no tokens, if it isn't too long.
use Rattle.std.proofs.Common.{◌≡◌, ℕ, ◌≤◌, List, [], length, None, arith, refl}
use Rattle.vhdl_lexer.specs.Cut.{Cuts}
use Rattle.vhdl_lexer.specs.Fault.{HasFault, IsRefusal, greatest_length}
use Rattle.vhdl_lexer.specs.declared.fault.LexFault.{LexFault}
use Rattle.vhdl_lexer.specs.declared.fault.LexFault.TheVariants as f
use Rattle.vhdl_lexer.specs.declared.token.Token.{Token}

module _ (source : List ℕ) (tokens : List Token) where
  pub none_cut : (e : LexFault) → (e ≡ f.NoMemory → ⊥) → HasFault e source → (IsRefusal e → (other : List Token) → Cuts None 0 source other → ⊥)
      → length source ≤ greatest_length → Cuts None 0 source tokens → tokens ≡ []
  none_cut (f.TooLong at) not has refused short cuts = absurd (omega (arith, short, has.0))
  none_cut f.NoMemory not has refused short cuts = absurd (not refl)
  none_cut _ not has refused short cuts = absurd (refused tt tokens cuts)
