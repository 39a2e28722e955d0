-- Where a token that was taken starts.
use Rattle.std.proofs.Common.{◌≡◌, ℕ, Bool, true, false, cond, List, [], ◌∷◌, Ok, Err, sym}
use Rattle.vhdl_lexer.specs.declared.token.TokenKind.{TokenKind}
use Rattle.vhdl_parser_expressions.specs.declared.stop.Stop.TheVariants.{Unexpected}
use Rattle.vhdl_tree.specs.Lexeme.{Lexeme, same_kind}
use Rattle.vhdl_parser_expressions.specs.reader.Input.{Outcome, and_then, expect, token}
use Rattle.vhdl_parser_expressions.proofs.Steps.{pure_ok}
use Rattle.vhdl_parser_expressions.specs.reader.Behind.{start}

pub starts : (kind : TokenKind) (ts : List Lexeme) (at : ℕ) (rest : List Lexeme) → expect kind ts ≡ Ok (at, rest) → at ≡ start ts
unfolding expect token
starts kind [] at rest h = absurd (cc)
starts kind (l ∷ ts) at rest h = by_test (same_kind l.kind kind) h
  where
    by_test : (b : Bool) → ◌≡◌ {A = Outcome ℕ} (and_then (cond b (Ok (l, ts)) (Err (Unexpected, l ∷ ts))) (λ l us. Ok (l.at, us))) (Ok (at, rest)) → at ≡ l.at
    by_test true e = sym (pure_ok l.at at ts rest e).0
    by_test false e = absurd (cc)
