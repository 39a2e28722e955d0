-- A loop over items, a turn at a time.
use Rattle.std.proofs.Common.{◌≡◌, ℕ, ◌+◌, ◌-◌, ◌<◌, ◌≤◌, Bool, true, false, List, [], ◌∷◌, ◌++◌, Option, Ok, refl}
use Rattle.vhdl_lexer.specs.declared.token.TokenKind.{TokenKind}
use Rattle.vhdl_tree.specs.Lexeme.{Lexeme}
use Rattle.vhdl_parser_expressions.specs.reader.Input.{Parser, and_then, next_kind, many_from}
use Rattle.vhdl_parser_expressions.proofs.Turns.{this_turn, last_turn}

pub another : {A : Type 0} (begins : Option TokenKind → Bool) (item : Parser A) (n at : ℕ) (found : List A) (ts : List Lexeme) → at < n → begins (next_kind ts) ≡ true
    → many_from begins item (n - at) found ts ≡ and_then (item ts) (λ x. many_from begins item (n - (at + 1)) (found ++ x ∷ []))
unfolding many_from
another {A} begins item n at found ts below there = rw (this_turn n at below) (rw there refl)

pub no_other : {A : Type 0} (begins : Option TokenKind → Bool) (item : Parser A) (n at : ℕ) (found : List A) (ts : List Lexeme) → at < n → begins (next_kind ts) ≡ false
    → many_from begins item (n - at) found ts ≡ Ok (found, ts)
unfolding many_from
no_other {A} begins item n at found ts below there = rw (this_turn n at below) (rw there refl)

pub at_end : {A : Type 0} (begins : Option TokenKind → Bool) (item : Parser A) (n at : ℕ) (found : List A) (ts : List Lexeme) → n ≤ at
    → many_from begins item (n - at) found ts ≡ Ok (found, ts)
unfolding many_from
at_end {A} begins item n at found ts done = rw (last_turn n at done) refl

-- what a turn of a loop does, and its end
pub ruleset each_turn = (another, no_other, at_end)
