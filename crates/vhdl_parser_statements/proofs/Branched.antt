-- The branches of an assignment take no more turns than tokens, and what is read of them doesn't hang on the tokens behind.
use Rattle.std.proofs.Common.{◌≡◌, ℕ, zero, suc, ◌+◌, ◌-◌, ◌<◌, ◌≤◌, true, false, cond, List, [], ◌∷◌, ◌++◌, length, Ok, Option, Some, None, refl, sym, ap, ◌∙◌, arith}
use Rattle.vhdl_lexer.specs.declared.language.Language.{Language}
use Rattle.vhdl_lexer.specs.declared.token.TokenKind.TheVariants as k
use Rattle.vhdl_tree.specs.Lexeme.{Lexeme}
use Rattle.vhdl_tree.specs.Tree.{Expr, Value, Branch}
use Rattle.vhdl_parser_expressions.specs.reader.Input.{Outcome, Parser, and_then, expect, next_kind, is_kind, sees}
use Rattle.vhdl_parser_expressions.proofs.Steady.{Steady, steady_pure, steady_take, steady_then, steady_test, steady_turns, Advances, advances_then, advances_token, then_alike}
use Rattle.vhdl_parser_expressions.proofs.Turns.{this_turn, last_turn}
use Rattle.vhdl_parser_statements.specs.reader.Waveforms.{Waveforms, part, else_part, go_on, more_branches_from, more_branches}

-- the branches found, and no more
abbrev pub ended : List Branch → Parser Waveforms
ended found = λ ts. Ok (record { branches = found; otherwise = None }, ts)

go_alike : (f g : List Branch → Parser Waveforms) (found : List Branch) (v : Value) (c : Option Expr) (ts : List Lexeme) → ((all : List Branch) → f all ts ≡ g all ts) → go_on f found v c ts ≡ go_on g found v c ts
go_alike f g found v None ts same = refl
go_alike f g found v (Some c) ts same = same (found ++ record { value = v; condition = c } ∷ [])

go_steady : (f : List Branch → Parser Waveforms) → ((all : List Branch) → Steady (f all)) → (found : List Branch) (v : Value) (c : Option Expr) → Steady (go_on f found v c)
go_steady f each found v None = steady_pure
go_steady f each found v (Some c) = each (found ++ record { value = v; condition = c } ∷ [])

-- ---- a loop over branches: a turn that finds one, one that finds none, and its end

module _ (language : Language) (n turns at : ℕ) (found : List Branch) (ts : List Lexeme) where
  pub another_branch : at < turns → sees k.Else ts ≡ true
      → more_branches_from language n (turns - at) found ts ≡ and_then (else_part language n ts) (λ p. go_on (more_branches_from language n (turns - (at + 1))) found p.value p.condition)
  unfolding more_branches_from
  another_branch below there = rw (this_turn turns at below) (rw there refl)

  pub no_branch : at < turns → sees k.Else ts ≡ false → more_branches_from language n (turns - at) found ts ≡ ended found ts
  unfolding more_branches_from
  no_branch below there = rw (this_turn turns at below) (rw there refl)

  pub all_branches : turns ≤ at → more_branches_from language n (turns - at) found ts ≡ ended found ts
  unfolding more_branches_from
  all_branches done = rw (last_turn turns at done) refl

-- ---- turns and tokens

no_turn : (language : Language) (n turns : ℕ) (found : List Branch) → more_branches_from language n turns found [] ≡ ended found []
unfolding more_branches_from next_kind
no_turn language n zero found = refl
no_turn language n (suc turns) found = refl

module _ (language : Language) (n : ℕ) (each : Steady (part language n)) where
  else_steady : Steady (else_part language n)
  unfolding else_part expect
  else_steady = steady_then (steady_take (λ l. l.at) k.Else) (λ ts at rest h. each)

  else_advances : Advances (else_part language n)
  unfolding else_part expect
  else_advances = advances_then _ (advances_then _ (advances_token k.Else) (λ l us. omega arith)) (λ at us. each.shorter us)

  from_steady : (turns : ℕ) (found : List Branch) → Steady (more_branches_from language n turns found)
  unfolding more_branches_from
  from_steady zero found = steady_pure
  from_steady (suc turns) found = steady_test (is_kind k.Else) (steady_then else_steady (λ ts p rest h. go_steady (more_branches_from language n turns) (from_steady turns) found p.value p.condition)) steady_pure

  enough : (a b : ℕ) (found : List Branch) (ts : List Lexeme) → length ts ≤ a → length ts ≤ b → more_branches_from language n a found ts ≡ more_branches_from language n b found ts
  unfolding more_branches_from
  enough a b found [] le also = no_turn language n a found ∙ sym (no_turn language n b found)
  enough zero b found (l ∷ ts) le also = absurd (omega (arith, le))
  enough (suc a) zero found (l ∷ ts) le also = absurd (omega (arith, also))
  enough (suc a) (suc b) found (l ∷ ts) le also =
      ap (λ o. cond {A = Outcome Waveforms} (is_kind k.Else (next_kind (l ∷ ts))) o (ended found (l ∷ ts)))
      (then_alike (else_part language n (l ∷ ts)) (λ p. go_on (more_branches_from language n a) found p.value p.condition) (λ p. go_on (more_branches_from language n b) found p.value p.condition)
      (λ p rest h.
      let less = else_advances (l ∷ ts) p rest h in
      go_alike (more_branches_from language n a) (more_branches_from language n b) found p.value p.condition rest (λ all. enough a b all rest (omega (arith, le, less)) (omega (arith, also, less)))))

  pub steady_more_branches : (found : List Branch) → Steady (more_branches language n found)
  unfolding more_branches
  steady_more_branches found = steady_turns (λ turns. more_branches_from language n turns found) (λ turns. from_steady turns found) (λ a b ts le also. enough a b found ts le also)
