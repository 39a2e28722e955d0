use Rattle.std.proofs.Common.{◌≡◌, ℕ, ◌+◌, ◌≤◌, List, Some, None, length, refl, sym, ◌∙◌, arith}
use Rattle.std.proofs.lemmas.Bool.Decides.{nat_tests}
use Rattle.std.proofs.lemmas.List.{take_all, take_rest, drop_all}
use Rattle.std.specs.List.{position_or_len}
use Rattle.std.specs.Prelude.{position}
use Rattle.rtl_stim_lines.specs.Lines.{ends_line}
use Rattle.rtlsim.proofs.first_line.cut_line.Goals as goal

at_end : (xs : List ℕ) (i : ℕ) → position ends_line xs ≡ Some i → position_or_len ends_line xs ≡ i
at_end xs i e = grind (arith, nat_tests, e)

past_end : (xs : List ℕ) → position ends_line xs ≡ None → length xs ≤ position_or_len ends_line xs
past_end xs e = grind (arith, nat_tests, e)

pub returns-in-Some-clause-line : goal.returns-in-Some-clause-line
returns-in-Some-clause-line c = rw (at_end _ _ (sym c.line_end.ensures.end ∙ c.in-Some.is)) refl

pub returns-in-Some-clause-rest : goal.returns-in-Some-clause-rest
returns-in-Some-clause-rest c = rw (at_end _ _ (sym c.line_end.ensures.end ∙ c.in-Some.is)) (take_rest c.args.all.now (c.in-Some.at + 1))

pub returns-in-None-clause-line : goal.returns-in-None-clause-line
returns-in-None-clause-line c = sym (take_all _ _ (past_end _ (sym c.line_end.ensures.end ∙ c.in-None.is)))

pub returns-in-None-clause-rest : goal.returns-in-None-clause-rest
returns-in-None-clause-rest c =
    let late = past_end c.args.all.now (sym c.line_end.ensures.end ∙ c.in-None.is) in sym (drop_all (position_or_len ends_line c.args.all.now + 1) c.args.all.now (omega (arith, late)))
