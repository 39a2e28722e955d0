use Rattle.std.proofs.Common.{◌≡◌, ℕ, ◌≤◌, List, Some, None, length, refl, sym, ◌∙◌, arith}
use Rattle.std.proofs.lemmas.Bool.Decides.{nat_tests}
use Rattle.std.proofs.lemmas.List.{take_all}
use Rattle.std.specs.List.{position_or_len}
use Rattle.std.specs.Prelude.{position}
use Rattle.vhdl_source_files.specs.Listed.{begins_comment}
use Rattle.vhdl_source_files.proofs.listing.before_comment.Goals as goal

at_end : (xs : List ℕ) (i : ℕ) → position begins_comment xs ≡ Some i → position_or_len begins_comment xs ≡ i
at_end xs i e = grind (arith, nat_tests, e)

past_end : (xs : List ℕ) → position begins_comment xs ≡ None → length xs ≤ position_or_len begins_comment xs
past_end xs e = grind (arith, nat_tests, e)

pub returns-in-Some : goal.returns-in-Some
returns-in-Some c = rw (at_end _ _ (sym c.comment_at.ensures.at ∙ c.in-Some.is)) refl

pub returns-in-None : goal.returns-in-None
returns-in-None c = sym (take_all _ _ (past_end _ (sym c.comment_at.ensures.at ∙ c.in-None.is)))
