use Rattle.std.proofs.Common.{◌≡◌, ℕ, drop}
use Rattle.rtl_body_facts.specs.Reading.{is_in}
use Rattle.rtl_remarks.specs.Tables.{tests_fail}
use Rattle.rtl_remarks.proofs.failing.+failing.Given as goal

-- what the links from this one on make of what was made so far
abbrev pub invariant-failing_links-loop-link : goal.invariant-failing_links-loop-link
invariant-failing_links-loop-link l = (n : ℕ) → tests_fail n (is_in n l.nets.items) (drop l.link-index l.rest) ≡ tests_fail n (is_in n l.initial.nets.items) l.rest
