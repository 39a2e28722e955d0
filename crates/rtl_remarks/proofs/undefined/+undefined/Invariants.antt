use Rattle.std.proofs.Common.{◌≡◌, ℕ, drop}
use Rattle.rtl_body_facts.specs.Reading.{is_in}
use Rattle.rtl_remarks.specs.Tables.{links_some, links_whole}
use Rattle.rtl_remarks.proofs.undefined.+undefined.Given as goal

-- what the links from this one on make of what was made so far
abbrev pub invariant-links_of-loop-link : goal.invariant-links_of-loop-link
invariant-links_of-loop-link l = record {
  nets : (n : ℕ) → links_some n (is_in n l.nets.items) (drop l.link-index l.rest) ≡ links_some n (is_in n l.fn.left.nets.items) l.rest;
  whole : links_whole l.whole (drop l.link-index l.rest) ≡ links_whole l.fn.left.whole l.rest;
}
