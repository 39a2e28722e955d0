use Rattle.std.proofs.Common.{◌≡◌, ℕ, ◌<◌, List, Option, None, length, get_or, ap, ◌∙◌, arith}
use Rattle.std.proofs.lemmas.Bool.Decides.{nat_tests}
use Rattle.std.proofs.lemmas.List.{get_or_read}
use Rattle.std.proofs.lemmas.List.FromFn.{length-map-range_with_len, get_or-map-range_with_len}
use Rattle.rtl_net.specs.Nets.{NetlistView}
use Rattle.rtl_seen_nets.specs.Drivers.{seen_among, seen_nets}
use Rattle.rtl_copy_ends.specs.Inside.{inside, seen_by}
use Rattle.rtl_copy_ends.proofs.walks.Walks.seen_by.Goals as goal

module _ (net : NetlistView) (items : List (Option ℕ)) (are : items ≡ seen_nets net (inside net)) (n : ℕ) (there : n < length net.types) where
  within : n < length items
  within = omega (arith, there, ap (λ (xs : List (Option ℕ)). length xs) are ∙ length-map-range_with_len (seen_among net (inside net)) 0 (length net.types))

  is-there : get_or items n None ≡ seen_by net n
  is-there = ap (λ (xs : List (Option ℕ)). get_or xs n None) are ∙ get_or-map-range_with_len (seen_among net (inside net)) 0 (length net.types) n n None there (omega arith)

pub index-requires : goal.index-requires
index-requires c =
    let size = c.args.self.now.seen.ok.0 in
    let in-table = within c.args.net.now c.args.self.now.seen.items c.requires.seen c.args.number (grind (arith, nat_tests, c.if-number-nets.true, c.nets.ensures.count)) in
    omega arith

pub returns-then-number-nets : goal.returns-then-number-nets
returns-then-number-nets c =
    let net = c.args.net.now in
    let items = c.args.self.now.seen.items in
    let there : c.args.number < length net.types = grind (arith, nat_tests, c.if-number-nets.true, c.nets.ensures.count) in
    get_or_read items c.args.number c.index.result.now (within net items c.requires.seen c.args.number there) c.index.ensures None
    ∙ is-there net items c.requires.seen c.args.number there
