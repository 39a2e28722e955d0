use Rattle.std.proofs.Common.{ℕ, Bool, false, List, ap, ◌∙◌}
use Rattle.std.specs.List.{filter}
use Rattle.rtl_net.specs.Nets.{body_of}
use Rattle.rtl_body_facts.specs.Reading.{is_in}
use Rattle.rtl_outside_ranges.specs.Outside.{gives}
use Rattle.rtl_remarks.proofs.Leaving.{leaving}
use Rattle.rtl_remarks.proofs.LeftOut.{if_ok}
use Rattle.rtl_remarks.proofs.ranges.leaving_range.Goals as goal

pub returns : goal.returns
returns c =
    let p = c.args.process.now in
    let f : ℕ → Bool = λ n. gives p.drives.items (λ m. is_in m c.args.logic.now) (λ m. false) n (body_of p) in
    if_ok _ _ c.chosen.result
    (λ v h.
    leaving c.args.integers.now c.in_ok-given.given.items v.items f c.requires.rise
    (h ∙ ap (λ (xs : List ℕ). filter (λ n. is_in n xs) c.args.integers.now) c.deref.ensures.value) c.in_ok-given.ensures.are)
    c.chosen.ensures
