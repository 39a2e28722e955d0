use Rattle.std.proofs.Common.{◌≡◌, ℕ, List, Option, length, ap, sym, ◌∙◌}
use Rattle.std.specs.List.{range_with_len}
use Rattle.std.proofs.lemmas.List.FromFn.{length-range_with_len}
use Rattle.rtl_net.specs.Indices.{numbers}
use Rattle.rtl_drives.specs.Outcomes.{Outcome}
use Rattle.rtl_drives.specs.Spans.{written}
use Rattle.rtl_eval.specs.Running.{assigned}
use Rattle.rtl_eval.proofs.OneByOne.{assigned_span}
use Rattle.rtl_eval.proofs.assigning.assign_made.Goals as goal

pub set_free-requires-clause-many : goal.set_free-requires-clause-many
set_free-requires-clause-many g c =
    let span = c.in-Some.span in
    c.requires.made ∙ sym c.requires.as_many ∙ ap (λ (ns : List ℕ). length ns) c.in-Some.ensures.run.are ∙ length-range_with_len span.first span.len

pub returns-in-Some : goal.returns-in-Some
returns-in-Some g c =
    let o = c.args.out.now in
    let span = c.in-Some.span in
    let made = g.M.Maker.made c.args.maker.now in
    let run = c.in-Some.ensures.run in
    let many : span.len ≡ length made =
    sym (length-range_with_len span.first span.len) ∙ sym (ap (λ (ns : List ℕ). length ns) run.are) ∙ c.requires.as_many ∙ sym c.requires.made in
    let whole : assigned (numbers c.args.places.now) made o.entries ≡ written span.first made o.entries =
    ap (λ (ns : List ℕ). assigned ns made o.entries) (run.are ∙ ap (range_with_len span.first) many) ∙ assigned_span span.first made o.entries in
    c.set_free.ensures
    ∙ ap (λ (p : Outcome). record p { entries = written span.first made p.entries }) c.free_run.ensures.stay
    ∙ ap {B = Outcome} (λ (es : List (Option ℕ)). record o { entries = es }) (sym whole)
