use Rattle.std.proofs.Common.{◌≡◌, ℕ, ◌+◌, ◌<◌, List, Option, length, get_or, ap, sym, subst, ◌∙◌, arith}
use Rattle.std.specs.List.{range_with_len}
use Rattle.std.proofs.lemmas.List.FromFn.{length-range_with_len, get_or-range_with_len}
use Rattle.rtl_net.specs.Indices.{numbers}
use Rattle.rtl_drives.specs.Outcomes.{Outcome}
use Rattle.rtl_drives.specs.Spans.{written}
use Rattle.rtl_eval.specs.Running.{assigned}
use Rattle.rtl_eval.proofs.OneByOne.{assigned_span}
use Rattle.rtl_eval.proofs.assigning.assign_codes.Goals as goal

pub set_span-requires : goal.set_span-requires
set_span-requires c =
    let first = c.in-Run.first in
    let len = c.in-Run.len in
    let is : numbers c.args.places.now ≡ range_with_len first len = ap numbers c.in-Run.is in
    let many : length (numbers c.args.places.now) ≡ len = ap length is ∙ length-range_with_len first len in
    record {
      there = λ k l.
          let m : k < len = omega (arith, l, c.requires.as_many, many) in
          let at : get_or (numbers c.args.places.now) k 0 ≡ first + k = ap (λ (ns : List ℕ). get_or ns k 0) is ∙ get_or-range_with_len first len k 0 m in
          subst (λ (n : ℕ). n < length c.args.out.now.entries) at (c.requires.there k 0 (omega (arith, m, many)));
    }

pub returns-in-Run : goal.returns-in-Run
returns-in-Run c =
    let first = c.in-Run.first in
    let len = c.in-Run.len in
    let o = c.args.out.now in
    let codes = c.args.codes.now in
    let is : numbers c.args.places.now ≡ range_with_len first len = ap numbers c.in-Run.is in
    let many : len ≡ length codes = sym (ap length is ∙ length-range_with_len first len) ∙ c.requires.as_many in
    let whole : assigned (numbers c.args.places.now) codes o.entries ≡ written first codes o.entries =
    ap (λ (ns : List ℕ). assigned ns codes o.entries) (is ∙ ap (range_with_len first) many) ∙ assigned_span first codes o.entries in
    c.set_span.ensures
    ∙ ap {B = Outcome} (λ (es : List (Option ℕ)). record { entries = es; starts = o.starts; variables = o.variables; room = o.room; laid = o.laid; bits = o.bits }) (sym whole)
