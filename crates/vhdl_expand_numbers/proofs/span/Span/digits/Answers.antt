use Rattle.std.proofs.Common.{◌∙◌, w64, rules, FitsSigned}
use Rattle.std.proofs.lemmas.Int.{to_z-of_z}
use Rattle.vhdl_expand_rules.specs.Computed.{span, digits_needed}
use Rattle.vhdl_expand_numbers.proofs.Digits.{needed}
use Rattle.vhdl_expand_numbers.proofs.span.Span.digits.Goals as goal

pub returns-clause-given : goal.returns-clause-given
returns-clause-given c =
    let s = c.args.self in
    let a = c.digits.ensures in
    let b = c.digits-2.ensures in
    let f : FitsSigned w64 s.least = search rules in
    let g : FitsSigned w64 s.greatest = search rules in
    let p = to_z-of_z w64 s.least f in
    let q = to_z-of_z w64 s.greatest g in
    c.max.ensures
    ∙ needed (span _ _) c.digits.result c.digits-2.result a.enough a.fewest a.some a.few b.enough b.fewest b.few
    ∙ (λ i. digits_needed (span (p i) (q i)))
