use Rattle.std.proofs.Common.{ℕ, ◌==◌, sym, ap, ◌∙◌}
use Rattle.std.specs.List.{list_any}
use Rattle.rtl_net.specs.declared.indices.Indices.{Indices}
use Rattle.rtl_net.specs.Indices.{numbers}
use Rattle.rtl_body_facts.proofs.Anys.{none_above, any_within}
use Rattle.rtl_body_facts.proofs.numbers.has_number.Goals as goal

pub returns-then-first-n : goal.returns-then-first-n
returns-then-first-n c =
    any_within c.args.n c.in-Run.first c.in-Run.len c.if-first-n.true ∙ sym (ap (λ (i : Indices). list_any (λ (d : ℕ). d == c.args.n) (numbers i)) c.in-Run.is)

pub returns-else-first-n : goal.returns-else-first-n
returns-else-first-n c =
    none_above c.args.n c.in-Run.first c.in-Run.len c.if-first-n.false ∙ sym (ap (λ (i : Indices). list_any (λ (d : ℕ). d == c.args.n) (numbers i)) c.in-Run.is)
