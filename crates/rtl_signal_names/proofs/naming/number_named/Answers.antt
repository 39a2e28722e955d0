use Rattle.std.proofs.Common.{List, ℕ, ap, ◌∙◌}
use Rattle.std.specs.Prelude.{bytes_eq}
use Rattle.std.specs.HashMap.{get_by}
use Rattle.rtl_signal_names.proofs.naming.number_named.Goals as goal

pub returns : goal.returns
returns c =
    c.copied.ensures ∙ c.get.ensures.value
    ∙ ap (λ (t : List ℕ). get_by (λ k. bytes_eq t k.items) c.args.table.now) (c.as_slice.ensures.value ∙ c.in_ok-key.ensures.ok)
