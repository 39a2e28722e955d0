use Rattle.std.proofs.Common.{◌≡◌, ℕ, ◌<◌, length, slice_index, subst, sym, ap, ◌∙◌, arith}
use Rattle.std.proofs.lemmas.List.FromFn.{length-range_with_len, get_or-range_with_len}
use Rattle.rtl_net.specs.declared.indices.Indices.{Indices}
use Rattle.rtl_net.specs.declared.indices.Indices.TheVariants as v
use Rattle.rtl_net.specs.Indices.{numbers}
use Rattle.rtl_net.proofs.indices.Indices.at.Goals as goal

within : {place first len : ℕ} {indices : Indices} → place < length (numbers indices) → indices ≡ v.Run first len → place < len
within {place} {first} {len} l is = subst (λ n. place < n) (length-range_with_len first len) (subst (λ (i : Indices). place < length (numbers i)) is l)

pub overflow_add-result : goal.overflow_add-result
overflow_add-result c =
    let l = within c.requires c.in-Run.is in
    omega arith

pub returns-in-Run : goal.returns-in-Run
returns-in-Run c =
    sym (get_or-range_with_len c.in-Run.first c.in-Run.len c.args.place 0 (within c.requires c.in-Run.is)) ∙ sym (ap (λ (i : Indices). slice_index (numbers i) c.args.place) c.in-Run.is)
