use Rattle.std.proofs.Common.{◌≡◌, ℕ, ◌<◌, ◌++◌, List, true, refl, slice_index}
use Rattle.std.specs.Prelude.{◌==◌, codes, replicate}
use Rattle.std.proofs.lemmas.Bool.{agree_below, agree_below_at, eqb-true}
use Rattle.rtl_vcd_values.specs.Values as spec
use Rattle.rtl_vcd_values.proofs.line.character.Goals as goal

-- a table of all bytes says what it is compared with
by_table : (table : List ℕ) (f : ℕ → ℕ) → agree_below (λ v. slice_index table v == f v) (λ _. true) 256 ≡ true → (v : ℕ) → v < 256 → slice_index table v ≡ f v
by_table table f all v lt = eqb-true (slice_index table v) (f v) (agree_below_at (λ v. slice_index table v == f v) (λ _. true) 256 v all lt)

pub returns : goal.returns
returns c = by_table (codes "xx01zx01x" ++ replicate 247 120) spec.character refl c.args.value c.ranges.value.fits
