use Rattle.std.proofs.Common.{◌≡◌, ℕ, ◌+◌, ◌-◌, ◌<◌, ◌≤◌, List, length, ap, ◌∙◌, subst, arith}
use Rattle.std.specs.List.{All, range_with_len}
use Rattle.std.proofs.lemmas.List.FromFn.{length-range_with_len, get_or-range_with_len}
use Rattle.rtl_net.specs.Indices.{numbers}
use Rattle.rtl_eval.proofs.assigning.free_run.Goals as goal

-- a run of places ends among those that there are
run_ends : (many first len : ℕ) (places : List ℕ) → places ≡ range_with_len first len → 0 < length places → All (λ place. place < many) places → first + len ≤ many
run_ends many first len places are some there =
    let long : length places ≡ len = ap length are ∙ length-range_with_len first len in
    let last = subst (λ (ps : List ℕ). All (λ place. place < many) ps) are there (len - 1) 0 (omega (arith, some, long, length-range_with_len first len)) in
    omega (arith, some, long, last, get_or-range_with_len first len (len - 1) 0 (omega (arith, some, long)))

pub are_free-requires : goal.are_free-requires
are_free-requires c = run_ends (length c.args.out.now.entries) c.in-Run.first c.in-Run.len (numbers c.args.places.now) (ap numbers c.in-Run.is) c.requires.some c.requires.there

pub returns-then-are_free-clause-run : goal.returns-then-are_free-clause-run
returns-then-are_free-clause-run c = record {
  are = ap numbers c.in-Run.is;
  there = run_ends (length c.args.out.now.entries) c.in-Run.first c.in-Run.len (numbers c.args.places.now) (ap numbers c.in-Run.is) c.requires.some c.requires.there;
  free = c.are_free.ensures.free c.if-are_free.true;
}
