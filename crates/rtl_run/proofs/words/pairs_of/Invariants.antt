use Rattle.std.proofs.Common.{◌≡◌, List, ℕ, map, take, Bor}
use Rattle.rtl_stim_lines.specs.Pairs.{pair_view}
use Rattle.rtl_run.specs.Words.{sides}
use Rattle.rtl_run.proofs.words.pairs_of.Given as goal

-- the pairs of the words before this one
abbrev pub invariant-loop-word : goal.invariant-loop-word
invariant-loop-word l = map pair_view l.pairs.items ≡ map sides (map (λ (word : Bor (List ℕ)). word.now) (take l.word-index l.words))
