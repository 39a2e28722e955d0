-- Names without an index, and the nets that a process is sensitive to.
use Rattle.std.proofs.Common.{◌≡◌, ℕ, zero, suc, ◌<◌, false, List, [], ◌∷◌, ◌++◌, Some, All, length, take, drop, refl, sym, ap, arith}
use Rattle.std.specs.Prelude.{if◌then◌else◌, bytes_eq, slice_get, slice_index}
use Rattle.std.proofs.lemmas.Option.{slice_get_within, get_or_from_slice_get}
use Rattle.rtl_process_kinds.proofs.Sources.{nets_of_wakes}
use Rattle.rtl_net.specs.declared.process.Process.{Process}
use Rattle.rtl_net.specs.Elaborated.{IsNet}
use Rattle.rtl_net.specs.Nets.{NetlistView}
use Rattle.byte_streams.specs.Written.{SinkState, Goes}
use Rattle.rtlsim_listing.specs.DotText.{is_index, without_index, arrow_by, arrow_before}

-- what a process is sensitive to
pub wakes_there : (net : NetlistView) → IsNet net → (p : ℕ) (x : Process) → slice_get net.processes p ≡ Some x → All (λ n. n < length net.types) x.wakes.items
wakes_there net is p x at k d lt =
    nets_of_wakes net is p x (slice_get_within net.processes p x at) (sym (get_or_from_slice_get net.processes p x x at)) k d lt

-- all from a place on

-- where no index begins, the byte is one of the name
one_more : (name : List ℕ) (at : ℕ) → at < length name → is_index (drop at name) ≡ false
    → take at name ++ without_index (drop at name) ≡ take (suc at) name ++ without_index (drop (suc at) name)
one_more [] at lt none_here = absurd (let never : ⊥ = omega (arith, lt) in never)
one_more (b ∷ bs) zero lt none_here = rw none_here refl
one_more (b ∷ bs) (suc at) lt none_here = ap (λ t. b ∷ t) (one_more bs at (omega (arith, lt)) none_here)

pub no_index : (name : List ℕ) (at next : ℕ) → next ≡ suc at → at < length name → is_index (drop at name) ≡ false
    → take at name ++ without_index (drop at name) ≡ take next name ++ without_index (drop next name)
no_index name at next e lt none_here = rw e (one_more name at lt none_here)

-- ---- arrows

-- an arrow, unless it is the one before
pub unless_again : (old new : SinkState) (line before arrow last : List ℕ) → line ≡ arrow → before ≡ last
    → Goes old new (if bytes_eq line before then [] else line) → Goes old new (if bytes_eq arrow last then [] else arrow)
unless_again old new line before arrow last e f goes = rw (← e, ← f) goes

-- what is before the next place is what stands at this one
pub before_next : (net : NetlistView) (to : ℕ) (nets : List ℕ) (place next : ℕ) → next ≡ suc place → arrow_before net to nets next ≡ arrow_by net to (slice_index nets place)
before_next net to nets place next e = rw e refl
