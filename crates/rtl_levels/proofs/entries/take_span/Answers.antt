use Rattle.std.proofs.Common.{◌≡◌, ℕ, ◌+◌, ◌-◌, ◌<◌, ◌≤◌, All, List, [], Option, Some, None, arith, length, get_or, ap, subst, ◌∙◌}
use Rattle.std.specs.Prelude.{IsSome}
use Rattle.std.proofs.lemmas.List.{length-map}
use Rattle.rtl_kernel.specs.drivers.Transactions.{nets_of}
use Rattle.rtl_kernel.proofs.Updating.{net_at}
use Rattle.rtl_net.specs.declared.process.Driver.{Driver}
use Rattle.rtl_net_groups.specs.Groups.{Grouping}
use Rattle.rtl_levels.specs.declared.state.State.{State}
use Rattle.rtl_levels.specs.Pieces.{IsPiece}
use Rattle.rtl_levels.specs.States.{HaveReaders, StandTogether, StateTakesPart}
use Rattle.rtl_levels.proofs.Advancing.{still_have_readers}
use Rattle.rtl_levels.proofs.Spanned.{some_none, some_run, some_then}
use Rattle.rtl_levels.proofs.entries.take_span.Goals as goal

abbrev none : Driver
none = record { net = 0; start = 0 }

-- a place of the span has its entry
entry_of : (entries : List (Option ℕ)) (from len first k : ℕ) {v : ℕ} → from ≤ first → first + k < from + len → ((j : ℕ) → j < len → IsSome (get_or entries (from + j) None))
    → (IsSome (get_or entries (first + k) None) → get_or entries (first + k) None ≡ Some v) → get_or entries (first + k) None ≡ Some v
entry_of entries from len first k low high all has =
    let at : from + (first - from + k) ≡ first + k = omega (arith, low) in
    has (subst (λ (p : ℕ). IsSome (get_or entries p None)) at (all (first - from + k) (omega (arith, low, high))))

-- the nets of a piece stand together
piece_together : (readers : Grouping) (targets : List ℕ) (first end beyond net many : ℕ) → IsPiece readers.of_net targets first end beyond → All (λ (n : ℕ). n < length readers.of_net) targets
    → get_or targets first 0 ≡ net → many ≡ beyond - first → (s : State) → HaveReaders readers s → StandTogether readers net many s
piece_together readers targets first end beyond net many P nets at as_many s I =
    let last = beyond - first - 1 in
    let is = P.nets last (omega (arith, P.some)) in
    let below = nets (first + last) 0 (omega (arith, P.some, P.within)) in
    record {
      have_readers = I;
      there = omega (arith, is, below, at, as_many, P.some, I.each_net, length-map readers.of_net (λ (g : ℕ). get_or readers.listed g []));
      together = λ k l. subst (λ (n : ℕ). get_or readers.of_net (n + k) 0 ≡ get_or readers.of_net n 0) at (P.in_group k (omega (arith, l, as_many)));
    }

pub loop-first-init : goal.loop-first-init
loop-first-init c = record { from = omega arith; to = omega arith; some = some_none c.args.schedule.now.readers (nets_of c.args.drives.now) c.args.outcome.now.entries c.args.span.first c.args.state.now }

pub set_run-requires : goal.set_run-requires
set_run-requires c =
    let readers = c.args.schedule.now.readers in
    let drives = c.args.drives.now in
    let first = c.loop-first.first in
    let in_drives : first < length drives = omega (arith, c.loop-first-test.true, c.requires.within, c.requires.each_driver) in
    piece_together readers (nets_of drives) first _ c.piece_end-beyond.result (get_or drives first none).net (length c.values-assigned.result.now) c.piece_end-beyond.ensures c.requires.cuts.nets
    (net_at drives first none in_drives) c.values-assigned.ensures.as_many c.loop-first.state
    (still_have_readers readers _ c.args.state.now c.loop-first.state c.loop-first.invariant.some.advances c.requires.have_readers)

pub loop-first-preserved : goal.loop-first-preserved
loop-first-preserved c =
    let readers = c.args.schedule.now.readers in
    let drives = c.args.drives.now in
    let targets = nets_of drives in
    let entries = c.args.outcome.now.entries in
    let first = c.loop-first.first in
    let I = c.loop-first.invariant in
    let V = c.values-assigned.ensures in
    let P = c.piece_end-beyond.ensures in
    let assigned = c.values-assigned.result.now in
    let in_drives : first < length drives = omega (arith, c.loop-first-test.true, c.requires.within, c.requires.each_driver) in
    let net = (get_or drives first none).net in
    let long : first + length assigned ≡ c.piece_end-beyond.result = omega (arith, V.as_many, P.some) in
    let are : (k : ℕ) → k < length assigned → get_or entries (first + k) None ≡ Some (get_or assigned k 0) =
    λ k l. entry_of entries c.args.span.first c.args.span.len first k I.from (omega (arith, l, long, P.to)) c.requires.all (V.entries k (omega (arith, l, V.as_many))) in
    let is : (k : ℕ) → k < length assigned → get_or targets (first + k) 0 ≡ net + k =
    λ k l. P.nets k (omega (arith, l, V.as_many)) ∙ ap (λ (n : ℕ). n + k) (net_at drives first none in_drives) in
    let one = some_run readers targets entries c.requires.cuts.once first net assigned (omega (arith, long, P.within)) is are c.loop-first.state c.set_run.new.self c.set_run.ensures in
    record {
      from = omega (arith, I.from, P.some);
      to = P.to;
      some = some_then readers targets entries c.args.span.first first c.piece_end-beyond.result c.args.state.now c.loop-first.state c.set_run.new.self I.some
          (subst (λ (n : ℕ). StateTakesPart readers targets entries first n c.loop-first.state c.set_run.new.self) long one);
    }

pub returns : goal.returns
returns c =
    let I = c.loop-first.invariant in
    let done : c.loop-first.first ≡ c.args.span.first + c.args.span.len = omega (arith, I.to, c.loop-first-test.false) in
    subst (λ (n : ℕ). StateTakesPart c.args.schedule.now.readers (nets_of c.args.drives.now) c.args.outcome.now.entries c.args.span.first n c.args.state.now c.loop-first.state) done I.some
