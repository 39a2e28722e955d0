use Rattle.std.proofs.Common.{◌≡◌, ◌<◌, ◌≤◌, ℕ, List, [], length, get_or, sym, subst, arith}
use Rattle.std.proofs.lemmas.List.{length-map}
use Rattle.rtl_kernel.specs.drivers.Transactions.{nets_of}
use Rattle.rtl_kernel.proofs.Pieces.{group_here, net_here, some_here, within_here}
use Rattle.rtl_net.specs.declared.process.Driver.{Driver}
use Rattle.rtl_net_groups.specs.declared.cuts.Cut.{Cut}
use Rattle.rtl_net_groups.specs.Cuts.{AreCuts}
use Rattle.rtl_levels.specs.Pieces.{AreCutFor}
use Rattle.rtl_levels.specs.declared.schedule.Schedule.{Schedule}
use Rattle.rtl_levels.proofs.entries.piece_end.Goals as goal

-- the cuts and numbers that are looked up are the process's
looked_up : (schedule : Schedule) (targets : List ℕ) (number : ℕ) → AreCutFor schedule targets number → (cuts : List Cut) (numbers : List ℕ)
    → cuts ≡ get_or schedule.cuts.cuts number [] → numbers ≡ get_or schedule.cuts.numbers number [] → AreCuts schedule.readers.of_net targets cuts numbers
looked_up schedule targets number C cuts numbers c n =
    subst (λ (cs : List Cut). AreCuts schedule.readers.of_net targets cs numbers) (sym c)
    (subst (λ (ns : List ℕ). AreCuts schedule.readers.of_net targets (get_or schedule.cuts.cuts number []) ns) (sym n) C.cuts)

in_targets : (drives : List Driver) (first end : ℕ) → first < end → end ≤ length drives → first < length (nets_of drives)
in_targets drives first end some within = rw length-map (omega (arith, some, within))

pub of-cuts-requires : goal.of-cuts-requires
of-cuts-requires c = c.requires.cuts.there

pub numbers-numbers-requires : goal.numbers-numbers-requires
numbers-numbers-requires c = c.requires.cuts.there

pub bounds-numbers-first : goal.bounds-numbers-first
bounds-numbers-first c =
    let targets = nets_of c.args.drives.now in
    let A = looked_up c.args.schedule.now targets c.args.number c.requires.cuts c.of-cuts.result.now c.numbers-numbers.result.now c.of-cuts.ensures c.numbers-numbers.ensures in
    rw (A.each_number) (in_targets c.args.drives.now c.args.first c.args.end c.requires.some c.requires.within)

pub bounds-cuts-numbers : goal.bounds-cuts-numbers
bounds-cuts-numbers c =
    let targets = nets_of c.args.drives.now in
    let A = looked_up c.args.schedule.now targets c.args.number c.requires.cuts c.of-cuts.result.now c.numbers-numbers.result.now c.of-cuts.ensures c.numbers-numbers.ensures in
    (A.numbers_are c.args.first (in_targets c.args.drives.now c.args.first c.args.end c.requires.some c.requires.within)).0

pub returns : goal.returns
returns c =
    let of_net = c.args.schedule.now.readers.of_net in
    let targets = nets_of c.args.drives.now in
    let cuts = c.of-cuts.result.now in
    let numbers = c.numbers-numbers.result.now in
    let first = c.args.first in
    let end = c.args.end in
    let A = looked_up c.args.schedule.now targets c.args.number c.requires.cuts cuts numbers c.of-cuts.ensures c.numbers-numbers.ensures in
    let there = in_targets c.args.drives.now first end c.requires.some c.requires.within in
    let both = within_here of_net targets cuts numbers A first end c.min.result there c.requires.some c.min.ensures in
    record {
      some = some_here of_net targets cuts numbers A first end c.min.result there c.requires.some c.min.ensures;
      to = both.0;
      within = both.1;
      nets = net_here of_net targets cuts numbers A first end c.min.result there c.requires.some c.min.ensures;
      in_group = group_here of_net targets cuts numbers A first end c.min.result there c.requires.some c.min.ensures;
    }
