use Rattle.std.proofs.Common.{ℕ, List, Option, Some, None, sym, subst, ◌∙◌}
use Rattle.std.specs.Prelude.{IfNone, IfSome}
use Rattle.std.proofs.lemmas.Option.{IfSome_then}
use Rattle.rtl_model.specs.nets.CoreNetlist.{core_netlist}
use Rattle.rtl_net.specs.Nets.{flat}
use Rattle.rtl_stim.specs.Quiet.{AreFree, HasNoneHere, IsFirstTime, IsRaceHere}
use Rattle.rtl_stim.proofs.Racing.{no_race, first}
use Rattle.rtl_stim.proofs.Edges.{times_show_races}
use Rattle.rtl_stim.proofs.races.first_race.Goals as goal

if_none : {X A B : Type 0} (o : Option X) → IfNone o A → (A → B) → IfNone o B
if_none None a f = f a
if_none (Some x) a f = tt

pub returns-clause-found : goal.returns-clause-found
returns-clause-found c =
    let f = flat c.args.net.now in
    let s = c.args.stimulus.now in
    let clocks = c.args.clocks.now in
    let t = c.in-Some.time in
    let is_first : IsFirstTime s clocks t = subst (λ found. IfSome found (IsFirstTime s clocks)) c.in-Some.is c.in_ok-time.ensures.found in
    IfSome_then c.race_at.result c.race_at.ensures.found (λ race h.
    let here = subst (λ (ns : List ℕ). IsRaceHere s clocks ns t race.input race.clock) c.inputs.ensures h.1 in
    let is = first f s clocks c.requires.clocks c.requires.inputs t race.input race.clock here c.is_elaborated.ensures.in_range.inputs_rise is_first.later is_first.in_time
    (λ u some less. subst (λ (ns : List ℕ). HasNoneHere s clocks ns u) c.requires.inputs (is_first.first u some less)) in
    (is.0, is.1, is.2 ∙ sym h.0, is.3))

pub returns-clause-none : goal.returns-clause-none
returns-clause-none c =
    let s = c.args.stimulus.now in
    let clocks = c.args.clocks.now in
    let is_first : IsFirstTime s clocks c.in-Some.time = subst (λ found. IfSome found (IsFirstTime s clocks)) c.in-Some.is c.in_ok-time.ensures.found in
    if_none c.race_at.result c.race_at.ensures.none (λ none. absurd (is_first.race
    (subst (λ (ns : List ℕ). HasNoneHere s clocks ns c.in-Some.time) (c.inputs.ensures ∙ sym c.requires.inputs) none)))

pub returns-in_default-clause-none : goal.returns-in_default-clause-none
returns-in_default-clause-none c =
    let f = flat c.args.net.now in
    let s = c.args.stimulus.now in
    let clocks = c.args.clocks.now in
    let free : AreFree s clocks s.schedule.stop = subst (λ found. IfNone found (AreFree s clocks s.schedule.stop)) c.in_default.is c.in_ok-time.ensures.none in
    (times_show_races s).none (core_netlist f) (λ u h. no_race f s clocks c.requires.clocks c.requires.inputs u
    (subst (λ (ns : List ℕ). HasNoneHere s clocks ns u) c.requires.inputs (free u h.later h.within)) h.race)
