-- Races are what a report's clocks show, and the earliest has one name.
use Rattle.std.proofs.Common.{◌≡◌, ℕ, suc, ◌<◌, List, arith, sym, ◌⊎◌, inl, inr, subst}
use Rattle.std.proofs.lemmas.Bool.{cases_order}
use Rattle.rtl_model.specs.simulation.Netlist.{Netlist, Edge}
use Rattle.rtl_model.specs.simulation.Report.{AreClocks}
use Rattle.rtl_model.specs.simulation.Races.{IsRace, IsRaceOf, IsLowestRace, IsFirstRace}
use Rattle.rtl_model.specs.simulation.Laws.{EachClockShowsRaces}

-- two numbers neither of which is below the other
neither_below : (a b : ℕ) → (a < b → ⊥) → (b < a → ⊥) → a ≡ b
neither_below a b not_less not_more = by (cases_order a b)
  where
    by : (a ≡ b) ⊎ ((a < b) ⊎ (b < a)) → a ≡ b
    by (inl e) = e
    by (inr (inl l)) = absurd (not_less l)
    by (inr (inr l)) = absurd (not_more l)

module _ (net : Netlist) (clocks : List (ℕ × Edge)) (C : AreClocks net clocks) where
  named : (before now : ℕ → ℕ) → IsRace net before now → (input clock : ℕ) × IsRaceOf net clocks before now input clock
  named before now r = (
    r.input,
    r.clock,
    (
      record {
        is_input = r.is_input;
        no_clock = λ edge c. r.no_clock (let (p, is) = (C.are r.input edge).0 c in (p, (edge, is)));
        changes = r.changes;
      },
      (r.edge, (C.are r.clock r.edge).1 (r.process, r.clocked), r.active),
    ),
  )

  is_race : (before now : ℕ → ℕ) (input clock : ℕ) → IsRaceOf net clocks before now input clock → IsRace net before now
  is_race before now input clock (data', (edge, c, active)) =
      let (p, is) = (C.are clock edge).0 c in
      record {
        process = p;
        clock = clock;
        edge = edge;
        clocked = is;
        active = active;
        input = input;
        is_input = data'.is_input;
        no_clock = λ (q, (other, tested)). data'.no_clock other ((C.are input other).1 (q, tested));
        changes = data'.changes;
      }

  -- of two races that are earliest neither comes before the other
  not_before : (stimulus : ℕ → ℕ → ℕ) (m input clock m' input' clock' : ℕ) → IsFirstRace net clocks stimulus m input clock → IsFirstRace net clocks stimulus m' input' clock' → m < m' → ⊥
  not_before stimulus m input clock m' input' clock' r s l = s.earliest (suc m) (omega arith) (is_race (stimulus m) (stimulus (suc m)) input clock r.race.race)

  one_first : (stimulus : ℕ → ℕ → ℕ) (m input clock m' input' clock' : ℕ) → IsFirstRace net clocks stimulus m input clock → IsFirstRace net clocks stimulus m' input' clock'
      → (m ≡ m') × (input ≡ input') × (clock ≡ clock')
  one_first stimulus m input clock m' input' clock' r s = go (cases_order m m')
    where
      go : (m ≡ m') ⊎ ((m < m') ⊎ (m' < m)) → (m ≡ m') × (input ≡ input') × (clock ≡ clock')
      go (inl e) =
          let other = subst (λ (k : ℕ). IsLowestRace net clocks (stimulus k) (stimulus (suc k)) input' clock') (sym e) s.race in (
            e,
            neither_below input input' (λ l. other.lowest_input input l r.race.race.0) (λ l. r.race.lowest_input input' l other.race.0),
            neither_below clock clock' (λ l. other.lowest_clock clock l r.race.race.1) (λ l. r.race.lowest_clock clock' l other.race.1),
          )
      go (inr (inl l)) = absurd (not_before stimulus m input clock m' input' clock' r s l)
      go (inr (inr l)) = absurd (not_before stimulus m' input' clock' m input clock s r l)

pub each_clock_shows_races : EachClockShowsRaces
each_clock_shows_races net clocks C = record {
  same = λ before now. (named net clocks C before now, λ (input, clock, race). is_race net clocks C before now input clock race);
  one_first = one_first net clocks C;
}
