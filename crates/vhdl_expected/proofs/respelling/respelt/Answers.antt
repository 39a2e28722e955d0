use Rattle.std.proofs.Common.{ℕ, ◌-◌, sym, ◌∙◌, subst, arith}
use Rattle.vhdl_parser_rules.specs.Expected.{said_of}
use Rattle.vhdl_expected.specs.Reading.{reading_of}
use Rattle.vhdl_expected.specs.Told.{Finds, respelt_back}
use Rattle.vhdl_expected.proofs.Trials.{some_at, none_at}
use Rattle.vhdl_expected.proofs.respelling.respelt.Goals as goal

pub returns-then-is_some : goal.returns-then-is_some
returns-then-is_some c =
    c.loop-places.invariant.so _ (
    some_at (reading_of c.args.reading) said_of c.in_ok-said.said c.loop-places.places c.loop-places.place c.loop-places-test.true (sym c.is_some.ensures ∙ c.if-is_some.true)
    c.in_ok-said.ensures
    )

pub loop-places-preserved : goal.loop-places-preserved
loop-places-preserved c =
    let r = reading_of c.args.reading in
    record {
      within = omega (arith, c.saturating_sub-place.ensures, c.loop-places.invariant.within);
      so = λ said h. c.loop-places.invariant.so said (
          none_at r said_of c.in_ok-said.said c.loop-places.places c.loop-places.place said c.loop-places-test.true (sym c.is_some.ensures ∙ c.if-is_some.false)
          c.in_ok-said.ensures
          (subst (λ (place : ℕ). Finds r (respelt_back r (c.loop-places.places - 1) place) said) c.saturating_sub-place.ensures h)
          );
    }
