use Rattle.vhdl_parser_rules.specs.Expected.{expected_of}
use Rattle.rtlsim_refusals.proofs.explaining.site_at.Goals as goal

pub returns : goal.returns
returns c = λ i. record {
  language = c.args.language;
  spot = c.place_in.ensures i;
  before = c.split_at.ensures.before i;
  from = c.split_at.ensures.from i;
  expected = expected_of c.args.expected;
}
