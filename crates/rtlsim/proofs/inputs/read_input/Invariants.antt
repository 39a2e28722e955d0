use Rattle.std.proofs.Common.{◌≤◌, vec_len}
use Rattle.std.specs.Io.KnownBytes.{Consumes}
use Rattle.rtlsim.specs.Inputs.{greatest_input}
use Rattle.rtlsim.proofs.inputs.read_input.Given as goal

-- what was read is what the reader has lost, and each read gave a byte
abbrev pub invariant-loop : goal.invariant-loop
invariant-loop g l = record {
  took : Consumes (g.R.Reader.state l.initial.reader).left (g.R.Reader.state l.reader).left l.all.items;
  short : vec_len l.all ≤ greatest_input;
  some : l.counter ≤ vec_len l.all;
}
