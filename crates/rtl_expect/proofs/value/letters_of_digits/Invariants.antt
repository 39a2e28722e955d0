use Rattle.std.proofs.Common.{◌≡◌, take}
use Rattle.rtl_expect.specs.Expected as spec
use Rattle.rtl_expect.proofs.value.letters_of_digits.Given as goal

-- the letters of those before this one are there
abbrev pub invariant-loop-digit : goal.invariant-loop-digit
invariant-loop-digit l = l.letters.items ≡ spec.letters_of_digits (take l.digit-index l.digits)
