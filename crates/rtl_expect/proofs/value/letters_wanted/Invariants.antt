use Rattle.std.proofs.Common.{◌≡◌, drop}
use Rattle.rtl_expect.specs.Expected.{letters_wanted}
use Rattle.rtl_expect.proofs.Wanting.{behind_all}
use Rattle.rtl_expect.proofs.value.letters_wanted.Given as goal

-- what is wanted of the nets before this one is there
abbrev pub invariant-loop-place : goal.invariant-loop-place
invariant-loop-place l = letters_wanted l.nets l.text ≡ behind_all l.wanted.items (letters_wanted (drop l.place l.nets) (drop l.place l.text))
