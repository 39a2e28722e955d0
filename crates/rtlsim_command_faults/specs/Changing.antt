-- What is told of the nets that still change where a moment doesn't settle.
use Rattle.std.specs.Prelude.{ℕ, zero, suc, if◌then◌else◌, List, [], ◌∷◌, ◌++◌, codes}
use Rattle.rtl_net.specs.Names.{net_name}
use Rattle.rtl_net.specs.Nets.{NetlistView}
use Rattle.rtlsim_findings.specs.Ranges.{follows, range_text}

-- The elements from the one of this name to the net `last`, as a range, and then the nets of these numbers, so many of
-- them at most.
abbrev pub names_from : NetlistView → (first : List ℕ) → (last room : ℕ) → (numbers : List ℕ) → List ℕ
names_from net first last room [] = range_text first (net_name net last)
names_from net first last zero (number ∷ numbers) = range_text first (net_name net last) ++ codes " and more"
names_from net first last (suc room) (number ∷ numbers) =
    if follows (net_name net last) (net_name net number) then names_from net first number room numbers
    else range_text first (net_name net last) ++ codes ", " ++ names_from net (net_name net number) number room numbers

-- "still changing: NAME, NAME", of sixteen nets at most; nothing where there is none
abbrev pub changing_line : NetlistView → (numbers : List ℕ) → List ℕ
changing_line net [] = []
changing_line net (number ∷ numbers) =
    codes "still changing: " ++ names_from net (net_name net number) number 15 numbers ++ codes "\n"
