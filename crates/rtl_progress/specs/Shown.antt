-- What is shown of a simulation while it runs: how many hundredths of the time till its stop are simulated, each time
-- that there are more.
use Rattle.std.specs.Prelude.{◌≡◌, ℕ, ◌*◌, ◌/◌, min, max, ◌==◌, nat_lt, List, [], ◌∷◌, ◌++◌, codes, decimal, if◌then◌else◌}
use Rattle.std.proofs.Common.{refl}
use Rattle.byte_streams.specs.Written.{SinkState, Goes}
use Rattle.byte_streams.proofs.Writing.{Goes-nil}
use Rattle.byte_streams.specs.Stands.{Stand}

-- of the time till the stop: all where it is at 0
abbrev pub hundredths : (stop until : ℕ) → ℕ
hundredths stop until = if stop == 0 then 100 else (min until stop * 100) / stop

-- a line that replaces the one before it
abbrev pub text_of_hundredths : ℕ → List ℕ
text_of_hundredths n = codes "\r" ++ decimal n ++ codes " %"

-- these are shown where they are more than those that were
abbrev pub text_of_more : (shown now : ℕ) → List ℕ
text_of_more shown now = if nat_lt shown now then text_of_hundredths now else []

-- what has been shown once these stood, in hundredths
abbrev pub shown_after : (stop shown : ℕ) → List Stand → ℕ
shown_after stop shown [] = shown
shown_after stop shown (x ∷ xs) = shown_after stop (max shown (hundredths stop x.until)) xs

-- what is shown while these stand
abbrev pub shown_text : (stop shown : ℕ) → List Stand → List ℕ
shown_text stop shown [] = []
shown_text stop shown (x ∷ xs) =
    text_of_more shown (hundredths stop x.until) ++ shown_text stop (max shown (hundredths stop x.until)) xs

-- the line in which something was shown is ended
abbrev pub text_of_end : (shown : ℕ) → List ℕ
text_of_end shown = if nat_lt 0 shown then codes "\n" else []

-- what is shown of a simulation in which these stood, from its beginning to its end
abbrev pub whole_text : (stop : ℕ) → List Stand → List ℕ
whole_text stop stands = shown_text stop 0 stands ++ text_of_end (shown_after stop 0 stands)

-- that went to the sink, and is noted as shown
pub record HasShown (stop shown : ℕ) (old : SinkState) (stands : List Stand)
    (new_stop new_shown : ℕ) (new : SinkState) : Type 0 where
  pub same_stop : new_stop ≡ stop
  pub noted : new_shown ≡ shown_after stop shown stands
  pub text : Goes old new (shown_text stop shown stands)

-- before anything stands
pub nothing_shown : (stop shown : ℕ) (sink : SinkState) → HasShown stop shown sink [] stop shown sink
nothing_shown stop shown sink = record { same_stop = refl; noted = refl; text = Goes-nil sink }
