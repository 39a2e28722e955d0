-- What goes out of a text where memory for a name may be refused.
use Rattle.std.specs.Prelude.{◌≡◌, List, ◌++◌, ℕ, Result, Ok, Err}
use Rattle.byte_streams.specs.Written.{SinkState, Goes}

-- a beginning of the text goes to the sink
pub record GoesInPart (old new : SinkState) (text : List ℕ) : Type 0 where
  pub part : List ℕ
  pub rest : List ℕ
  pub is : part ++ rest ≡ text
  pub goes : Goes old new part

-- the text goes to the sink, or where memory is refused a beginning of it
abbrev pub Prints : {T E : Type 0} → Result T E → (old new : SinkState) → (text : List ℕ) → Type 0
Prints (Ok x) old new text = Goes old new text
Prints (Err e) old new text = GoesInPart old new text
