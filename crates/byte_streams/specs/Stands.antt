-- What is told of a simulation while it runs.
use Rattle.std.specs.Prelude.{ℕ, List}

-- values of the nets, and the time before which they stand: they last from where those before them end
pub record Stand : Type 0 where
  pub values : List ℕ
  pub until : ℕ
