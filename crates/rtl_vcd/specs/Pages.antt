-- What is printed by way of a page.
use Rattle.std.specs.Prelude.{◌≡◌, List, ℕ, ◌+◌, ◌≤◌, ◌++◌, [], Bool, false, length}
use Rattle.byte_streams.specs.Written.{SinkState, Goes}

-- Behind what the page held the text is printed: the beginning of both goes to the sink, and the page holds the rest.
pub record Passes (old new : SinkState) (held holds text : List ℕ) : Type 0 where
  pub gone : List ℕ
  pub goes : Goes old new gone
  pub kept : held ++ text ≡ gone ++ holds

-- The page has room for the longest line, and holds nothing as long as nothing is printed.
pub record IsOpen (is_printed : Bool) (page : List ℕ) : Type 0 where
  pub room : length page + 77 ≤ 1024
  pub empty : is_printed ≡ false → page ≡ []
