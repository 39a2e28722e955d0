-- What an instance does with the elements of its ports and signals.
use Rattle.std.specs.Prelude.{◌≡◌, ℕ, zero, suc, ◌<◌, ◌==◌, List, [], length, count_by, slice_index_or}
use Rattle.vhdl_expand_rules.specs.Prefixes.{is_among}
use Rattle.vhdl_expand_rules.specs.Tree as tree
use Rattle.vhdl_connect.specs.declared.uses.Sources.{Sources}
use Rattle.vhdl_connect.specs.declared.uses.Sources.TheVariants.{Zero, One, Several}
use Rattle.vhdl_connect.specs.declared.uses.Use.{Use}

-- so many
abbrev pub sources_of : ℕ → Sources
sources_of zero = Zero
sources_of (suc zero) = One
sources_of (suc (suc n)) = Several

-- one more
abbrev pub one_more : Sources → Sources
one_more Zero = One
one_more One = Several
one_more Several = Several

-- of an element, where these are driven, each once for each source, and these are read
abbrev pub use_of : (driven read : List ℕ) → (e : ℕ) → Use
use_of driven read e = record { sources = sources_of (count_by (λ d. d == e) driven); is_read = is_among read e }

-- the uses of the first elements
pub record AreUses (driven read : List ℕ) (us : List Use) : Type 0 where
  pub each : (e : ℕ) (d : Use) → e < length us → slice_index_or us e d ≡ use_of driven read e

-- the elements of a process's list
abbrev pub listed_by : tree.Sensitivity → List ℕ
listed_by (tree.listed es) = es
listed_by (tree.every es) = []
listed_by tree.as_read = []
