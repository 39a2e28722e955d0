-- How many declarations of each class a region has.
use Rattle.std.specs.Prelude.{ℕ, is_some, ◌≡◌, ◌+◌, ◌<◌, if◌then◌else◌, List}
use Rattle.vhdl_names_rules.specs.Visibility as visibility
use Rattle.vhdl_names_rules.specs.Visibility.{Meaning, Declared, count_of, ranges_count}
use Rattle.vhdl_names_declarations.specs.declared.class.ObjectClass.{ObjectClass}
use Rattle.vhdl_names_declarations.specs.declared.class.ObjectClass.TheVariants as k
use Rattle.vhdl_names_declarations.specs.declared.counts.Counts.{Counts}

-- the numbers that the next ones take
pub record AreCounts (c : Counts) (ds : List Declared) : Type 0 where
  pub generics : c.generics ≡ count_of visibility.is_generic ds
  pub ports : c.ports ≡ count_of visibility.is_port ds
  pub integers : c.integers ≡ count_of visibility.is_integer_constant ds
  pub constants : c.constants ≡ count_of visibility.is_constant ds
  pub signals : c.signals ≡ count_of visibility.is_signal ds
  pub variables : c.variables ≡ count_of visibility.is_variable ds
  pub enumerations : c.enumerations ≡ count_of visibility.is_enumeration_type ds
  pub ranges : c.ranges ≡ ranges_count ds

-- each is less than this
pub record AreSmall (c : Counts) (n : ℕ) : Type 0 where
  pub generics : c.generics < n
  pub ports : c.ports < n
  pub integers : c.integers < n
  pub constants : c.constants < n
  pub signals : c.signals < n
  pub variables : c.variables < n
  pub enumerations : c.enumerations < n
  pub ranges : c.ranges < n

-- with one declaration more
abbrev pub counted : Counts → Declared → Counts
counted c d = by d.meaning
  where
    by : Meaning → Counts
    by m = record {
      generics = c.generics + (if visibility.is_generic m then 1 else 0);
      ports = c.ports + (if visibility.is_port m then 1 else 0);
      integers = c.integers + (if visibility.is_integer_constant m then 1 else 0);
      constants = c.constants + (if visibility.is_constant m then 1 else 0);
      signals = c.signals + (if visibility.is_signal m then 1 else 0);
      variables = c.variables + (if visibility.is_variable m then 1 else 0);
      enumerations = c.enumerations + (if visibility.is_enumeration_type m then 1 else 0);
      ranges = c.ranges + (if is_some d.range then 1 else 0);
    }

-- the number that the next one of a class takes
abbrev pub next_of : Counts → ObjectClass → ℕ
next_of c k.Generic = c.generics
next_of c k.BooleanGeneric = c.generics
next_of c (k.Port mode type) = c.ports
next_of c k.Integer = c.integers
next_of c k.Boolean = c.integers
next_of c (k.Constant kind values) = c.constants
next_of c (k.Signal type) = c.signals
next_of c (k.Variable type) = c.variables
