-- Edges of a scalar signal (std_logic_1164, rising_edge and falling_edge; IEEE 1076-2008, 16.2.4, 'event).
use Rattle.std.specs.Prelude.{◌≡◌, ◌≢◌, Bool, not, ◌&&◌}
use Rattle.vhdl_values.specs.declared.kinds.Edge.{Edge}
use Rattle.vhdl_values.specs.declared.kinds.Edge.TheVariants.{Rising, Falling, To1, To0}
use Rattle.vhdl_values.specs.declared.scalar.Nine.{Nine}
use Rattle.vhdl_values.specs.declared.scalar.Nine.TheVariants.{Zero, One}
use Rattle.vhdl_values.specs.Scalar.{x01_of, is_same}

-- a change from an old to a new value is an edge: rising_edge and falling_edge look at the two as X, 0 or 1;
-- `s'event and s = '1'` looks at the new value as it is
abbrev pub HasEdge : Edge → Nine → Nine → Type 0
HasEdge Rising old new = (old ≢ new) × (x01_of old ≡ Zero) × (x01_of new ≡ One)
HasEdge Falling old new = (old ≢ new) × (x01_of old ≡ One) × (x01_of new ≡ Zero)
HasEdge To1 old new = (old ≢ new) × (new ≡ One)
HasEdge To0 old new = (old ≢ new) × (new ≡ Zero)

-- the same as a test
abbrev pub has_edge : Edge → Nine → Nine → Bool
has_edge Rising old new = not (is_same old new) && is_same (x01_of old) Zero && is_same (x01_of new) One
has_edge Falling old new = not (is_same old new) && is_same (x01_of old) One && is_same (x01_of new) Zero
has_edge To1 old new = not (is_same old new) && is_same new One
has_edge To0 old new = not (is_same old new) && is_same new Zero
