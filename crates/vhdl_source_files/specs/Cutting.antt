-- A long line of a source, shown round the byte at which a fault is told: of what stands before the byte and of what
-- stands from it on at most 100 bytes each.
use Rattle.std.specs.Prelude.{ℕ, ◌+◌, ◌-◌, nat_lt, ◌&&◌, Bool, if◌then◌else◌, List, ◌++◌, length, take, drop, codes}
use Rattle.vhdl_source_files.specs.declared.cutting.CutLine.{CutLine}

-- 200 bytes are shown whole
abbrev pub is_long : (before after : List ℕ) → Bool
is_long before after = nat_lt 200 (length before + length after)

abbrev pub cut_before : (long : Bool) → (before : List ℕ) → List ℕ
cut_before long before =
    if long && nat_lt 100 (length before) then codes ".." ++ drop (length before - 98) before else before

abbrev pub cut_after : (long : Bool) → (after : List ℕ) → List ℕ
cut_after long after = if long && nat_lt 100 (length after) then take 98 after ++ codes ".." else after

abbrev pub shown_before : (before after : List ℕ) → List ℕ
shown_before before after = cut_before (is_long before after) before

abbrev pub shown_after : (before after : List ℕ) → List ℕ
shown_after before after = cut_after (is_long before after) after

-- ---- of a cut line

abbrev pub before_text : CutLine → List ℕ
before_text c = c.cut.now ++ c.before.now

abbrev pub after_text : CutLine → List ℕ
after_text c = c.after.now ++ c.more.now
