-- The lines of an input, which end as those of a stimulus do.
use Rattle.std.specs.Prelude.{ℕ, List}
use Rattle.std.specs.List.{before_first}
use Rattle.rtl_stim_lines.specs.Lines.{ends_line, without_return}

abbrev pub first_line_of : List ℕ → List ℕ
first_line_of all = without_return (before_first ends_line all)
