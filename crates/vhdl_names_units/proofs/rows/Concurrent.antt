-- The concurrent statements in a `Vec`, as contracts see them.
use Rattle.std.proofs.Common.{◌≡◌, ℕ, map, Vec, Global, refl, ap, ◌∙◌}
use mathlib.Core.Former.{Count}
use Rattle.vhdl_tree.specs.declared.expression.Identifier.{Identifier}
use Rattle.vhdl_names_rules.specs.units.Units as u
use Rattle.vhdl_names_units.specs.declared.concurrent.Scheme.{Scheme}
use Rattle.vhdl_names_units.specs.declared.concurrent.Concurrent.{Concurrent}
use Rattle.vhdl_names_units.specs.declared.concurrent.Concurrent.TheVariants as c
use Rattle.vhdl_names_units.specs.declared.concurrent.Concurrent.TheBlock.{Row_of-Concurrent, end_of-Concurrent, more_of-Concurrent, items-the_row-Concurrent, hidden-the_row-Concurrent-0, items_hidden-the_row-Concurrent-0}
use Rattle.vhdl_names_units.specs.views.Concurrent.{generated, concurrent_view, concurrents_row, concurrents_of, concurrents_view}

rows : (n : Count) (row : Row_of-Concurrent n) → concurrents_row row ≡ concurrents_of (map concurrent_view (items-the_row-Concurrent n row))
rows n end_of-Concurrent = refl
rows n (more_of-Concurrent x rest) = ap (u.concurrent (concurrent_view x)) (rows _ rest)

pub view_generate : (label : Identifier) (at : ℕ) (scheme : Scheme) (statements : Vec Concurrent Global) →
    concurrent_view (c.Generate (record { label = label; at = at; scheme = scheme; statements = statements }))
    ≡ generated label.text.items at (concurrents_of (concurrents_view statements)) scheme
view_generate label at scheme statements =
    ap (λ xs. generated label.text.items at xs scheme)
    (rows _ (hidden-the_row-Concurrent-0 statements) ∙ ap (λ xs. concurrents_of (map concurrent_view xs)) (items_hidden-the_row-Concurrent-0 statements))
