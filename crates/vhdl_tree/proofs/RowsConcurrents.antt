-- The concurrent statements in a `Vec`, as contracts see them.
use Rattle.std.proofs.Common.{◌≡◌, ℕ, Bool, map, Vec, Option, Global, refl, ap, ◌∙◌}
use mathlib.Core.Former.{Count}
use Rattle.vhdl_tree.specs.declared.expression.Identifier.{Identifier}
use Rattle.vhdl_tree.specs.declared.concurrent.Scheme.{Scheme}
use Rattle.vhdl_tree.specs.declared.concurrent.Concurrent.{Concurrent}
use Rattle.vhdl_tree.specs.declared.concurrent.Concurrent.TheVariants as c
use Rattle.vhdl_tree.specs.declared.concurrent.Concurrent.TheBlock.{Row_of-Concurrent, end_of-Concurrent, more_of-Concurrent, items-the_row-Concurrent, hidden-the_row-Concurrent-0, items_hidden-the_row-Concurrent-0}
use Rattle.vhdl_tree.specs.Tree as t
use Rattle.vhdl_tree.specs.View.{ident_view, option_ident_view, scheme_view, concurrent_view, concurrents_row, concurrents_view}

concurrents_rows : (n : Count) (row : Row_of-Concurrent n) → concurrents_row row ≡ t.concurrents_of (map concurrent_view (items-the_row-Concurrent n row))
concurrents_rows n end_of-Concurrent = refl
concurrents_rows n (more_of-Concurrent x rest) = ap (t.concurrent (concurrent_view x)) (concurrents_rows _ rest)

concurrents_hidden : (v : Vec Concurrent Global) → concurrents_row (hidden-the_row-Concurrent-0 v) ≡ t.concurrents_of (concurrents_view v)
concurrents_hidden v = concurrents_rows _ (hidden-the_row-Concurrent-0 v) ∙ ap (λ xs. t.concurrents_of (map concurrent_view xs)) (items_hidden-the_row-Concurrent-0 v)

pub view_generate : (label : Identifier) (at : ℕ) (scheme : Scheme) (word : Bool) (statements : Vec Concurrent Global) (last : Option Identifier) →
    concurrent_view (c.Generate (record { label = label; at = at; scheme = scheme; begin_word = word; statements = statements; end_label = last }))
    ≡ t.generated (ident_view label) at (scheme_view scheme) word (t.concurrents_of (concurrents_view statements)) (option_ident_view last)
view_generate label at scheme word statements last = ap (λ xs. t.generated (ident_view label) at (scheme_view scheme) word xs (option_ident_view last)) (concurrents_hidden statements)
