-- What concurrent statements become, each becomes.
use Rattle.std.proofs.Common.{◌≡◌, ℕ, List, [], ◌∷◌, ◌++◌, length, map, take, drop, Result, Ok, Err, refl, sym, ap, ◌∙◌}
use Rattle.std.specs.Prelude.{OnOk}
use Rattle.std.specs.declared.alloc.AllocError.{AllocError}
use Rattle.std.specs.Vec.{with_items}
use Rattle.std.proofs.lemmas.List.{with_items_is}
use Rattle.vhdl_names_rules.specs.units.Units as u
use Rattle.vhdl_names_rules.specs.Registers.{concurrent_written, concurrents_written}
use Rattle.vhdl_names_units.specs.declared.concurrent.Concurrent.{Concurrent}
use Rattle.vhdl_names_units.specs.declared.concurrent.Concurrent.TheVariants as c
use Rattle.vhdl_names_units.specs.declared.concurrent.Generate.{Generate}
use Rattle.vhdl_names_units.specs.declared.concurrent.Scheme.{Scheme}
use Rattle.vhdl_names_units.specs.declared.concurrent.Scheme.TheVariants as k
use Rattle.vhdl_names_units.specs.views.Concurrent.{generated, concurrent_view, concurrents_of}
use Rattle.vhdl_names_units.proofs.rows.Concurrent.{view_generate}

-- so many of a list have become what is made of them, and the others are as they were
abbrev pub BecameTo : {X V : Type 0} → (X → V) → (V → V) → (k : ℕ) → (old now : List X) → Type 0
BecameTo view made k old now = map made (map view old) ≡ map view (take k now) ++ map made (map view (drop k now))

written_each : (xs : List u.Concurrent) → concurrents_written (concurrents_of xs) ≡ concurrents_of (map concurrent_written xs)
unfolding concurrent_written
written_each [] = refl
written_each (x ∷ xs) = ap (u.concurrent (concurrent_written x)) (written_each xs)

-- statements of which each is written are written
pub each_is_written : (old new : List Concurrent) → map concurrent_view new ≡ map concurrent_written (map concurrent_view old)
    → concurrents_of (map concurrent_view new) ≡ concurrents_written (concurrents_of (map concurrent_view old))
each_is_written old new h = ap concurrents_of h ∙ sym (written_each (map concurrent_view old))

generate_written : (label : List ℕ) (at : ℕ) (body : u.Concurrents) (scheme : Scheme) → concurrent_written (generated label at body scheme) ≡ generated label at (concurrents_written body) scheme
unfolding concurrent_written
generate_written label at body (k.For r) = refl
generate_written label at body (k.If t) = refl

-- a generate whose statements are written is written
pub generate_is_written : (r : Result (Unit {0}) AllocError) (g : Generate) (old new : List Concurrent) → old ≡ g.statements.items → length new ≡ g.statements.len
    → OnOk r (concurrents_of (map concurrent_view new) ≡ concurrents_written (concurrents_of (map concurrent_view old)))
    → OnOk r (concurrent_view (c.Generate (record g { statements = with_items g.statements new })) ≡ concurrent_written (concurrent_view (c.Generate g)))
generate_is_written (Ok y) g old new items len written =
    view_generate g.label g.at g.scheme (with_items g.statements new)
    ∙ (ap (λ xs. generated g.label.text.items g.at (concurrents_of (map concurrent_view xs)) g.scheme) (with_items_is g.statements new len)
    ∙ (ap (λ b. generated g.label.text.items g.at b g.scheme) (written ∙ ap (λ xs. concurrents_written (concurrents_of (map concurrent_view xs))) items)
    ∙ sym (ap concurrent_written (view_generate g.label g.at g.scheme g.statements)
    ∙ generate_written g.label.text.items g.at (concurrents_of (map concurrent_view g.statements.items)) g.scheme)))
generate_is_written (Err e) g old new items len written = tt
