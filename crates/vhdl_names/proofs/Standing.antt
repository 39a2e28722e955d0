-- The labels and statements of an architecture as they stand, read one after the other.
use Rattle.std.proofs.Common.{◌≡◌, List, map, Result, Ok, Err, ap, ◌∙◌}
use Rattle.vhdl_tree.specs.Tree as t
use Rattle.vhdl_tree.specs.View as view
use Rattle.vhdl_tree.specs.declared.concurrent.Concurrent.{Concurrent}
use Rattle.vhdl_names_rules.specs.declared.fault.NameFault.{NameFault}
use Rattle.vhdl_names_rules.specs.Visibility.{Sight, Declared}
use Rattle.vhdl_names_rules.specs.Interfaces.{EntityView}
use Rattle.vhdl_names_rules.specs.Concurrent.{concurrent_labels}
use Rattle.vhdl_names_rules.specs.problems.Broken.{earlier}
use Rattle.vhdl_names_rules.specs.problems.Concurrent.{concurrents}
use Rattle.vhdl_names_rules.specs.problems.Declarations.{standing_twice}
use Rattle.vhdl_names_rules.specs.problems.Files.{body, with_labels}
use Rattle.vhdl_names_rules.specs.problems.Labels.{labels_of}
use Rattle.vhdl_names.specs.Finding.{HasMemory}
use Rattle.vhdl_names.specs.steps.Architectures.{with_region}

pub body_same : (all : List EntityView) (s : Sight) (r : List Declared) (xs ls ks : List Concurrent) → ls ≡ xs → ks ≡ xs
    → r ≡ with_labels s.region (concurrent_labels (t.concurrents_of (map view.concurrent_view ls)))
    → earlier (standing_twice s.region (labels_of (t.concurrents_of (map view.concurrent_view ls)))) (concurrents all (with_region s r) (t.concurrents_of (map view.concurrent_view ks)))
    ≡ body all s (t.concurrents_of (map view.concurrent_view xs))
body_same all s r xs ls ks e f h =
    ap (λ l. earlier (standing_twice s.region (labels_of (t.concurrents_of (map view.concurrent_view l)))) (concurrents all (with_region s r) (t.concurrents_of (map view.concurrent_view ks)))) e
    ∙ ap (λ l. earlier (standing_twice s.region (labels_of (t.concurrents_of (map view.concurrent_view xs)))) (concurrents all (with_region s r) (t.concurrents_of (map view.concurrent_view l)))) f
    ∙ ap (λ d. earlier (standing_twice s.region (labels_of (t.concurrents_of (map view.concurrent_view xs)))) (concurrents all (with_region s d) (t.concurrents_of (map view.concurrent_view xs))))
    (h ∙ ap (λ l. with_labels s.region (concurrent_labels (t.concurrents_of (map view.concurrent_view l)))) e)

pub ok_memory : {X : Type 0} (r : Result X NameFault) (x : X) → r ≡ Ok x → HasMemory r
ok_memory (Ok y) x e = tt
ok_memory (Err f) x e = absurd cc
