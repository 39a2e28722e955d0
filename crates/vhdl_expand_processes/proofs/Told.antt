-- What is read, where leaves were told one after another and there was memory.
use Rattle.std.proofs.Common.{◌≡◌, ℕ, false, List, [], ◌∷◌, ◌++◌, Contains, sym, ap, ◌∙◌, append_assoc, append-nil}
use Rattle.std.specs.Prelude.{◌↔◌, flat_map}
use Rattle.rtl_model.specs.bodies.Leaves.{Leaf, read_of}
use Rattle.rtl_net.specs.Visits.{Tells}
use Rattle.rtl_body_facts.specs.Reading.{is_in}
use Rattle.rtl_body_facts.proofs.Members.{in_has, has_in}
use Rattle.vhdl_expand_processes.specs.declared.reads.Reads.{Reads}

pub told_all : (old new : Reads) (ls : List Leaf)
    → Tells (λ (u : Reads) l (v : Reads). v.failed ≡ false → (u.failed ≡ false) × (v.found.items ≡ u.found.items ++ read_of l)) old ls new
    → new.failed ≡ false → (old.failed ≡ false) × (new.found.items ≡ old.found.items ++ flat_map read_of ls)
told_all old new [] h e = (ap (λ (r : Reads). r.failed) h ∙ e, ap (λ (r : Reads). r.found.items) (sym h) ∙ sym (append-nil old.found.items))
told_all old new (x ∷ xs) (mid, one, rest) e =
    let later = told_all mid new xs rest e in
    let first = one later.0 in
    (first.0, later.1 ∙ ap (λ ns. ns ++ flat_map read_of xs) first.1 ∙ append_assoc old.found.items (read_of x) (flat_map read_of xs))

pub same_contained : (xs ys : List ℕ) → ((n : ℕ) → is_in n xs ≡ is_in n ys) → (n : ℕ) → Contains xs n ↔ Contains ys n
same_contained xs ys same n = ((λ c. in_has ys n (sym (same n) ∙ has_in xs n c)), (λ c. in_has xs n (same n ∙ has_in ys n c)))
