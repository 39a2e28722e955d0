-- The nets that a process is sensitive to, by its sensitivity.
use Rattle.std.proofs.Common.{◌≡◌, ℕ, List, map, Result, Ok, Err, refl, sym, ap, ◌∙◌, subst}
use Rattle.std.specs.Prelude.{IfOk, ◌↔◌, Contains}
use Rattle.std.specs.List.Sorted.{IsStrictlyIncreasing}
use Rattle.rtl_body_facts.specs.Reading.{is_in}
use Rattle.rtl_body_facts.proofs.Members.{same_members}
use Rattle.rtl_model.specs.bodies.Reads.{reads}
use Rattle.vhdl_expand_rules.specs.Tree as tree
use Rattle.vhdl_elab_rules.specs.Wiring.{sensitive_to}
use Rattle.vhdl_expand_processes.proofs.Rising.{sorted_in_order}
use Rattle.vhdl_connect_processes.specs.Woken.{IsInOrder}

in_order_given : (ns sorted v : List ℕ) → IsStrictlyIncreasing sorted → ((n : ℕ) → is_in n sorted ≡ is_in n ns) → v ≡ sorted → IsInOrder ns v
in_order_given ns sorted v rise same h = λ count low. sorted_in_order count ns sorted low rise same ∙ sym h

pub in_order_if : {A E : Type 0} (r : Result A E) (items : A → List ℕ) (ns sorted ds : List ℕ) → IsStrictlyIncreasing sorted → ((n : ℕ) → is_in n sorted ≡ is_in n ns) → ds ≡ sorted
    → IfOk r (λ v. items v ≡ ds) → IfOk r (λ v. IsInOrder ns (items v))
in_order_if (Ok v) items ns sorted ds rise same e h = in_order_given ns sorted (items v) rise same (h ∙ e)
in_order_if (Err fault) items ns sorted ds rise same e h = h

with-sensitivity : (p : tree.Process) (s : tree.Sensitivity) → p.sensitivity ≡ s → sensitive_to p ≡ sensitive_to (record p { sensitivity = s })
with-sensitivity p s h = ap (λ t. sensitive_to (record p { sensitivity = t })) h

module _ {A E : Type 0} (r : Result A E) (items : A → List ℕ) (net : ℕ → ℕ) (p : tree.Process) where
  moved : (ns ms : List ℕ) → ns ≡ ms → IfOk r (λ v. IsInOrder ns (items v)) → IfOk r (λ v. IsInOrder ms (items v))
  moved ns ms e h = subst (λ ks. IfOk r (λ v. IsInOrder ks (items v))) e h

  pub woken_listed : (es ds : List ℕ) → es ≡ ds → p.sensitivity ≡ tree.listed ds → IfOk r (λ v. IsInOrder (map net es) (items v)) → IfOk r (λ v. IsInOrder (map net (sensitive_to p)) (items v))
  woken_listed es ds e s h = moved (map net es) (map net (sensitive_to p)) (ap (map net) (e ∙ sym (with-sensitivity p (tree.listed ds) s))) h

  pub woken_every : (es ds : List ℕ) → es ≡ ds → p.sensitivity ≡ tree.every ds → IfOk r (λ v. IsInOrder (map net es) (items v)) → IfOk r (λ v. IsInOrder (map net (sensitive_to p)) (items v))
  woken_every es ds e s h = moved (map net es) (map net (sensitive_to p)) (ap (map net) (e ∙ sym (with-sensitivity p (tree.every ds) s))) h

  pub woken_as_read : (ns : List ℕ) → IsStrictlyIncreasing ns → ((n : ℕ) → Contains ns n ↔ Contains (map net (reads p.body)) n) → p.sensitivity ≡ tree.as_read
      → IfOk r (λ v. items v ≡ ns) → IfOk r (λ v. IsInOrder (map net (sensitive_to p)) (items v))
  woken_as_read ns rise same s h =
      moved (map net (reads p.body)) (map net (sensitive_to p)) (ap (map net) (sym (with-sensitivity p tree.as_read s)))
      (in_order_if r items (map net (reads p.body)) ns ns rise (λ n. same_members ns (map net (reads p.body)) n ((same n).0) ((same n).1)) refl h)
