-- The integers that a process may take out of their ranges, as lists.
use Rattle.std.proofs.Common.{◌≡◌, ℕ, suc, ◌<◌, ◌==◌, Bool, true, false, ◌&&◌, ◌||◌, List, [], ◌∷◌, length, refl, sym, ap, subst, ◌∙◌, arith}
use Rattle.std.specs.Prelude.{All}
use Rattle.std.specs.List.{filter, range_with_len}
use Rattle.std.specs.List.Sorted.{IsStrictlyIncreasing}
use Rattle.std.proofs.lemmas.Bool.{and_parts, eqb-true}
use Rattle.std.proofs.lemmas.List.Kept.{IsStrictlyIncreasing-filter}
use Rattle.std.proofs.lemmas.Option.{slice_get_within}
use mathlib.Core.Path.{fun_ext}
use Rattle.rtl_model.specs.bodies.Types.{ElementType, HasType}
use Rattle.rtl_net.specs.Elaborated.{IsNet, SignalInRange}
use Rattle.rtl_net.specs.Nets.{NetlistView, SignalView, body_of, element_type}
use Rattle.rtl_net.specs.declared.process.Process.{Process}
use Rattle.rtl_body_facts.specs.Reading.{is_in}
use Rattle.rtl_body_facts.proofs.EveryPath.{in_filter}
use Rattle.rtl_outside_ranges.specs.Outside.{gives, is_integer}
use Rattle.rtl_remarks.proofs.Rising.{those_are}
use Rattle.rtl_remarks.specs.Remarks.{is_of, is_logic, may_leave_range}
use Rattle.rtl_remarks.specs.Tables.{AreThose}

pub leaving : (integers given found : List ℕ) (f : ℕ → Bool) → IsStrictlyIncreasing integers → found ≡ filter (λ n. is_in n given) integers → ((n : ℕ) → is_in n given ≡ f n)
    → AreThose (λ n. is_in n integers && f n) found
leaving integers given found f rise is are = record {
  rise = subst IsStrictlyIncreasing (sym is) (IsStrictlyIncreasing-filter (λ n. is_in n given) integers rise);
  are = λ n. ap (is_in n) is ∙ in_filter (λ m. is_in m given) integers n ∙ ap (λ (b : Bool). is_in n integers && b) (are n);
}

nets_there : (types : List ElementType) (type : ElementType) (ns : List ℕ) → All (HasType types type) ns → (n : ℕ) → is_in n ns ≡ true → n < length types
nets_there types type [] all n t = absurd (cc)
nets_there types type (m ∷ ns) all n t = by (m == n) refl t (λ u. nets_there types type ns (λ k d l. all (suc k) d (omega (arith, l))) n u)
  where
    by : (b : Bool) → (m == n) ≡ b → (b || is_in n ns) ≡ true → (is_in n ns ≡ true → n < length types) → n < length types
    by true e t rest = subst (λ (k : ℕ). k < length types) (eqb-true m n e) (slice_get_within types m type (all 0 m (omega arith)))
    by false e t rest = rest t

integers_there : (types : List ElementType) (scopes : ℕ) (ss : List SignalView) → All (SignalInRange types scopes) ss → (n : ℕ) → is_of is_integer ss n ≡ true → n < length types
integers_there types scopes [] all n t = absurd (cc)
integers_there types scopes (s ∷ ss) all n t = by (is_integer s) (is_in n s.nets) refl t (λ u. integers_there types scopes ss (λ k d l. all (suc k) d (omega (arith, l))) n u)
  where
    by : (a b : Bool) → is_in n s.nets ≡ b → ((a && b) || is_of is_integer ss n) ≡ true → (is_of is_integer ss n ≡ true → n < length types) → n < length types
    by true true e t rest = nets_there types (element_type s.kind) s.nets (all 0 s (omega arith)).nets n e
    by true false e t rest = rest t
    by false b e t rest = rest t

pub leaving_nets : (net : NetlistView) (elaborated : IsNet net) (p : Process) (integers logic found : List ℕ) → AreThose (is_of is_integer net.signals) integers → AreThose (is_logic net) logic
    → AreThose (λ n. is_in n integers && gives p.drives.items (λ m. is_in m logic) (λ m. false) n (body_of p)) found
    → found ≡ filter (may_leave_range net p) (range_with_len 0 (length net.types))
leaving_nets net elaborated p integers logic found ints made those =
    let given : (ℕ → Bool) → ℕ → Bool = λ f n. gives p.drives.items f (λ m. false) n (body_of p) in
    those_are (may_leave_range net p) found (length net.types)
    (record {
      rise = those.rise;
      are = λ n. those.are n ∙ ap (λ (b : Bool). b && given (λ m. is_in m logic) n) (ints.are n) ∙ ap (λ (f : ℕ → Bool). is_of is_integer net.signals n && given f n) (fun_ext made.are);
    })
    (λ n t. integers_there net.types (length net.scopes) net.signals elaborated.signals n (and_parts (is_of is_integer net.signals n) (given (is_logic net) n) t).0)
