-- The nets that a reset leaves out, and those that stay undefined, as lists.
use Rattle.std.proofs.Common.{◌≡◌, ℕ, suc, ◌<◌, Bool, true, false, not, ◌==◌, ◌&&◌, List, [], ◌∷◌, length, get_or, map, refl, sym, ap, ◌∙◌, subst, arith, Option, Some, None, Result, Ok, Err}
use Rattle.std.specs.Prelude.{All, ◌||◌, IfOk}
use Rattle.std.specs.List.{filter, range_with_len}
use Rattle.std.proofs.lemmas.Bool.{and_parts, eqb-true}
use Rattle.std.proofs.lemmas.List.{length-map}
use Rattle.std.proofs.lemmas.Option.{slice_get_within}
use Rattle.std.proofs.lemmas.List.Kept.{IsStrictlyIncreasing-filter}
use Rattle.std.specs.List.Sorted.{IsStrictlyIncreasing}
use Rattle.vhdl_values.specs.Scalar.{code_of}
use Rattle.vhdl_values.specs.declared.scalar.Nine.TheVariants.{U}
use Rattle.rtl_model.specs.bodies.Assigns.{must_assign}
use Rattle.rtl_model.specs.bodies.Body.{Stmts}
use Rattle.rtl_model.specs.bodies.Types.{ElementType}
use Rattle.rtl_model.specs.nets.FlatNetlist.{DriverInRange, ProcessInRange}
use Rattle.rtl_model.proofs.basics.Lists.{get_or-map_within}
use Rattle.rtl_net.specs.declared.body.Statement.{Statement}
use Rattle.rtl_net.specs.declared.process.Driver.{Driver}
use Rattle.rtl_net.specs.declared.process.Process.{Process}
use Rattle.rtl_net.specs.Bodies.{statements_of}
use Rattle.rtl_net.specs.Nets.{NetlistView, driver_view, process_view}
use Rattle.rtl_net.specs.Elaborated.{IsNet}
use Rattle.rtl_body_facts.specs.Paths.{driven, to_net}
use Rattle.rtl_body_facts.specs.Reading.{is_in}
use Rattle.rtl_body_facts.proofs.EveryPath.{in_filter}
use Rattle.rtl_remarks.specs.Remarks.{leaves_out, starts_undefined, stays_undefined}
use Rattle.rtl_remarks.specs.Undefined.{may_assign}
use Rattle.rtl_remarks.specs.Tables.{AreThose}
use Rattle.rtl_remarks.proofs.Rising.{those_are}

pub if_ok : {T E : Type 0} (P Q : T → Type 0) (r : Result T E) → ((v : T) → P v → Q v) → IfOk r P → IfOk r Q
if_ok P Q (Ok v) on h = on v h
if_ok P Q (Err e) on h = h

-- what of the driven nets isn't assigned by the branch
pub left_are : (p : Process) (o : Option Stmts) (branch : List Statement) (v t a targets assigned : List ℕ) (ds es : List Driver) → v ≡ filter (λ n. not (is_in n a)) t → t ≡ targets → a ≡ assigned
    → AreThose (λ n. is_in n (driven ds)) targets → ((n : ℕ) → is_in n assigned ≡ must_assign (to_net es n) (statements_of branch)) → ds ≡ p.drives.items → es ≡ p.drives.items
    → Some (statements_of branch) ≡ o → AreThose (leaves_out p o) v
left_are p o branch v t a targets assigned ds es is et ea those are ed ee eo = record {
  rise = subst IsStrictlyIncreasing (sym (is ∙ ap (filter (λ n. not (is_in n a))) et)) (IsStrictlyIncreasing-filter (λ n. not (is_in n a)) targets those.rise);
  are = λ n.
      ap (is_in n) is ∙ in_filter (λ m. not (is_in m a)) t n
      ∙ ap (λ b. b && not (is_in n a)) (ap (is_in n) et ∙ those.are n ∙ ap (λ xs. is_in n (driven xs)) ed)
      ∙ ap (λ b. is_in n (driven p.drives.items) && not b) (ap (is_in n) ea ∙ are n ∙ ap (λ xs. must_assign (to_net xs n) (statements_of branch)) ee)
      ∙ ap (λ x. leaves_out p x n) eo;
}

-- of the nets that are kept undefined those that aren't freed and start so
pub stay_are : (p : Process) (s : Stmts) (v held kept freed starting : List ℕ) → v ≡ filter (λ n. is_in n starting) held → held ≡ filter (λ n. not (is_in n freed)) kept
    → IsStrictlyIncreasing kept → ((n : ℕ) → is_in n kept ≡ may_assign p.drives.items true n s) → ((n : ℕ) → is_in n freed ≡ may_assign p.drives.items false n s)
    → ((n : ℕ) → is_in n starting ≡ starts_undefined p.drives.items n) → AreThose (stays_undefined p (Some s)) v
stay_are p s v held kept freed starting is from rise keep free start = record {
  rise = subst IsStrictlyIncreasing (sym (is ∙ ap (filter (λ n. is_in n starting)) from))
      (IsStrictlyIncreasing-filter (λ n. is_in n starting) (filter (λ n. not (is_in n freed)) kept) (IsStrictlyIncreasing-filter (λ n. not (is_in n freed)) kept rise));
  are = λ n.
      ap (is_in n) is ∙ in_filter (λ m. is_in m starting) held n
      ∙ ap (λ b. b && is_in n starting) (ap (is_in n) from ∙ in_filter (λ m. not (is_in m freed)) kept n)
      ∙ ap (λ b. (b && not (is_in n freed)) && is_in n starting) (keep n) ∙ ap (λ b. (may_assign p.drives.items true n s && not b) && is_in n starting) (free n)
      ∙ ap (λ b. (may_assign p.drives.items true n s && not (may_assign p.drives.items false n s)) && b) (start n);
}

-- ---- they are nets that are there

driven_there : (types : List ElementType) (ds : List Driver) → All (DriverInRange types) (map driver_view ds) → (n : ℕ) → is_in n (driven ds) ≡ true → n < length types
driven_there types [] all n t = absurd cc
driven_there types (d ∷ ds) all n t = by (d.net == n) refl t (driven_there types ds (λ k x l. all (suc k) x (omega (arith, l))) n)
  where
    by : (b : Bool) → (d.net == n) ≡ b → (b || is_in n (driven ds)) ≡ true → (is_in n (driven ds) ≡ true → n < length types) → n < length types
    by true e t later =
        let (ty, has, low) = all 0 (driver_view d) (omega arith) in
        subst (λ m. m < length types) (eqb-true d.net n e) (slice_get_within types d.net ty has)
    by false e t later = later t

starting_driven : (ds : List Driver) (n : ℕ) → starts_undefined ds n ≡ true → is_in n (driven ds) ≡ true
starting_driven [] n t = absurd cc
starting_driven (d ∷ ds) n t = by (d.start == code_of U) (d.net == n) t (starting_driven ds n)
  where
    by : (a b : Bool) → ((a && b) || starts_undefined ds n) ≡ true → (starts_undefined ds n ≡ true → is_in n (driven ds) ≡ true) → (b || is_in n (driven ds)) ≡ true
    by a true t later = refl
    by true false t later = later t
    by false false t later = later t

pub in_range : (net : NetlistView) (elaborated : IsNet net) (number : ℕ) (p : Process) → number < length net.processes → p ≡ get_or net.processes number p
    → ProcessInRange net.types (process_view p)
in_range net elaborated number p there at =
    let same : get_or (map process_view net.processes) number (process_view p) ≡ process_view p =
    get_or-map_within process_view net.processes number p (process_view p) there ∙ ap process_view (sym at) in
    let h : ProcessInRange net.types (get_or (map process_view net.processes) number (process_view p)) =
    elaborated.in_range.processes number (process_view p) (rw (length-map net.processes process_view) there) in
    subst (ProcessInRange net.types) same h

module _ (types : List ElementType) (p : Process) (in_range : ProcessInRange types (process_view p)) (o : Option Stmts) where
  below : (o : Option Stmts) (n : ℕ) → leaves_out p o n ≡ true → n < length types
  below None n t = absurd cc
  below (Some branch) n t =
      let (a, b) = and_parts (is_in n (driven p.drives.items)) (not (must_assign (to_net p.drives.items n) branch)) t in
      driven_there types p.drives.items in_range.drivers n a

  pub left_nets : (left : List ℕ) → AreThose (leaves_out p o) left → left ≡ filter (leaves_out p o) (range_with_len 0 (length types))
  left_nets left those = those_are (leaves_out p o) left (length types) those (below o)

  starting_below : (o : Option Stmts) (n : ℕ) → stays_undefined p o n ≡ true → n < length types
  starting_below None n t = absurd cc
  starting_below (Some s) n t =
      let (a, b) = and_parts (may_assign p.drives.items true n s && not (may_assign p.drives.items false n s)) (starts_undefined p.drives.items n) t in
      driven_there types p.drives.items in_range.drivers n (starting_driven p.drives.items n b)

  pub stay_nets : (stay : List ℕ) → AreThose (stays_undefined p o) stay → stay ≡ filter (stays_undefined p o) (range_with_len 0 (length types))
  stay_nets stay those = those_are (stays_undefined p o) stay (length types) those (starting_below o)
