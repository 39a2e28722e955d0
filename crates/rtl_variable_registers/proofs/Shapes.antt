-- The bodies of registers: an edge alone, behind a reset, or before one.
use Rattle.std.proofs.Common.{◌≡◌, ℕ, Bool, true, false, ◌&&◌, [], ◌∷◌, Option, Some, None, refl, sym, subst, Contains, is_some}
use Rattle.std.proofs.lemmas.Bool.{and_parts}
use Rattle.vhdl_values.specs.declared.kinds.Edge.{Edge}
use Rattle.vhdl_values.specs.declared.scalar.Nine.{Nine}
use Rattle.rtl_model.specs.basics.Lists.{is_empty}
use Rattle.rtl_model.specs.bodies.Body.{Test, level, if_of, Stmts, done, step, no_else, branch}
use Rattle.rtl_model.specs.bodies.Kinds.{IsEdgeTest, rising_call, falling_call, event_and_level, level_and_event, EdgeTest, edge_test, ResetTest, reset_test, ResetPart, clocking_of, with_reset}
use Rattle.rtl_model.specs.bodies.Reads.{events, test_reads}
use Rattle.rtl_model.proofs.basics.Lists.{Contains-first, is_nil}
use Rattle.rtl_model.proofs.bodies.EdgeTests.{is_edge_test, is_reset_test}
use Rattle.rtl_variable_registers.specs.Bodies.{is_register}
use Rattle.rtl_variable_registers.specs.Known.{gives_constants, never_set}
use Rattle.rtl_variable_registers.specs.Laws.{first_body, behind_body}

-- the last branch of a register
pub record AtEdge (t : Test) (s : Stmts) : Type 0 where
  pub clock : ℕ
  pub edge : Edge
  pub tests : IsEdgeTest t clock edge
  pub quiet : events s ≡ []

at_edge_of : (t : Test) (s : Stmts) (b : Bool) (o : Option EdgeTest) (reset : Option ResetPart) → is_empty (events s) ≡ b → edge_test t ≡ o
    → is_some (clocking_of true b o s reset) ≡ true → AtEdge t s
at_edge_of t s true (Some e) reset n h k = record { clock = e.clock; edge = e.edge; tests = is_edge_test t e h; quiet = is_nil (events s) n }
at_edge_of t s true None reset n h k = absurd cc
at_edge_of t s false o reset n h k = absurd cc

pub edge_alone : (t : Test) (s : Stmts) → is_register (step (if_of (branch t s no_else)) done) ≡ true → AtEdge t s
edge_alone t s h =
    at_edge_of t s (is_empty (events s)) (edge_test t) None refl refl
    (and_parts (is_some (clocking_of true (is_empty (events s)) (edge_test t) s None)) true h).0

-- a register's reset, by what is known at first
pub record ByReset (known : ℕ → Bool) (r : Test) (a : Stmts) : Type 0 where
  pub plain : Bool
  pub net : ℕ
  pub v : Nine
  pub is : r ≡ level plain net v
  pub constants : gives_constants known a ≡ true

module _ (gates : Bool) (known : ℕ → Bool) (r : Test) (a : Stmts) (t : Test) (s : Stmts) where
  abbrev with_edge : Option ResetTest → Bool
  with_edge o = is_some (with_reset gates o true (is_empty (events s)) (edge_test t) done s)

  parts_of : (o : Option ResetTest) → reset_test true [] r ≡ o → with_edge o ≡ true → gives_constants known a ≡ true → ByReset known r a × AtEdge t s
  parts_of None h k g = absurd cc
  parts_of (Some x) h k g =
      let i = is_reset_test true [] r x h in (
        record { plain = i.plain; net = x.net; v = i.v; is = i.is; constants = g },
        at_edge_of t s (is_empty (events s)) (edge_test t) (Some (record { test = x; branch = done; gates = gates })) refl refl k,
      )

  both_parts : with_edge (reset_test true [] r) && gives_constants known a ≡ true → ByReset known r a × AtEdge t s
  both_parts h = let (c, g) = and_parts (with_edge (reset_test true [] r)) (gives_constants known a) h in parts_of (reset_test true [] r) refl c g

pub reset_first : (r : Test) (a : Stmts) (t : Test) (s : Stmts) → is_register (first_body r a t s) ≡ true → ByReset (never_set (first_body r a t s)) r a × AtEdge t s
reset_first r a t s h = both_parts true (never_set (first_body r a t s)) r a t s h

pub reset_behind : (t : Test) (s : Stmts) (r : Test) (a : Stmts) → is_register (behind_body t s r a) ≡ true → ByReset (never_set (behind_body t s r a)) r a × AtEdge t s
reset_behind t s r a h = both_parts false (never_set (behind_body t s r a)) r a t s h

-- an edge test reads its clock
pub edge_test_reads : (t : Test) (clock : ℕ) (edge : Edge) → IsEdgeTest t clock edge → Contains (test_reads t) clock
edge_test_reads t clock edge (rising_call p q) = subst (λ (u : Test). Contains (test_reads u) clock) (sym p) (Contains-first clock [])
edge_test_reads t clock edge (falling_call p q) = subst (λ (u : Test). Contains (test_reads u) clock) (sym p) (Contains-first clock [])
edge_test_reads t clock edge (event_and_level v p q) = subst (λ (u : Test). Contains (test_reads u) clock) (sym p) (Contains-first clock (clock ∷ []))
edge_test_reads t clock edge (level_and_event v p q) = subst (λ (u : Test). Contains (test_reads u) clock) (sym p) (Contains-first clock (clock ∷ []))
