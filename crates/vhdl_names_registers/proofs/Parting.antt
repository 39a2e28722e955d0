-- What conditions, values and statements of the code are not.
use Rattle.std.proofs.Common.{◌≡◌, ℕ, ◌+◌, ◌<◌, Box, Global, List, [], ◌∷◌, ◌++◌, true, false, Option, Some, None, refl, ap, sym, ◌∙◌}
use mathlib.Core.Former.{Count}
use Rattle.vhdl_values.specs.declared.kinds.Logic.{Logic}
use Rattle.vhdl_values.specs.declared.kinds.Edge.{Edge as EdgeKind}
use Rattle.vhdl_names_trees.specs.declared.integer.StaticLink.{StaticLink}
use Rattle.vhdl_names_trees.specs.declared.test.Test.{Test}
use Rattle.vhdl_names_trees.specs.declared.test.Test.TheVariants as t
use Rattle.vhdl_names_trees.specs.declared.test.Test.TheBlock.{Row_of-TestLink, end_of-TestLink, more_of-TestLink}
use Rattle.vhdl_names_trees.specs.declared.vector.SignalPart.{SignalPart}
use Rattle.vhdl_names_trees.specs.declared.vector.Value.{Value}
use Rattle.vhdl_names_trees.specs.declared.vector.Value.TheVariants as e
use Rattle.vhdl_names_trees.specs.declared.vector.Vector.{Vector}
use Rattle.vhdl_names_trees.specs.declared.vector.Vector.TheVariants as v
use Rattle.vhdl_names_trees.specs.declared.vector.Chosen.TheBlock.{Row_of-VectorLink, end_of-VectorLink, more_of-VectorLink}
use Rattle.vhdl_names_trees.specs.declared.vector.VectorLink.{VectorLink}
use Rattle.vhdl_names_trees.specs.declared.vector.VectorLink.TheVariants as k
use Rattle.vhdl_values.specs.declared.scalar.Nine.{Nine}
use Rattle.vhdl_names_units.specs.declared.sequential.Statement.{Statement}
use Rattle.vhdl_names_units.specs.declared.sequential.Statement.TheVariants as st
use Rattle.vhdl_names_units.specs.declared.sequential.If.{If'}
use Rattle.vhdl_names_units.specs.declared.sequential.Case.{Case'}
use Rattle.vhdl_names_units.specs.views.Sequential.{Guarded, branch_view, statement_view, branches_of, statements_of}
use Rattle.vhdl_names_units.specs.views.Sequential.{last_of as last_of_if}
use Rattle.vhdl_names_rules.specs.units.Statements as s
use Rattle.std.specs.Prelude.{Result, Ok, Err, IfOk, IfErr, is_some, length, option_map}
use Rattle.std.specs.Result.{result_ok}
use Rattle.std.proofs.Common.{get_or, take, vec_len, Vec, arith, suc, zero, map}
use Rattle.std.specs.List.{slice_get}
use Rattle.vhdl_names_units.specs.declared.sequential.Branch.{Branch}
use Rattle.vhdl_names_rules.proofs.laws.Rules.{some_is}
use Rattle.vhdl_names_rules.specs.Registers.{ends_in_edge}
use Rattle.std.proofs.lemmas.List.{take_more}
use Rattle.vhdl_names_registers.specs.Branching.{only_condition}
use Rattle.vhdl_names_rules.specs.units.Expressions as u
use Rattle.vhdl_names_trees.specs.views.Integers.{static_view, static_chained}
use Rattle.vhdl_names_trees.specs.declared.test.TestLink.{TestLink}
use Rattle.vhdl_names_trees.proofs.rows.Tests.{chained-after}
use Rattle.vhdl_names_trees.specs.views.Tests.{test_view, links_view, test_chained}
use Rattle.vhdl_names_trees.specs.views.Vectors.{place_view, vector_view, value_view, linked}
use Rattle.vhdl_names_trees.specs.views.Vectors.{links_view as vector_links}
use Rattle.vhdl_names_rules.specs.Edges.{level, conditions, gated}
use Rattle.vhdl_names_registers.specs.Looking.{signal_of, character_of, signal_in, character_in}
use Rattle.vhdl_names_registers.specs.Spines.{last_of}
use Rattle.vhdl_names_registers.specs.Taking.{is_start}
use Rattle.vhdl_names_registers.specs.Tied.{is_null}

-- what holds of each operator holds of a chain
of_chain : {A : Type 0} (f : u.Test → A) (a : A) → ((op : Logic) (x y : u.Test) → f (u.Test.both op x y) ≡ a)
    → (op : Logic) (x y : u.Test) (n : Count) (row : Row_of-TestLink n) → f (links_view (u.Test.both op x y) row) ≡ a
of_chain f a h op x y n end_of-TestLink = h op x y
of_chain f a h op x y n (more_of-TestLink operator operand rest) = of_chain f a h operator (u.Test.both op x y) (test_view operand) _ rest

pub no_level : (x : Test) → ((at : ℕ) (left right : Box Value Global) → x ≡ t.Alike at left right → ⊥) → level (test_view x) ≡ None
no_level (t.Alike at left right) other = absurd (other at left right refl)
no_level (t.Chain' b first operator operand shape rest) other = of_chain level None (λ op x y. refl) operator (test_view first) (test_view operand) _ rest
no_level _ other = refl

pub no_start : (x : Test) → ((kind : EdgeKind) (p : SignalPart) → x ≡ t.Edge kind p → ⊥) → ((p : SignalPart) → x ≡ t.Event p → ⊥) → is_start (test_view x) ≡ false
no_start (t.Edge kind p) call event = absurd (call kind p refl)
no_start (t.Event p) call event = absurd (event p refl)
no_start (t.Chain' b first operator operand shape rest) call event = of_chain is_start false (λ op x y. refl) operator (test_view first) (test_view operand) _ rest
no_start _ call event = refl

-- the last link of a chain
pub last_link : (x : u.Static) (ls : List StaticLink) (l : StaticLink) → last_of (static_chained x (ls ++ l ∷ []))
    ≡ Some (record { operator = l.operator; before = static_chained x ls; operand = static_view l.operand })
last_link x [] l = refl
last_link x (k ∷ ls) l = last_link (u.Static.binary k.at k.operator x (static_view k.operand)) ls l

-- ---- values

chain_no_signal : (left : u.Vector) (x : VectorLink) (n : Count) (row : Row_of-VectorLink n) → signal_of (vector_links (linked left x) row) ≡ None
chain_no_signal left (k.Vector op at y) n end_of-VectorLink = refl
chain_no_signal left (k.Integer op at y) n end_of-VectorLink = refl
chain_no_signal left (k.Computed op at y) n end_of-VectorLink = refl
chain_no_signal left x n (more_of-VectorLink y rest) = chain_no_signal (linked left x) y _ rest

pub no_signal : (x : Vector) → ((p : SignalPart) → x ≡ v.Signal p → ⊥) → signal_of (vector_view x) ≡ None
no_signal (v.Signal p) other = absurd (other p refl)
no_signal (v.Chain' b first x shape rest) other = chain_no_signal (vector_view first) x _ rest
no_signal _ other = refl

pub signal_if_any : (x : Vector) (r : Result SignalPart Vector) → IfOk r (λ p. x ≡ v.Signal p) → IfErr r (λ _. (p : SignalPart) → x ≡ v.Signal p → ⊥)
    → option_map place_view (result_ok r) ≡ signal_of (vector_view x)
signal_if_any x (Ok p) h other = sym (ap (λ (y : Vector). signal_of (vector_view y)) h)
signal_if_any x (Err y) h other = sym (no_signal x other)

chain_no_character : (left : u.Vector) (x : VectorLink) (n : Count) (row : Row_of-VectorLink n) → character_of (vector_links (linked left x) row) ≡ None
chain_no_character left (k.Vector op at y) n end_of-VectorLink = refl
chain_no_character left (k.Integer op at y) n end_of-VectorLink = refl
chain_no_character left (k.Computed op at y) n end_of-VectorLink = refl
chain_no_character left x n (more_of-VectorLink y rest) = chain_no_character (linked left x) y _ rest

pub no_character : (x : Vector) → ((at : ℕ) (c : Nine) → x ≡ v.Character at c → ⊥) → character_of (vector_view x) ≡ None
no_character (v.Character at c) other = absurd (other at c refl)
no_character (v.Chain' b first x shape rest) other = chain_no_character (vector_view first) x _ rest
no_character _ other = refl

pub no_elements_signal : (x : Value) → ((y : Vector) → x ≡ e.Elements y → ⊥) → signal_in (value_view x) ≡ None
no_elements_signal (e.Elements y) other = absurd (other y refl)
no_elements_signal _ other = refl

pub no_elements_character : (x : Value) → ((y : Vector) → x ≡ e.Elements y → ⊥) → character_in (value_view x) ≡ None
no_elements_character (e.Elements y) other = absurd (other y refl)
no_elements_character _ other = refl

-- ---- statements

pub no_null : (x : Statement) → (x ≡ st.Null → ⊥) → is_null (statement_view x) ≡ false
no_null st.Null other = absurd (other refl)
no_null (st.If (If' at shape branches otherwise)) other = refl
no_null (st.Case (Case' at selector shape alternatives last others_shape others)) other = refl
no_null _ other = refl

-- ---- ifs

-- what has an else has no condition alone
only_with_else : (bs : List Guarded) (xs : s.Statements) → only_condition (branches_of bs (s.otherwise xs)) ≡ None
only_with_else [] xs = refl
only_with_else (b ∷ []) xs = refl
only_with_else (b ∷ c ∷ bs) xs = refl

pub no_only_with_else : (bs : List Guarded) (o : Option (List s.Statement)) → is_some o ≡ true → only_condition (branches_of bs (last_of_if o)) ≡ None
no_only_with_else bs (Some xs) h = only_with_else bs (statements_of xs)
no_only_with_else bs None h = absurd cc

pub no_only_of_more : (bs : List Guarded) (o : Option (List s.Statement)) → (length bs ≡ 1 → ⊥) → only_condition (branches_of bs (last_of_if o)) ≡ None
no_only_of_more bs (Some xs) h = only_with_else bs (statements_of xs)
no_only_of_more [] None h = refl
no_only_of_more (b ∷ []) None h = absurd (h refl)
no_only_of_more (b ∷ c ∷ bs) None h = refl

pub mapped_is_some : {A B : Type 0} (f : A → B) (o : Option A) → is_some (option_map f o) ≡ is_some o
mapped_is_some f None = refl
mapped_is_some f (Some a) = refl

-- ---- chains

-- with what a chain begins
abbrev pub begin_view : Test → u.Test
begin_view (t.Chain' b first operator operand shape rest) = u.Test.both operator (test_view first) (test_view operand)
begin_view x = test_view x

pub chained_more : (left : u.Test) (ls : List TestLink) (n : ℕ) (l : TestLink) → n < length ls → l ≡ get_or ls n l
    → test_chained left (take (n + 1) ls) ≡ u.Test.both l.operator (test_chained left (take n ls)) (test_view l.operand)
chained_more left ls n l h is = chained-after left (take n ls) (take (n + 1) ls) l (take_more ls n l h ∙ ap (λ (m : TestLink). take n ls ++ m ∷ []) (sym is))

pub vec_len_is : {A : Type 0} (v : Vec A Global) → vec_len v ≡ length v.items
vec_len_is v = v.ok.0

-- ---- the last branch

-- an else ends in no edge
pub no_edge_with_else : (bs : List Guarded) (o : Option (List s.Statement)) → is_some o ≡ true → ends_in_edge (branches_of bs (last_of_if o)) ≡ false
no_edge_with_else bs None h = absurd cc
no_edge_with_else [] (Some xs) h = refl
no_edge_with_else (b ∷ []) (Some xs) h = refl
no_edge_with_else (b ∷ c ∷ bs) (Some xs) h = no_edge_with_else (c ∷ bs) (Some xs) h

pub edge_of_last : (bs : List Branch) (b : Branch) (o : Option (List s.Statement)) (k : ℕ) → is_some o ≡ false → suc k ≡ length bs → Some b ≡ slice_get bs k
    → ends_in_edge (branches_of (map branch_view bs) (last_of_if o)) ≡ is_some (gated (conditions (test_view b.condition)))
edge_of_last bs b (Some xs) k h e is = absurd cc
edge_of_last [] b None k h e is = absurd cc
edge_of_last (c ∷ []) b None zero h e is = sym (ap (λ (b : Branch). is_some (gated (conditions (test_view b.condition)))) (some_is b c is))
edge_of_last (c ∷ []) b None (suc k) h e is = absurd cc
edge_of_last (c ∷ d ∷ bs) b None zero h e is = absurd (omega (arith, e))
edge_of_last (c ∷ d ∷ bs) b None (suc k) h e is = edge_of_last (d ∷ bs) b None k h (omega (arith, e)) is
