-- The numbers that a case spreads, paid as turns.
use Rattle.std.proofs.Common.{◌≡◌, ◌⊎◌, inl, inr, ℕ, ◌-◌, ◌^◌, ◌<◌, ◌≤◌, Bool, true, false, ◌&&◌, refl, sym, ap, ◌∙◌, arith}
use Rattle.std.specs.Prelude.{◌≢◌, min, nat_le}
use Rattle.std.proofs.lemmas.Bool.{cases_lt, lt-leb}
use Rattle.vhdl_names_rules.specs.units.Statements as u
use Rattle.vhdl_names_trees.specs.declared.vector.Value.{Value}
use Rattle.vhdl_names_trees.specs.declared.vector.Value.TheVariants as v
use Rattle.vhdl_names_trees.specs.views.Vectors.{value_view}
use Rattle.vhdl_expand_rules.specs.declared.fault.ElabProblem.TheVariants.{TooMany}
use Rattle.vhdl_expand_rules.specs.Elab.{◌>>◌, refused, unless}
use Rattle.vhdl_expand_rules.specs.Site.{Site}
use Rattle.vhdl_expand_rules.proofs.Steps.{given}
use Rattle.vhdl_elab_rules.specs.Limits.{Counts}
use Rattle.vhdl_expand_tree.specs.Costs as costs
use Rattle.vhdl_expand_tree.specs.Costs.{spent}
use Rattle.vhdl_expand_tree.proofs.Charging.{spent-none}
use Rattle.vhdl_expand.specs.Unrolled.{paid, spread_costs}

-- one on a value that is no integer spreads none
pub none_spread : (here : Site) (at : ℕ) (n : Counts) (x : Value) (alts : u.Alternatives) → ((c : _) → x ≢ v.Computed c) → paid n (given (spread_costs here at (value_view x) alts)) ≡ given n
none_spread here at n (v.Computed c) alts h = absurd (h c refl)
none_spread here at n (v.Elements y) alts h = spent-none 0 n
none_spread here at n (v.Position p) alts h = spent-none 0 n
none_spread here at n (v.StateOf y) alts h = spent-none 0 n
none_spread here at n (v.StateOfVariable k) alts h = spent-none 0 n
none_spread here at n (v.StaticTruth t) alts h = spent-none 0 n

stopped : (a b c t d e : Bool) (x : Counts) → t ≡ false → (unless TooMany 0 (a && (b && (c && (t && (d && e))))) >> given x) ≡ refused TooMany 0
stopped true true true false d e x h = refl
stopped true true true true d e x h = absurd cc
stopped true true false t d e x h = refl
stopped true false c t d e x h = refl
stopped false b c t d e x h = refl

-- more than a word has are never left
module _ (n : Counts) (fits : n.turns < 2 ^ 32) where
  too-many : (m : ℕ) → n.turns < m → spent 0 n (costs.turns m) ≡ refused TooMany 0
  too-many m l =
      stopped (nat_le 0 n.processes) (nat_le 0 n.instances) (nat_le 0 n.nets) (nat_le m n.turns) (nat_le 0 n.statements) (nat_le 0 n.variable_elements) _ (lt-leb m n.turns l)

  pub capped_turns : (k : ℕ) → spent 0 n (costs.turns (min (2 ^ 64 - 1) k)) ≡ spent 0 n (costs.turns k)
  capped_turns k = by (cases_lt k (2 ^ 64 - 1))
    where
      by : (k < 2 ^ 64 - 1) ⊎ (2 ^ 64 - 1 ≤ k) → spent 0 n (costs.turns (min (2 ^ 64 - 1) k)) ≡ spent 0 n (costs.turns k)
      by (inl l) = ap (λ m. spent 0 n (costs.turns m)) (let e : min (2 ^ 64 - 1) k ≡ k = omega (arith, l) in e)
      by (inr l) = too-many (min (2 ^ 64 - 1) k) (omega (arith, fits, l)) ∙ sym (too-many k (omega (arith, fits, l)))
