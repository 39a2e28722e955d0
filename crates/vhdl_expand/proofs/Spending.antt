-- A budget ends alike wherever that is told.
use Rattle.std.proofs.Common.{◌≡◌, ℕ, Bool, true, false, List, Result, Ok, Err, IfErr, refl, sym, subst}
use Rattle.std.specs.Prelude.{IsErr, Contains}
use Rattle.vhdl_expand_rules.specs.declared.fault.ElabFault.{ElabFault}
use Rattle.vhdl_expand_rules.specs.declared.fault.ElabFault.TheVariants.{At}
use Rattle.vhdl_expand_rules.specs.declared.fault.ElabProblem.TheVariants.{TooMany}
use Rattle.vhdl_expand_rules.specs.Elab.{Told, Elab, ◌>>=◌, ◌>>◌, unless, fault_told, MayTell}
use Rattle.vhdl_expand_rules.specs.views.Integers.{Makes}
use Rattle.vhdl_expand_rules.proofs.Steps.{given}
use Rattle.vhdl_expand_operands.specs.Results.{Charges}
use Rattle.vhdl_elab_rules.specs.Limits.{Counts, is_within}
use Rattle.vhdl_expand_tree.specs.Costs.{less, spent}
use Rattle.vhdl_expand_tree.proofs.Alike.{Alike, alike_same, both_refused, tells_spent}
use Rattle.vhdl_expand_tree.proofs.Charging.{spent_told}

module _ (at : ℕ) (n c : Counts) where
  pub spent_alike : {Y : Type 0} (f : Counts → Elab Y) → Alike (spent 0 n c >>= f) (spent at n c >>= f)
  spent_alike {Y} f = by (is_within c n)
    where
      by : (t : Bool) → Alike ((unless TooMany 0 t >> given (less n c)) >>= f) ((unless TooMany at t >> given (less n c)) >>= f)
      by true = alike_same refl
      by false = both_refused {A = Y} {told = (TooMany, at)} refl refl

  pub spent_from : Alike (spent at n c) (spent 0 n c)
  spent_from = by (is_within c n)
    where
      by : (t : Bool) → Alike (unless TooMany at t >> given (less n c)) (unless TooMany 0 t >> given (less n c))
      by true = alike_same refl
      by false = both_refused {A = Counts} {told = (TooMany, 0)} refl refl

  pub spent_here : (left : Counts) → spent at n c ≡ Ok left → spent 0 n c ≡ Ok left
  spent_here left h = by (is_within c n) h
    where
      by : (t : Bool) → (unless TooMany at t >> given (less n c)) ≡ Ok left → (unless TooMany 0 t >> given (less n c)) ≡ Ok left
      by true k = k
      by false k = absurd cc

  pub spent_there : (left : Counts) → spent 0 n c ≡ Ok left → spent at n c ≡ Ok left
  spent_there left h = by (is_within c n) h
    where
      by : (t : Bool) → (unless TooMany 0 t >> given (less n c)) ≡ Ok left → (unless TooMany at t >> given (less n c)) ≡ Ok left
      by true k = k
      by false k = absurd cc

  spent-refused : {told : Told} → spent at n c ≡ Err told → IsErr (spent 0 n c)
  spent-refused {told} h = by (is_within c n) h
    where
      by : (t : Bool) → (unless TooMany at t >> given (less n c)) ≡ Err told → IsErr (unless TooMany 0 t >> given (less n c))
      by true k = absurd cc
      by false k = refl

  pub spent_stops : {bytes : List ℕ} {told : Told} → spent at n c ≡ Err told → Contains bytes told.1 → MayTell bytes (spent 0 n c) told
  spent_stops {bytes} {told} h there = tells_spent (spent_told at n c told h) there (spent-refused h)

-- where a budget that is spent tells it
pub told_where : (bytes : List ℕ) (at : ℕ) (fault : ElabFault) → fault ≡ At TooMany at → Contains bytes at → Contains bytes (fault_told fault).1
told_where bytes at fault e h = subst (λ (f : ElabFault). Contains bytes (fault_told f).1) (sym e) h

-- a charge alone
pub charged_alone : (bytes : List ℕ) {X : Type 0} (view : X → Counts) (at : ℕ) (n c : Counts) (r : Result X ElabFault) → Contains bytes at → Makes view (spent at n c) r
    → IfErr r (λ fault. fault ≡ At TooMany at) → Charges bytes view (spent 0 n c) r
charged_alone bytes view at n c (Ok x) h m f = spent_here at n c (view x) m
charged_alone bytes view at n c (Err fault) h m f = λ _. spent_stops at n c m (told_where bytes at fault f h)
