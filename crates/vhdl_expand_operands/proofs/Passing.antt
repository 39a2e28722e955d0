-- What several functions pass on, and lists of which nothing is made yet.
use Rattle.std.proofs.Common.{◌≡◌, List, [], ◌++◌, Result, Ok, Err, refl, ap, sym, subst}
use Rattle.std.specs.Prelude.{◌≢◌, IsErrAnd}
use Rattle.vhdl_expand_rules.specs.Elab.{Elab, ◌>>=◌, fault_told}
use Rattle.vhdl_expand_rules.specs.declared.fault.ElabFault.{ElabFault}
use Rattle.vhdl_expand_rules.specs.declared.fault.ElabFault.TheVariants.{NoMemory}
use Rattle.vhdl_expand_operands.specs.Results.{Expands}
use Rattle.vhdl_expand_operands.proofs.Several.{behind}

-- a fault that is passed on
pub passed_on : {X Y : Type 0} (view : X → Y) (given : Elab Y) (fault : ElabFault) (P : ElabFault → Type 0) (r : Result X ElabFault) → IsErrAnd r P
    → ((e : ElabFault) → P e → e ≡ fault) → (fault ≢ NoMemory → given ≡ Err (fault_told fault)) → Expands view given r
passed_on view given fault P (Ok x) h same f = absurd h
passed_on view given fault P (Err e) h same f = subst (λ (x : ElabFault). x ≢ NoMemory → given ≡ Err (fault_told x)) (sym (same e h)) f

-- before the first of several things
pub none_behind : {B : Type 0} (made : List B) (r : Elab (List B)) → made ≡ [] → r ≡ behind made r
none_behind made (Ok ys) none = ap (λ m. Ok (m ++ ys)) (sym none)
none_behind made (Err told) none = refl

-- what is made, or refused, by a call whose answer is this
pub made_by : {X Y : Type 0} (view : X → Y) (given : Elab Y) (r : Result X ElabFault) (x : X) → r ≡ Ok x → Expands view given r → given ≡ Ok (view x)
made_by view given r x e h = subst (λ q. Expands view given q) e h

pub refused_by : {X Y : Type 0} (view : X → Y) (given : Elab Y) (r : Result X ElabFault) (fault : ElabFault) → r ≡ Err fault → Expands view given r
    → fault ≢ NoMemory → given ≡ Err (fault_told fault)
refused_by view given r fault e h = subst (λ q. Expands view given q) e h

-- by what is given, where that is the same as another
pub expands_along : {X Y : Type 0} (view : X → Y) (given given' : Elab Y) (r : Result X ElabFault) → given ≡ given' → Expands view given' r → Expands view given r
expands_along view given given' r e h = subst (λ x. Expands view x r) (sym e) h

-- what comes next, of what is given
pub on : {A B : Type 0} (f : A → Elab B) (r q : Elab A) → r ≡ q → (r >>= f) ≡ (q >>= f)
on f r q h = ap (λ x. x >>= f) h
