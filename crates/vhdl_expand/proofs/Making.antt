-- Parts and turns behind those that are made so far, with what is left of the limits.
use Rattle.std.proofs.Common.{◌≡◌, ℕ, ◌+◌, ◌-◌, ◌≤◌, Bool, true, false, ◌&&◌, nat_le, List, Result, Ok, Err, refl, sym, ap, ◌∙◌, subst, arith}
use Rattle.std.specs.Prelude.{Contains}
use Rattle.std.proofs.lemmas.Bool.{leb-true}
use Rattle.vhdl_expand_rules.specs.declared.fault.ElabFault.{ElabFault}
use Rattle.vhdl_expand_rules.specs.declared.fault.ElabProblem.TheVariants.{TooMany}
use Rattle.vhdl_expand_rules.specs.Elab.{Elab, ◌>>=◌, ◌>>◌, unless, MayTell, Told}
use Rattle.vhdl_expand_rules.specs.Tree.{Parts, no_parts, followed_by}
use Rattle.vhdl_expand_rules.proofs.Steps.{given, ok}
use Rattle.vhdl_expand_rules.proofs.Chains.{bind-assoc, err_first}
use Rattle.vhdl_expand_operands.specs.Results.{Charges}
use Rattle.vhdl_elab_rules.specs.Limits.{Counts, is_within}
use Rattle.vhdl_expand_tree.specs.Costs.{no_costs, plus, less, turns, spent, charged, parts_costs}
use Rattle.vhdl_expand_tree.proofs.Alike.{Alike, wrong, alike_same, alike_trans, alike_then, both_refused, tells, tells_same, tells_first}
use Rattle.vhdl_expand_tree.proofs.Charging.{left_with, charged_in_turn, charged_made, spent-plus, spent-none, spent_told}
use Rattle.vhdl_expand_tree.proofs.Parts.{followed_assoc, followed_none, followed_costs}
use Rattle.vhdl_expand.proofs.Spending.{spent_alike, spent_here}
use Rattle.vhdl_expand.specs.Making.{Made, Progress, and_then, made_costs, made_turns, adding, nothing_yet}

-- ---- what is made together

mixed : (a b p q : ℕ) → a + b + (p + q) ≡ a + p + (b + q)
mixed a b p q = omega arith

sum-assoc : (a b c : ℕ) → a + (b + c) ≡ a + b + c
sum-assoc a b c = omega arith

sum-none : (a : ℕ) → a + 0 ≡ a
sum-none a = omega arith

pub none-more : (a : ℕ) → 0 + a ≡ a
none-more a = omega arith

turns-apart : (a b : ℕ) (p q : Counts) → plus (turns (a + b)) (plus p q) ≡ plus (plus (turns a) p) (plus (turns b) q)
turns-apart a b p q = λ i. record {
  processes = mixed 0 0 p.processes q.processes i;
  instances = mixed 0 0 p.instances q.instances i;
  nets = mixed 0 0 p.nets q.nets i;
  turns = mixed a b p.turns q.turns i;
  statements = mixed 0 0 p.statements q.statements i;
  variable_elements = mixed 0 0 p.variable_elements q.variable_elements i;
}

pub joint_costs : (m n : Made) → made_costs (and_then m n) ≡ plus (made_costs m) (made_costs n)
joint_costs m n = ap (plus (turns (m.turns + n.turns))) (followed_costs m.parts n.parts) ∙ turns-apart m.turns n.turns (parts_costs m.parts) (parts_costs n.parts)

then-assoc : (x y z : Made) → and_then x (and_then y z) ≡ and_then (and_then x y) z
then-assoc x y z = λ i. record { parts = sym (followed_assoc x.parts y.parts z.parts) i; turns = sum-assoc x.turns y.turns z.turns i }

abbrev nothing : Made
nothing = record { parts = no_parts; turns = 0 }

then-nothing : (x : Made) → and_then x nothing ≡ x
then-nothing x = λ i. record { parts = followed_none x.parts i; turns = sum-none x.turns i }

nothing-then : (x : Made) → and_then nothing x ≡ x
nothing-then x = λ i. record { parts = x.parts; turns = none-more x.turns i }

abbrev pub progress : Made → Counts → Progress
progress m left = record { made = m; left = left }

-- first this, and then that
abbrev pub in_turn : Elab Made → Elab Made → Elab Made
in_turn r s = r >>= λ m. s >>= λ n. given (and_then m n)

-- ---- one after another

abbrev behind : Made → Elab (Made × Counts) → Elab Progress
behind made r = r >>= λ x. given (progress (and_then made x.0) x.1)

pub added_alike : (p : Progress) (r s : Elab Made) → Alike r s → Alike (adding p r) (adding p s)
added_alike p r s a = alike_then _ _ _ _ (alike_then r s _ _ a (λ m. alike_same refl)) (λ x. alike_same refl)

pub added_in_turn : (p : Progress) (r s : Elab Made) → Alike (adding p (in_turn r s)) (adding p r >>= λ q. adding q s)
added_in_turn p r s =
    alike_trans (alike_then _ _ _ _ (charged_in_turn made_costs made_costs made_costs and_then joint_costs p.left r (λ _. s)) (λ x. alike_same refl))
    (alike_same (go (charged p.left made_costs r)))
  where
    last : (x : Made) (u : Elab (Made × Counts)) → behind p.made (u >>= λ b. left_with (and_then x b.0) b.1) ≡ behind (and_then p.made x) u
    last x (Ok b) = ap (λ m. given (progress m b.1)) (then-assoc p.made x b.0)
    last x (Err told) = refl

    go : (t : Elab (Made × Counts)) → behind p.made (t >>= λ a. charged a.1 made_costs s >>= λ b. left_with (and_then a.0 b.0) b.1) ≡ (behind p.made t >>= λ q. adding q s)
    go (Ok a) = last a.0 (charged a.1 made_costs s)
    go (Err told) = refl

pub goes : (total : Elab Progress) (now new : Progress) (r s : Elab Made) → Alike total (adding now (in_turn r s)) → adding now r ≡ Ok new → Alike total (adding new s)
goes total now new r s so_far h = alike_trans so_far (alike_trans (added_in_turn now r s) (alike_same (ap (λ (t : Elab Progress). t >>= λ q. adding q s) h)))

-- a call by its own words
pub charges_along : (bytes : List ℕ) {X Y : Type 0} (view : X → Y) (p q : Elab Y) (r : Result X ElabFault) → p ≡ q → Charges bytes view q r → Charges bytes view p r
charges_along bytes {X} {Y} view p q r e h = subst (λ (x : Elab Y). Charges bytes view x r) (sym e) h

pub stops : {bytes : List ℕ} {told : Told} → (total : Elab Progress) (now : Progress) (r s : Elab Made) → Alike total (adding now (in_turn r s)) → MayTell bytes (adding now r) told → MayTell bytes total told
stops total now r s so_far h = (alike_trans so_far (added_in_turn now r s)).stops _ _ (tells_first (adding now r) _ h)

pub none_added : (now : Progress) → adding now (Ok nothing) ≡ Ok now
none_added now =
    ap (λ (r : Elab Counts). behind now.made (r >>= λ s. left_with nothing s)) (spent-none 0 now.left) ∙ ap (λ m. given (progress m now.left)) (then-nothing now.made)

pub ends : (total : Elab Progress) (now : Progress) → Alike total (adding now (given nothing)) → total ≡ Ok now
ends total now so_far = so_far.gives now (none_added now)

-- ---- one thing more

-- what costs as much as what it is made of
pub one_added : {X : Type 0} (costs : X → Counts) (one : X → Made) → ((x : X) → made_costs (one x) ≡ costs x) → (p : Progress) (r : Elab X)
    → adding p (r >>= λ x. given (one x)) ≡ (charged p.left costs r >>= λ a. given (progress (and_then p.made (one a.0)) a.1))
one_added {X} costs one same p r = ap (behind p.made) (charged_made costs made_costs one same p.left r) ∙ go (charged p.left costs r)
  where
    go : (t : Elab (X × Counts)) → behind p.made (t >>= λ a. left_with (one a.0) a.1) ≡ (t >>= λ a. given (progress (and_then p.made (one a.0)) a.1))
    go (Ok a) = refl
    go (Err told) = refl

-- something of a fixed cost, and then what is charged as made
pub charged_first : {X : Type 0} (at : ℕ) (first : Counts) (costs all : X → Counts) → ((x : X) → all x ≡ plus first (costs x)) → (n : Counts) (r : Elab X)
    → Alike (charged n all r) (spent at n first >>= λ left. charged left costs r)
charged_first {X} at first costs all same n r = alike_trans (go r) (spent_alike at n first _)
  where
    go : (q : Elab X) → Alike (charged n all q) (spent 0 n first >>= λ left. charged left costs q)
    go (Ok x) =
        alike_same ((λ i. (ap (spent 0 n) (same x) ∙ spent-plus 0 first (costs x) n) i >>= λ s. left_with x s) ∙ bind-assoc (spent 0 n first) (λ left. spent 0 left (costs x)) (λ s. left_with x s))
    go (Err told) = stopped (spent 0 n first) (spent_told 0 n first)
      where
        stopped : {Y : Type 0} (t : Elab Counts) → ((other : Told) → t ≡ Err other → other.0 ≡ TooMany) → Alike (wrong {A = Y} told) (t >>= λ left. wrong told)
        stopped (Ok left) only = alike_same refl
        stopped (Err other) only = both_refused (only other refl) refl

-- where nothing is made so far, it is charged as it is
pub first_added : (left : Counts) (r : Elab Made) → adding (nothing_yet left) r ≡ (charged left made_costs r >>= λ a. given (progress a.0 a.1))
first_added left r = go (charged left made_costs r)
  where
    go : (t : Elab (Made × Counts)) → behind nothing t ≡ (t >>= λ a. given (progress a.0 a.1))
    go (Ok a) = ap (λ m. given (progress m a.1)) (nothing-then a.0)
    go (Err told) = refl

-- ---- turns stay within a word

fourth : (a b c d e : Bool) → (a && (b && (c && (d && e)))) ≡ true → d ≡ true
fourth true true true true e h = refl
fourth true true true false e h = absurd cc
fourth true true false d e h = absurd cc
fourth true false c d e h = absurd cc
fourth false b c d e h = absurd cc

within-turns : (costs n : Counts) → is_within costs n ≡ true → costs.turns ≤ n.turns
within-turns costs n h =
    leb-true costs.turns n.turns
    (fourth (nat_le costs.processes n.processes) (nat_le costs.instances n.instances) (nat_le costs.nets n.nets) (nat_le costs.turns n.turns)
    (nat_le costs.statements n.statements && nat_le costs.variable_elements n.variable_elements) h)

fewer : (made left turned more : ℕ) → turned + more ≤ left → made + turned + (left - (turned + more)) ≤ made + left
fewer made left turned more h = omega arith

-- what is made has no more turns than were left
pub turns_fit : (p q : Progress) (r : Elab Made) → adding p r ≡ Ok q → q.made.turns + q.left.turns ≤ p.made.turns + p.left.turns
turns_fit p q (Ok m) h = go (is_within (made_costs m) p.left) refl h
  where
    go : (w : Bool) → is_within (made_costs m) p.left ≡ w → behind p.made ((unless TooMany 0 w >> given (less p.left (made_costs m))) >>= λ s. left_with m s) ≡ given q
        → q.made.turns + q.left.turns ≤ p.made.turns + p.left.turns
    go true e k =
        subst (λ (x : Progress). x.made.turns + x.left.turns ≤ p.made.turns + p.left.turns) (ok (progress (and_then p.made m) (less p.left (made_costs m))) q k)
        (fewer p.made.turns p.left.turns m.turns (parts_costs m.parts).turns (within-turns (made_costs m) p.left e))
    go false e k = absurd cc
turns_fit p q (Err told) h = absurd cc

-- ---- turns

turns-alone : (n : ℕ) → plus (turns n) no_costs ≡ turns n
turns-alone n = λ i. record {
  processes = sum-none 0 i;
  instances = sum-none 0 i;
  nets = sum-none 0 i;
  turns = sum-none n i;
  statements = sum-none 0 i;
  variable_elements = sum-none 0 i;
}

adding-turns : (p : Progress) (n : ℕ) → adding p (given (made_turns n)) ≡ (spent 0 p.left (turns n) >>= λ rest. given (progress (and_then p.made (made_turns n)) rest))
adding-turns p n = ap (λ c. behind p.made (spent 0 p.left c >>= λ s. left_with (made_turns n) s)) (turns-alone n) ∙ go (spent 0 p.left (turns n))
  where
    go : (t : Elab Counts) → behind p.made (t >>= λ s. left_with (made_turns n) s) ≡ (t >>= λ rest. given (progress (and_then p.made (made_turns n)) rest))
    go (Ok rest) = refl
    go (Err told) = refl

pub turns_added : (at : ℕ) (parts : Parts) (m n : ℕ) (before left : Counts) → spent at before (turns n) ≡ Ok left
    → adding (progress (record { parts = parts; turns = m }) before) (Ok (made_turns n)) ≡ Ok (progress (record { parts = parts; turns = m + n }) left)
turns_added at parts m n before left h =
    adding-turns (progress (record { parts = parts; turns = m }) before) n
    ∙ ap (λ (t : Elab Counts). t >>= λ rest. given (progress (record { parts = followed_by parts no_parts; turns = m + n }) rest)) (spent_here at before (turns n) left h)
    ∙ ap (λ ps. given (progress (record { parts = ps; turns = m + n }) left)) (followed_none parts)

pub turns_refused : {bytes : List ℕ} {told : Told} → (at : ℕ) (p : Progress) (n : ℕ) → spent at p.left (turns n) ≡ Err told → (told.0 ≡ TooMany → Contains bytes told.1) → MayTell bytes (adding p (Ok (made_turns n))) told
turns_refused at p n h placed =
    tells_same (adding-turns p n)
    ((spent_alike at p.left (turns n) (λ rest. given (progress (and_then p.made (made_turns n)) rest))).stops _ _ (tells placed (err_first (spent at p.left (turns n)) _ h)))
