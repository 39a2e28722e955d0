-- Nets and processes have the names that rtl_net makes of a netlist that shows them.
use Rattle.std.proofs.Common.{◌≡◌, ℕ, zero, suc, ◌+◌, List, [], ◌∷◌, ◌++◌, length, map, Option, Some, None, All, refl, sym, ap, ◌∙◌, subst, arith, codes, append_assoc}
use Rattle.std.specs.Prelude.{slice_get}
use Rattle.std.specs.List.{AllZip, range_with_len, enumerate_from}
use Rattle.std.proofs.lemmas.List.{length-append}
use Rattle.std.proofs.lemmas.List.Elements.{All-head, All-tail}
use Rattle.rtl_net.specs.declared.process.Process.{Process}
use Rattle.rtl_net.specs.Nets.{ScopeView, NetlistView}
use Rattle.rtl_net.specs.Names.{path, net_name, process_name, label_or_number, name_of_process}
use Rattle.vhdl_elab_rules.specs.Numbering.{Located, Numbered}
use Rattle.vhdl_elab_rules.specs.Names.{named_process, label_text, net_names}
use Rattle.vhdl_elab_rules.specs.Names as v
use Rattle.vhdl_elab_rules.specs.Shown.{ShownProcess, process_shown, net_process_shown}
use Rattle.vhdl_elab_rules.proofs.Placed.{Follow}
use Rattle.vhdl_elab_rules.proofs.Objects.{all_signals}
use Rattle.vhdl_elab_rules.proofs.Found.{FoundAs, found-name, grouped}
use Rattle.vhdl_elab_rules.proofs.Paths.{views, nets-found}

-- ---- nets

names-from : (net : NetlistView) (ns : List ℕ) (names : List (List ℕ)) → AllZip (FoundAs net.scopes net.signals) ns names → map (net_name net) ns ≡ names
names-from net [] [] h = refl
names-from net (n ∷ ns) (y ∷ ys) h = ap (λ (t : List ℕ). t ∷ map (net_name net) ns) (found-name net n y h.0) ∙ ap (λ (ts : List (List ℕ)). y ∷ ts) (names-from net ns ys h.1)
names-from net _ _ h = elim h [ ]

pub net-names : (net : NetlistView) (d : Numbered) → Follow [] 0 d.instances d.nets → net.scopes ≡ views d.instances → net.signals ≡ all_signals 0 d.instances → map (net_name net) (range_with_len 0 d.nets) ≡ net_names d
net-names net d h scopes signals =
    names-from net (range_with_len 0 d.nets) (net_names d)
    (subst (λ (ss : List ScopeView). AllZip (FoundAs ss net.signals) (range_with_len 0 d.nets) (net_names d)) (sym scopes)
    (subst (λ ss. AllZip (FoundAs (views d.instances) ss) (range_with_len 0 d.nets) (net_names d)) (sym signals) (nets-found d.instances d.nets h)))

-- ---- processes

same-label : (n : ℕ) (label : Option (List ℕ)) → label_or_number n label ≡ label_text n label
same-label n None = refl
same-label n (Some l) = refl

one-name : (scopes : List ScopeView) (p : Process) (x : Located) (n : ℕ) → net_process_shown p ≡ process_shown (named_process x) → path scopes x.scope ≡ x.round.path → name_of_process scopes p n ≡ v.process_name (n, x)
one-name scopes p x n e is =
    ap (λ (s : ShownProcess). ((path scopes s.scope ++ codes ".") ++ s.prefix) ++ label_or_number n s.label) e
    ∙ grouped (path scopes x.scope) (codes ".") x.process.prefix (label_or_number n x.process.label)
    ∙ ap (λ (t : List ℕ). path scopes x.scope ++ (codes "." ++ (x.process.prefix ++ t))) (same-label n x.process.label)
    ∙ ap (λ (t : List ℕ). t ++ (codes "." ++ (x.process.prefix ++ label_text n x.process.label))) is

get-behind : (front ps : List Process) (p : Process) (n : ℕ) → length front ≡ n → slice_get (front ++ p ∷ ps) n ≡ Some p
get-behind [] ps p zero l = refl
get-behind (q ∷ front) ps p (suc n) l = get-behind front ps p n (omega (arith, l))
get-behind _ ps p _ l = absurd (omega (arith, l))

process-at : (net : NetlistView) (n : ℕ) (p : Process) → slice_get net.processes n ≡ Some p → process_name net n ≡ name_of_process net.scopes p n
process-at net n p e = rw e refl

-- as many, and alike
abbrev pub Alike : Process → Located → Type 0
Alike p x = net_process_shown p ≡ process_shown (named_process x)

pub process-names : (net : NetlistView) (front ps : List Process) (xs : List Located) (n : ℕ) → net.processes ≡ front ++ ps → length front ≡ n → AllZip Alike ps xs → All (λ (x : Located). path net.scopes x.scope ≡ x.round.path) xs
    → map (process_name net) (range_with_len n (length ps)) ≡ map v.process_name (enumerate_from n xs)
process-names net front [] [] n e l h g = refl
process-names net front (p ∷ ps) (x ∷ xs) n e l h g =
    ap (λ (t : List ℕ). t ∷ map (process_name net) (range_with_len (n + 1) (length ps)))
    (process-at net n p (ap (λ (qs : List Process). slice_get qs n) e ∙ get-behind front ps p n l) ∙ one-name net.scopes p x n h.0 (All-head (λ (y : Located). path net.scopes y.scope ≡ y.round.path) x xs g))
    ∙ ap (λ (ts : List (List ℕ)). v.process_name (n, x) ∷ ts)
    (process-names net (front ++ p ∷ []) ps xs (n + 1) (e ∙ sym (append_assoc front (p ∷ []) ps)) (length-append front (p ∷ []) ∙ ap (λ m. m + 1) l) h.1 (All-tail (λ (y : Located). path net.scopes y.scope ≡ y.round.path) x xs g))
process-names net front _ _ n e l h g = elim h [ ]

pub same-parts : {A : Type 0} (x y : A) (xs ys : List A) → x ∷ xs ≡ y ∷ ys → (x ≡ y) × (xs ≡ ys)
same-parts {A} x y xs ys e = (ap (first x) e, ap rest e)
  where
    first : A → List A → A
    first z [] = z
    first z (w ∷ ws) = w

    rest : List A → List A
    rest [] = []
    rest (w ∷ ws) = ws

pub alike : (ps : List Process) (xs : List Located) → map net_process_shown ps ≡ map process_shown (map named_process xs) → AllZip Alike ps xs
alike [] [] e = tt
alike (p ∷ ps) (x ∷ xs) e = let both = same-parts (net_process_shown p) (process_shown (named_process x)) (map net_process_shown ps) (map process_shown (map named_process xs)) e in (both.0, alike ps xs both.1)
alike _ _ e = absurd cc
