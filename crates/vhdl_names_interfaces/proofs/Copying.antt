-- A region copied entry by entry.
use Rattle.std.proofs.Common.{◌≡◌, ℕ, zero, suc, ◌+◌, ◌≤◌, List, [], ◌∷◌, map, length, drop, Some, Vec, Global, ap, ◌∙◌, arith}
use Rattle.std.specs.Prelude.{slice_get, bytes_eq}
use Rattle.std.specs.List.{IsDistinct}
use Rattle.std.specs.Map.{keys_of}
use Rattle.std.proofs.lemmas.List.{length-map, drop_all}
use Rattle.vhdl_names_rules.specs.Rules.{◌>>=◌, met}
use Rattle.vhdl_names_rules.specs.Visibility.{Declared}
use Rattle.vhdl_names_sight.specs.declared.meaning.Entry.{Entry}
use Rattle.vhdl_names_sight.specs.Views.{entry_of, entry_view}
use Rattle.vhdl_names_declarations.specs.Entered.{more}
use Rattle.vhdl_names_declarations.proofs.Regions.{more_split, more_none, names_apart}

drop_at : (es : List (Vec ℕ Global × Entry)) (i : ℕ) (e : Vec ℕ Global × Entry) → slice_get es i ≡ Some e →
    drop i (map entry_view es) ≡ entry_view e ∷ drop (suc i) (map entry_view es)
drop_at [] i e h = cc
drop_at (x ∷ xs) zero e h = let same : x ≡ e = cc in ap (λ y. entry_view y ∷ map entry_view xs) same
drop_at (x ∷ xs) (suc i) e h = drop_at xs i e h

pub next_entry : (ds : List Declared) (es : List (Vec ℕ Global × Entry)) (i : ℕ) (k : Vec ℕ Global) (m : Entry) → slice_get es i ≡ Some (k, m) →
    more ds (drop i (map entry_view es)) ≡ (more ds (entry_of k.items m ∷ []) >>= λ r. more r (drop (i + 1) (map entry_view es)))
next_entry ds es i k m h =
    let s : suc i ≡ i + 1 = omega arith in
    ap (more ds) (drop_at es i (k, m) h)
    ∙ more_split ds (entry_of k.items m ∷ []) (drop (suc i) (map entry_view es))
    ∙ ap (λ n. more ds (entry_of k.items m ∷ []) >>= λ r. more r (drop n (map entry_view es))) s

pub more_whole : (es : List (Vec ℕ Global × Entry)) → IsDistinct (λ a b. bytes_eq a.items b.items) (keys_of es) → more [] (map entry_view es) ≡ Some (map entry_view es)
more_whole es apart = ap (λ b. met b >>= λ _. Some (map entry_view es)) (names_apart es apart)

pub no_entries : (es cs : List (Vec ℕ Global × Entry)) (i : ℕ) → length es ≤ i → IsDistinct (λ a b. bytes_eq a.items b.items) (keys_of cs) →
    more (map entry_view cs) (drop i (map entry_view es)) ≡ Some (map entry_view cs)
no_entries es cs i le apart =
    let size = length-map es entry_view in
    ap (more (map entry_view cs)) (drop_all i (map entry_view es) (omega (arith, size, le))) ∙ more_none (map entry_view cs) (names_apart cs apart)
