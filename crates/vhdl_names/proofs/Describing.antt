-- Architectures by the names of their entities.
use Rattle.std.proofs.Common.{◌≡◌, ℕ, Bool, true, false, cond, not, List, [], ◌∷◌, ◌++◌, map, Option, Some, None, Vec, Global, refl, sym, ap, ◌∙◌}
use Rattle.std.specs.Prelude.{option_map, bytes_eq, find, is_some}
use Rattle.std.specs.Borrow.{Bor}
use Rattle.std.specs.Map.{lookup}
use Rattle.std.specs.Option.{option_copied}
use Rattle.std.proofs.lemmas.List.{map-append}
use Rattle.vhdl_tree.specs.Tree as t
use Rattle.vhdl_tree.specs.Tree.{ContextItem}
use Rattle.vhdl_names_rules.specs.Rules.{then_some}
use Rattle.vhdl_names_rules.specs.Visibility.{Name, is_among}
use Rattle.vhdl_names_declarations.proofs.Keyed.{among_table}
use Rattle.vhdl_names.specs.declared.outline.Described.{Described}
use Rattle.vhdl_names.specs.Views.{Keyed, keyed_view, described_view}
use Rattle.vhdl_names.specs.steps.Outlines.{names_of, one_described, described_of}

abbrev Entry : Type 0
Entry = Vec ℕ Global × Described

pub among : (n : Name) (es : List Entry) → is_some (lookup (λ k. bytes_eq n k.items) es) ≡ is_among n (names_of (map keyed_view es))
among = among_table keyed_view (λ (k : Keyed). k.name) (λ e. refl)

pub refused : (es : List Entry) (a : List ContextItem × t.Architecture) → is_some (lookup (λ k. bytes_eq a.1.entity.text k.items) es) ≡ true
    → one_described (map keyed_view es) a ≡ None
refused es a there =
    ap (λ b. then_some (not b) (map keyed_view es ++ record { name = a.1.entity.text; unit = a } ∷ [])) (sym (among a.1.entity.text es) ∙ there)

pub grown : (es es' : List Entry) (key : Vec ℕ Global) (d : Described) → is_some (lookup (λ k. bytes_eq d.tree.now.entity.text.items k.items) es) ≡ false
    → key.items ≡ d.tree.now.entity.text.items → es' ≡ es ++ (key, d) ∷ [] → one_described (map keyed_view es) (described_view d) ≡ Some (map keyed_view es')
grown es es' key d new same h =
    ap (λ b. then_some (not b) (map keyed_view es ++ record { name = d.tree.now.entity.text.items; unit = described_view d } ∷ [])) (sym (among d.tree.now.entity.text.items es) ∙ new)
    ∙ ap (λ n. Some (map keyed_view es ++ record { name = n; unit = described_view d } ∷ [])) (sym same)
    ∙ ap Some (sym (map-append keyed_view es ((key, d) ∷ []))) ∙ ap (λ l. Some (map keyed_view l)) (sym h)

pub found : (n : Name) (es : List Entry) → option_map described_view (lookup (λ k. bytes_eq n k.items) es) ≡ described_of n (map keyed_view es)
found n [] = refl
found n (e ∷ es) = by (bytes_eq n e.0.items) (found n es)
  where
    by : (b : Bool) → option_map described_view (lookup (λ k. bytes_eq n k.items) es) ≡ described_of n (map keyed_view es)
        → option_map described_view (cond b (Some e.1) (lookup (λ k. bytes_eq n k.items) es))
        ≡ option_map (λ (k : Keyed). k.unit) (cond b (Some (keyed_view e)) (find (λ (k : Keyed). bytes_eq n k.name) (map keyed_view es)))
    by true h = refl
    by false h = h

-- the same of what is lent
pub lent : (n : Name) (es : List Entry) (o : Option Described) → o ≡ lookup (λ k. bytes_eq n k.items) es → option_map described_view o ≡ described_of n (map keyed_view es)
lent n es o h = ap (option_map described_view) h ∙ found n es

pub returned : (o : Option (Bor Described)) → option_map (λ (d : Bor Described). described_view d.now) o ≡ option_map described_view (option_copied o)
returned None = refl
returned (Some d) = refl
