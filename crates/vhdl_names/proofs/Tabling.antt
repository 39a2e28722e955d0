-- The table of what instances see, entity by entity.
use Rattle.std.proofs.Common.{◌≡◌, ℕ, Bool, true, false, not, List, [], ◌∷◌, ◌++◌, map, Option, Some, None, Vec, Global, refl, ap, sym, ◌∙◌, append_assoc, append-nil}
use Rattle.std.specs.Prelude.{bytes_eq, is_some}
use Rattle.std.specs.List.{IsDistinct}
use Rattle.std.specs.Map.{keys_of, lookup}
use Rattle.vhdl_names_rules.specs.Rules.{◌>>=◌, then_some}
use Rattle.vhdl_names_rules.specs.Visibility.{Name, is_among, are_distinct}
use Rattle.vhdl_names_rules.specs.Interfaces.{EntityView}
use Rattle.vhdl_names_units.specs.Lists.{in_turn}
use Rattle.vhdl_names_units.specs.Once.{one_name}
use Rattle.vhdl_names_units.proofs.Once.{once}
use Rattle.vhdl_names_instances.specs.Table.{seen}
use Rattle.vhdl_names_declarations.proofs.Keyed.{among_table, table_apart}
use Rattle.vhdl_names_interfaces.specs.declared.interface.EntityInterface.{EntityInterface}
use Rattle.vhdl_names_interfaces.specs.Views.{named_view}
use Rattle.vhdl_names.specs.steps.Tables.{TableView, with_seen, no_table, table_of}

abbrev pub names_in : List EntityView → List Name
names_in es = map (λ (e : EntityView). e.name) es

abbrev whole : TableView → Option (List Name) → List EntityView → Option TableView
whole t o es = o >>= λ ns. Some (record { names = ns; formals = t.formals ++ map seen es })

turned : (t : TableView) (es : List EntityView) → in_turn with_seen t es ≡ whole t (in_turn one_name t.names (names_in es)) es
turned t [] = ap (λ l. let p : Option TableView = Some (record t { formals = l }) in p) (sym (append-nil t.formals))
turned t (e ∷ es) = new (λ s. turned s es) (is_among e.name t.names)
  where
    new : ((s : TableView) → in_turn with_seen s es ≡ whole s (in_turn one_name s.names (names_in es)) es) → (b : Bool)
        → ((then_some (not b) (t.names ++ e.name ∷ []) >>= λ ns. let p : Option TableView = Some (record { names = ns; formals = t.formals ++ seen e ∷ [] }) in p) >>= λ s. in_turn with_seen s es)
        ≡ whole t (then_some (not b) (t.names ++ e.name ∷ []) >>= λ ns. in_turn one_name ns (names_in es)) (e ∷ es)
    new more true = refl
    new more false =
        more (record { names = t.names ++ e.name ∷ []; formals = t.formals ++ seen e ∷ [] })
        ∙ ap (λ l. in_turn one_name (t.names ++ e.name ∷ []) (names_in es) >>= λ ns. let p : Option TableView = Some (record { names = ns; formals = l }) in p)
        (append_assoc t.formals (seen e ∷ []) (map seen es))

pub all_tabled : (es : List EntityView) → are_distinct (names_in es) ≡ true → in_turn with_seen no_table es ≡ Some (table_of es)
all_tabled es h = turned no_table es ∙ ap (λ o. whole no_table o es) (once (names_in es) ∙ ap (λ b. then_some b (names_in es)) h)

-- of a name that stands there nothing is added
pub no_name : (t : TableView) (e : EntityView) → one_name t.names e.name ≡ None → with_seen t e ≡ None
no_name t e h = ap (λ (o : Option (List Name)). o >>= λ ns. let p : Option TableView = Some (record { names = ns; formals = t.formals ++ seen e ∷ [] }) in p) h

-- a table's names are distinct
abbrev Entry : Type 0
Entry = Vec ℕ Global × EntityInterface

abbrev pub entry_view : Entry → EntityView
entry_view e = named_view e.0.items e.1

pub entries_apart : (es : List Entry) → IsDistinct (λ a b. bytes_eq a.items b.items) (keys_of es) → are_distinct (names_in (map entry_view es)) ≡ true
entries_apart = table_apart entry_view (λ (e : EntityView). e.name) (λ e. refl)

-- the name of an entity that a table has
pub among_entries : (n : Name) (es : List Entry) → is_some (lookup (λ k. bytes_eq n k.items) es) ≡ is_among n (names_in (map entry_view es))
among_entries = among_table entry_view (λ (e : EntityView). e.name) (λ e. refl)
