-- What a name is declared to be, list by list and table by table.
use Rattle.std.proofs.Common.{◌≡◌, ℕ, ◌+◌, ◌<◌, Bool, true, false, cond, List, [], ◌∷◌, ◌++◌, map, length, take, get_or, reverse, Option, Some, Vec, Global, refl, sym, ap, ◌∙◌}
use Rattle.std.specs.Prelude.{option_map, find, bytes_eq}
use Rattle.std.specs.Option.{option_or}
use Rattle.std.specs.Map.{lookup}
use Rattle.std.proofs.lemmas.Slice.Eq.{bytes_eq-Decides}
use Rattle.std.proofs.lemmas.List.{take_more, map-append, reverse-append}
use Rattle.std.proofs.lemmas.List.Folds.{find-append}
use Rattle.vhdl_names_rules.specs.Visibility as visibility
use Rattle.vhdl_names_rules.specs.views.Ranges.{declared_range_view}
use Rattle.vhdl_names_sight.specs.declared.meaning.Entry.{Entry}
use Rattle.vhdl_names_sight.specs.declared.meaning.Meaning.{Meaning}
use Rattle.vhdl_names_sight.specs.declared.meaning.Declared.{Declared}
use Rattle.vhdl_names_sight.specs.Sights.{found}
use Rattle.vhdl_names_sight.specs.Views.{meaning_view, declared_view, entry_of, entry_view}

found-append : (xs ys : List visibility.Declared) (n : visibility.Name) → found (xs ++ ys) n ≡ option_or (found xs n) (found ys n)
found-append xs ys n = find-append (λ d. bytes_eq n d.name) xs ys

-- what is found has the name that is asked for
named_so : (n k : visibility.Name) (e : Entry) (o : Option visibility.Declared) → (b : Bool) → bytes_eq n k ≡ b
    → cond b (Some (entry_of k e)) o ≡ cond b (Some (entry_of n e)) o
named_so n k e o true h = ap (λ k. Some (entry_of k e)) (sym ((bytes_eq-Decides n k).0 h))
named_so n k e o false h = refl

-- a table's look-up
pub found_entries : (es : List (Vec ℕ Global × Entry)) (n : visibility.Name) → found (map entry_view es) n ≡ option_map (entry_of n) (lookup (λ k. bytes_eq n k.items) es)
found_entries [] n = refl
found_entries (e ∷ es) n = named_so n e.0.items e.1 _ (bytes_eq n e.0.items) refl ∙ go (bytes_eq n e.0.items) (found_entries es n)
  where
    go : (b : Bool) → found (map entry_view es) n ≡ option_map (entry_of n) (lookup (λ k. bytes_eq n k.items) es)
        → cond b (Some (entry_of n e.1)) (find (λ d. bytes_eq n d.name) (map entry_view es))
        ≡ option_map (entry_of n) (cond b (Some e.1) (lookup (λ k. bytes_eq n k.items) es))
    go true h = refl
    go false h = h

-- from the innermost region outwards
pub declaration_in_turn : (s : visibility.Sight) (n : visibility.Name) →
    visibility.declaration s n ≡ option_or (found s.loops n) (option_or (found s.variables n) (option_or (found s.generates n) (option_or (found s.region n) (option_or (found s.enclosing n) (found s.packages n)))))
declaration_in_turn s n =
    found-append s.loops _ n
    ∙ ap (option_or (found s.loops n)) (found-append s.variables _ n
    ∙ ap (option_or (found s.variables n)) (found-append s.generates _ n
    ∙ ap (option_or (found s.generates n)) (found-append s.region _ n
    ∙ ap (option_or (found s.region n)) (found-append s.enclosing _ n))))

-- one more parameter, inside those before it
pub innermost_more : (ds : List Declared) (i : ℕ) (d : Declared) (n : visibility.Name) → i < length ds → d ≡ get_or ds i d →
    found (reverse (map declared_view (take (i + 1) ds))) n ≡ cond (bytes_eq n d.name.items) (Some (entry_of n d.entry)) (found (reverse (map declared_view (take i ds))) n)
innermost_more ds i d n lt e =
    ap (λ xs. found (reverse (map declared_view xs)) n) (take_more ds i d lt)
    ∙ ap (λ x. found (reverse (map declared_view (take i ds ++ x ∷ []))) n) (sym e)
    ∙ ap (λ xs. found (reverse xs) n) (map-append declared_view (take i ds) (d ∷ []))
    ∙ ap (λ xs. found xs n) (reverse-append (map declared_view (take i ds)) (declared_view d ∷ []))
    ∙ named_so n d.name.items d.entry _ (bytes_eq n d.name.items) refl

-- an entry whose meaning is seen as another's
pub entry_copied : (n : visibility.Name) (e : Entry) (m : Meaning) → meaning_view m ≡ meaning_view e.meaning
    → entry_of n (record { meaning = m; range = e.range; is_global = e.is_global }) ≡ entry_of n e
entry_copied n e m h =
    let as_meant : visibility.Meaning → visibility.Declared = λ x. record { name = n; meaning = x; range = option_map declared_range_view e.range; is_global = e.is_global } in
    ap as_meant h
