-- Values by their letters, and inputs by their names.
use Rattle.std.proofs.Common.{◌≡◌, ℕ, ◌+◌, Bool, List, [], ◌∷◌, ◌++◌, length, map, position, Option, Some, None, Vec, Global, cond, not, nat_lt, refl, ap, sym, ◌∙◌}
use Rattle.std.specs.Prelude.{bytes_eq, slice_get, option_map, ◌<◌, ◌≢◌, true, false, All}
use Rattle.std.specs.Cmp.Lexicographic.{bytes_decides}
use Rattle.std.proofs.lemmas.List.Elements.{All-head, All-tail}
use Rattle.indexmap.specs.IndexMap.{insert_entry}
use Rattle.std.proofs.lemmas.Option.{slice_get-map, slice_get_within, get_or_from_slice_get}
use Rattle.rtl_stim_lines.specs.Inputs.{input_at, no_input}
use Rattle.std.specs.List.{position_or_len}
use Rattle.std.specs.Map.{keys_of}
use Rattle.std.proofs.lemmas.List.{length-map}
use Rattle.vhdl_values.specs.declared.scalar.Nine.{Nine}
use Rattle.rtl_stim_lines.specs.declared.inputs.Input.{Input as KeptInput}
use Rattle.rtl_stim_lines.specs.Lines.{Word}
use Rattle.rtl_stim_lines.specs.View.{input_view, named_input}
use Rattle.rtl_stim_lines.specs.Inputs.{Input}

-- these values before those
abbrev pub before_all : List Nine → Option (List Nine) → Option (List Nine)
before_all values None = None
before_all values (Some more) = Some (values ++ more)

same_place : (name : Word) (es : List (Vec ℕ Global × KeptInput)) → position_or_len (λ input. bytes_eq name input.name) (map input_view es)
    ≡ position_or_len (λ key. bytes_eq name key.items) (keys_of es)
same_place name [] = refl
same_place name (e ∷ es) = ap (λ k. cond (not (bytes_eq name e.0.items)) (1 + k) 0) (same_place name es)

-- an input's place by its name is that of its key
pub named_place : (name : Word) (es : List (Vec ℕ Global × KeptInput)) → position (λ key. bytes_eq name key.items) (keys_of es)
    ≡ position (λ input. bytes_eq name input.name) (map input_view es)
named_place name es =
    simp (same_place name es, length-map)

-- the input that stands where an entry does
pub found_input : (es : List (Vec ℕ Global × KeptInput)) (place : ℕ) (e : Vec ℕ Global × KeptInput) → slice_get es place ≡ Some e → input_at (map input_view es) place ≡ input_view e
found_input es place e h = get_or_from_slice_get (map input_view es) place (input_view e) no_input (slice_get-map input_view es place ∙ ap (option_map input_view) h)

pub found_within : (es : List (Vec ℕ Global × KeptInput)) (place : ℕ) (e : Vec ℕ Global × KeptInput) → slice_get es place ≡ Some e → place < length (map input_view es)
found_within es place e h = let n = slice_get_within es place e h in simp length-map n

abbrev pub same_key : Vec ℕ Global → Vec ℕ Global → Bool
same_key a b = bytes_eq a.items b.items

unequal : (a b : List ℕ) → b ≢ a → bytes_eq a b ≡ false
unequal a b differ = by (bytes_eq a b) refl
  where
    by : (r : Bool) → bytes_eq a b ≡ r → r ≡ false
    by false is = refl
    by true is = absurd (differ (sym ((bytes_decides a b).0 is)))

-- an input with a new name comes last
pub new_last : (es : List (Vec ℕ Global × KeptInput)) (key : Vec ℕ Global) (input : KeptInput) → All (λ other. other.name ≢ key.items) (map input_view es)
    → map input_view (insert_entry same_key es key input) ≡ map input_view es ++ named_input key.items input ∷ []
new_last [] key input new = refl
new_last (e ∷ es) key input new =
    let P : Input → Type 0 = λ other. other.name ≢ key.items in
    ap (λ b. map input_view (cond b ((e.0, input) ∷ es) (e ∷ insert_entry same_key es key input)))
    (unequal key.items e.0.items (All-head P (input_view e) (map input_view es) new))
    ∙ ap (λ rest. input_view e ∷ rest) (new_last es key input (All-tail P (input_view e) (map input_view es) new))
