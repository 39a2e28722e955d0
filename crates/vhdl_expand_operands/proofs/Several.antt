-- Several things: each of them, one after another, and one that was looked up.
use Rattle.std.proofs.Common.{◌≡◌, ℕ, ◌+◌, ◌<◌, List, [], ◌∷◌, ◌++◌, length, map, get_or, drop, Result, Ok, Err, refl, sym, ap, ◌∙◌, subst}
use Rattle.std.specs.Prelude.{◌≢◌, slice_get, Some}
use Rattle.std.proofs.lemmas.List.{append-nil, append_assoc, map-append}
use Rattle.std.proofs.lemmas.Option.{slice_get-get_or}
use Rattle.vhdl_expand_rules.specs.declared.fault.ElabFault.{ElabFault}
use Rattle.vhdl_expand_rules.specs.declared.fault.ElabFault.TheVariants.{NoMemory}
use Rattle.vhdl_expand_rules.specs.Elab.{Elab, ◌>>=◌, each, fault_told, Told}
use Rattle.vhdl_expand_rules.proofs.Steps.{given}
use Rattle.vhdl_expand_rules.proofs.Chains.{err_first}
use Rattle.vhdl_expand_rules.proofs.Items.{next_left}
use Rattle.vhdl_expand_operands.specs.Results.{Expands, Adds}

abbrev pub behind : {B : Type 0} → List B → Elab (List B) → Elab (List B)
behind made more = more >>= λ ys. given (made ++ ys)

module _ {A B X : Type 0} (f : A → Elab B) (v : X → A) where
  pub each_goes : (total : Elab (List B)) (made more : List B) (xs : List X) (i : ℕ) (x : X) (y : B) → i < length xs → x ≡ get_or xs i x
      → total ≡ behind made (each f (map v (drop i xs))) → f (v x) ≡ Ok y → more ≡ made ++ y ∷ [] → total ≡ behind more (each f (map v (drop (i + 1) xs)))
  each_goes total made more xs i x y below is so_far h pushed =
      so_far ∙ ap (λ zs. behind made (each f (map v zs))) (next_left xs i x below is)
      ∙ ap (λ r. behind made (r >>= λ z. each f (map v (drop (i + 1) xs)) >>= λ zs. given (z ∷ zs))) h
      ∙ go (each f (map v (drop (i + 1) xs))) ∙ ap (λ d. behind d (each f (map v (drop (i + 1) xs)))) (sym pushed)
    where
      go : (r : Elab (List B)) → behind made (r >>= λ zs. given (y ∷ zs)) ≡ behind (made ++ y ∷ []) r
      go (Ok zs) = ap given (sym (append_assoc made (y ∷ []) zs))
      go (Err p) = refl

  pub each_stops : {told : Told} (total : Elab (List B)) (made : List B) (xs : List X) (i : ℕ) (x : X) → i < length xs → x ≡ get_or xs i x
      → total ≡ behind made (each f (map v (drop i xs))) → (f (v x)) ≡ Err told → total ≡ Err told
  each_stops {told} total made xs i x below is so_far h =
      subst (λ (r : Elab (List B)). r ≡ Err told) (sym (so_far ∙ ap (λ zs. behind made (each f (map v zs))) (next_left xs i x below is)))
      (err_first (f (v x) >>= λ z. each f (map v (drop (i + 1) xs)) >>= λ zs. given (z ∷ zs)) (λ ys. given (made ++ ys)) (err_first (f (v x)) _ h))

  pub each_ends : (total : Elab (List B)) (made : List B) (left : List X) → left ≡ [] → total ≡ behind made (each f (map v left)) → total ≡ Ok made
  each_ends total made left h so_far = so_far ∙ ap (λ zs. behind made (each f (map v zs))) h ∙ ap given (append-nil made)

  -- one more, where it is made
  pub each_adds : {Y : Type 0} (view : Y → B) (total : Elab (List B)) (old new : List Y) (xs : List X) (i : ℕ) (x : X) (r : Result Y ElabFault) → i < length xs → x ≡ get_or xs i x
      → total ≡ behind (map view old) (each f (map v (drop i xs))) → Expands view (f (v x)) r → Adds old new r (Ok tt) → total ≡ behind (map view new) (each f (map v (drop (i + 1) xs)))
  each_adds view total old new xs i x (Ok y) below is so_far e a =
      each_goes total (map view old) (map view new) xs i x (view y) below is so_far e (ap (map view) a ∙ map-append view old (y ∷ []))
  each_adds view total old new xs i x (Err why) below is so_far e a = absurd a

  -- one that isn't made, or for which there is no memory
  pub each_refuses : {Y : Type 0} (view : Y → B) (total : Elab (List B)) (old new : List Y) (xs : List X) (i : ℕ) (x : X) (r : Result Y ElabFault) (fault : ElabFault) → i < length xs → x ≡ get_or xs i x
      → total ≡ behind (map view old) (each f (map v (drop i xs))) → Expands view (f (v x)) r → Adds old new r (Err fault) → fault ≢ NoMemory → total ≡ Err (fault_told fault)
  each_refuses view total old new xs i x (Ok y) fault below is so_far e a n = absurd (n a)
  each_refuses view total old new xs i x (Err why) fault below is so_far e a n =
      each_stops total (map view old) xs i x below is so_far (e (λ q. n (a ∙ q)) ∙ ap (λ (f : ElabFault). Err (fault_told f)) (sym a))

-- ---- one of them

-- that was looked up
pub there : {X : Type 0} (xs : List X) (k : ℕ) (x : X) → k < length xs → x ≡ get_or xs k x → slice_get xs k ≡ Some x
there xs k x h e = slice_get-get_or xs k x h ∙ ap Some (sym e)
