-- The nets of objects, taken one object after another.
use Rattle.std.proofs.Common.{◌≡◌, ℕ, zero, suc, ◌+◌, ◌<◌, ◌≤◌, List, [], ◌∷◌, length, map, get_or, drop, Ok, Err, refl, sym, ap, ◌∙◌, subst, arith}
use Rattle.std.specs.Prelude.{Contains}
use Rattle.std.proofs.lemmas.List.Elements.{Contains-append_right}
use Rattle.vhdl_expand_rules.specs.declared.fault.ElabFault.{ElabFault}
use Rattle.vhdl_expand_rules.specs.declared.fault.ElabFault.TheVariants.{At}
use Rattle.vhdl_expand_rules.specs.declared.fault.ElabProblem.TheVariants.{TooMany}
use Rattle.vhdl_expand_rules.specs.Elab.{Elab, ◌>>=◌, fault_told, MayTell}
use Rattle.vhdl_elab_rules.specs.Limits.{Counts}
use Rattle.vhdl_elab_rules.specs.Numbering.{own_size, own_sizes}
use Rattle.vhdl_expand_rules.proofs.Items.{next_left, none_left}
use Rattle.vhdl_expand_tree.specs.declared.tree.Object.{Object}
use Rattle.vhdl_expand_tree.specs.Costs.{nets, spent}
use Rattle.vhdl_expand_tree.specs.Views.{object_view}
use Rattle.vhdl_expand_tree.proofs.Alike.{tells_same, tells_first}
use Rattle.vhdl_expand_tree.proofs.Charging.{spent-plus, spent-none}
use Rattle.vhdl_expand_rules.specs.Tree as t
use Rattle.vhdl_expand.proofs.Among.{Among}
use Rattle.vhdl_expand.proofs.Spending.{spent_here, spent_stops, told_where}

abbrev pub own : List Object → Counts
own os = nets (own_sizes (map object_view os))

next : (now : Counts) (os : List Object) (i : ℕ) (o : Object) (k : ℕ) → i < length os → o ≡ get_or os i o → k ≡ own_size (object_view o)
    → spent 0 now (own (drop i os)) ≡ spent 0 now (nets k) >>= λ left. spent 0 left (own (drop (i + 1) os))
next now os i o k below is e =
    ap (λ (zs : List Object). spent 0 now (own zs)) (next_left os i o below is)
    ∙ ap (λ j. spent 0 now (nets (j + own_sizes (map object_view (drop (i + 1) os))))) (sym e)
    ∙ spent-plus 0 (nets k) (own (drop (i + 1) os)) now

pub nets_go : (total : Elab Counts) (now new : Counts) (os : List Object) (i : ℕ) (o : Object) (k : ℕ) → i < length os → o ≡ get_or os i o → k ≡ own_size (object_view o)
    → total ≡ spent 0 now (own (drop i os)) → spent o.at now (nets k) ≡ Ok new → total ≡ spent 0 new (own (drop (i + 1) os))
nets_go total now new os i o k below is e so_far h =
    so_far ∙ next now os i o k below is e ∙ ap (λ r. r >>= λ left. spent 0 left (own (drop (i + 1) os))) (spent_here o.at now (nets k) new h)

-- the byte of an object is among those of all
object-there : (os : List Object) (i : ℕ) (o : Object) → i < length os → o ≡ get_or os i o → Contains (map (λ (x : Object). x.at) os) o.at
object-there [] i o h is = absurd (omega (arith, h))
object-there (x ∷ os) zero o h is = (0, omega arith, sym (ap (λ (y : Object). y.at) is))
object-there (x ∷ os) (suc i) o h is = Contains-append_right (x.at ∷ []) (map (λ (y : Object). y.at) os) o.at (object-there os i o (omega (arith, h)) is)

pub nets_stop : (total : Elab Counts) (now : Counts) (os : List Object) (i : ℕ) (o : Object) (k : ℕ) (fault : ElabFault) → i < length os → o ≡ get_or os i o → k ≡ own_size (object_view o)
    → total ≡ spent 0 now (own (drop i os)) → spent o.at now (nets k) ≡ Err (fault_told fault) → fault ≡ At TooMany o.at → MayTell (map (λ (x : Object). x.at) os) total (fault_told fault)
nets_stop total now os i o k fault below is e so_far h told =
    tells_same (so_far ∙ next now os i o k below is e)
    (tells_first (spent 0 now (nets k)) (λ left. spent 0 left (own (drop (i + 1) os))) (spent_stops o.at now (nets k) h (told_where (map (λ (x : Object). x.at) os) o.at fault told (object-there os i o below is))))

pub nets_end : (total : Elab Counts) (now : Counts) (os : List Object) (i : ℕ) → length os ≤ i → total ≡ spent 0 now (own (drop i os)) → total ≡ Ok now
nets_end total now os i h so_far = so_far ∙ ap (λ (zs : List Object). spent 0 now (own zs)) (none_left os i h) ∙ spent-none 0 now

-- the bytes of objects, as contracts see them
seen : (os : List Object) → map (λ (o : Object). o.at) os ≡ map (λ (o : t.Object). o.at) (map object_view os)
seen [] = refl
seen (o ∷ os) = ap (λ bytes. o.at ∷ bytes) (seen os)

pub seen_among : (os ps : List Object) → os ≡ ps → Among (map (λ (o : Object). o.at) os) (map (λ (o : t.Object). o.at) (map object_view ps))
seen_among os ps same at c = subst (λ bytes. Contains bytes at) (seen ps) (subst (λ (qs : List Object). Contains (map (λ (o : Object). o.at) qs) at) same c)
