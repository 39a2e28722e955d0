-- Assignments to rows: to each of them, from one environment, and to all that they lie in.
use Rattle.std.proofs.Common.{◌≡◌, ℕ, ◌+◌, ◌<◌, ◌≤◌, List, [], ◌∷◌, ◌++◌, length, get_or, take, replicate, Option, None, unwrap_or, refl, sym, ap, ◌∙◌, subst}
use Rattle.std.specs.Prelude.{flat_map}
use Rattle.std.specs.Ordering.{nat_cmp}
use Rattle.std.specs.BTreeMap.{get}
use Rattle.std.proofs.lemmas.List.{take_more, take_all, append_assoc, append-nil}
use Rattle.std.proofs.lemmas.List.Concat.{flat_map-append}
use Rattle.rtl_model.specs.bodies.Assigns.{Target, driver, element}
use Rattle.rtl_model.specs.bodies.Looks.{Sight, Looks, put, put_rows}
use Rattle.rtl_model.specs.bodies.Rows.{Spacing, all_rows}
use Rattle.rtl_looks.specs.declared.hubs.Look.{Look}
use Rattle.rtl_looks.specs.declared.hubs.Hub.{Hub}
use Rattle.rtl_looks.specs.declared.env.Env.{Env}
use Rattle.rtl_looks.specs.declared.env.Kind.{Kind}
use Rattle.rtl_looks.specs.declared.changes.Changes.{Changes}
use Rattle.rtl_looks.specs.declared.ends.Ends.{Ends}
use Rattle.rtl_looks.specs.Denoting.{Denotes, none}
use Rattle.rtl_looks.specs.Evaluating.{Joins, Sums, Evaluates}
use Rattle.rtl_looks.specs.Targets.{target_of, look_of, was, first_at}
use Rattle.rtl_looks.specs.Parts.{Behind, Taken, Finished}
use Rattle.rtl_looks.specs.Walks.{Walked, Assigned, PartAssigned, RowsAssigned}
use Rattle.rtl_looks.proofs.Joining.{later, grows_none, grows_then}
use Rattle.rtl_looks.proofs.Elements.{order_of, each_later}
use Rattle.rtl_looks.proofs.Walking.{means_later, means_order, means_in, elements_mean, behind_later, behind_order, behind_alike}
use Rattle.rtl_looks.proofs.Branching.{no_parts, skipped}

-- ---- one of several

pub part_assigned : {kind : Kind} {ks : List ℕ} {looks : List (Option Look)} {round : Option Look} {old mid new : List Hub} {env env' env'' : Env} {changes changes' : Changes} {ends ends' : Ends}
    → ((t : Target) → was changes env t ≡ look_of env t) → Assigned kind ks looks round old mid env env' changes changes' → Taken mid new env' env'' changes' ends ends'
    → PartAssigned kind ks looks round old new env env'' ends ends'
part_assigned {kind} {ks} {mid = mid} same a t = record {
  grows = grows_then a.grows t.grows;
  restored = λ s. t.restored s ∙ (a.restored s ∙ same s);
  behind = λ sights values so_far all d e m b.
      let n = a.means sights values so_far d e m in
      let order = means_order n in
      t.covers so_far all (put (target_of kind) sights ks values so_far) (behind_later a.grows order b)
      (λ s. subst (λ (o : Option Look). Denotes mid o (so_far s)) (sym (a.restored s ∙ same s)) (later a.grows order (m.each s))) n;
}

-- ---- rows one after another

module _ (kind : Kind) (looks : List (Option Look)) (round : Option Look) where
  -- what they are put at, together
  abbrev put_each : List Sight → List (List Sight) → Looks → List (List ℕ) → Looks
  put_each sights values so_far rows t = flat_map (λ (r : List ℕ). put (target_of kind) sights r values so_far t) rows

  put_more : (sights : List Sight) (values : List (List Sight)) (so_far : Looks) (rows : List (List ℕ)) (i : ℕ) → i < length rows → (t : Target)
      → put_each sights values so_far (take i rows) t ++ put (target_of kind) sights (get_or rows i []) values so_far t ≡ put_each sights values so_far (take (i + 1) rows) t
  put_more sights values so_far rows i l t =
      let f = λ (r : List ℕ). put (target_of kind) sights r values so_far t in
      sym (ap (flat_map f) (take_more rows i [] l) ∙ (flat_map-append f (take i rows) (get_or rows i [] ∷ [])
      ∙ ap (λ (s : List Sight). flat_map f (take i rows) ++ s) (append-nil (f (get_or rows i [])))))

  pub rows_none : (hubs : List Hub) (env : Env) (ends : Ends) → RowsAssigned kind [] looks round hubs hubs env env ends ends
  rows_none hubs env ends = record {
    grows = grows_none hubs;
    restored = λ t. refl;
    behind = λ sights values so_far all d e m b. behind_alike (λ t. all t ++ []) (λ t. sym (append-nil (all t))) b;
  }

  pub rows_more : {old mid new : List Hub} {env env' env'' : Env} {ends ends' ends'' : Ends} (rows : List (List ℕ)) (i : ℕ) → i < length rows
      → RowsAssigned kind (take i rows) looks round old mid env env' ends ends' → PartAssigned kind (get_or rows i []) looks round mid new env' env'' ends' ends''
      → RowsAssigned kind (take (i + 1) rows) looks round old new env env'' ends ends''
  rows_more {env' = env'} rows i l h a = record {
    grows = grows_then h.grows a.grows;
    restored = λ t. a.restored t ∙ h.restored t;
    behind = λ sights values so_far all d e m b.
        let so = h.behind sights values so_far all d e m b in
        let order = behind_order so in
        behind_alike (λ t. all t ++ put_each sights values so_far (take (i + 1) rows) t)
        (λ t. append_assoc (all t) (put_each sights values so_far (take i rows) t) (put (target_of kind) sights (get_or rows i []) values so_far t)
        ∙ ap (λ (s : List Sight). all t ++ s) (put_more sights values so_far rows i l t))
        (a.behind sights values so_far (λ t. all t ++ put_each sights values so_far (take i rows) t) (later h.grows order d) (each_later h.grows order e)
        (means_in env' h.restored (means_later h.grows order m)) so);
  }

  pub rows_all : {old new : List Hub} {env env' : Env} {ends ends' : Ends} (rows : List (List ℕ)) (i : ℕ) → length rows ≤ i
      → RowsAssigned kind (take i rows) looks round old new env env' ends ends' → RowsAssigned kind rows looks round old new env env' ends ends'
  rows_all {old} {new} {env} {env'} {ends} {ends'} rows i l h = subst (λ (rs : List (List ℕ)). RowsAssigned kind rs looks round old new env env' ends ends') (take_all i rows l) h

-- ---- the whole

-- what looks at nothing is put, told or not
put_nothing : (at : ℕ → Target) (sights : List Sight) (ks : List ℕ) (so_far : Looks) → put at sights ks [] so_far ≡ put at sights ks (replicate (length ks) []) so_far
put_nothing at sights [] so_far = refl
put_nothing at sights (k ∷ ks) so_far = put_nothing at sights ks _

pub rows_walk : {kind : Kind} {looks : List (Option Look)} {round next look : Option Look} {old summed joined told filled mid new : List Hub} {env env' env'' env''' : Env} {changes changes' : Changes}
    {start skip first last : Ends} {means : Looks → List Sight} {values : Looks → List (List Sight)} (spacing : Spacing) (ks : List ℕ)
    → Sums means env.elements.looks.items old summed look → Joins summed joined round look next → Evaluates values env.elements.looks.items joined told looks
    → start.parts ≡ 0 → ((k : ℕ) → get nat_cmp start.drivers k ≡ None) → ((k : ℕ) → get nat_cmp start.elements k ≡ None) → skip ≡ record start { parts = start.parts + 1 }
    → PartAssigned kind ks [] next told filled env env' skip first → RowsAssigned kind (all_rows spacing ks) looks next filled mid env' env'' first last → 0 < last.parts
    → Finished mid new env'' env''' changes changes' last
    → Walked (λ sights so_far. put_rows (target_of kind) (sights ++ means so_far) spacing ks (values so_far) so_far) round old new env env''' changes changes'
rows_walk {kind} {looks} {next = next} {told = told} {env = env} {env' = env'} {env'' = env''} {changes = changes} {start = start} {skip = skip} {means = means} {values = values} spacing ks s j e at_start a b is p r some f = record {
  grows = grows_then s.grows (grows_then j.grows (grows_then e.grows (grows_then p.grows (grows_then r.grows f.grows))));
  means = λ sights so_far d m.
      let index = s.denotes so_far (elements_mean m) in
      let round = j.denotes sights (means so_far) (later s.grows index.order d) index in
      let value = e.each so_far (elements_mean (means_later (grows_then s.grows j.grows) round.order m)) in
      let order = order_of value in
      let n = means_later (grows_then s.grows (grows_then j.grows e.grows)) order m in
      let begun = (skipped next told env start).behind (sights ++ means so_far) so_far (λ t. []) (later e.grows order round) n (no_parts told start so_far order at_start a b) in
      let unknown = p.behind (sights ++ means so_far) [] so_far so_far (later e.grows order round) (none order) n (subst (λ (x : Ends). Behind told x so_far so_far) (sym is) begun) in
      let filled = behind_order unknown in
      let known = r.behind (sights ++ means so_far) (values so_far) so_far (λ t. so_far t ++ put (target_of kind) (sights ++ means so_far) ks [] so_far t)
      (later p.grows filled (later e.grows order round)) (each_later p.grows filled value) (means_in env' p.restored (means_later p.grows filled n)) unknown in
      let done = behind_order known in
      f.denotes so_far (put_rows (target_of kind) (sights ++ means so_far) spacing ks (values so_far) so_far) some
      (behind_alike (put_rows (target_of kind) (sights ++ means so_far) spacing ks (values so_far) so_far)
      (λ t. append_assoc (so_far t) (put (target_of kind) (sights ++ means so_far) ks [] so_far t) (put_each kind looks next (sights ++ means so_far) (values so_far) so_far (all_rows spacing ks) t)
      ∙ ap (λ (x : Looks). so_far t ++ (x t ++ put_each kind looks next (sights ++ means so_far) (values so_far) so_far (all_rows spacing ks) t)) (put_nothing (target_of kind) (sights ++ means so_far) ks so_far)) known)
      (means_in env'' (λ t. r.restored t ∙ p.restored t) (means_later (grows_then p.grows r.grows) done n));
  restored = λ t. f.restored t ∙ same t (r.restored t ∙ p.restored t);
}
  where
    same : (t : Target) → look_of env'' t ≡ look_of env t → was changes env'' t ≡ was changes env t
    same (driver k) h = ap (unwrap_or (first_at changes.drivers.items k)) h
    same (element k) h = ap (unwrap_or (first_at changes.elements.items k)) h
