-- Statements walked one after another, and parts one beside another.
use Rattle.std.proofs.Common.{◌≡◌, ℕ, suc, ◌+◌, ◌<◌, Bool, true, false, if◌then◌else◌, List, [], ◌∷◌, ◌++◌, length, get_or, take, drop, Option, None, refl, sym, ap, ◌∙◌, subst, arith}
use Rattle.std.proofs.lemmas.List.{take_more, length-take-le}
use Rattle.rtl_model.specs.bodies.Assigns.{Target, driver, element, is_target}
use Rattle.rtl_model.specs.bodies.Looks.{Sight, element_kept, Looks, first_looks, replaced, put, stmt_looks, body_looks}
use Rattle.rtl_net.specs.declared.body.Statement.{Statement}
use Rattle.rtl_net.specs.Bodies.{statement_view, statements_of}
use Rattle.rtl_looks.specs.declared.hubs.Look.{Look}
use Rattle.rtl_looks.specs.declared.hubs.Hub.{Hub}
use Rattle.rtl_looks.specs.declared.env.Env.{Env}
use Rattle.rtl_looks.specs.declared.env.Kind.{Kind}
use Rattle.rtl_looks.specs.declared.changes.Changes.{Changes}
use Rattle.rtl_looks.specs.declared.table.Change.{Change}
use Rattle.rtl_looks.specs.declared.ends.Ends.{Ends}
use Rattle.rtl_looks.specs.Denoting.{AreInOrder, Grows, Denotes, look_at}
use Rattle.rtl_looks.specs.Evaluating.{Joins, ElementsMean, Evaluates}
use Rattle.rtl_looks.specs.Targets.{target_of, look_of, was, was_at, Means}
use Rattle.rtl_looks.specs.Parts.{end_of, Covers, Behind, Takes, Finishes, Taken, Finished}
use Rattle.rtl_looks.specs.Walks.{Walked, Parted, Assigned}
use Rattle.rtl_looks.proofs.Joining.{later, grows_none, grows_then, nothing}
use Rattle.rtl_looks.proofs.Elements.{order_of, denotes_at}
use Rattle.rtl_looks.proofs.Parting.{covers_later}

-- ---- all targets

pub means_later : {old new : List Hub} {env : Env} {so_far : Looks} → Grows old new → AreInOrder new → Means old env so_far → Means new env so_far
means_later g order m = record { each = λ t. later g order (m.each t) }

pub means_order : {hubs : List Hub} {env : Env} {so_far : Looks} → Means hubs env so_far → AreInOrder hubs
means_order m = (m.each (driver 0)).order

pub means_in : {hubs : List Hub} {env : Env} (other : Env) {so_far : Looks} → ((t : Target) → look_of other t ≡ look_of env t) → Means hubs env so_far → Means hubs other so_far
means_in {hubs} other {so_far} same m = record { each = λ t. subst (λ (o : Option Look). Denotes hubs o (so_far t)) (sym (same t)) (m.each t) }

pub elements_mean : {hubs : List Hub} {env : Env} {so_far : Looks} → Means hubs env so_far → ElementsMean hubs env.elements.looks.items so_far
elements_mean m = λ e. m.each (element e)

pub behind_later : {old new : List Hub} {ends : Ends} {so_far all : Looks} → Grows old new → AreInOrder new → Behind old ends so_far all → Behind new ends so_far all
behind_later g order b = record { each = λ t. covers_later g order (b.each t) }

pub behind_order : {hubs : List Hub} {ends : Ends} {so_far all : Looks} → Behind hubs ends so_far all → AreInOrder hubs
behind_order b = (b.each (driver 0)).order

pub behind_alike : {hubs : List Hub} {ends : Ends} {so_far all : Looks} (others : Looks) → ((t : Target) → all t ≡ others t) → Behind hubs ends so_far all → Behind hubs ends so_far others
behind_alike {hubs} {ends} {so_far} others same b = record { each = λ t. subst (λ (s : List Sight). Covers hubs (end_of ends t) ends.parts (so_far t) s) (same t) (b.each t) }

-- ---- sequences

pub no_walk : (round : Option Look) (hubs : List Hub) (env : Env) (changes : Changes) → Walked (λ sights so_far. so_far) round hubs hubs env env changes changes
no_walk round hubs env changes = record { grows = grows_none hubs; means = λ sights so_far d m. m; restored = λ t. refl }

pub as_walked : {run : List Sight → Looks → Looks} {round : Option Look} {old new : List Hub} {env env' : Env} {changes changes' : Changes} (other : List Sight → Looks → Looks)
    → ((sights : List Sight) (so_far : Looks) (t : Target) → run sights so_far t ≡ other sights so_far t) → Walked run round old new env env' changes changes'
    → Walked other round old new env env' changes changes'
as_walked {new = new} {env' = env'} other same w = record {
  grows = w.grows;
  means = λ sights so_far d m. record { each = λ t. subst (λ (s : List Sight). Denotes new (look_of env' t) s) (same sights so_far t) ((w.means sights so_far d m).each t) };
  restored = w.restored;
}

pub then_walked : {first second : List Sight → Looks → Looks} {round : Option Look} {old mid new : List Hub} {env env' env'' : Env} {changes changes' changes'' : Changes}
    → Walked first round old mid env env' changes changes' → Walked second round mid new env' env'' changes' changes''
    → Walked (λ sights so_far. second sights (first sights so_far)) round old new env env'' changes changes''
then_walked {first} v w = record {
  grows = grows_then v.grows w.grows;
  means = λ sights so_far d m. let n = v.means sights so_far d m in w.means sights (first sights so_far) (later v.grows (means_order n) d) n;
  restored = λ t. w.restored t ∙ v.restored t;
}

sequence_push : (sights : List Sight) (xs : List Statement) (x : Statement) (so_far : Looks)
    → body_looks sights so_far (statements_of (xs ++ x ∷ [])) ≡ stmt_looks sights (body_looks sights so_far (statements_of xs)) (statement_view x)
sequence_push sights [] x so_far = refl
sequence_push sights (y ∷ ys) x so_far = sequence_push sights ys x (stmt_looks sights so_far (statement_view y))

pub sequence_more : (xs : List Statement) (i : ℕ) (x : Statement) → i < length xs → x ≡ get_or xs i x → (sights : List Sight) (so_far : Looks)
    → stmt_looks sights (body_looks sights so_far (statements_of (take i xs))) (statement_view x) ≡ body_looks sights so_far (statements_of (take (i + 1) xs))
sequence_more xs i x l is sights so_far =
    sym (ap (λ (ys : List Statement). body_looks sights so_far (statements_of ys)) (take_more xs i x l ∙ ap (λ (y : Statement). take i xs ++ y ∷ []) (sym is))
    ∙ sequence_push sights (take i xs) x so_far)

-- ---- assignments

put_push : (at : ℕ → Target) (sights : List Sight) (ks : List ℕ) (k : ℕ) (values : List (List Sight)) (so_far : Looks)
    → put at sights (ks ++ k ∷ []) values so_far ≡ replaced (at k) (sights ++ get_or values (length ks) []) (put at sights ks values so_far)
put_push at sights [] k values so_far = refl
put_push at sights (j ∷ js) k values so_far =
    put_push at sights js k (drop 1 values) (replaced (at j) (sights ++ get_or values 0 []) so_far)
    ∙ ap (λ (s : List Sight). replaced (at k) (sights ++ s) (put at sights js (drop 1 values) (replaced (at j) (sights ++ get_or values 0 []) so_far))) (next values (length js))
  where
    next : (vs : List (List Sight)) (n : ℕ) → get_or (drop 1 vs) n [] ≡ get_or vs (suc n) []
    next [] n = refl
    next (v ∷ vs) n = refl

pub no_assigned : (kind : Kind) (looks : List (Option Look)) (round : Option Look) (hubs : List Hub) (env : Env) (changes : Changes) → Assigned kind [] looks round hubs hubs env env changes changes
no_assigned kind looks round hubs env changes = record { grows = grows_none hubs; means = λ sights values so_far d e m. m; restored = λ t. refl }

pub assigned_more : {kind : Kind} {looks : List (Option Look)} {round : Option Look} {old mid new : List Hub} {env env' env'' : Env} {changes changes' changes'' : Changes} {look : Option Look}
    (ks : List ℕ) (i k : ℕ) → i < length ks → k ≡ get_or ks i k → Assigned kind (take i ks) looks round old mid env env' changes changes'
    → Joins mid new round (look_at looks i) look
    → ((t : Target) → look_of env'' t ≡ (if is_target (target_of kind k) t then look else look_of env' t))
    → ((t : Target) → was changes'' env'' t ≡ was changes' env' t)
    → Assigned kind (take (i + 1) ks) looks round old new env env'' changes changes''
assigned_more {kind} {looks} {round} {old} {mid} {new} {env} {env'} {env''} {look = look} ks i k l is h j set kept = record {
  grows = grows_then h.grows j.grows;
  means = λ sights values so_far d e m.
      let n = h.means sights values so_far d e m in
      let order = means_order n in
      let one = j.denotes sights (get_or values i []) (later h.grows order d) (later h.grows order (denotes_at i e)) in
      let next = means_later j.grows one.order n in
      record {
        each = λ t. subst (λ (s : List Sight). Denotes new (look_of env'' t) s) (same sights values so_far t)
            (subst (λ (o : Option Look). Denotes new o (replaced (target_of kind k) (sights ++ get_or values i []) (put (target_of kind) sights (take i ks) values so_far) t)) (sym (set t))
            (choose sights values so_far t one next (is_target (target_of kind k) t)));
      };
  restored = λ t. kept t ∙ h.restored t;
}
  where
    choose : (sights : List Sight) (values : List (List Sight)) (so_far : Looks) (t : Target) → Denotes new look (sights ++ get_or values i []) → Means new env' (put (target_of kind) sights (take i ks) values so_far) → (b : Bool)
        → Denotes new (if b then look else look_of env' t) (if b then sights ++ get_or values i [] else put (target_of kind) sights (take i ks) values so_far t)
    choose sights values so_far t one next true = one
    choose sights values so_far t one next false = next.each t

    long : length (take i ks) ≡ i
    long = length-take-le i ks (omega arith)

    same : (sights : List Sight) (values : List (List Sight)) (so_far : Looks) (t : Target)
        → replaced (target_of kind k) (sights ++ get_or values i []) (put (target_of kind) sights (take i ks) values so_far) t ≡ put (target_of kind) sights (take (i + 1) ks) values so_far t
    same sights values so_far t =
        ap (λ (n : ℕ). replaced (target_of kind k) (sights ++ get_or values n []) (put (target_of kind) sights (take i ks) values so_far) t) (sym long)
        ∙ (sym (ap (λ (f : Looks). f t) (put_push (target_of kind) sights (take i ks) k values so_far))
        ∙ sym (ap (λ (xs : List ℕ). put (target_of kind) sights xs values so_far t) (take_more ks i k l ∙ ap (λ (y : ℕ). take i ks ++ y ∷ []) (sym is))))

pub assigned_walked : {kind : Kind} {ks : List ℕ} {looks : List (Option Look)} {round : Option Look} {old mid new : List Hub} {env env' : Env} {changes changes' : Changes} {values : Looks → List (List Sight)}
    → Evaluates values env.elements.looks.items old mid looks → Assigned kind ks looks round mid new env env' changes changes'
    → Walked (λ sights so_far. put (target_of kind) sights ks (values so_far) so_far) round old new env env' changes changes'
assigned_walked {values = values} e a = record {
  grows = grows_then e.grows a.grows;
  means = λ sights so_far d m.
      let v = e.each so_far (elements_mean m) in
      let order = order_of v in
      a.means sights (values so_far) so_far (later e.grows order d) v (means_later e.grows order m);
  restored = a.restored;
}

-- ---- one part

pub taken_both : {old mid new : List Hub} {env env' : Env} {changes : Changes} {ends ends' : Ends}
    → Takes old mid ends.parts env.drivers.looks.items env'.drivers.looks.items changes.drivers.items ends.drivers ends'.drivers
    → Takes mid new ends.parts env.elements.looks.items env'.elements.looks.items changes.elements.items ends.elements ends'.elements
    → ends'.parts ≡ ends.parts + 1 → Taken old new env env' changes ends ends'
taken_both {old} {mid} {new} {env} {env'} {changes} {ends} {ends'} a b is = record {
  grows = grows_then a.grows b.grows;
  restored = restored;
  parts = is;
  covers = λ so_far all behind c w m.
      let first = a.covers (λ k. so_far (driver k)) (λ k. all (driver k)) (λ k. behind (driver k)) (λ k. c.each (driver k)) (λ k. w (driver k)) (λ k. m.each (driver k)) in
      let order = (first 0).order in
      let second = b.covers (λ k. so_far (element k)) (λ k. all (element k)) (λ k. behind (element k)) (λ k. covers_later a.grows order (c.each (element k)))
      (λ k. later a.grows order (w (element k))) (λ k. later a.grows order (m.each (element k))) in
      record { each = each so_far all behind (λ k. covers_later b.grows (second 0).order (first k)) second };
}
  where
    restored : (t : Target) → look_of env' t ≡ was changes env t
    restored (driver k) = a.restored k
    restored (element k) = b.restored k

    each : (so_far all behind : Looks) → ((k : ℕ) → Covers new (end_of ends' (driver k)) (ends.parts + 1) (so_far (driver k)) (all (driver k) ++ behind (driver k)))
        → ((k : ℕ) → Covers new (end_of ends' (element k)) (ends.parts + 1) (so_far (element k)) (all (element k) ++ behind (element k)))
        → (t : Target) → Covers new (end_of ends' t) ends'.parts (so_far t) (all t ++ behind t)
    each so_far all behind f s (driver k) = subst (λ (n : ℕ). Covers new (end_of ends' (driver k)) n (so_far (driver k)) (all (driver k) ++ behind (driver k))) (sym is) (f k)
    each so_far all behind f s (element k) = subst (λ (n : ℕ). Covers new (end_of ends' (element k)) n (so_far (element k)) (all (element k) ++ behind (element k))) (sym is) (s k)

pub finished_both : {old mid new : List Hub} {env env' : Env} {changes changes' : Changes} {ends : Ends}
    → Finishes old mid ends.parts env.drivers.looks.items env'.drivers.looks.items changes.drivers.items changes'.drivers.items ends.drivers
    → Finishes mid new ends.parts env.elements.looks.items env'.elements.looks.items changes.elements.items changes'.elements.items ends.elements
    → Finished old new env env' changes changes' ends
finished_both {old} {mid} {new} {env} {env'} {changes} {changes'} {ends} a b = record {
  grows = grows_then a.grows b.grows;
  restored = restored;
  denotes = λ so_far all some c m.
      let first = a.denotes (λ k. so_far (driver k)) (λ k. all (driver k)) some (λ k. c.each (driver k)) (λ k. m.each (driver k)) in
      let order = (first 0).order in
      let second = b.denotes (λ k. so_far (element k)) (λ k. all (element k)) some (λ k. covers_later a.grows order (c.each (element k))) (λ k. later a.grows order (m.each (element k))) in
      record { each = each all (λ k. later b.grows (second 0).order (first k)) second };
}
  where
    restored : (t : Target) → was changes' env' t ≡ was changes env t
    restored (driver k) = a.restored k
    restored (element k) = b.restored k

    each : (all : Looks) → ((k : ℕ) → Denotes new (look_of env' (driver k)) (all (driver k))) → ((k : ℕ) → Denotes new (look_of env' (element k)) (all (element k)))
        → (t : Target) → Denotes new (look_of env' t) (all t)
    each all f s (driver k) = f k
    each all f s (element k) = s k

pub nothing_changed : (changes : Changes) (env : Env) → changes.drivers.items ≡ [] → changes.elements.items ≡ []
    → (t : Target) → was changes env t ≡ look_of env t
nothing_changed changes env a b (driver k) = ap (λ (cs : List Change). was_at cs env.drivers.looks.items k) a
nothing_changed changes env a b (element k) = ap (λ (cs : List Change). was_at cs env.elements.looks.items k) b

pub parted : {run : List Sight → Looks → Looks} {round : Option Look} {old mid new : List Hub} {env env' env'' : Env} {changes changes' : Changes} {ends ends' : Ends}
    → ((t : Target) → was changes env t ≡ look_of env t) → Walked run round old mid env env' changes changes' → Taken mid new env' env'' changes' ends ends'
    → Parted run round old new env env'' ends ends'
parted {run} {mid = mid} {env = env} {env' = env'} {changes' = changes'} none w t = record {
  grows = grows_then w.grows t.grows;
  restored = λ s. t.restored s ∙ (w.restored s ∙ none s);
  more = let is = t.parts in omega arith;
  behind = λ sights so_far all d m b.
      let n = w.means sights so_far d m in
      let order = means_order n in
      t.covers so_far all (run sights so_far) (behind_later w.grows order b)
      (λ s. subst (λ (o : Option Look). Denotes mid o (so_far s)) (sym (w.restored s ∙ none s)) (later w.grows order (m.each s))) n;
}

-- ---- before the first statement

pub begins : (hubs : List Hub) (env : Env) → AreInOrder hubs → env.drivers.looks.items ≡ [] → env.elements.looks.items ≡ [] → Means hubs env first_looks
begins hubs env order a b = record { each = each }
  where
    kept : (e : ℕ) → Denotes hubs None (element_kept e ∷ [])
    kept e = record { order = order; there = tt; nets = λ n. refl }

    each : (t : Target) → Denotes hubs (look_of env t) (first_looks t)
    each (driver k) = subst (λ (xs : List (Option Look)). Denotes hubs (look_at xs k) []) (sym a) (nothing order)
    each (element k) = subst (λ (xs : List (Option Look)). Denotes hubs (look_at xs k) (element_kept k ∷ [])) (sym b) (kept k)
