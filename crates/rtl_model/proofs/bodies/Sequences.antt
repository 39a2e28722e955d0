-- A later assignment replaces an earlier one, and a sequence does what its parts do.
use Rattle.std.proofs.Common.{◌≡◌, ℕ, Bool, true, false, not, ◌||◌, ◌&&◌, List, ◌++◌, Option, Some, None, refl, sym, ap, ◌∙◌, append_assoc}
use Rattle.rtl_model.specs.basics.Valuations.{or_else}
use Rattle.rtl_model.specs.bodies.Body.{Stmts, done, step, followed_by}
use Rattle.rtl_model.specs.bodies.Values.{Seen}
use Rattle.rtl_model.specs.bodies.Variables.{after, after_stmt, variables_after}
use Rattle.rtl_model.specs.bodies.Effect.{effect, stmt_effect}
use Rattle.rtl_model.specs.bodies.Reads.{stmt_reads, reads, stmt_events, events}
use Rattle.rtl_model.specs.bodies.Assigns.{Target, is_element, stmt_must_assign, must_assign}
use Rattle.rtl_model.specs.bodies.Stored.{stmt_stores, stores_element}
use Rattle.rtl_model.specs.bodies.Fits.{Scope, Fits}
use Rattle.rtl_model.specs.bodies.Looks.{Sight, Looks, stmt_looks, body_looks}
use Rattle.rtl_model.specs.bodies.Laws.{EachLaterReplaces, SequencesAddUp}

pub or_else-none : (o : Option ℕ) → or_else o None ≡ o
or_else-none None = refl
or_else-none (Some v) = refl

pub or_else-assoc : (a b c : Option ℕ) → or_else (or_else a b) c ≡ or_else a (or_else b c)
or_else-assoc None b c = refl
or_else-assoc (Some v) b c = refl

pub effect-followed_by : (earlier later : Stmts) (seen : Seen) (place : ℕ)
    → effect seen (followed_by earlier later) place ≡ or_else (effect (after seen earlier) later place) (effect seen earlier place)
effect-followed_by done later seen place = sym (or_else-none (effect seen later place))
effect-followed_by (step s rest) later seen place =
    ap (λ (o : Option ℕ). or_else o (stmt_effect seen s place)) (effect-followed_by rest later (after_stmt seen s) place)
    ∙ or_else-assoc (effect (after seen (step s rest)) later place) (effect (after_stmt seen s) rest place) (stmt_effect seen s place)

variables-followed_by : (earlier later : Stmts) (seen : Seen) → variables_after seen (followed_by earlier later) ≡ variables_after (after seen earlier) later
variables-followed_by done later seen = refl
variables-followed_by (step s rest) later seen = variables-followed_by rest later (after_stmt seen s)

pub later_replaces : EachLaterReplaces
later_replaces earlier later seen = record { effect_is = effect-followed_by earlier later seen; variables_are = variables-followed_by earlier later seen }

-- ---- what a sequence reads, assigns, tests and stores, and when it fits

or_assoc : (a b c : Bool) → a || (b || c) ≡ (a || b) || c
or_assoc true b c = refl
or_assoc false b c = refl

-- of a statement and two parts after it
stores_assoc : (a m b n c : Bool) → a || (not m && (b || (not n && c))) ≡ (a || (not m && b)) || (not (m || n) && c)
stores_assoc true m b n c = refl
stores_assoc false true b n c = refl
stores_assoc false false true n c = refl
stores_assoc false false false n c = refl

reads-followed_by : (s t : Stmts) → reads (followed_by s t) ≡ reads s ++ reads t
reads-followed_by done t = refl
reads-followed_by (step s rest) t = ap (λ (ns : List ℕ). stmt_reads s ++ ns) (reads-followed_by rest t) ∙ sym (append_assoc (stmt_reads s) (reads rest) (reads t))

events-followed_by : (s t : Stmts) → events (followed_by s t) ≡ events s ++ events t
events-followed_by done t = refl
events-followed_by (step s rest) t = ap (λ (ns : List ℕ). stmt_events s ++ ns) (events-followed_by rest t) ∙ sym (append_assoc (stmt_events s) (events rest) (events t))

must_assign-followed_by : (these : Target → Bool) (s t : Stmts) → must_assign these (followed_by s t) ≡ must_assign these s || must_assign these t
must_assign-followed_by these done t = refl
must_assign-followed_by these (step s rest) t =
    ap (λ (b : Bool). stmt_must_assign these s || b) (must_assign-followed_by these rest t)
    ∙ or_assoc (stmt_must_assign these s) (must_assign these rest) (must_assign these t)

stores-followed_by : (e : ℕ) (s t : Stmts) → stores_element e (followed_by s t) ≡ stores_element e s || (not (must_assign (is_element e) s) && stores_element e t)
stores-followed_by e done t = refl
stores-followed_by e (step s rest) t =
    ap (λ (b : Bool). stmt_stores e s || (not (stmt_must_assign (is_element e) s) && b)) (stores-followed_by e rest t)
    ∙ stores_assoc (stmt_stores e s) (stmt_must_assign (is_element e) s) (stores_element e rest) (must_assign (is_element e) rest) (stores_element e t)

looks-followed_by : (s t : Stmts) (round : List Sight) (so_far : Looks) → body_looks round so_far (followed_by s t) ≡ body_looks round (body_looks round so_far s) t
looks-followed_by done t round so_far = refl
looks-followed_by (step s rest) t round so_far = looks-followed_by rest t round (stmt_looks round so_far s)

parts_fit : (scope : Scope) (s t : Stmts) → Fits scope (followed_by s t) → Fits scope s × Fits scope t
parts_fit scope done t h = (tt, h)
parts_fit scope (step s rest) t h = let g = parts_fit scope rest t h.1 in ((h.0, g.0), g.1)

whole_fits : (scope : Scope) (s t : Stmts) → Fits scope s × Fits scope t → Fits scope (followed_by s t)
whole_fits scope done t h = h.1
whole_fits scope (step s rest) t h = (h.0.0, whole_fits scope rest t (h.0.1, h.1))

pub sequences_add_up : SequencesAddUp
sequences_add_up s t = record {
  reads_both = reads-followed_by s t;
  events_of_both = events-followed_by s t;
  assigns_either = λ these. must_assign-followed_by these s t;
  stores_either = λ e. stores-followed_by e s t;
  looks_follow = looks-followed_by s t;
  fits = λ scope. (parts_fit scope s t, whole_fits scope s t);
}
