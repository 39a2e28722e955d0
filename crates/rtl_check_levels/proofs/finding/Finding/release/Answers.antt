use Rattle.std.proofs.Common.{◌≡◌, ℕ, ◌<◌, ◌∷◌, ◌++◌, [], List, length, get_or, set, ◌⊎◌, sym, subst, refl, ◌∙◌, arith, Contains}
use Rattle.std.proofs.lemmas.List.{length_push, get_or_read}
use Rattle.std.proofs.lemmas.List.Elements.{Contains-push}
use Rattle.rtl_check_levels.specs.Finding.{WaitingSoFar, IsAmong}
use Rattle.rtl_check_levels.proofs.Waiting.{waiting_released, released_or_wait}
use Rattle.rtl_check_levels.proofs.finding.Finding.release.Goals as goal

pub index_mut-requires : goal.index_mut-requires
index_mut-requires c =
    let w = c.requires.sound.waiting in
    let i = c.in_ok-p.ensures.items in
    let l = w.ready_there c.in_ok-p.p (subst (λ (r : List ℕ). Contains r c.in_ok-p.p) (sym i) (Contains-push c.pop.new.self.items c.in_ok-p.p)) in
    let e = w.each_last in
    let o = c.args.self.now.last.ok in
    omega arith

pub returns-clause-sound : goal.returns-clause-sound
returns-clause-sound c =
    let s = c.requires.sound in
    let f = c.args.self.now in
    let ready = c.pop.new.self.items in
    let p = c.in_ok-p.p in
    let w : WaitingSoFar c.args.table.now f.levels.items f.waits.items f.last.items (ready ++ p ∷ []) f.passed.items
    = subst (λ (r : List ℕ). WaitingSoFar c.args.table.now f.levels.items f.waits.items f.last.items r f.passed.items) c.in_ok-p.ensures.items s.waiting in
    record {
      levels = s.levels;
      waiting = subst (λ (n : ℕ). WaitingSoFar c.args.table.now f.levels.items f.waits.items (set f.last.items p n) ready f.passed.items) (sym c.replace.ensures.after)
          (waiting_released c.args.table.now f.levels.items f.waits.items f.last.items ready f.passed.items p w);
    }

pub returns-clause-released : goal.returns-clause-released
returns-clause-released c =
    let s = c.requires.sound in
    let i = c.in_ok-p.ensures.items in
    let waits = c.args.self.now.waits.items in
    let last = c.args.self.now.last.items in
    let p = c.in_ok-p.p in
    let l = s.waiting.ready_there p (subst (λ (r : List ℕ). Contains r p) (sym i) (Contains-push c.pop.new.self.items p)) in
    let e = s.waiting.each_last in
    let within : p < length last = omega arith in
    let is : c.replace.result ≡ get_or last p 0 = c.replace.ensures.value ∙ get_or_read last p c.index_mut.result.now within c.index_mut.ensures.value 0 in
    record {
      levels = refl;
      less = rw i (shorter c.pop.new.self.items p);
      waits = λ r x a. subst (λ (m : ℕ). IsAmong waits (get_or (set last p m) r 0) x ⊎ IsAmong waits c.replace.result x) (sym c.replace.ensures.after)
          (subst (λ (n : ℕ). IsAmong waits (get_or (set last p 0) r 0) x ⊎ IsAmong waits n x) (sym is) (released_or_wait waits last p r x a));
      there = let t = s.waiting.last_there p in omega arith;
    }
  where
    shorter : (xs : List ℕ) (x : ℕ) → length xs < length (xs ++ x ∷ [])
    shorter xs x = let e = length_push xs x in omega arith
