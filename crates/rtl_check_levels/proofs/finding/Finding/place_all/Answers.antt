use Rattle.std.proofs.Common.{◌≡◌, ℕ, suc, ◌-◌, ◌<◌, ◌≤◌, ◌⊎◌, inl, inr, length, sym, subst, arith}
use Rattle.std.proofs.lemmas.List.{get_or_read}
use Rattle.rtl_check_levels.specs.declared.finding.Wait.{Wait}
use Rattle.rtl_check_levels.specs.Finding.{IsAmong, IsRanked, wait_at}
use Rattle.rtl_check_levels.proofs.Growing.{grows_not, grows_on, placed_grows}
use Rattle.rtl_check_levels.proofs.Placing.{none_among, last_or_before}
use Rattle.rtl_check_levels.proofs.finding.Finding.place_all.Goals as goal

pub loop-at-init : goal.loop-at-init
loop-at-init c = record { sound = c.requires.sound; grows = grows_not c.args.self.now; within = c.requires.there; left = λ q a. inr a }

pub place-requires-clause-there : goal.place-requires-clause-there
place-requires-clause-there c =
    let v = c.loop-at.invariant in
    let l : c.loop-at.at - 1 < length c.loop-at.self.waits.items = omega (arith, v.within, c.loop-at-test.true) in
    let is = get_or_read c.loop-at.self.waits.items (c.loop-at.at - 1) c.index-wait.result.now l c.index-wait.ensures (record { row = 0; before = 0 }) in
    subst (λ (w : Wait). w.row < length c.args.table.now) (sym is) (v.sound.waiting.rows_there (c.loop-at.at - 1) l)

pub loop-at-preserved : goal.loop-at-preserved
loop-at-preserved c =
    let v = c.loop-at.invariant in
    let e = c.in_ok-place.ensures in
    let waits = c.loop-at.self.waits.items in
    let i = c.loop-at.at - 1 in
    let w = c.index-wait.result.now in
    let table = c.args.table.now in
    let new = c.place.new.self in
    let l : i < length waits = omega (arith, v.within, c.loop-at-test.true) in
    let is : w ≡ wait_at waits i = get_or_read waits i w l c.index-wait.ensures (record { row = 0; before = 0 }) in
    let order = subst (λ (x : Wait). x.before ≤ i) (sym is) (v.sound.waiting.in_order i l) in
    let at : c.loop-at.at ≡ suc i = omega (arith, c.loop-at-test.true) in
    record {
      sound = e.sound;
      grows = grows_on c.args.self.now c.loop-at.self new v.grows e.grows;
      within = omega (arith, order, l, e.grows.longer);
      left = λ q a. elim (v.left q a) [
        | inl ranked ↦ inl (placed_grows table c.loop-at.self new q e.grows ranked)
        | inr among ↦ elim (last_or_before waits i q w is (subst (λ (n : ℕ). IsAmong waits n q) at among)) [
          | inl same ↦ inl (subst (IsRanked table new) same e.placed)
          | inr before ↦ inr (e.grows.among w.before q before)
        ]
      ];
    }

pub loop-at-smaller : goal.loop-at-smaller
loop-at-smaller c =
    let v = c.loop-at.invariant in
    let waits = c.loop-at.self.waits.items in
    let i = c.loop-at.at - 1 in
    let l : i < length waits = omega (arith, v.within, c.loop-at-test.true) in
    let is : c.index-wait.result.now ≡ wait_at waits i = get_or_read waits i c.index-wait.result.now l c.index-wait.ensures (record { row = 0; before = 0 }) in
    let order = subst (λ (x : Wait). x.before ≤ i) (sym is) (v.sound.waiting.in_order i l) in
    omega (arith, order, c.loop-at-test.true)

pub returns-clause-placed : goal.returns-clause-placed
returns-clause-placed c q a = go (c.loop-at.invariant.left q a)
  where
    go : IsRanked c.args.table.now c.loop-at.self q ⊎ IsAmong c.loop-at.self.waits.items c.loop-at.at q → IsRanked c.args.table.now c.loop-at.self q
    go (inl ranked) = ranked
    go (inr among) = absurd (none_among c.loop-at.self.waits.items c.loop-at.at q (let t = c.loop-at-test.false in omega arith) among)
