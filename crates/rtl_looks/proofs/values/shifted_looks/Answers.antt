use Rattle.std.proofs.Common.{◌≡◌, ℕ, ◌++◌, ◌-◌, ◌%◌, ◌<◌, min, List, length, take, drop, replicate, Option, None, sym, ap, ◌∙◌, arith}
use Rattle.std.proofs.lemmas.List.{take_all, length-drop}
use Rattle.std.proofs.lemmas.Result.{IfOk-weaker}
use Rattle.vhdl_values.specs.declared.kinds.Shift.{Shift}
use Rattle.vhdl_values.specs.Shifts.{shifted_right, shifted_of}
use Rattle.rtl_looks.specs.declared.hubs.Look.{Look}
use Rattle.rtl_looks.proofs.Shifting.{least, left_by, right_by, rotated_by, rest_is, sign_is}
use Rattle.rtl_looks.proofs.values.shifted_looks.Goals as goal

pub returns-in_ok-resize-in-Left : goal.returns-in_ok-resize-in-Left
returns-in_ok-resize-in-Left c =
    let looks = c.args.looks.now in
    let gone = c.min-gone.result in
    let shifted = c.in_ok-shifted-in-Left.shifted in
    let most : gone ≡ min c.args.count (length looks) = c.min-gone.ensures ∙ least c.args.count (length looks) in
    let long : length (drop gone looks) ≡ length looks - gone = length-drop gone looks in
    let items : shifted.items ≡ drop gone looks = c.in_ok-shifted-in-Left.ensures.items ∙ take_all _ _ (omega arith) in
    let left : length looks - shifted.len ≡ gone = let a = ap length items in let b = shifted.ok.0 in omega arith in
    c.in_ok-resize-in-Left.ensures.items
    ∙ (ap (λ (xs : List (Option Look)). take (length looks) xs ++ replicate (length looks - shifted.len) None) items
    ∙ (ap (λ (xs : List (Option Look)). xs ++ replicate (length looks - shifted.len) None) (take_all (length looks) (drop gone looks) (omega arith))
    ∙ (ap (λ (n : ℕ). drop gone looks ++ replicate n None) left ∙ (left_by c.args.count gone None looks most
    ∙ sym (ap (λ (by : Shift). shifted_of None by c.args.count looks) c.in-Left.is)))))

pub returns-in-Right : goal.returns-in-Right
returns-in-Right c =
    let looks = c.args.looks.now in
    let most : c.min-gone.result ≡ min c.args.count (length looks) = c.min-gone.ensures ∙ least c.args.count (length looks) in
    IfOk-weaker c.moved_right.result _ _
    (λ v h. h ∙ (right_by c.args.count c.min-gone.result None looks most ∙ sym (ap (λ (by : Shift). shifted_of None by c.args.count looks) c.in-Right.is)))
    c.moved_right.ensures

pub returns-in-RightSigned : goal.returns-in-RightSigned
returns-in-RightSigned c =
    let looks = c.args.looks.now in
    let most : c.min-gone.result ≡ min c.args.count (length looks) = c.min-gone.ensures ∙ least c.args.count (length looks) in
    IfOk-weaker c.moved_right-in-RightSigned.result _ _
    (λ v h. h ∙ (right_by c.args.count c.min-gone.result c.at.result looks most ∙ (ap (λ (sign : Option Look). shifted_right sign c.args.count looks) (c.at.ensures ∙ sign_is looks)
    ∙ sym (ap (λ (by : Shift). shifted_of None by c.args.count looks) c.in-RightSigned.is))))
    c.moved_right-in-RightSigned.ensures

pub returns-in_ok-extend_from_slice-in-RotateLeft : goal.returns-in_ok-extend_from_slice-in-RotateLeft
returns-in_ok-extend_from_slice-in-RotateLeft c =
    let looks = c.args.looks.now in
    let turned = c.unwrap_or-turned.result in
    let is : 0 < length looks → turned ≡ c.args.count % length looks = λ some. c.unwrap_or-turned.ensures ∙ rest_is c.checked_rem.result c.args.count (length looks) c.checked_rem.ensures some in
    let long = length-drop turned looks in
    let left : take (length looks - turned) (drop turned looks) ≡ drop turned looks = take_all _ _ (omega arith) in
    c.in_ok-extend_from_slice-in-RotateLeft.ensures.items
    ∙ (ap (λ (xs : List (Option Look)). xs ++ take turned looks) (c.in_ok-rotated-in-RotateLeft.ensures.items ∙ left)
    ∙ (rotated_by c.args.count turned looks is
    ∙ sym (ap (λ (by : Shift). shifted_of None by c.args.count looks) c.in-RotateLeft.is)))
