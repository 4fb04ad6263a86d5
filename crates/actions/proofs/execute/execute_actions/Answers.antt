use Prim.Native.Nat.{◌+◌, ◌-◌, ◌/◌, ◌<◌, min}
use mathlib.Core.Path.{◌≡◌}
use native.Mathlib.Omega.{arith}
use lib.ListN.{length}
use Rattle.actions.proofs.execute.SlotLaws.{slot-below}
use Rattle.actions.proofs.execute.Sofar.{sofar-none, sofar-put, sofar-full, sofar-other, sofar-end}
use Rattle.actions.proofs.execute.execute_actions.Goals.{then-kind-eq-CTL, then-n-controls, else-n-controls, else-kind-eq-CTL}
use Rattle.actions.proofs.execute.execute_actions.Goals as goal

pub loop-i-init : goal.loop-i-init
loop-i-init c = (omega arith, sofar-none _ _ c.args.rule.first)

pub offset_bounds-last-slot : goal.offset_bounds-last-slot
offset_bounds-last-slot c = let h : c.slot.result < 19 = slot-below _ _ c.slot.ensures in omega arith

pub bounds-last-slot : goal.bounds-last-slot
bounds-last-slot c = slot-below _ _ c.slot.ensures

pub loop-i-preserved : goal.loop-i-preserved
loop-i-preserved c = elim c.if-kind-eq-CTL.branch [
  | then-kind-eq-CTL w ↦ elim w.if-n-controls.branch [
    | then-n-controls v ↦
        rw (w.controls-is, w.n-is, v.controls-is)
        (omega arith, sofar-put _ _ _ _ _ _ _ _ c.loop-i.auto.i (omega arith) c.slot.ensures c.loop-i.invariant.1 w.if-kind-eq-CTL.true)
    | else-n-controls v ↦
        rw (w.controls-is, w.n-is, v.controls-is)
        (omega arith, sofar-full _ _ _ _ _ _ _ _ c.loop-i.auto.i (omega arith) c.slot.ensures c.loop-i.invariant.1 w.if-kind-eq-CTL.true v.if-n-controls.false)
  ]
  | else-kind-eq-CTL w ↦
      rw (w.controls-is, w.n-is)
      (omega arith, sofar-other _ _ _ _ _ _ _ _ c.loop-i.auto.i (omega arith) c.slot.ensures c.loop-i.invariant.1 w.if-kind-eq-CTL.false)
]

pub returns : goal.returns
returns c =
    let at = c.args in
    let end : c.loop-i.i ≡ at.rule.first + min at.rule.count (length at.actions.now / 6 - at.rule.first) = omega arith in
    sofar-end at.actions.now _ at.rule _ c.loop-i.i _ _ _ end
    c.disruptive_at.ensures
    c.flow_at.ensures
    c.metadata_at.ensures
    c.loop-i.invariant.1
