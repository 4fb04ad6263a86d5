use mathlib.Core.Path.{refl, sym, ◌∙◌}
use Rattle.control.proofs.ranges.MergingLaws.{sofar-start, done, stays, turns, joins}
use Rattle.control.proofs.ranges.merge_range.Goals.{then-is_apart, else-is_apart+then-is_apart-2, else-is_apart+else-is_apart-2}
use Rattle.control.proofs.ranges.merge_range.Goals as goal

pub loop-i-init : goal.loop-i-init
loop-i-init c = sofar-start _ _ _ _

pub loop-i-preserved : goal.loop-i-preserved
loop-i-preserved c = elim c.if-is_apart.branch [
  | then-is_apart w ↦
      rw (w.starts-is, w.ends-is, w.start-is, w.end-is, w.kept-is)
      (stays _ _ _ _ c.requires _ _ _ _ _ _ c.loop-i.invariant c.loop-i-test.true _ _ refl refl
      (sym c.is_apart.ensures ∙ w.if-is_apart.true))
  | else-is_apart+then-is_apart-2 w ↦
      rw (w.starts-is, w.ends-is, w.start-is, w.end-is, w.kept-is)
      (turns _ _ _ _ c.requires _ _ _ _ _ _ c.loop-i.invariant c.loop-i-test.true _ _ refl refl
      (sym c.is_apart.ensures ∙ w.if-is_apart.false)
      (sym w.is_apart-else-is_apart.ensures ∙ w.if-is_apart-2.true))
  | else-is_apart+else-is_apart-2 w ↦
      rw (w.starts-is, w.ends-is, w.start-is, w.end-is, w.kept-is, w.min-start.ensures, w.max-end.ensures)
      (joins _ _ _ _ c.requires _ _ _ _ _ _ c.loop-i.invariant c.loop-i-test.true _ _ refl refl
      (sym c.is_apart.ensures ∙ w.if-is_apart.false)
      (sym w.is_apart-else-is_apart.ensures ∙ w.if-is_apart-2.false))
]

pub returns : goal.returns
returns c =
    done _ _ _ _ c.requires _ _ _ _ _ _ c.loop-i.invariant c.loop-i-test.false
