use mathlib.Core.Path.{sym}
use Rattle.ctl.proofs.directive.Values.{named_by}
use Rattle.ctl.proofs.directive.parse.Goals as goal

pub returns-then-folds_to : goal.returns-then-folds_to
returns-then-folds_to c =
    simp (named_by _ _ _ _ c.trim-directive.ensures c.trim-v.ensures, sym c.folds_to.ensures, c.if-folds_to.true) (c.rule_engine.ensures _)

pub returns-then-folds_to-2 : goal.returns-then-folds_to-2
returns-then-folds_to-2 c =
    simp (named_by _ _ _ _ c.trim-directive.ensures c.trim-v.ensures, sym c.folds_to.ensures, c.if-folds_to.false, sym c.folds_to-else-folds_to.ensures, c.if-folds_to-2.true) (c.rule_remove_by_id.ensures _)

pub returns-then-folds_to-3 : goal.returns-then-folds_to-3
returns-then-folds_to-3 c =
    simp (named_by _ _ _ _ c.trim-directive.ensures c.trim-v.ensures, sym c.folds_to.ensures, c.if-folds_to.false, sym c.folds_to-else-folds_to.ensures, c.if-folds_to-2.false, sym c.folds_to-else-folds_to-2.ensures, c.if-folds_to-3.true) (c.rule_remove_target_by_id.ensures)

pub returns-then-folds_to-4 : goal.returns-then-folds_to-4
returns-then-folds_to-4 c =
    simp (named_by _ _ _ _ c.trim-directive.ensures c.trim-v.ensures, sym c.folds_to.ensures, c.if-folds_to.false, sym c.folds_to-else-folds_to.ensures, c.if-folds_to-2.false, sym c.folds_to-else-folds_to-2.ensures, c.if-folds_to-3.false, sym c.folds_to-else-folds_to-3.ensures, c.if-folds_to-4.true) (c.request_body_access.ensures _)

pub returns-then-folds_to-5 : goal.returns-then-folds_to-5
returns-then-folds_to-5 c =
    simp (named_by _ _ _ _ c.trim-directive.ensures c.trim-v.ensures, sym c.folds_to.ensures, c.if-folds_to.false, sym c.folds_to-else-folds_to.ensures, c.if-folds_to-2.false, sym c.folds_to-else-folds_to-2.ensures, c.if-folds_to-3.false, sym c.folds_to-else-folds_to-3.ensures, c.if-folds_to-4.false, sym c.folds_to-else-folds_to-4.ensures, c.if-folds_to-5.true) (c.request_body_processor.ensures _)

pub returns-else-folds_to-5 : goal.returns-else-folds_to-5
returns-else-folds_to-5 c =
    simp (named_by _ _ _ _ c.trim-directive.ensures c.trim-v.ensures, sym c.folds_to.ensures, c.if-folds_to.false, sym c.folds_to-else-folds_to.ensures, c.if-folds_to-2.false, sym c.folds_to-else-folds_to-2.ensures, c.if-folds_to-3.false, sym c.folds_to-else-folds_to-3.ensures, c.if-folds_to-4.false, sym c.folds_to-else-folds_to-4.ensures, c.if-folds_to-5.false) (c.unsupported_named.ensures _)
