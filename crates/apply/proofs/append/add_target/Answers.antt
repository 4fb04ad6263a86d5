use Rattle.apply.proofs.append.LentLaws.{target-full, target-put}
use borrow.Author.Rules.{rules}
use Rattle.apply.proofs.append.add_target.Goals as goal

pub returns-then-n-ge-TARGETS-clause-added : goal.returns-then-n-ge-TARGETS-clause-added
returns-then-n-ge-TARGETS-clause-added c = target-full _ c.args.at _ _ c.if-n-ge-TARGETS.true

pub returns-clause-added : goal.returns-clause-added
returns-clause-added c =
    target-put _ c.args.at _ _ (search rules) (search rules) c.if-n-ge-TARGETS.false
