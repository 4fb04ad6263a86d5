use Rattle.host.proofs.export_queries.Answers.{says-3, says-5, says-0}
use Rattle.host.proofs.export_queries.refusal.Goals as goal

pub returns-then-is_bad : goal.returns-then-is_bad
returns-then-is_bad c =
    says-3 c.args.c c.args.known _ c.is_bad.ensures c.if-is_bad.true

pub returns-then-not-known : goal.returns-then-not-known
returns-then-not-known c =
    says-5 c.args.c c.args.known _ c.is_bad.ensures c.if-is_bad.false c.if-not-known.true

pub returns : goal.returns
returns c =
    says-0 c.args.c c.args.known _ c.is_bad.ensures c.if-is_bad.false c.if-not-known.false
