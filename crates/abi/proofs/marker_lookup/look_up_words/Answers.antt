use borrow.Author.Rules.{rules}
use mathlib.Core.Path.{◌≡◌, ◌∙◌}
use lib.ListN.{length}
use Rattle.abi.proofs.marker_lookup.LookupLaws.{refused-markers, many-unpacked}
use Rattle.abi.proofs.marker_lookup.look_up_words.Goals as goal

pub returns-then-c-gt-MARKERS : goal.returns-then-c-gt-MARKERS
returns-then-c-gt-MARKERS c =
    c.with_position.ensures ∙ refused-markers _ _ _ _ (many-unpacked c.args.c ((let fact : length c.args.c.words ≡ 771 = search rules in fact)) c.if-c-gt-MARKERS.true)
