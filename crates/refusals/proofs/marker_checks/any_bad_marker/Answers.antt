use Rattle.std.proofs.Common.{rules, ◌/◌, ap, length, ◌∙◌}
use borrow.Author.Tests.{tests}
use Rattle.std.specs.Simd.{first_chunks}
use Rattle.std.proofs.lemmas.Iterator.{YieldsList-from_slice}
use Rattle.std.proofs.lemmas.Iterator.Search.{any_from_yields_List}
use Rattle.reading.specs.Lists.{any}
use Rattle.reading.specs.Records.{marker_from}
use Rattle.reading.specs.Refusals.{bad_marker}
use Rattle.lists.proofs.Chunks.{any-mapped, marker-arrays}
use Rattle.refusals.proofs.marker_checks.any_bad_marker.Goals as goal

pub returns : goal.returns
returns c =
    let words = c.args.markers.now in
    let bad = bad_marker c.args.bytes c.args.rules in
    let arrays = first_chunks 3 (length words / 3) words in
    any_from_yields_List (λ a. bad (marker_from a 0)) _ _ _ c.any.ensures.ran (YieldsList-from_slice arrays cc)
    (λ x b q k. search (rules, tests))
    ∙ any-mapped bad (λ a. marker_from a 0) arrays
    ∙ ap (any bad) (marker-arrays words)
