use Rattle.std.proofs.Common.{rules, ◌≡◌, length, take, ◌/◌, ap, ◌∙◌}
use Rattle.std.proofs.Math.Seq.{take-length}
use borrow.Author.Tests.{tests}
use Rattle.std.specs.Simd.{first_chunks}
use Rattle.std.specs.Option.{option_map}
use Rattle.std.proofs.lemmas.Iterator.Adapters.{YieldsList-from_rev_slice}
use Rattle.std.proofs.lemmas.Iterator.Search.{find_from_yields_List}
use Rattle.unit.proofs.members.MatchedLaws.{is_matched, index_of, closer-found}
use Rattle.unit.proofs.members.closer_of.Goals as goal

pub returns : goal.returns
returns c =
    let words = c.args.entries.now in
    let arrays = first_chunks 2 (length words / 2) words in
    -- of a part of the records that is all of them
    let whole : take (length arrays) arrays ≡ arrays = take-length arrays in
    let e = find_from_yields_List is_matched _ _ c.find-last.result c.find-last.ensures.ran (YieldsList-from_rev_slice arrays cc)
    (λ x b q k. search (rules, tests)) in
    let m : c.map_or.result ≡ index_of (option_map (λ x. x.now) c.find-last.result) = search rules in
    m ∙ ap index_of e ∙ closer-found words
