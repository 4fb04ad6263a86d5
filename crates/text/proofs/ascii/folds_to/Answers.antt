use Rattle.std.proofs.Common.{rules, ◌∙◌, sym, eqb}
use native.Mathlib.Omega.{arith}
use borrow.Author.Tests.{tests}
use Rattle.std.proofs.lemmas.Grind.{common_steps}
use Rattle.std.proofs.lemmas.Iterator.{YieldsList-from_slice, YieldsList-from_zip}
use Rattle.std.proofs.lemmas.Iterator.Search.{all_from_yields_List}
use Rattle.reading.specs.Text.{fold_byte}
use Rattle.text.proofs.ascii.Spelling.{same_places, other_length}
use Rattle.text.proofs.ascii.folds_to.Goals as goal

pub returns-then-s-spelling : goal.returns-then-s-spelling
returns-then-s-spelling c =
    let s = c.args.s.now in
    let w = c.args.spelling.now in
    let e = all_from_yields_List (λ p. eqb (fold_byte p.0) p.1) c.all.new.self _ c.all.result c.all.ensures.ran
    (YieldsList-from_zip {s = c.zip.result} (YieldsList-from_slice s cc) (YieldsList-from_slice w cc)) (λ x b q k. search (rules, tests)) in
    e ∙ sym (same_places s w c.if-s-spelling.true)

pub returns-else-s-spelling : goal.returns-else-s-spelling
returns-else-s-spelling c = grind (arith, common_steps, other_length c.args.s.now c.args.spelling.now)
