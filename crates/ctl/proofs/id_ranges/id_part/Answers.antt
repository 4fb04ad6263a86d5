use native.Mathlib.Omega.{arith}
use lib.ListN.{length}
use Rattle.std.proofs.lemmas.Grind.{common_steps}
use Rattle.reading.specs.Text.{id_part, number_of, one_id}
use mathlib.Core.Path.{◌≡◌, sym, ap, ◌∙◌}
use Rattle.ctl.proofs.id_ranges.Parts.{part-blank, part-around, part-single}
use Rattle.ctl.proofs.id_ranges.id_part.Goals as goal

pub returns-then-is_empty : goal.returns-then-is_empty
returns-then-is_empty c =
    let z : length c.trim-t.result.now ≡ 0 = grind (arith, common_steps) in
    sym (part-blank (c.args.p.now) (c.trim-t.result.now) c.trim-t.ensures z)

pub returns-then-k-t : goal.returns-then-k-t
returns-then-k-t c =
    let n : length c.trim-t.result.now ≡ 0 → ⊥ = grind (arith, common_steps) in
    let law = part-around (c.args.p.now) (c.trim-t.result.now) c.trim-t.ensures n
    c.find-k.result c.find-k.ensures in
    c.ids_around.ensures ∙ sym (law c.if-k-t.true)

pub returns-in_default : goal.returns-in_default
unfolding one_id
returns-in_default c =
    let n : length c.trim-t.result.now ≡ 0 → ⊥ = grind (arith, common_steps) in
    sym ((let fact : id_part (c.args.p.now) ≡ one_id (number_of (c.trim-t.result.now)) = part-single (c.args.p.now) (c.trim-t.result.now) c.trim-t.ensures n c.find-k.result
    c.find-k.ensures c.if-k-t.false in fact) ∙ ap one_id (sym c.read_number.ensures ∙ c.in_default.is))

pub returns : goal.returns
unfolding one_id
returns c =
    let n : length c.trim-t.result.now ≡ 0 → ⊥ = grind (arith, common_steps) in
    sym ((let fact : id_part (c.args.p.now) ≡ one_id (number_of (c.trim-t.result.now)) = part-single (c.args.p.now) (c.trim-t.result.now) c.trim-t.ensures n c.find-k.result
    c.find-k.ensures c.if-k-t.false in fact) ∙ ap one_id
    (sym c.read_number.ensures ∙ c.in-Some.is))
