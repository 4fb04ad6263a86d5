use mathlib.Core.Path.{sym, ◌∙◌}
use native.Mathlib.Omega.{arith}
use native.Mathlib.Numerals.{add-one}
use Rattle.text.proofs.ascii.Spelling.{same-lengths}
use Rattle.ruleset.proofs.markers.MarkerLaws.{same_byte, other_byte, same_end}
use Rattle.ruleset.proofs.markers.MarkerLaws.{position-all, position-none, position-other, position-found}
use Rattle.ruleset.proofs.markers.marker_named.Goals as goal

pub search-init : goal.search-init
search-init c = (omega arith, position-all _ _ _)

pub search-preserved-then-other-j : goal.search-preserved-then-other-j
search-preserved-then-other-j c =
    let other = c.part_of-other in
    let name = c.args.name.now in
    let e = other_byte other.result.now name c.name.j c.if-other-n.true (omega arith)
    c.if-other-j.true in (
      omega arith,
      c.search.invariant.1
          ∙ position-other _ _ _ c.search.k (omega arith) (omega arith) _ other.ensures (c.name.invariant.1 ∙ e),
    )

pub name-preserved : goal.name-preserved
name-preserved c =
    let other = c.part_of-other in
    let name = c.args.name.now in
    let e = same_byte other.result.now name c.name.j c.if-other-n.true (omega arith)
    c.if-other-j.false in
    simp add-one (omega arith, c.name.invariant.1 ∙ e)

pub search-preserved : goal.search-preserved
search-preserved c =
    let other = c.part_of-other in (
      omega arith,
      c.search.invariant.1
          ∙ position-other _ _ _ c.search.k (omega arith) (omega arith) _ other.ensures (same-lengths _ _ c.if-other-n.false),
    )

pub returns-then-k-eq0 : goal.returns-then-k-eq0
returns-then-k-eq0 c =
    sym (c.search.invariant.1 ∙ position-none _ _ _ c.search.k c.if-k-eq0.true)

pub returns-then-j-n : goal.returns-then-j-n
returns-then-j-n c =
    let other = c.part_of-other in
    let name = c.args.name.now in
    let e = same_end other.result.now name c.name.j c.if-other-n.true
    (omega (arith, c.if-j-n.true)) in
    let found = c.search.invariant.1
    ∙ position-found _ _ _ c.search.k (omega arith) (omega arith) _ other.ensures (c.name.invariant.1 ∙ e) in
    sym found
