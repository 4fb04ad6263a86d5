-- Where a chain ends, counted from an index of the rules. Assumes nothing.
use Prim.Native.Nat.{ℕ, ◌+◌, ◌*◌, ◌/◌, ◌≤◌, ◌<◌, max}
use mathlib.Core.Path.{◌≡◌, refl}
use mathlib.Core.Bool.{Bool, true, false}
use mathlib.Core.List.{List}
use borrow.Author.Tests.{eq-eqb, ne_eqb, leb-true, leb-false}
use lib.Dec.{leb}
use native.Mathlib.Omega.{arith}
use native.Mathlib.Numerals.{add-one}
use lib.ListN.{length, get_or, drop}
use Rattle.reading.specs.Records.{rule_list}
use Rattle.reading.specs.Walk.{chain_rest}
use Rattle.lists.proofs.RecordLaws.{drop-rules, rules-end}

module _ (words : List ℕ) (i : ℕ) where
  -- a link: the chain goes on after it
  pub chain-on : i < length words / 5 → get_or words (5 * i + 2) 0 ≡ 1
      → i + chain_rest (drop i (rule_list words)) ≡ (i + 1) + chain_rest (drop (i + 1) (rule_list words))
  chain-on h e = rw (drop-rules words i h, eq-eqb (get_or words (5 * i + 2) 0) 1 e, add-one i) (omega arith)

  -- another rule closes it
  pub chain-closed : i < length words / 5 → (get_or words (5 * i + 2) 0 ≡ 1 → ⊥) → i + chain_rest (drop i (rule_list words)) ≡ i + 1
  chain-closed h n = rw (drop-rules words i h, ne_eqb (get_or words (5 * i + 2) 0) 1 n)

  pub chain-end : length words / 5 ≤ i → i + chain_rest (drop i (rule_list words)) ≡ i
  chain-end h = rw (rules-end words i h) (omega arith)

-- no rule from the index on closes it: i is where the search ended
pub chain-through : (words : List ℕ) (index i : ℕ)
    → index + chain_rest (drop index (rule_list words)) ≡ i + chain_rest (drop i (rule_list words))
    → length words / 5 ≤ i → (index ≤ length words / 5 → i ≤ length words / 5)
    → max index (length words / 5) ≡ index + chain_rest (drop index (rule_list words))
chain-through words index i same past within = go (leb index (length words / 5)) refl
  where
    go : (t : Bool) → leb index (length words / 5) ≡ t → max index (length words / 5) ≡ index + chain_rest (drop index (rule_list words))
    go true e =
        let h : index ≤ length words / 5 = leb-true index (length words / 5) e in
        let j : i ≤ length words / 5 = within h in
        omega (arith, same, chain-end words i past)
    go false e =
        let h : length words / 5 < index = leb-false index (length words / 5) e in
        omega (arith, chain-end words index (omega arith))
