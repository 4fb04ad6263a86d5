-- What `write_ranges` leaves in the part of an array after those in use, for the whole array; and a value's ranges by what
-- `count_ranges` gives. Assumes nothing.
use Rattle.std.specs.Prelude.{Some, None}
use Prim.Native.Nat.{ℕ, ◌+◌, ◌-◌, ◌≤◌, min}
use mathlib.Core.Path.{◌≡◌, refl, sym, ap, ◌∙◌}
use mathlib.Core.Bool.{Bool, true, false, cond, ◌||◌}
use mathlib.Core.List.{List, [], ◌++◌, map, append_assoc, append-nil}
use native.Mathlib.Omega.{arith}
use lib.Dec.{eqb}
use lib.ListN.{length, take, drop, length-map, length-take, length-drop, drop_of_length-le}
use lib.Seq.{sets, sets-eq, drop-drop, take_all}
use Rattle.reading.specs.declared.RuleIdRange.{RuleIdRange}
use Rattle.reading.specs.Lists.{over}
use Rattle.reading.specs.Text.{id_parts, any_bad, ranges_in}
use Rattle.reading.specs.declared.UnsupportedReason.{UnsupportedReason}
use Rattle.reading.specs.Directive.{unsupported, rule_remove_by_id, removal_value, ranges_of, start_of, end_of}
use Rattle.ctl.specs.CountRanges.{count_in}
use Rattle.ctl.specs.WriteRanges.{all_fitting, Written}

-- an array whose part after n was lent and came back as ys
abbrev handed : List ℕ → ℕ → List ℕ → List ℕ
handed l n ys = take n l ++ (ys ++ drop (length l - n) (drop n l))

-- that part, as it was lent
abbrev lent : List ℕ → ℕ → List ℕ
lent l n = take (length l - n) (drop n l)

lent_length : (l : List ℕ) (n : ℕ) → length (lent l n) ≡ length l - n
lent_length l n = simp (length-take, length-drop) (omega arith)

handed-over : (l : List ℕ) (n : ℕ) (new ys : List ℕ) → n + length new ≤ length l → ys ≡ over (lent l n) new → handed l n ys ≡ sets l n new
handed-over l n new ys h e =
    let d : length (drop n l) ≤ length l - n = simp length-drop (omega arith) in
    let all = take_all (length l - n) (drop n l) d in
    let none = drop_of_length-le (drop n l) d in
    rw (e, all, none, append-nil, drop-drop, ← append_assoc) (sym (sets-eq new l n (omega arith)))

-- a removal's ranges by what `count_ranges` gives; v is the value, trimmed
module _ (v value : List ℕ) (is : v ≡ value) where
  pub none-counted : count_in (removal_value v) ≡ None → ranges_of (removal_value value) ≡ []
  none-counted e = rw (← is) (go (any_bad (id_parts v) || eqb (length (ranges_in (id_parts v))) 0) e)
    where
      go : (b : Bool) → count_in (cond b (unsupported UnsupportedReason.IdList) (rule_remove_by_id (ranges_in (id_parts v)))) ≡ None
          → ranges_of (cond b (unsupported UnsupportedReason.IdList) (rule_remove_by_id (ranges_in (id_parts v)))) ≡ []
      go true d = refl
      go false d = absurd (let z : ◌≡◌ {A = ℕ} 0 1 = cc in omega arith)

  pub some-counted : (n : ℕ) → count_in (removal_value v) ≡ Some n
      → (ranges_of (removal_value value) ≡ ranges_in (id_parts v)) × (length (ranges_of (removal_value value)) ≡ n)
  some-counted n e = rw (← is) (go (any_bad (id_parts v) || eqb (length (ranges_in (id_parts v))) 0) e)
    where
      go : (b : Bool) → count_in (cond b (unsupported UnsupportedReason.IdList) (rule_remove_by_id (ranges_in (id_parts v)))) ≡ Some n
          → (ranges_of (cond b (unsupported UnsupportedReason.IdList) (rule_remove_by_id (ranges_in (id_parts v)))) ≡ ranges_in (id_parts v))
          × (length (ranges_of (cond b (unsupported UnsupportedReason.IdList) (rule_remove_by_id (ranges_in (id_parts v))))) ≡ n)
      go true d = absurd (let z : ◌≡◌ {A = ℕ} 0 1 = cc in omega arith)
      go false d = (refl, cc)

-- two arrays whose parts after n `write_ranges` was lent, with room for all ranges
module _ (v starts ends : List ℕ) (n : ℕ) (same : length ends ≡ length starts)
    (h : n + length (ranges_in (id_parts v)) ≤ length starts) (s e : List ℕ) where
  abbrev new : List RuleIdRange
  new = ranges_in (id_parts v)

  fit : all_fitting v (lent starts n) (lent ends n) ≡ new
  unfolding all_fitting
  fit =
      rw (lent_length starts n, lent_length ends n)
      (take_all (min (length starts - n) (length ends - n)) new (omega arith))

  pub written_after : Written v (lent starts n) (lent ends n) s e
      → (handed starts n s ≡ sets starts n (map start_of new)) × (handed ends n e ≡ sets ends n (map end_of new))
  written_after w =
      (one start_of starts s (omega arith) w.starts-are, one end_of ends e (omega arith) w.ends-are)
    where
      one : (read : RuleIdRange → ℕ) (l ys : List ℕ) → n + length new ≤ length l
          → ys ≡ over (lent l n) (map read (all_fitting v (lent starts n) (lent ends n))) → handed l n ys ≡ sets l n (map read new)
      one read l ys room w =
          handed-over l n (map read new) ys (simp length-map room)
          (w ∙ ap (λ (rs : List RuleIdRange). over (lent l n) (map read rs)) fit)
