-- The pass counts what `removal_value` says. Assumes nothing.
use Rattle.std.specs.Prelude.{Option, Some, None}
use Prim.Native.Nat.{ℕ, suc, ◌+◌, ◌≤◌, ◌<◌}
use mathlib.Core.Path.{◌≡◌, refl, sym, ap, ◌∙◌}
use mathlib.Core.Bool.{Bool, true, false, cond, ◌||◌}
use mathlib.Core.List.{List, [], ◌∷◌, ◌++◌}
use native.Mathlib.Omega.{arith}
use borrow.Author.Tests.{eq-eqb, ne_eqb}
use lib.Dec.{eqb}
use lib.ListN.{length, drop, get_or, length-append, drop_of_length-le}
use lib.Seq.{drop-cons}
use Rattle.reading.specs.declared.IdPart.{IdPart}
use Rattle.reading.specs.Text.{is_digit, trim_start, trim_end, trim, on_first, split_on, id_part, is_bad, range_in, id_parts, any_bad, ranges_in}
use Rattle.reading.specs.declared.UnsupportedReason.{UnsupportedReason}
use Rattle.reading.specs.Directive.{removal_value, unsupported, rule_remove_by_id}
use Rattle.ctl.specs.declared.range_count.PartState.{PartState}
use Rattle.ctl.specs.CountRanges.{count_of, count_in}
use Rattle.ctl.specs.Scan.{part_start, digit_step, other_step, part_end}
use Rattle.ctl.proofs.range_count.Dashes.{is_none}
use Rattle.ctl.proofs.range_count.Bytes.{none_seen, say_from, says, says_next, byte_step, on-byte, ended, at-end, part-start}

-- the pass from what is seen of a part, with n ranges counted before it
abbrev pub after_part : (ℕ → Option ℕ) → ℕ → Option ℕ → Option ℕ
after_part f n (Some k) = f (n + k)
after_part f n None = None

abbrev pub after_step : (PartState → Option ℕ) → Option PartState → Option ℕ
after_step f (Some p) = f p
after_step f None = None

unfoldable pub scan : List ℕ → PartState → ℕ → Option ℕ
scan [] p n = after_part count_of n (part_end p)
scan (b ∷ s) p n =
    cond (eqb b 44) (after_part (scan s part_start) n (part_end p)) (after_step (λ q. scan s q n) (byte_step p b))

-- the count with n ranges passed and the parts ps to come, and the same with a part before them
unfoldable count_from : ℕ → List (List ℕ) → Option ℕ
count_from n ps = cond (any_bad ps) None (count_of (n + length (ranges_in ps)))

abbrev count_with : ℕ → IdPart → List (List ℕ) → Option ℕ
count_with n part ps = cond (is_bad part) None (count_from (n + length (range_in part)) ps)

count-start : (value : List ℕ) → count_in (removal_value value) ≡ count_from 0 (id_parts value)
unfolding count_from
count-start value =
    let rs = ranges_in (id_parts value) in
    go (any_bad (id_parts value)) (eqb (length rs) 0)
    ∙ ap (λ (n : ℕ). cond (any_bad (id_parts value)) None (count_of n))
    (let z : length rs ≡ 0 + length rs = omega arith in z)
  where
    go : (bad none : Bool)
        → count_in (cond (bad || none) (unsupported UnsupportedReason.IdList) (rule_remove_by_id (ranges_in (id_parts value))))
        ≡ cond bad None (cond none None (Some (length (ranges_in (id_parts value)))))
    go true none = refl
    go false true = refl
    go false false = refl

count_none : (n : ℕ) → count_of n ≡ count_from n []
unfolding count_from any_bad ranges_in
count_none n = let z : n ≡ n + 0 = omega arith in ap count_of z

count-part : (n : ℕ) (p : List ℕ) (ps : List (List ℕ)) → count_with n (id_part p) ps ≡ count_from n (p ∷ ps)
unfolding count_from any_bad ranges_in
count-part n p ps =
    let z : n + length (range_in (id_part p)) + length (ranges_in ps) ≡ n + length (range_in (id_part p) ++ ranges_in ps)
    = omega (arith, length-append (range_in (id_part p)) (ranges_in ps)) in
    go (is_bad (id_part p)) (any_bad ps) (ap count_of z)
  where
    go : {x y : Option ℕ} (bad rest : Bool) → x ≡ y
        → cond bad None (cond rest None x) ≡ cond (bad || rest) None y
    go true rest e = refl
    go false true e = refl
    go false false e = e

-- the count of parts of which the first is seen in part
abbrev count_parts : PartState → ℕ → List (List ℕ) → Option ℕ
count_parts p n [] = count_with n (says p []) []
count_parts p n (t ∷ ts) = count_with n (says p t) ts

ends_so : (f : ℕ → Option ℕ) (n : ℕ) (part : IdPart) (ts : List (List ℕ)) → ((m : ℕ) → f m ≡ count_from m ts)
    → after_part f n (ended part) ≡ count_with n part ts
ends_so f n IdPart.Blank ts h = h (n + 0)
ends_so f n (IdPart.Range r) ts h = h (n + 1)
ends_so f n IdPart.Bad ts h = refl

parts-start : (n : ℕ) (ts : List (List ℕ)) → count_parts part_start n ts ≡ count_from n ts
unfolding say_from none_seen is_none trim trim_start trim_end
parts-start n [] = let z : n + 0 ≡ n = omega arith in ap (λ (m : ℕ). count_from m []) z
parts-start n (t ∷ ts) = ap (λ (q : IdPart). count_with n q ts) (part-start t) ∙ count-part n t ts

goes_so : (n : ℕ) (f : PartState → Option ℕ) (step : Option PartState) (t : List ℕ) (ts : List (List ℕ))
    → ((q : PartState) → f q ≡ count_with n (says q t) ts)
    → after_step f step ≡ count_with n (says_next step t) ts
goes_so n f (Some q) t ts h = h q
goes_so n f None t ts h = refl

step_so : (b : ℕ) (p : PartState) (n : ℕ) (f : PartState → Option ℕ) (ts : List (List ℕ)) → ((q : PartState) → f q ≡ count_parts q n ts)
    → after_step f (byte_step p b) ≡ count_parts p n (on_first b ts)
unfolding on_first
step_so b p n f [] h = goes_so n f (byte_step p b) [] [] h ∙ ap (λ (q : IdPart). count_with n q []) (sym (on-byte b [] p))
step_so b p n f (t ∷ ts) h = goes_so n f (byte_step p b) t ts h ∙ ap (λ (q : IdPart). count_with n q ts) (sym (on-byte b t p))

pass-so : (s : List ℕ) (p : PartState) (n : ℕ) → scan s p n ≡ count_parts p n (split_on 44 s)
unfolding scan split_on
pass-so [] p n =
    ap (after_part count_of n) (at-end p) ∙ ends_so count_of n (says p []) [] count_none
pass-so (b ∷ s) p n = go (eqb b 44) (pass-so s)
  where
    go : (comma : Bool) → ((q : PartState) (m : ℕ) → scan s q m ≡ count_parts q m (split_on 44 s))
        → cond comma (after_part (scan s part_start) n (part_end p)) (after_step (λ q. scan s q n) (byte_step p b))
        ≡ count_parts p n (cond comma ([] ∷ split_on 44 s) (on_first b (split_on 44 s)))
    go true ih =
        ap (after_part (scan s part_start) n) (at-end p)
        ∙ ends_so (scan s part_start) n (says p []) (split_on 44 s) (λ m. ih part_start m ∙ parts-start m (split_on 44 s))
    go false ih = step_so b p n (λ q. scan s q n) (split_on 44 s) (λ q. ih q n)

-- THE PASS COUNTS WHAT THE DIRECTIVE SAYS
pub pass-counts : (value : List ℕ) → count_in (removal_value value) ≡ scan value part_start 0
pass-counts value = count-start value ∙ sym (pass-so value part_start 0 ∙ parts-start 0 (split_on 44 value))

-- a turn of the loop
module _ (s : List ℕ) (p : PartState) (n i : ℕ) where
  module _ (h : i < length s) where
    module _ (step : Option PartState) (c : get_or s i 0 ≡ 44 → ⊥) where
      pub turn-digit : is_digit (get_or s i 0) ≡ true → digit_step p (get_or s i 0) ≡ step
          → scan (drop i s) p n ≡ after_step (λ q. scan (drop (suc i) s) q n) step
      unfolding scan
      turn-digit d e = rw (drop-cons s i 0 h, ne_eqb (get_or s i 0) 44 c, d, e)

      pub turn-other : is_digit (get_or s i 0) ≡ false → other_step p (get_or s i 0) ≡ step
          → scan (drop i s) p n ≡ after_step (λ q. scan (drop (suc i) s) q n) step
      unfolding scan
      turn-other d e = rw (drop-cons s i 0 h, ne_eqb (get_or s i 0) 44 c, d, e)

    pub turn-comma : (end : Option ℕ) → get_or s i 0 ≡ 44 → part_end p ≡ end
        → scan (drop i s) p n ≡ after_part (scan (drop (suc i) s) part_start) n end
    unfolding scan
    turn-comma end c e = rw (drop-cons s i 0 h, eq-eqb (get_or s i 0) 44 c, e)

  pub turn_end : (end : Option ℕ) → length s ≤ i → part_end p ≡ end → scan (drop i s) p n ≡ after_part count_of n end
  unfolding scan
  turn_end end h e = rw (drop_of_length-le s h, e)
