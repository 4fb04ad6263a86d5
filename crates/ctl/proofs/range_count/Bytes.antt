-- What a part says of which the pass has seen some bytes, byte by byte to its end. Assumes nothing.
use Rattle.std.specs.Prelude.{Option, Some, None}
use Prim.Native.Nat.{ℕ, ◌+◌, ◌-◌, ◌*◌, ◌≤◌}
use mathlib.Core.Path.{◌≡◌, refl, sym, ap, ◌∙◌}
use mathlib.Core.Bool.{Bool, true, false, cond, ◌&&◌}
use mathlib.Core.List.{List, [], ◌∷◌}
use native.Mathlib.Omega.{arith}
use borrow.Author.Tests.{leb-true, eqb-true, ne_eqb}
use lib.Dec.{leb, eqb}
use Rattle.reading.specs.declared.IdPart.{IdPart}
use Rattle.reading.specs.Text.{is_blank, is_digit, largest, trim_start, trim_end, trim, without_plus, one_id, ids_to, ids_from, id_part}
use Rattle.ctl.specs.declared.range_count.Stage.{Stage}
use Rattle.ctl.specs.declared.range_count.PartState.{PartState}
use Rattle.ctl.specs.Scan.{is_after_digits, part_start, digit_step, blank_step, dash_step, plus_step, other_step, pair_end, part_end}
use Rattle.ctl.proofs.range_count.Numbers.{run_from, some_from, none_from, num_from, trim-other, trim-blank, before-other, digit-not-blank, num-digit, num-blank-start, num-blank-past, num-blank-plus, num-blank-digits, num-plus, num-other-plus, num-other-digits, num-other-past, num-other}
use Rattle.ctl.proofs.range_count.Dashes.{dashed, not-dash, is_none, part-whole}

-- only at its start may a part be blank
unfoldable pub none_seen : Stage → List ℕ → Bool
none_seen Stage.Start s = is_none (trim s)
none_seen Stage.Plus s = false
none_seen Stage.Digits s = false
none_seen Stage.AfterDigits s = false

abbrev seen_as : Bool → ℕ → Stage → ℕ → PartState
seen_as second first stage v = record { second = second; first = first; stage = stage; value = v }

-- what a part says of which the pass has seen so much, and s is the rest
unfoldable pub say_from : Bool → ℕ → Stage → ℕ → List ℕ → IdPart
say_from true first stage v s = ids_to first (num_from stage v s)
say_from false first stage v s = cond (none_seen stage s) IdPart.Blank (dashed (num_from stage v) (one_id (num_from stage v s)) s)

abbrev pub says : PartState → List ℕ → IdPart
says p s = say_from p.second p.first p.stage p.value s

abbrev pub says_next : Option PartState → List ℕ → IdPart
says_next (Some p) s = says p s
says_next None s = IdPart.Bad

dashed-bad : (s : List ℕ) → dashed (λ l. None) IdPart.Bad s ≡ IdPart.Bad
unfolding dashed ids_from
dashed-bad [] = refl
dashed-bad (b ∷ s) = go (eqb b 45) (dashed-bad s)
  where
    go : (t : Bool) → dashed (λ l. None) IdPart.Bad s ≡ IdPart.Bad
        → cond t IdPart.Bad (dashed (λ l. None) IdPart.Bad s) ≡ IdPart.Bad
    go true ih = refl
    go false ih = ih

none_other : (b : ℕ) (s : List ℕ) (stage : Stage) → is_blank b ≡ false → none_seen stage (b ∷ s) ≡ false
unfolding none_seen is_none
none_other b s Stage.Start e = ap is_none (trim-other b s e)
none_other b s Stage.Plus e = refl
none_other b s Stage.Digits e = refl
none_other b s Stage.AfterDigits e = refl

-- a byte that takes the number at hand on, or makes it bad
module _ (b : ℕ) (s : List ℕ) (first : ℕ) (stage : Stage) (v : ℕ) where
  goes_on : (second : Bool) (stage' : Stage) (v' : ℕ)
      → eqb b 45 ≡ false
      → none_seen stage (b ∷ s) ≡ none_seen stage' s
      → ((l : List ℕ) → num_from stage v (b ∷ l) ≡ num_from stage' v' l)
      → say_from second first stage v (b ∷ s) ≡ say_from second first stage' v' s
  unfolding say_from dashed
  goes_on true stage' v' d n h = ap (ids_to first) (h s)
  goes_on false stage' v' d n h =
      let f : (λ (l : List ℕ). num_from stage v (b ∷ l)) ≡ num_from stage' v' = λ i l. h l i in
      rw (d, n) (ap (λ (g : List ℕ → Option ℕ). cond (none_seen stage' s) IdPart.Blank (dashed g (one_id (g s)) s)) f)

  goes-bad : (second : Bool)
      → eqb b 45 ≡ false
      → none_seen stage (b ∷ s) ≡ false
      → ((l : List ℕ) → num_from stage v (b ∷ l) ≡ None)
      → say_from second first stage v (b ∷ s) ≡ IdPart.Bad
  unfolding say_from dashed ids_to one_id
  goes-bad true d n h = ap (ids_to first) (h s)
  goes-bad false d n h =
      let f : ◌≡◌ {A = List ℕ → Option ℕ} (λ l. num_from stage v (b ∷ l)) (λ l. None) = λ i l. h l i in
      rw (d, n) (ap (λ (g : List ℕ → Option ℕ). dashed g (one_id (g s)) s) f ∙ dashed-bad s)

-- each byte
module _ (b : ℕ) (s : List ℕ) (second : Bool) (first : ℕ) where
  on-digit : (stage : Stage) (v : ℕ) → 48 ≤ b → b ≤ 57
      → say_from second first stage v (b ∷ s)
      ≡ says_next (digit_step (seen_as second first stage v) b) s
  unfolding none_seen
  on-digit stage v a z =
      go (is_after_digits stage) (leb (v * 10 + (b - 48)) largest) (λ l. num-digit b l v a z stage)
    where
      dash : eqb b 45 ≡ false
      dash = ne_eqb b 45 (λ e. omega arith)

      none : none_seen stage (b ∷ s) ≡ false
      none = none_other b s stage (digit-not-blank b a z)

      go : (past fits : Bool)
          → ((l : List ℕ) → num_from stage v (b ∷ l)
          ≡ cond past None (cond fits (num_from Stage.Digits (v * 10 + (b - 48)) l) None))
          → say_from second first stage v (b ∷ s)
          ≡ says_next (cond past None
          (cond fits (Some (seen_as second first Stage.Digits (v * 10 + (b - 48)))) None)) s
      go true fits h = goes-bad b s first stage v second dash none h
      go false true h = goes_on b s first stage v second Stage.Digits (v * 10 + (b - 48)) dash none h
      go false false h = goes-bad b s first stage v second dash none h

  on-blank : (stage : Stage) (v : ℕ) → is_digit b ≡ false → is_blank b ≡ true
      → say_from second first stage v (b ∷ s)
      ≡ says_next (blank_step (seen_as second first stage v)) s
  unfolding none_seen
  on-blank Stage.Start v d e =
      goes_on b s first Stage.Start v second Stage.Start v (not-dash b e) (ap is_none (trim-blank b s e))
      (λ l. num-blank-start b l v e)
  on-blank Stage.Plus v d e =
      goes-bad b s first Stage.Plus v second (not-dash b e) refl (λ l. num-blank-plus b l v e d)
  on-blank Stage.Digits v d e =
      goes_on b s first Stage.Digits v second Stage.AfterDigits v (not-dash b e) refl (λ l. num-blank-digits b l v e d)
  on-blank Stage.AfterDigits v d e =
      goes_on b s first Stage.AfterDigits v second Stage.AfterDigits v (not-dash b e) refl (λ l. num-blank-past b l v e)

  module _ (d : is_digit b ≡ false) (e : is_blank b ≡ false) (k : eqb b 45 ≡ false) where
    bad : (stage : Stage) (v : ℕ) → ((l : List ℕ) → num_from stage v (b ∷ l) ≡ None)
        → say_from second first stage v (b ∷ s) ≡ IdPart.Bad
    bad stage v h = goes-bad b s first stage v second k (none_other b s stage e) h

    on-plus : (stage : Stage) (v : ℕ) → eqb b 43 ≡ true
        → say_from second first stage v (b ∷ s)
        ≡ says_next (plus_step (seen_as second first stage v)) s
    unfolding none_seen
    on-plus Stage.Start v p =
        goes_on b s first Stage.Start v second Stage.Plus v k (none_other b s Stage.Start e) (λ l. num-plus b l v e p)
    on-plus Stage.Plus v p = bad Stage.Plus v (λ l. num-other-plus b l v e d)
    on-plus Stage.Digits v p = bad Stage.Digits v (λ l. num-other-digits b l v e d)
    on-plus Stage.AfterDigits v p = bad Stage.AfterDigits v (λ l. num-other-past b l v e d)

    on-other : (stage : Stage) (v : ℕ) → eqb b 43 ≡ false → say_from second first stage v (b ∷ s) ≡ IdPart.Bad
    on-other stage v p = bad stage v (λ l. num-other b l v e d p stage)

-- the first "-", and another
on-dash : (s : List ℕ) (second : Bool) (first : ℕ) (stage : Stage) (v : ℕ)
    → say_from second first stage v (45 ∷ s)
    ≡ says_next (dash_step (seen_as second first stage v)) s
unfolding say_from dashed none_seen is_none num_from some_from run_from none_from ids_to ids_from trim trim_start trim_end without_plus
on-dash s true first stage v = ap (ids_to first) (num-other 45 s v refl refl refl stage)
on-dash s false first Stage.Start v =
    ap (λ (t : List ℕ). cond (is_none t) IdPart.Blank IdPart.Bad) (before-other 45 (trim_end s) refl)
on-dash s false first Stage.Plus v = refl
on-dash s false first Stage.Digits v = refl
on-dash s false first Stage.AfterDigits v = refl

and_left : (a b : Bool) → (a && b) ≡ true → a ≡ true
and_left true b e = refl
and_left false b e = e

and_right : (a b : Bool) → (a && b) ≡ true → b ≡ true
and_right true b e = e
and_right false b e = absurd (let z : ◌≡◌ {A = ℕ} 0 1 = ap (λ (x : Bool). cond x 1 0) e in omega (arith, z))

pub digit-byte : (b : ℕ) → is_digit b ≡ true → (48 ≤ b) × (b ≤ 57)
digit-byte b d = (leb-true 48 b (and_left (leb 48 b) (leb b 57) d), leb-true b 57 (and_right (leb 48 b) (leb b 57) d))

-- one byte of a part, which is no comma
abbrev pub byte_step : PartState → ℕ → Option PartState
byte_step s b = cond (is_digit b) (digit_step s b) (other_step s b)

pub on-byte : (b : ℕ) (s : List ℕ) (p : PartState) → says p (b ∷ s) ≡ says_next (byte_step p b) s
on-byte b s p = go (is_digit b) (is_blank b) (eqb b 45) (eqb b 43) refl refl refl refl
  where
    go : (digit blank dash plus : Bool) → is_digit b ≡ digit → is_blank b ≡ blank → eqb b 45 ≡ dash → eqb b 43 ≡ plus
        → says p (b ∷ s)
        ≡ says_next (cond digit (digit_step p b)
        (cond blank (blank_step p) (cond dash (dash_step p) (cond plus (plus_step p) None)))) s
    go true blank dash plus d e k h =
        on-digit b s p.second p.first p.stage p.value (digit-byte b d).0 (digit-byte b d).1
    go false true dash plus d e k h = on-blank b s p.second p.first p.stage p.value d e
    go false false true plus d e k h =
        ap (λ (x : ℕ). says p (x ∷ s)) (eqb-true b 45 k) ∙ on-dash s p.second p.first p.stage p.value
    go false false false true d e k h = on-plus b s p.second p.first d e k p.stage p.value h
    go false false false false d e k h = on-other b s p.second p.first d e k p.stage p.value h

-- the end of a part
abbrev pub ended : IdPart → Option ℕ
ended IdPart.Blank = Some 0
ended (IdPart.Range r) = Some 1
ended IdPart.Bad = None

pair_ends : (first v : ℕ) → pair_end first v ≡ ended (ids_to first (Some v))
unfolding ids_to
pair_ends first v = go (leb first v)
  where
    go : (t : Bool)
        → cond t (Some 1) None ≡ ended (cond t (IdPart.Range (record { start = first; end = v })) IdPart.Bad)
    go true = refl
    go false = refl

at-end-so : (second : Bool) (first : ℕ) (stage : Stage) (v : ℕ)
    → part_end (seen_as second first stage v) ≡ ended (say_from second first stage v [])
unfolding say_from dashed none_seen is_none num_from some_from run_from none_from one_id ids_to trim trim_start trim_end without_plus
at-end-so true first Stage.Start v = refl
at-end-so true first Stage.Plus v = refl
at-end-so true first Stage.Digits v = pair_ends first v
at-end-so true first Stage.AfterDigits v = pair_ends first v
at-end-so false first Stage.Start v = refl
at-end-so false first Stage.Plus v = refl
at-end-so false first Stage.Digits v = refl
at-end-so false first Stage.AfterDigits v = refl

pub at-end : (p : PartState) → part_end p ≡ ended (says p [])
at-end p = at-end-so p.second p.first p.stage p.value

few-ended : (part : IdPart) (k : ℕ) → ended part ≡ Some k → k ≤ 1
few-ended IdPart.Blank k e = let z : 0 ≡ k = cc in omega arith
few-ended (IdPart.Range r) k e = let z : 1 ≡ k = cc in omega arith
few-ended IdPart.Bad k e = absurd (let z : ◌≡◌ {A = ℕ} 0 1 = cc in omega arith)

pub few : (p : PartState) (k : ℕ) → part_end p ≡ Some k → k ≤ 1
few p k e = few-ended (says p []) k (sym (at-end p) ∙ e)

-- from its start
pub part-start : (s : List ℕ) → says part_start s ≡ id_part s
unfolding say_from none_seen
part-start s = sym (part-whole s)
