-- Ranges in the merged form, for lists of any length: adding a range keeps the form, removes the ids of the list and of the range, and
-- makes at most one range more. 02, A.6.
use Prim.{tt, Unit}
use Rattle.std.specs.Prelude.{ℕ, ◌+◌, ◌≤◌, ◌<◌, ◌≡◌, refl, ◌⊎◌, Bool, true, false, cond, ◌&&◌, ◌||◌, List, [], ◌∷◌, ◌++◌, length, leb, Option, Some, None}
use Rattle.std.proofs.Common.{sym, ap, ◌∙◌, ⊎_elim, inl, inr, arith, length-append, ltb-true, ltb-false, leb-true, leb-false, le-leb}
use Rattle.std.proofs.lemmas.Bool.{lt-leb}
use Rattle.reading.specs.declared.RuleIdRange.{RuleIdRange}
use Rattle.reading.specs.Lists.{any}
use Rattle.reading.specs.Ranges.{merged_from, is_apart, joined, staying, going_on, add_range, add_ranges}
use Rattle.reading.specs.Controls.{in_range, is_removed}
use Rattle.lists.proofs.Tests.{or-false-is, any_append}

-- THE FORM AS FACTS

-- a range whose start is not above its end, and a list of such ranges
abbrev pub Ordered : RuleIdRange → Type 0
Ordered r = r.start ≤ r.end

abbrev pub AllOrdered : List RuleIdRange → Type 0
AllOrdered [] = Unit {0}
AllOrdered (r ∷ rs) = Ordered r × AllOrdered rs

abbrev pub MergedFrom : ℕ → List RuleIdRange → Type 0
MergedFrom bound [] = Unit {0}
MergedFrom bound (r ∷ rs) = (bound ≤ r.start) × Ordered r × MergedFrom (r.end + 2) rs

abbrev pub Merged : List RuleIdRange → Type 0
Merged rs = MergedFrom 0 rs

-- the definition's test says this
pub form-says : (bound : ℕ) (rs : List RuleIdRange) → merged_from bound rs ≡ true → MergedFrom bound rs
form-says bound [] e = tt
form-says bound (r ∷ rs) e = go (leb bound r.start) refl (leb r.start r.end) refl (form-says (r.end + 2) rs) e
  where
    go : (a : Bool) → leb bound r.start ≡ a → (b : Bool) → leb r.start r.end ≡ b
        → (merged_from (r.end + 2) rs ≡ true → MergedFrom (r.end + 2) rs) → ((a && b) && merged_from (r.end + 2) rs) ≡ true
        → MergedFrom bound (r ∷ rs)
    go true p true q ih h = (leb-true bound r.start p, leb-true r.start r.end q, ih h)
    go true p false q ih h = absurd (let z : ◌≡◌ {A = ℕ} 0 1 = cc in omega arith)
    go false p b q ih h = absurd (let z : ◌≡◌ {A = ℕ} 0 1 = cc in omega arith)

pub says-form : (bound : ℕ) (rs : List RuleIdRange) → MergedFrom bound rs → merged_from bound rs ≡ true
says-form bound [] m = refl
says-form bound (r ∷ rs) m = rw (le-leb bound r.start m.0, le-leb r.start r.end m.1) (says-form (r.end + 2) rs m.2)

-- a list in the form with a greater bound has it with a smaller one, and its ranges are ordered
pub form-below : (n m : ℕ) (rs : List RuleIdRange) → n ≤ m → MergedFrom m rs → MergedFrom n rs
form-below n m [] h f = tt
form-below n m (r ∷ rs) h f = (omega arith, f.1, f.2)

pub form-ordered : (bound : ℕ) (rs : List RuleIdRange) → MergedFrom bound rs → AllOrdered rs
form-ordered bound [] f = tt
form-ordered bound (r ∷ rs) f = (f.1, form-ordered (r.end + 2) rs f.2)

-- AN ID IN A RANGE

module _ (id : ℕ) (r : RuleIdRange) where
  pub in-yes : r.start ≤ id → id ≤ r.end → in_range id r ≡ true
  in-yes h k = rw (le-leb r.start id h, le-leb id r.end k)

  pub in-low : id < r.start → in_range id r ≡ false
  in-low h = rw (lt-leb r.start id h)

  pub in-high : r.end < id → in_range id r ≡ false
  in-high h = go (leb r.start id)
    where
      go : (b : Bool) → (b && leb id r.end) ≡ false
      go true = lt-leb id r.end h
      go false = refl

  pub in-true : in_range id r ≡ true → (r.start ≤ id) × (id ≤ r.end)
  in-true e = go (leb r.start id) refl e
    where
      go : (b : Bool) → leb r.start id ≡ b → (b && leb id r.end) ≡ true → (r.start ≤ id) × (id ≤ r.end)
      go true d h = (leb-true r.start id d, leb-true id r.end h)
      go false d h = absurd (let z : ◌≡◌ {A = ℕ} 0 1 = cc in omega arith)

  in-false : in_range id r ≡ false → (id < r.start) ⊎ (r.end < id)
  in-false e = go (leb r.start id) refl e
    where
      go : (b : Bool) → leb r.start id ≡ b → (b && leb id r.end) ≡ false → (id < r.start) ⊎ (r.end < id)
      go true d h = inr (leb-false id r.end h)
      go false d h = inl (leb-false r.start id d)

-- two that overlap or touch hold, as one, the ids of both
in-joined : (id : ℕ) (x r : RuleIdRange) → Ordered x → Ordered r → is_apart x r ≡ false → is_apart r x ≡ false
    → in_range id (joined x r) ≡ (in_range id x || in_range id r)
in-joined id x r ox or e d = go (in_range id x) refl (in_range id r) refl
  where
    low : r.start ≤ x.end + 1
    low = ltb-false (x.end + 1) r.start e

    high : x.start ≤ r.end + 1
    high = ltb-false (r.end + 1) x.start d

    go : (a : Bool) → in_range id x ≡ a → (b : Bool) → in_range id r ≡ b → in_range id (joined x r) ≡ (a || b)
    go true p b q = let h = in-true id x p in in-yes id (joined x r) (omega arith) (omega arith)
    go false p true q = let h = in-true id r q in in-yes id (joined x r) (omega arith) (omega arith)
    go false p false q =
        ⊎_elim
        (λ (h : id < x.start). ⊎_elim (λ (k : id < r.start). in-low id (joined x r) (omega arith)) (λ (k : r.end < id). absurd (omega (arith, high))) (in-false id r q))
        (λ (h : x.end < id). ⊎_elim (λ (k : id < r.start). absurd (omega (arith, low))) (λ (k : r.end < id). in-high id (joined x r) (omega arith)) (in-false id r q))
        (in-false id x p)

-- ONE RANGE ADDED

-- what stays and what goes on
module _ (x r : RuleIdRange) (ox : Ordered x) (or : Ordered r) where
  going-ordered : Ordered (going_on x r)
  going-ordered = go (is_apart x r) (is_apart r x)
    where
      go : (a b : Bool) → Ordered (cond a r (cond b x (joined x r)))
      go true b = or
      go false true = ox
      go false false = omega arith

  staying-ordered : (rest : List RuleIdRange) → AllOrdered rest → AllOrdered (staying x r ++ rest)
  staying-ordered rest o = go (is_apart x r) (is_apart r x)
    where
      go : (a b : Bool) → AllOrdered (cond a (x ∷ []) (cond b (r ∷ []) []) ++ rest)
      go true b = (ox, o)
      go false true = (or, o)
      go false false = o

  -- together they hold the ids of both
  met : (id : ℕ) → (any (in_range id) (staying x r) || in_range id (going_on x r)) ≡ (in_range id x || in_range id r)
  met id = go (is_apart x r) refl (is_apart r x) refl
    where
      go : (a : Bool) → is_apart x r ≡ a → (b : Bool) → is_apart r x ≡ b
          → (any (in_range id) (cond a (x ∷ []) (cond b (r ∷ []) [])) || in_range id (cond a r (cond b x (joined x r)))) ≡ (in_range id x || in_range id r)
      go true p b q = ap (λ (t : Bool). t || in_range id r) (or-false-is (in_range id x))
      go false p true q = ap (λ (t : Bool). t || in_range id x) (or-false-is (in_range id r)) ∙ swapped (in_range id r) (in_range id x)
        where
          swapped : (a b : Bool) → (a || b) ≡ (b || a)
          swapped true true = refl
          swapped true false = refl
          swapped false true = refl
          swapped false false = refl
      go false p false q = in-joined id x r ox or p q

pub all-ordered-added : (rs : List RuleIdRange) (r : RuleIdRange) → AllOrdered rs → Ordered r → AllOrdered (add_range rs r)
unfolding add_range
all-ordered-added [] r o or = (or, tt)
all-ordered-added (x ∷ xs) r o or =
    staying-ordered x r o.0 or (add_range xs (going_on x r)) (all-ordered-added xs (going_on x r) o.1 (going-ordered x r o.0 or))

-- a list between what stays and what goes on
between : (s a g x r : Bool) → (s || g) ≡ (x || r) → (s || (a || g)) ≡ ((x || a) || r)
between true true g true r e = refl
between true true g false r e = refl
between false true g true r e = refl
between false true g false r e = refl
between true false g true r e = refl
between true false g false r e = e
between false false g true r e = e
between false false g false r e = e

-- the list with a range added removes the ids of the list and those of the range, whatever the order of the list
any-added : (id : ℕ) (rs : List RuleIdRange) (r : RuleIdRange) → AllOrdered rs → Ordered r
    → any (in_range id) (add_range rs r) ≡ (any (in_range id) rs || in_range id r)
unfolding add_range
any-added id [] r o or = or-false-is (in_range id r)
any-added id (x ∷ xs) r o or =
    any_append (in_range id) (staying x r) (add_range xs (going_on x r))
    ∙ (ap (λ (t : Bool). any (in_range id) (staying x r) || t) (any-added id xs (going_on x r) o.1 (going-ordered x r o.0 or))
    ∙ between (any (in_range id) (staying x r)) (any (in_range id) xs) (in_range id (going_on x r)) (in_range id x) (in_range id r) (met x r o.0 or id))

-- the form is kept
form-added : (bound : ℕ) (rs : List RuleIdRange) (r : RuleIdRange) → MergedFrom bound rs → bound ≤ r.start → Ordered r
    → MergedFrom bound (add_range rs r)
unfolding add_range
form-added bound [] r f h o = (h, o, tt)
form-added bound (x ∷ xs) r f h o =
    go (is_apart x r) refl (is_apart r x) refl (λ m g k l d. form-added m xs g k l d)
  where
    go : (a : Bool) → is_apart x r ≡ a → (b : Bool) → is_apart r x ≡ b
        → ((m : ℕ) (g : RuleIdRange) → MergedFrom m xs → m ≤ g.start → Ordered g → MergedFrom m (add_range xs g))
        → MergedFrom bound (cond a (x ∷ []) (cond b (r ∷ []) []) ++ add_range xs (cond a r (cond b x (joined x r))))
    go true p b q ih = (f.0, f.1, ih (x.end + 2) r f.2 (omega (arith, ltb-true (x.end + 1) r.start p)) o)
    go false p true q ih =
        let l : r.end + 2 ≤ x.start = omega (arith, ltb-true (r.end + 1) x.start q) in
        (h, o, ih (r.end + 2) x (form-below (r.end + 2) (x.end + 2) xs (omega arith) f.2) l f.1)
    go false p false q ih = ih bound (joined x r) (form-below bound (x.end + 2) xs (omega arith) f.2) (omega arith) (omega arith)

pub added-merged : (rs : List RuleIdRange) (r : RuleIdRange) → Merged rs → Ordered r → Merged (add_range rs r)
added-merged rs r f o = form-added 0 rs r f (omega arith) o

-- there is at most one range more
pub length-added : (rs : List RuleIdRange) (r : RuleIdRange) → length (add_range rs r) ≤ length rs + 1
unfolding add_range
length-added [] r = omega arith
length-added (x ∷ xs) r =
    omega (arith, length-append (staying x r) (add_range xs (going_on x r)), length-added xs (going_on x r), few (is_apart x r) (is_apart r x))
  where
    few : (a b : Bool) → length (cond a (x ∷ []) (cond b (r ∷ []) [])) ≤ 1
    few true b = omega arith
    few false true = omega arith
    few false false = omega arith

-- SEVERAL RANGES, in order

pub all-ordered-all-added : (held rs : List RuleIdRange) → AllOrdered held → AllOrdered rs → AllOrdered (add_ranges held rs)
unfolding add_ranges
all-ordered-all-added held [] o p = o
all-ordered-all-added held (r ∷ rs) o p = all-ordered-all-added (add_range held r) rs (all-ordered-added held r o p.0) p.1

any-all-added : (id : ℕ) (held rs : List RuleIdRange) → AllOrdered held → AllOrdered rs
    → any (in_range id) (add_ranges held rs) ≡ (any (in_range id) held || any (in_range id) rs)
unfolding add_ranges
any-all-added id held [] o p = sym (or-false-is (any (in_range id) held))
any-all-added id held (r ∷ rs) o p =
    any-all-added id (add_range held r) rs (all-ordered-added held r o p.0) p.1
    ∙ (ap (λ (t : Bool). t || any (in_range id) rs) (any-added id held r o p.0) ∙ grouped (any (in_range id) held) (in_range id r) (any (in_range id) rs))
  where
    grouped : (a b c : Bool) → ((a || b) || c) ≡ (a || (b || c))
    grouped true b c = refl
    grouped false b c = refl

-- ADDING KEEPS THE FORM
pub all-added-merged : (held rs : List RuleIdRange) → Merged held → AllOrdered rs → Merged (add_ranges held rs)
unfolding add_ranges
all-added-merged held [] f o = f
all-added-merged held (r ∷ rs) f o = all-added-merged (add_range held r) rs (added-merged held r f o.0) o.1

-- THE COUNT NEVER GROWS BY MORE THAN WAS ADDED
pub length-all-added : (held rs : List RuleIdRange) → length (add_ranges held rs) ≤ length held + length rs
unfolding add_ranges
length-all-added held [] = omega arith
length-all-added held (r ∷ rs) = omega (arith, length-all-added (add_range held r) rs, length-added held r)

-- adding in two steps is adding the ranges of both
pub added-in-turn : (held rs ss : List RuleIdRange) → add_ranges held (rs ++ ss) ≡ add_ranges (add_ranges held rs) ss
unfolding add_ranges
added-in-turn held [] ss = refl
added-in-turn held (r ∷ rs) ss = added-in-turn (add_range held r) rs ss

-- 02: "The same ids are removed as by the plain list of all ranges accepted, of any length and in any order": by the ranges held with
-- others merged in as by the plain list of both. The ranges held need not have the form.
pub removed-append : (xs ys : List RuleIdRange) (id : Option ℕ) → is_removed (xs ++ ys) id ≡ (is_removed xs id || is_removed ys id)
unfolding is_removed
removed-append xs ys None = refl
removed-append xs ys (Some id) = any_append (in_range id) xs ys

pub merged-removes : (held rs : List RuleIdRange) (id : Option ℕ) → AllOrdered held → AllOrdered rs
    → is_removed (add_ranges held rs) id ≡ is_removed (held ++ rs) id
unfolding is_removed
merged-removes held rs None o p = refl
merged-removes held rs (Some id) o p = any-all-added id held rs o p ∙ sym (any_append (in_range id) held rs)
