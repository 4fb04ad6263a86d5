-- The merged form is determined by the ids that it removes: two lists in the form that remove the same ids are equal. So the order of
-- adding does not matter, nor what was merged before. 02, A.6.
use Prim.{tt}
use Rattle.std.specs.Prelude.{ℕ, ◌+◌, ◌≤◌, ◌<◌, ◌≡◌, refl, Bool, true, false, ◌||◌, List, [], ◌∷◌, ltb, Option, Some}
use Rattle.std.proofs.Common.{sym, ap, ap₂, ◌∙◌, arith, ltb-true, ltb-false}
use Rattle.reading.specs.declared.RuleIdRange.{RuleIdRange}
use Rattle.reading.specs.Lists.{any}
use Rattle.reading.specs.Ranges.{add_ranges}
use Rattle.reading.specs.Controls.{in_range, is_removed}
use Rattle.theorems.specs.MergedRanges.{AllOrdered, MergedFrom, Merged, form-ordered, in-yes, in-low, in-high, all-added-merged, merged-removes, removed-append}

-- no id below the form's bound is removed
none_below : (bound id : ℕ) (rs : List RuleIdRange) → MergedFrom bound rs → id < bound → any (in_range id) rs ≡ false
none_below bound id [] f h = refl
none_below bound id (r ∷ rs) f h = rw (in-low id r (omega arith)) (none_below (r.end + 2) id rs f.2 (omega arith))

-- ids that two lists both remove, or both do not
abbrev Same : List RuleIdRange → List RuleIdRange → Type 0
Same xs ys = (id : ℕ) → any (in_range id) xs ≡ any (in_range id) ys

-- the first start of a list is removed by it
first-removed : (bound : ℕ) (x : RuleIdRange) (xs : List RuleIdRange) → MergedFrom bound (x ∷ xs) → any (in_range x.start) (x ∷ xs) ≡ true
first-removed bound x xs f = rw (in-yes x.start x (omega arith) f.1)

-- of two that remove the same ids neither has a first start below the other's
first : (n m : ℕ) (x y : RuleIdRange) (xs ys : List RuleIdRange) → MergedFrom n (x ∷ xs) → MergedFrom m (y ∷ ys) → Same (x ∷ xs) (y ∷ ys)
    → y.start ≤ x.start
first n m x y xs ys f g s = go (ltb x.start y.start) refl
  where
    go : (b : Bool) → ltb x.start y.start ≡ b → y.start ≤ x.start
    go false e = ltb-false x.start y.start e
    go true e =
        let p = first-removed n x xs f in
        let q : any (in_range x.start) (y ∷ ys) ≡ false
        = none_below y.start x.start (y ∷ ys) (omega arith, g.1, g.2) (ltb-true x.start y.start e) in
        let d = s x.start in
        absurd (let z : ◌≡◌ {A = ℕ} 0 1 = cc in omega arith)

-- nor, with the same first start, a first end below the other's
last : (n m : ℕ) (x y : RuleIdRange) (xs ys : List RuleIdRange) → MergedFrom n (x ∷ xs) → MergedFrom m (y ∷ ys) → Same (x ∷ xs) (y ∷ ys)
    → x.start ≡ y.start → y.end ≤ x.end
last n m x y xs ys f g s same = go (ltb x.end y.end) refl
  where
    go : (b : Bool) → ltb x.end y.end ≡ b → y.end ≤ x.end
    go false e = ltb-false x.end y.end e
    go true e =
        let h = ltb-true x.end y.end e in
        let p : any (in_range (x.end + 1)) (y ∷ ys) ≡ true = rw (in-yes (x.end + 1) y (omega arith) (omega arith)) in
        let q : any (in_range (x.end + 1)) (x ∷ xs) ≡ false
        = rw (in-high (x.end + 1) x (omega arith)) (none_below (x.end + 2) (x.end + 1) xs f.2 (omega arith)) in
        let d = s (x.end + 1) in
        absurd (let z : ◌≡◌ {A = ℕ} 0 1 = cc in omega arith)

-- what comes after two equal first ranges removes the same ids
after : (x : RuleIdRange) (xs ys : List RuleIdRange) → MergedFrom (x.end + 2) xs → MergedFrom (x.end + 2) ys → Same (x ∷ xs) (x ∷ ys) → Same xs ys
after x xs ys f g s id = go (ltb x.end id) refl
  where
    go : (b : Bool) → ltb x.end id ≡ b → any (in_range id) xs ≡ any (in_range id) ys
    go true e = let o = in-high id x (ltb-true x.end id e) in rw o at (s id)
    go false e =
        let h = ltb-false x.end id e in
        none_below (x.end + 2) id xs f (omega arith) ∙ sym (none_below (x.end + 2) id ys g (omega arith))

form-unique : (n m : ℕ) (xs ys : List RuleIdRange) → MergedFrom n xs → MergedFrom m ys → Same xs ys → xs ≡ ys
form-unique n m [] [] f g s = refl
form-unique n m [] (y ∷ ys) f g s =
    let p = first-removed m y ys g in
    let d = s y.start in
    absurd (let z : ◌≡◌ {A = ℕ} 0 1 = cc in omega arith)
form-unique n m (x ∷ xs) [] f g s =
    let p = first-removed n x xs f in
    let d = s x.start in
    absurd (let z : ◌≡◌ {A = ℕ} 0 1 = cc in omega arith)
form-unique n m (x ∷ xs) (y ∷ ys) f g s =
    let back : Same (y ∷ ys) (x ∷ xs) = λ id. sym (s id) in
    let starts : x.start ≡ y.start = omega (arith, first n m x y xs ys f g s, first m n y x ys xs g f back) in
    let ends : x.end ≡ y.end = omega (arith, last n m x y xs ys f g s starts, last m n y x ys xs g f back (sym starts)) in
    let e : y ≡ x = λ i. record { start = sym starts i; end = sym ends i } in
    let g' : MergedFrom (x.end + 2) ys = rw ends g.2 in
    let s' : Same (x ∷ xs) (x ∷ ys) = λ id. rw e at (s id) in
    ap₂ ◌∷◌ (sym e) (form-unique (x.end + 2) (x.end + 2) xs ys f.2 g' (after x xs ys f.2 g' s'))

-- THE FORM IS DETERMINED BY THE IDS
pub merged-unique : (xs ys : List RuleIdRange) → Merged xs → Merged ys → ((id : Option ℕ) → is_removed xs id ≡ is_removed ys id) → xs ≡ ys
unfolding is_removed
merged-unique xs ys f g s = form-unique 0 0 xs ys f g (λ id. s (Some id))

-- THE ORDER OF ADDING DOES NOT MATTER: two lists of ranges that remove the same ids, in any order and with any repeated, leave the same
pub order-free : (held rs ss : List RuleIdRange) → Merged held → AllOrdered rs → AllOrdered ss
    → ((id : Option ℕ) → is_removed rs id ≡ is_removed ss id) → add_ranges held rs ≡ add_ranges held ss
order-free held rs ss f o p s =
    let h = form-ordered 0 held f in
    merged-unique (add_ranges held rs) (add_ranges held ss) (all-added-merged held rs f o) (all-added-merged held ss f p)
    (λ id.
    merged-removes held rs id h o
    ∙ (removed-append held rs id
    ∙ (ap (λ (b : Bool). is_removed held id || b) (s id) ∙ sym (merged-removes held ss id h p ∙ removed-append held ss id))))

-- ranges whose ids are all removed already change nothing
pub covered_same : (held rs : List RuleIdRange) → Merged held → AllOrdered rs
    → ((id : Option ℕ) → is_removed rs id ≡ true → is_removed held id ≡ true) → add_ranges held rs ≡ held
covered_same held rs f o c =
    merged-unique (add_ranges held rs) held (all-added-merged held rs f o) f
    (λ id. merged-removes held rs id (form-ordered 0 held f) o ∙ (removed-append held rs id ∙ either (is_removed held id) (is_removed rs id) (c id)))
  where
    either : (a b : Bool) → (b ≡ true → a ≡ true) → (a || b) ≡ a
    either true b h = refl
    either false true h = sym (h refl)
    either false false h = refl

-- A LIST IN THE FORM IS ITS OWN MERGED LIST: ranges merged into an empty list are the form of what they remove
pub merged-itself : (rs : List RuleIdRange) → Merged rs → add_ranges [] rs ≡ rs
merged-itself rs f =
    let o = form-ordered 0 rs f in
    merged-unique (add_ranges [] rs) rs (all-added-merged [] rs tt o) f (λ id. merged-removes [] rs id tt o)
