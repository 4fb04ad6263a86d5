-- Filling lists from their start, with as many ranges as they have places for. Assumes nothing.
use Prim.Native.Nat.{ℕ, suc, ◌+◌, ◌-◌, ◌≤◌, ◌<◌, min}
use mathlib.Core.Path.{◌≡◌, refl, sym, ap, ap₂, subst, ◌∙◌}
use mathlib.Core.Bool.{Bool, true, false, cond}
use mathlib.Core.List.{List, [], ◌∷◌, ◌++◌, map, map-append}
use native.Mathlib.Omega.{arith}
use borrow.Author.Tests.{ltb-true, ltb-false}
use lib.Dec.{ltb, eqb}
use lib.ListN.{length, take, drop, get_or, length-map, length-take, drop_of_length-le}
use lib.Seq.{drop-cons, take-nil, sets}
use Rattle.std.specs.List.{slice_split, onto_first}
use Rattle.reading.specs.declared.RuleIdRange.{RuleIdRange}
use Rattle.reading.specs.declared.IdPart.{IdPart}
use Rattle.reading.specs.Lists.{keep, over}
use Rattle.reading.specs.Text.{id_part, range_in, id_parts, ranges_in, on_first, split_on}
use Rattle.reading.specs.Directive.{start_of, end_of}
use Rattle.ctl.specs.WriteRanges.{fitting, all_fitting, Put, Written}
use Rattle.lists.proofs.Filled.{Filled, filled-start, filled-done, filled_put}

-- a part's range, where there is a place k among `room`
abbrev pub fit : ℕ → ℕ → IdPart → List RuleIdRange
fit room k part = keep (ltb k room) (range_in part)

-- the first ranges that fit, by the first part's
take-fit : (room k : ℕ) (part : IdPart) (rest : List RuleIdRange)
    → take (room - k) (range_in part ++ rest) ≡ fit room k part ++ take (room - (k + length (fit room k part))) rest
take-fit room k part rest = go part (ltb k room) refl
  where
    none : (t : Bool) → take (room - k) rest ≡ keep t [] ++ take (room - (k + length {A = RuleIdRange} (keep t []))) rest
    none true = let z : k + 0 ≡ k = omega arith in rw z
    none false = let z : k + 0 ≡ k = omega arith in rw z

    one : (r : RuleIdRange) (t : Bool) → ltb k room ≡ t
        → take (room - k) (r ∷ rest) ≡ keep t (r ∷ []) ++ take (room - (k + length (keep t (r ∷ [])))) rest
    one r true e =
        let z : room - k ≡ suc (room - (k + 1)) = omega (arith, ltb-true k room e) in
        rw z
    one r false e =
        let z : room - k ≡ 0 = omega (arith, ltb-false k room e) in
        let w : room - (k + 0) ≡ 0 = omega (arith, ltb-false k room e) in
        rw (z, w)

    go : (p : IdPart) (t : Bool) → ltb k room ≡ t → take (room - k) (range_in p ++ rest) ≡ keep t (range_in p) ++ take
        (room - (k + length (keep t (range_in p)))) rest
    go IdPart.Blank t e = none t
    go IdPart.Bad t e = none t
    go (IdPart.Range r) t e = one r t e

-- one of the two lists, with the first n parts written; g is `start_of` or `end_of`
abbrev pub Done : (RuleIdRange → ℕ) → ℕ → List (List ℕ) → List ℕ → List ℕ → ℕ → ℕ → Type 0
Done g room parts old cur k n = Filled (map g (take room (ranges_in parts))) (map g (take (room - k) (ranges_in (drop n parts)))) old cur k

module _ (g : RuleIdRange → ℕ) (room : ℕ) (parts : List (List ℕ)) (old : List ℕ) where
  pub done-start : room ≤ length old → Done g room parts old old 0 0
  done-start h =
      let z : room - 0 ≡ room = omega arith in
      let rs = ranges_in parts in
      let l : length (map g (take room rs)) ≤ length old = simp (length-map, length-take) (omega arith) in
      rw z (filled-start (map g (take room rs)) old l)

  -- all parts are written
  pub done_end : (cur : List ℕ) (k n : ℕ) → length parts ≤ n → Done g room parts old cur k n → cur ≡ over old (map g (take room (ranges_in parts)))
  unfolding ranges_in
  done_end cur k n h f =
      let all = map g (take room (ranges_in parts)) in
      let e : drop n parts ≡ [] = drop_of_length-le parts h in
      filled-done all old cur k (subst (λ (l : List RuleIdRange). Filled all (map g l) old cur k) (take-nil (room - k))
      (subst (λ (l : List (List ℕ)). Filled all (map g (take (room - k) (ranges_in l))) old cur k) e f))

  -- a turn of the loop: the range of the part at n was put
  module _ (n : ℕ) (p : List ℕ) (h : n < length parts) (here : p ≡ get_or parts n p)
      (cur cur' : List ℕ) (k k' : ℕ) (f : Done g room parts old cur k n)
      (put : cur' ≡ sets cur k (map g (fit room k (id_part p)))) (next : k' ≡ k + length (fit room k (id_part p))) where
    todo : map g (take (room - k) (ranges_in (drop n parts)))
        ≡ map g (fit room k (id_part p)) ++ map g (take (room - k') (ranges_in (drop (suc n) parts)))
    unfolding ranges_in
    todo =
        let rest = ranges_in (drop (suc n) parts) in
        let d : drop n parts ≡ p ∷ drop (suc n) parts = drop-cons parts n p h ∙ ap (λ (q : List ℕ). q ∷ drop (suc n) parts) (sym here) in
        let b = ap (λ (l : List (List ℕ)). map g (take (room - k) (ranges_in l))) d ∙ ap (map g) (take-fit room k (id_part p) rest) in
        let m = map-append g (fit room k (id_part p)) (take (room - (k + length (fit room k (id_part p)))) rest) in
        b ∙ (m ∙ ap (λ (j : ℕ). map g (fit room k (id_part p)) ++ map g (take (room - j) rest)) (sym next))

    pub done_more : Done g room parts old cur' k' (suc n)
    done_more =
        let all = map g (take room (ranges_in parts)) in
        let rest = map g (take (room - k') (ranges_in (drop (suc n) parts))) in
        let vs = map g (fit room k (id_part p)) in
        let f' = subst (λ (l : List ℕ). Filled all l old cur k) todo f in
        let e : k + length vs ≡ k' = omega (arith, next, length-map (fit room k (id_part p)) g) in
        rw put (rw e at (filled_put vs all rest old cur k f'))

-- a turn of the loop for both lists; starts and ends are the lists as lent
module _ (parts : List (List ℕ)) (starts ends : List ℕ) (n : ℕ) (p : List ℕ) (h : n < length parts) (here : p ≡ get_or parts n p)
    (s s' t t' : List ℕ) (k k' : ℕ)
    (f : Done start_of (min (length starts) (length ends)) parts starts s k n)
    (g : Done end_of (min (length starts) (length ends)) parts ends t k n)
    (put : Put (id_part p) k s t k' s' t') where
  same-fit : fitting s t k (id_part p) ≡ fit (min (length starts) (length ends)) k (id_part p)
  same-fit = ap₂ (λ (a b : ℕ). keep (ltb k (min a b)) (range_in (id_part p))) f.kept g.kept

  next-is : k' ≡ k + length (fit (min (length starts) (length ends)) k (id_part p))
  next-is = put.next ∙ ap (λ (l : List RuleIdRange). k + length l) same-fit

  s-is : s' ≡ sets s k (map start_of (fit (min (length starts) (length ends)) k (id_part p)))
  s-is = put.starts-are ∙ ap (λ (l : List RuleIdRange). sets s k (map start_of l)) same-fit

  t-is : t' ≡ sets t k (map end_of (fit (min (length starts) (length ends)) k (id_part p)))
  t-is = put.ends-are ∙ ap (λ (l : List RuleIdRange). sets t k (map end_of l)) same-fit

  pub starts_more : Done start_of (min (length starts) (length ends)) parts starts s' k' (suc n)
  starts_more = done_more start_of (min (length starts) (length ends)) parts starts n p h here s s' k k' f s-is next-is

  pub ends_more : Done end_of (min (length starts) (length ends)) parts ends t' k' (suc n)
  ends_more = done_more end_of (min (length starts) (length ends)) parts ends n p h here t t' k k' g t-is next-is

pub written_all : (value starts ends s t : List ℕ) (k n : ℕ) → length (id_parts value) ≤ n
    → Done start_of (min (length starts) (length ends)) (id_parts value) starts s k n
    → Done end_of (min (length starts) (length ends)) (id_parts value) ends t k n → Written value starts ends s t
unfolding all_fitting
written_all value starts ends s t k n h f g = record {
  starts-are = done_end start_of (min (length starts) (length ends)) (id_parts value) starts s k n h f;
  ends-are = done_end end_of (min (length starts) (length ends)) (id_parts value) ends t k n h g;
}

first-same : (x : ℕ) (ps : List (List ℕ)) → on_first x ps ≡ onto_first x ps
unfolding on_first
first-same x [] = refl
first-same x (p ∷ ps) = refl

-- the parts are those that the library's `split` gives
pub split_is : (b : ℕ) (s : List ℕ) → split_on b s ≡ slice_split (λ x. eqb x b) s
unfolding split_on
split_is b [] = refl
split_is b (x ∷ xs) = rw (split_is b xs) (ap (cond (eqb x b) ([] ∷ slice_split (λ y. eqb y b) xs)) (first-same x (slice_split (λ y. eqb y b) xs)))
