-- The first "-" of a part: trimming the part before it is cut there changes nothing. Assumes nothing.
use Rattle.std.specs.Prelude.{Option}
use Prim.Native.Nat.{ℕ, suc}
use mathlib.Core.Path.{◌≡◌, refl, sym, ap, ◌∙◌}
use mathlib.Core.Bool.{Bool, true, false, cond}
use mathlib.Core.List.{List, [], ◌∷◌}
use native.Mathlib.Omega.{arith}
use borrow.Author.Tests.{lt-ltb, eqb-true}
use lib.Dec.{ltb, eqb, leb-suc-suc, eqb-suc-zero}
use lib.ListN.{length, take, drop}
use Rattle.reading.specs.declared.IdPart.{IdPart}
use Rattle.reading.specs.Text.{is_blank, trim_start, before, trim_end, trim, number_of, index_of, holds_byte, cut_before, cut_after, one_id, ids_from, id_part}
use Rattle.ctl.specs.declared.range_count.Stage.{Stage}
use Rattle.ctl.proofs.range_count.Numbers.{num_from, num-start, before-other, trim-other, trim-blank, num-blank-start}

-- a number from its start
abbrev pub whole : List ℕ → Option ℕ
whole s = num_from Stage.Start 0 s

-- what a part says whose bytes before a "-" are read by f, and that says x if it has no "-"
unfoldable pub dashed : (List ℕ → Option ℕ) → IdPart → List ℕ → IdPart
dashed f x [] = x
dashed f x (b ∷ s) = cond (eqb b 45) (ids_from (f []) (whole s)) (dashed (λ l. f (b ∷ l)) x s)

-- a part is cut at the first "-"
cut : (f : List ℕ → Option ℕ) (x : IdPart) (s : List ℕ)
    → cond (holds_byte 45 s) (ids_from (f (cut_before 45 s)) (number_of (trim (cut_after 45 s)))) x ≡ dashed f x s
unfolding dashed index_of
cut f x [] = refl
cut f x (b ∷ s) = go (eqb b 45) (cut (λ l. f (b ∷ l)) x s)
  where
    go : (t : Bool)
        → cond (holds_byte 45 s) (ids_from (f (b ∷ cut_before 45 s)) (number_of (trim (cut_after 45 s)))) x
        ≡ dashed (λ l. f (b ∷ l)) x s
        → (let k = cond t 0 (suc (index_of 45 s)) in
        cond (ltb k (suc (length s))) (ids_from (f (take k (b ∷ s))) (number_of (trim (drop k s)))) x)
        ≡ cond t (ids_from (f []) (whole s)) (dashed (λ l. f (b ∷ l)) x s)
    go true ih = rw (lt-ltb 0 (suc (length s)) (omega arith), num-start s)
    go false ih = rw (leb-suc-suc (suc (index_of 45 s)) (length s)) ih

-- no blank is a "-"
pub not-dash : (b : ℕ) → is_blank b ≡ true → eqb b 45 ≡ false
not-dash b e = go (eqb b 45) refl
  where
    go : (t : Bool) → eqb b 45 ≡ t → t ≡ false
    go true h = sym (rw (eqb-true b 45 h) at e)
    go false h = refl

dash-start : (x : IdPart) (s : List ℕ) → dashed whole x (trim_start s) ≡ dashed whole x s
unfolding dashed trim_start
dash-start x [] = refl
dash-start x (b ∷ s) = go (is_blank b) refl (dash-start x s)
  where
    go : (t : Bool) → is_blank b ≡ t → dashed whole x (trim_start s) ≡ dashed whole x s
        → dashed whole x (cond t (trim_start s) (b ∷ s))
        ≡ cond (eqb b 45) (ids_from (whole []) (whole s)) (dashed (λ l. whole (b ∷ l)) x s)
    go true e ih =
        let f : (λ (l : List ℕ). whole (b ∷ l)) ≡ whole = λ i l. num-blank-start b l 0 e i in
        rw (not-dash b e) (ih ∙ ap (λ (g : List ℕ → Option ℕ). dashed g x s) (sym f))
    go false e ih = refl

dash-before : (f : List ℕ → Option ℕ) (x : IdPart) (b : ℕ) (t : List ℕ) → eqb b 45 ≡ false
    → dashed f x (before b t) ≡ dashed (λ l. f (b ∷ l)) x t
unfolding dashed before
dash-before f x b [] e = go (is_blank b)
  where
    go : (t : Bool) → dashed f x (cond t [] (b ∷ [])) ≡ x
    go true = refl
    go false = rw e
dash-before f x b (y ∷ ys) e = rw e

end-twice : (s : List ℕ) → trim_end (trim_end s) ≡ trim_end s
unfolding trim_end before
end-twice [] = refl
end-twice (b ∷ s) = go (trim_end s) (end-twice s)
  where
    one : (t : Bool) → is_blank b ≡ t → trim_end (cond t [] (b ∷ [])) ≡ cond t [] (b ∷ [])
    one true e = refl
    one false e = rw e

    go : (t : List ℕ) → trim_end t ≡ t → trim_end (before b t) ≡ before b t
    go [] e = one (is_blank b) refl
    go (y ∷ ys) e = ap (before b) e

trim-trim_end : (s : List ℕ) → trim (trim_end s) ≡ trim s
unfolding trim trim_start trim_end before
trim-trim_end [] = refl
trim-trim_end (b ∷ s) = go (is_blank b) refl (trim-trim_end s)
  where
    blank : (t : List ℕ) → is_blank b ≡ true → trim (before b t) ≡ trim t
    blank [] e = rw e
    blank (y ∷ ys) e = trim-blank b (y ∷ ys) e

    go : (t : Bool) → is_blank b ≡ t → trim (trim_end s) ≡ trim s → trim (before b (trim_end s)) ≡ trim (b ∷ s)
    go true e ih = blank (trim_end s) e ∙ (ih ∙ sym (trim-blank b s e))
    go false e ih =
        ap trim (before-other b (trim_end s) e)
        ∙ (trim-other b (trim_end s) e ∙ (ap (λ (l : List ℕ). b ∷ l) (end-twice s) ∙ sym (trim-other b s e)))

dash-end : (f : List ℕ → Option ℕ) (x : IdPart) (s : List ℕ) → dashed f x (trim_end s) ≡ dashed f x s
unfolding dashed trim_end
dash-end f x [] = refl
dash-end f x (b ∷ s) = go (eqb b 45) refl (dash-end (λ l. f (b ∷ l)) x s)
  where
    go : (t : Bool) → eqb b 45 ≡ t → dashed (λ l. f (b ∷ l)) x (trim_end s) ≡ dashed (λ l. f (b ∷ l)) x s
        → dashed f x (before b (trim_end s)) ≡ cond t (ids_from (f []) (whole s)) (dashed (λ l. f (b ∷ l)) x s)
    go true e ih =
        ap (dashed f x) (before-other b (trim_end s) (ap is_blank (eqb-true b 45 e)))
        ∙ rw e (ap (ids_from (f [])) (num-start (trim_end s) ∙ (ap number_of (trim-trim_end s) ∙ sym (num-start s))))
    go false e ih = dash-before f x b (trim_end s) e ∙ ih

dash-trim : (x : IdPart) (s : List ℕ) → dashed whole x (trim s) ≡ dashed whole x s
unfolding trim
dash-trim x s = dash-end whole x (trim_start s) ∙ dash-start x s

unfoldable pub is_none : List ℕ → Bool
is_none [] = true
is_none (x ∷ xs) = false

none-length : (s : List ℕ) → eqb (length s) 0 ≡ is_none s
unfolding is_none
none-length [] = refl
none-length (x ∷ xs) = eqb-suc-zero (length xs)

-- what a part says, untrimmed
pub part-whole : (s : List ℕ) → id_part s ≡ cond (is_none (trim s)) IdPart.Blank (dashed whole (one_id (whole s)) s)
unfolding id_part
part-whole s =
    let t = trim s in
    let w : (λ (l : List ℕ). number_of (trim l)) ≡ whole = λ i l. sym (num-start l) i in
    let c : dashed whole (one_id (whole s)) t ≡ dashed whole (one_id (whole s)) s
    = dash-trim (one_id (whole s)) s in
    ap (λ (u : Bool). cond u IdPart.Blank (cond (holds_byte 45 t) (ids_from (number_of (trim (cut_before 45 t))) (number_of (trim (cut_after 45 t)))) (one_id (number_of t)))) (none-length t)
    ∙ (ap (λ (p : IdPart). cond (is_none t) IdPart.Blank p) (cut (λ l. number_of (trim l)) (one_id (number_of t)) t)
    ∙ (ap (λ (g : List ℕ → Option ℕ). cond (is_none t) IdPart.Blank (dashed g (one_id (g s)) t)) w
    ∙ ap (λ (p : IdPart). cond (is_none t) IdPart.Blank p) c))
