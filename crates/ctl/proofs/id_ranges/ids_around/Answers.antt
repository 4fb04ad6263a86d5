use Prim.Native.Nat.{suc, ◌+◌, ◌-◌}
use mathlib.Core.Path.{◌≡◌, sym, ap, ◌∙◌}
use native.Mathlib.Numerals.{add-one}
use lib.ListN.{length, take, drop}
use Rattle.reading.specs.Text.{trim, number_of}
use Rattle.lists.proofs.Slices.{rest_eq}
use Rattle.ctl.proofs.id_ranges.Parts.{around-first-bad, around-second-bad, around-above, around-range}
use Rattle.ctl.proofs.id_ranges.ids_around.Goals as goal

pub returns-in_default : goal.returns-in_default
returns-in_default c =
    let a = c.args in
    let x : c.read_number.result ≡ number_of (trim (take a.k a.t.now)) = (c.read_number.ensures ∙ ap number_of c.trim-before.ensures) in
    sym (around-first-bad _ _ (sym x ∙ c.in_default.is))

pub returns-in_default-read_number : goal.returns-in_default-read_number
returns-in_default-read_number c =
    let x = (c.read_number.ensures ∙ ap number_of c.trim-before.ensures) in
    let y = (let fact : c.read_number-2.result ≡ number_of
    (trim (drop (suc c.args.k)
    c.args.t.now)) = let a = c.args in
    let e : take (length a.t.now - (a.k + 1)) (drop (a.k + 1) a.t.now) ≡ drop (suc a.k) a.t.now = simp add-one
    (rest_eq a.t.now (suc a.k)) in
    c.read_number-2.ensures ∙ ap number_of (c.trim-past.ensures ∙ ap trim e) in fact) in
    sym (around-second-bad _ _ _ (sym x ∙ c.in-Some.is)
    (sym y ∙ c.in_default-read_number.is))

pub returns-then-end-start : goal.returns-then-end-start
returns-then-end-start c =
    let x = (c.read_number.ensures ∙ ap number_of c.trim-before.ensures) in
    let y = (let fact : c.read_number-2.result ≡ number_of
    (trim (drop (suc c.args.k)
    c.args.t.now)) = let a = c.args in
    let e : take (length a.t.now - (a.k + 1)) (drop (a.k + 1) a.t.now) ≡ drop (suc a.k) a.t.now = simp add-one
    (rest_eq a.t.now (suc a.k)) in
    c.read_number-2.ensures ∙ ap number_of (c.trim-past.ensures ∙ ap trim e) in fact) in
    sym (around-above _ _ _ (sym x ∙ c.in-Some.is) _
    (sym y ∙ c.in-Some-read_number.is) c.if-end-start.true)

pub returns : goal.returns
returns c =
    let x = (c.read_number.ensures ∙ ap number_of c.trim-before.ensures) in
    let y = (let fact : c.read_number-2.result ≡ number_of
    (trim (drop (suc c.args.k)
    c.args.t.now)) = let a = c.args in
    let e : take (length a.t.now - (a.k + 1)) (drop (a.k + 1) a.t.now) ≡ drop (suc a.k) a.t.now = simp add-one
    (rest_eq a.t.now (suc a.k)) in
    c.read_number-2.ensures ∙ ap number_of (c.trim-past.ensures ∙ ap trim e) in fact) in
    sym (around-range _ _ _ (sym x ∙ c.in-Some.is) _
    (sym y ∙ c.in-Some-read_number.is) c.if-end-start.false)
