-- The codes of the actions, written from the start of a list as far as they fit.
use Prim.Native.Nat.{ℕ, ◌+◌, ◌<◌, min}
use native.Mathlib.Numerals.{add-one}
use mathlib.Core.Path.{◌≡◌, refl, sym, ap, ◌∙◌}
use mathlib.Core.Logic.{◌⊎◌, inl, inr}
use mathlib.Core.List.{List, [], ◌∷◌, ◌++◌, map-append}
use native.Mathlib.Omega.{arith}
use borrow.Author.Tests.{eq-eqb, ne_eqb, eqb-true, eqb-false}
use mathlib.Core.Bool.{Bool, true, false, not, ◌&&◌, ◌||◌}
use lib.Dec.{eqb}
use lib.ListN.{length, take, drop, get_or, set, length-map}
use lib.Seq.{take-suc, take-take, length-take-le}
use Rattle.reading.specs.declared.Action.{Action}
use Rattle.reading.specs.declared.Part.{Part}
use Rattle.reading.specs.declared.CtlDirective.{CtlDirective}
use Rattle.reading.specs.Lists.{any}
use Rattle.reading.specs.Text.{part_of}
use Rattle.reading.specs.Directive.{directive_of, without_lists}
use Rattle.reading.specs.Walk.{no_action}
use Rattle.lists.proofs.Tests.{or-false-is, and-true, any_append}
use Rattle.actions.proofs.execute.ControlLaws.{fitting, fitting-more}
use Rattle.apply.specs.Codes.{code_of, read_in, code_at, codes_of, is_reason, same_texts, IsCodeOf}
use Rattle.apply.proofs.codes.TotalLaws.{clip-take, take-map}

module _ (text : List ℕ) (actions : List Action) (found : List ℕ) where
  -- one code more
  pub codes-more : (cur : List ℕ) (i v : ℕ) → i < length actions → v ≡ code_at text (get_or actions i no_action)
      → cur ≡ fitting found (codes_of text (take i actions)) → set cur i v ≡ fitting found (codes_of text (take (i + 1) actions))
  codes-more cur i v h is so =
      let new = codes_of text (take i actions) in
      let here : length new ≡ i = length-map (take i actions) (code_at text) ∙ length-take-le i actions (omega arith) in
      let longer : codes_of text (take (i + 1) actions) ≡ new ++ v ∷ []
      = rw (add-one, take-suc actions i no_action, is) (map-append (code_at text) (take i actions) (get_or actions i no_action ∷ []))
      in
      ap (λ (l : List ℕ). set l i v) so
      ∙ (ap (λ (k : ℕ). set (fitting found new) k v) (sym here)
      ∙ (fitting-more found new v ∙ ap (fitting found) (sym longer)))

  -- all that fit
  pub codes-front : (i : ℕ) → i ≡ min (length found) (length actions) → codes_of text (take i actions) ≡ take (length found) (codes_of text actions)
  codes-front i is =
      let all = codes_of text actions in
      let j : i ≡ min (length found) (length all) = is ∙ ap (min (length found)) (sym (length-map actions (code_at text))) in
      sym (take-map (code_at text) i actions) ∙ (ap (λ (k : ℕ). take k all) j ∙ clip-take (length found) all)

  pub codes_all : (i : ℕ) → i ≡ min (length found) (length actions)
      → fitting found (codes_of text (take i actions)) ≡ fitting found (codes_of text actions)
  codes_all i is =
      let all = codes_of text actions in
      let m = length found in
      ap (fitting found) (codes-front i is) ∙ ap (λ (l : List ℕ). l ++ drop (length l) found) (take-take m m all (omega arith))

-- the code of one action, by what the calls gave
module _ (text : List ℕ) (a b : Action) (is : b ≡ a) where
  pub code-none : (b.kind ≡ 19 → ⊥) → 0 ≡ code_at text a
  unfolding code_at
  code-none ne = let z = ne_eqb b.kind 19 ne in rw (← is, z)

  module _ (eq : b.kind ≡ 19) where
    pub code-ctl : {name value : List ℕ} {d : CtlDirective} {r : ℕ} → name ≡ part_of text b.text → value ≡ part_of text
        b.value
        → d ≡ without_lists value (directive_of name value)
        → r ≡ code_of d
        → r ≡ code_at text a
    unfolding code_at
    code-ctl {name} {value} {d} {r} ne ve de re =
        let z = eq-eqb b.kind 19 eq in
        rw (← is, z, ← ne, ← ve, ← de) re

-- whether one is, with one code more
pub seen_more : (text : List ℕ) (actions : List Action) (seen : Bool) (i v : ℕ) (r : Bool) → i < length actions → v ≡ code_at text (get_or actions i no_action)
    → r ≡ is_reason v → seen ≡ any is_reason (codes_of text (take i actions)) → (seen || r) ≡ any is_reason (codes_of text (take (i + 1) actions))
seen_more text actions seen i v r h is re so =
    let new = codes_of text (take i actions) in
    let longer : codes_of text (take (i + 1) actions) ≡ new ++ v ∷ []
    = rw (add-one, take-suc actions i no_action, is) (map-append (code_at text) (take i actions) (get_or actions i no_action ∷ [])) in
    ap (λ (x : Bool). seen || x) (re ∙ sym (or-false-is (is_reason v)))
    ∙ (ap (λ (x : Bool). x || (is_reason v || false)) so ∙ sym (ap (any is_reason) longer ∙ any_append is_reason new (v ∷ [])))

-- an action with the texts of another, whose code is known
again-kind : (text : List ℕ) (b : Action) (t : Bool) → eqb b.kind 19 ≡ t → (code_at text b ≡ 0 → ⊥) → code_at text b ≡ code_of (read_in text b)
unfolding code_at
again-kind text b true e n = rw e
again-kind text b false e n = absurd (n (rw e))

again-parts : (p q : Part) → eqb p.start q.start ≡ true → eqb p.len q.len ≡ true → p ≡ q
again-parts p q s l = λ i. record { start = eqb-true p.start q.start s i; len = eqb-true p.len q.len l i }

pub code-again : (text : List ℕ) (b a : Action) (code : ℕ) → IsCodeOf text b code → (not (eqb code 0) && same_texts b a) ≡ true → a.kind ≡ 19
    → code ≡ code_at text a
unfolding code_at
code-again text b a code is same kind =
    let p = and-true (not (eqb code 0)) (same_texts b a) same in
    let four = and-true (eqb b.text.start a.text.start && eqb b.text.len a.text.len && eqb b.value.start a.value.start) (eqb b.value.len a.value.len) p.1 in
    let three = and-true (eqb b.text.start a.text.start && eqb b.text.len a.text.len) (eqb b.value.start a.value.start) four.0 in
    let two = and-true (eqb b.text.start a.text.start) (eqb b.text.len a.text.len) three.0 in
    let names : b.text ≡ a.text = again-parts b.text a.text two.0 two.1 in
    let values : b.value ≡ a.value = again-parts b.value a.value three.1 four.1 in
    let some : code ≡ 0 → ⊥ = λ z. eqb-false code 0 (not-true (eqb code 0) p.0) z in
    let known : code ≡ code_at text b = is some in
    let yes = eq-eqb a.kind 19 kind in
    known
    ∙ (again-kind text b (eqb b.kind 19) refl (λ z. some (known ∙ z))
    ∙ (ap (λ (q : Part). code_of (without_lists (part_of text q) (directive_of (part_of text b.text) (part_of text q)))) values
    ∙ (ap (λ (q : Part). code_of (without_lists (part_of text a.value) (directive_of (part_of text q) (part_of text a.value)))) names
    ∙ rw yes)))
  where
    not-true : (t : Bool) → not t ≡ true → t ≡ false
    not-true true e = absurd (let z : ◌≡◌ {A = ℕ} 0 1 = cc in omega arith)
    not-true false e = refl

-- the last one read, after one more action: that action where it has a code, else the one before
pub last_more : (text : List ℕ) (actions : List Action) (l lc i code l' lc' : ℕ) → code ≡ code_at text (get_or actions i no_action)
    → ((l' ≡ i) × (lc' ≡ code)) ⊎ ((l' ≡ l) × (lc' ≡ lc)) → IsCodeOf text (get_or actions l no_action) lc → IsCodeOf text (get_or actions l' no_action) lc'
last_more text actions l lc i code l' lc' is (inl w) so = rw (w.0, w.1) (λ n. is)
last_more text actions l lc i code l' lc' is (inr w) so = rw (w.0, w.1) so
