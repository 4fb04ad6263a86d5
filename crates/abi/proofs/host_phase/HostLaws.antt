-- A call on a host's record: refused, without a visit, and with one. Assumes nothing.
use Prim.Native.Nat.{ℕ, ◌+◌, ◌*◌, ◌/◌}
use mathlib.Core.Path.{◌≡◌, refl, sym, ap, subst, ◌∙◌}
use mathlib.Core.Bool.{Bool, true, false, cond, ◌||◌}
use mathlib.Core.List.{List, [], ◌∷◌}
use native.Mathlib.Omega.{arith}
use lib.ListN.{length}
use lib.Dec.{ltb, eqb}
use lib.Seq.{length-take-le}
use borrow.Author.Tests.{eq-eqb, ne_eqb, lt-ltb, ltb-true}
use Rattle.reading.specs.declared.CallSettings.{CallSettings}
use Rattle.reading.specs.declared.Marker.{Marker}
use Rattle.reading.specs.Records.{marker_list, given_of, LentLists}
use Rattle.reading.specs.Call.{Given, Call, rule_count}
use Rattle.reading.specs.Call as reading
use Rattle.reading.specs.Refusals.{refused1, refused2, refused3, refused4}
use Rattle.reading.specs.Outcome.{Outcome, visits_of, outcome_of, transaction_after}
use Rattle.lists.proofs.RecordLaws.{length-markers}
use Rattle.lists.proofs.Tests.{or-false-is}
use Rattle.control.specs.ControlsStruct.{Became}
use Rattle.control.proofs.state.HeldLaws.{true-false}
use Rattle.apply.specs.AddedRanges.{adds_ranges}
use Rattle.control.proofs.Determined.{SameSizes, determined}
use Rattle.refusals.specs.declared.first.Counts.{Counts}
use Rattle.refusals.specs.declared.first.Sizes.{Sizes}
use Rattle.refusals.specs.FirstRefusal.{Counted, first_of_four}
use Rattle.refusals.proofs.first.LentLaws.{counted}
use Rattle.abi.specs.declared.marker_words.MarkerWords.{MarkerWords}
use Rattle.abi.specs.MarkerWords.{marker_words_of}
use Rattle.abi.proofs.marker_words.Padded.{words-length}
use Rattle.transaction.specs.declared.types.Answer.{Answer}
use Rattle.transaction.specs.declared.types.Phase.{Phase}
use Rattle.transaction.specs.declared.types.Transaction.{Transaction}
use Rattle.transaction.specs.RunPhase.{transaction_of, call_of, answer_without, Ran}
use Rattle.transaction.proofs.Tested.{sized-so}
use Rattle.abi.specs.HostControls.{controls_from_host}
use Rattle.abi.specs.declared.host_phase.HostTransaction.{HostTransaction}
use Rattle.abi.specs.HostRecord.{known, from_host, to_host}
use Rattle.abi.specs.HostCall.{lent_words, lent_part, phase_found, unknown_answer, sizes_of, HostRan}
use Rattle.abi.proofs.host_phase.LentMarkers.{few_words, ran-lent}
use Rattle.abi.proofs.host_phase.RoundTrip.{with_intervention, back, forth}

-- a test that is true is not false
abbrev Holds : Bool → Type 0
Holds true = Unit {0}
Holds false = ⊥

not-both : (b : Bool) → b ≡ true → b ≡ false → ⊥
not-both b p q = subst Holds (sym p ∙ q) tt

-- A RECORD WITH A NUMBER THAT IS NOT KNOWN

one-or-five : (one two three four : Bool) (n : ℕ) → cond one 1 (cond two 2 (cond three 3 (cond four 4 0))) ≡ n
    → cond (eqb n 0) 5 n ≡ cond one 1 (cond two 2 (cond three 3 (cond four 4 5)))
one-or-five true two three four n e = rw (← e)
one-or-five false true three four n e = rw (← e)
one-or-five false false true four n e = rw (← e)
one-or-five false false false true n e = rw (← e)
one-or-five false false false false n e = rw (← e)

module _ (q : Call) where
  with-five : cond (eqb (first_of_four q) 0) 5 (first_of_four q) ≡ unknown_answer q
  unfolding first_of_four unknown_answer
  with-five = one-or-five (refused1 q) (refused2 q) (refused3 q) (refused4 q) (first_of_four q) refl

  pub none_of_four : first_of_four q ≡ 0 → 5 ≡ unknown_answer q
  none_of_four z = sym (ap (λ (b : Bool). cond b 5 (first_of_four q)) (eq-eqb (first_of_four q) 0 z)) ∙ with-five

  pub one-of-four : (first_of_four q ≡ 0 → ⊥) → first_of_four q ≡ unknown_answer q
  one-of-four h = sym (ap (λ (b : Bool). cond b 5 (first_of_four q)) (ne_eqb (first_of_four q) 0 h)) ∙ with-five

-- what is lent, with a record for the transaction
module _ (call : CallSettings) (rules actions words text outcomes : List ℕ) (h : HostTransaction) (l : LentLists) where
  abbrev given : Given
  given = given_of call rules actions (marker_list words) text outcomes

  abbrev lent_call : Call
  lent_call = call_of given (from_host h) l

  abbrev counts : Counts
  counts = record {
    rules = length rules / 5;
    actions = length actions / 6;
    markers = length words / 3;
    bytes = length text;
    outcomes = length outcomes;
  }

  abbrev sizes_in : Sizes
  sizes_in = sizes_of h (length l.ids) (length l.entries)

  lent-counted : Counted lent_call call counts sizes_in
  unfolding from_host controls_from_host
  lent-counted =
      counted (record { call = call; rules = rules; actions = actions; markers = words; text = text; outcomes = outcomes; t = lent_call.transaction; lists = lent_call.lists })
      (sized-so (record { call = call; rules = rules; actions = actions; markers = words; text = text; outcomes = outcomes; t = from_host h; lists = l }))

  -- k is what `unknown_answer` gave
  pub ran-unknown : (k : ℕ) (made : Counts) (sizes : Sizes) → made ≡ counts → sizes ≡ sizes_in → known h ≡ false
      → ((q : Call) → Counted q call made sizes → k ≡ unknown_answer q) → HostRan h given l (answer_without k) h l
  ran-unknown k made sizes same are unknown answers =
      let e : k ≡ unknown_answer lent_call =
      answers lent_call
      (subst (λ (y : Counts). Counted lent_call call y sizes) (sym same)
      (subst (λ (z : Sizes). Counted lent_call call counts z) (sym are) lent-counted)) in
      record {
        ran = λ y. absurd (not-both (known h) y unknown);
        record_is = λ y. absurd (not-both (known h) y unknown);
        refused = λ _. record { answer = ap answer_without e; transaction = refl; lists = refl };
      }

-- THE MARKERS THAT ARE LENT ON

-- as many markers are lent as their numbers make
markers-lent : (m : MarkerWords) → length m.words ≡ 771 → length (marker_list (lent_part m)) ≡ lent_words m.count / 3
markers-lent m full =
    length-markers (lent_part m)
    ∙ ap (λ (n : ℕ). n / 3) (length-take-le (lent_words m.count) m.words (omega (arith, full, few_words m.count)))

-- the markers that are read are too many for a call exactly where all of them are
many-lent : (m : MarkerWords) → length m.words ≡ 771 → ltb 256 (length (marker_list (lent_part m))) ≡ ltb 256 m.count
many-lent m full = by (ltb 257 m.count) refl
  where
    by : (b : Bool) → ltb 257 m.count ≡ b → ltb 256 (length (marker_list (lent_part m))) ≡ ltb 256 m.count
    by true o =
        let n : lent_words m.count ≡ 771 = ap (λ (b : Bool). cond b 771 (3 * m.count)) o in
        lt-ltb 256 (length (marker_list (lent_part m))) (omega (arith, markers-lent m full, n))
        ∙ sym (lt-ltb 256 m.count (omega (arith, ltb-true 257 m.count o)))
    by false o =
        let n : lent_words m.count ≡ 3 * m.count = ap (λ (b : Bool). cond b 771 (3 * m.count)) o in
        let same : length (marker_list (lent_part m)) ≡ m.count = omega (arith, markers-lent m full, n) in
        ap (ltb 256) same

-- what the call on the first numbers of unpacked markers leaves of a record, the call on the marker records leaves
module _ (call : CallSettings) (rules actions : List ℕ) (ms : List Marker) (text outcomes : List ℕ) (h : HostTransaction) (l : LentLists) where
  abbrev given_with : List Marker → Given
  given_with markers = given_of call rules actions markers text outcomes

  abbrev call_with : List Marker → Call
  call_with markers = call_of (given_with markers) (from_host h) l

  abbrev first_markers : List Marker
  first_markers = marker_list (lent_part (marker_words_of ms))

  -- the answer, by whether there are too many markers
  answer-by : Bool → ℕ
  answer-by many =
      cond (refused1 (call_with ms)) 1
      (cond (ltb 512 (rule_count (given_with ms)) || ltb 4096 (length (given_with ms).actions) || many || ltb 65536 (length text)) 2
      (cond (refused3 (call_with ms)) 3
      (cond (refused4 (call_with ms)) 4 5)))

  same_answer : unknown_answer (call_with first_markers) ≡ unknown_answer (call_with ms)
  unfolding unknown_answer refused1 refused2 refused3 refused4 answer-by
  same_answer = ap answer-by (many-lent (marker_words_of ms) (words-length ms))

  pub host-lent : (a : Answer) (h' : HostTransaction) (l' : LentLists)
      → HostRan h (given_with first_markers) l a h' l' → HostRan h (given_with ms) l a h' l'
  host-lent a h' l' r = record {
    ran = λ k. ran-lent call rules actions text outcomes (from_host h) l (phase_found a h') l' ms (lent_part (marker_words_of ms)) refl (r.ran k);
    record_is = r.record_is;
    refused = λ k. record {
      answer = (r.refused k).answer ∙ ap answer_without same_answer;
      transaction = (r.refused k).transaction;
      lists = (r.refused k).lists;
    };
  }

-- A CALL THAT WAS MADE

-- a call without a visit leaves the transaction
no-entries : {A : Type 0} (l : List A) → length l ≡ 0 → l ≡ []
no-entries [] e = refl
no-entries (x ∷ l) e = absurd (omega (arith, e))

plus_none : (n : ℕ) → n + 0 ≡ n
plus_none n = omega arith

kept-transaction : (p : Call) → (outcome_of p).visits ≡ 0 → p.transaction ≡ (outcome_of p).transaction
unfolding outcome_of
kept-transaction p e =
    (λ i. record {
      controls = p.transaction.controls;
      allowed = sym (or-false-is p.transaction.allowed) i;
      intervention = p.transaction.intervention;
      ids = sym (plus_none p.transaction.ids) i;
      data-entries = sym (plus_none p.transaction.data-entries) i;
    })
    ∙ ap (transaction_after p.given p.transaction) (sym (no-entries (visits_of p) e))

-- the transaction after a call without a visit is the one before it
unmoved : (g : Given) (t : Transaction) (l : LentLists) (r : Phase) (l' : LentLists) → SameSizes r.transaction.controls t.controls
    → Ran g t l r l' → r.answer.visits ≡ 0 → r.transaction ≡ t
unfolding outcome_of
unmoved g t l r l' sizes ran none =
    let p = call_of g t l in
    let same : transaction_of t ≡ (outcome_of p).transaction
    = kept-transaction p (ap (λ (o : Outcome). o.visits) (sym ran.outcome) ∙ none) in
    let found : transaction_of r.transaction ≡ transaction_of t = ap (λ (o : Outcome). o.transaction) ran.outcome ∙ sym same in
    let none-visited : visits_of p ≡ [] = no-entries (visits_of p) (ap (λ (o : Outcome). o.visits) (sym ran.outcome) ∙ none) in
    let adds : Bool = adds_ranges g (visits_of p) in
    let stays : Became adds t.controls t.controls (outcome_of p).transaction.controls = record {
      meaning = ap (λ (x : reading.Transaction). x.controls) same;
      kept = λ z. record { count = refl; starts = refl; ends = refl };
      cleared = λ z. absurd (true-false (sym z ∙ ap (adds_ranges g) none-visited));
      phases = refl;
      positions = refl;
    } in
    let controls = determined adds t.controls r.transaction.controls t.controls (outcome_of p).transaction.controls sizes ran.controls stays in
    λ i. record {
      controls = controls i;
      allowed = (found i).allowed;
      intervention = (found i).intervention;
      ids = (found i).ids;
      entries = (found i).data-entries;
    }

-- r is what the phase call gave of the transaction t that the record stands for
module _ (g : Given) (h : HostTransaction) (t : Transaction) (is : t ≡ from_host h) (l : LentLists) (r : Phase) (l' : LentLists) (k : known h ≡ true)
    (sizes : SameSizes r.transaction.controls (controls_from_host h.controls)) (ran : Ran g t l r l') where
  abbrev Found : HostTransaction → Type 0
  Found h' = HostRan h g l r.answer h' l'

  here : Ran g (from_host h) l r l'
  here = subst (λ (x : Transaction). Ran g x l r l') is ran

  -- of a record that stands for what was found
  standing : (h' : HostTransaction) → r.transaction ≡ from_host h'
      → h' ≡ cond (eqb r.answer.visits 0) h (to_host (from_host h')) → Found h'
  standing h' from numbers = record {
    ran = λ _. subst (λ (x : Transaction). Ran g (from_host h) l (record { answer = r.answer; transaction = x }) l') from here;
    record_is = λ _. numbers;
    refused = λ y. absurd (not-both (known h) k y);
  }

  same-sizes : SameSizes r.transaction.controls (from_host h).controls
  unfolding from_host
  same-sizes = sizes

  -- without a visit the intervention is put back, and then the record is as lent
  pub unvisited : r.answer.visits ≡ 0 → (x : HostTransaction) → x ≡ to_host r.transaction → Found (with_intervention x h.intervention)
  unvisited z x wrote =
      let still : r.transaction ≡ from_host h = unmoved g (from_host h) l r l' same-sizes here z in
      let same_as_lent : with_intervention x h.intervention ≡ h =
      ap (λ (y : HostTransaction). with_intervention y h.intervention) (wrote ∙ ap to_host still) ∙ forth h k in
      subst Found (sym same_as_lent) (standing h still (sym (ap (λ (b : Bool). cond b h (to_host (from_host h))) (eq-eqb r.answer.visits 0 z))))

  pub visited : (r.answer.visits ≡ 0 → ⊥) → (x : HostTransaction) → x ≡ to_host r.transaction → Found x
  visited z x wrote =
      let from : r.transaction ≡ from_host x = sym (back r.transaction) ∙ ap from_host (sym wrote) in
      standing x from
      (wrote ∙ (ap to_host from ∙ sym (ap (λ (b : Bool). cond b h (to_host (from_host x))) (ne_eqb r.answer.visits 0 z))))
