-- The draft that a text makes: its flows and events are such as a reader of the file accepts, and the file is read back as they are.
use mathlib.Core.Path.{◌≡◌, refl, sym, ap, ◌∙◌, subst}
use mathlib.Core.Bool.{◌&&◌}
use mathlib.Core.List.{List, [], ◌∷◌, ◌++◌}
use Prim.Native.Nat.{ℕ, zero, suc, ◌+◌, ◌*◌, ◌≤◌, ◌<◌}
use native.Mathlib.Omega.{arith}
use borrow.Author.Tests.{ltb-false, leb-true, leb-false, eqb-false, le-ltb}
use lib.Dec.{ltb, leb, eqb}
use lib.ListN.{length, take, length-append}
use lib.Seq.{take_at}
use Rattle.drr.specs.declared.FlowRecord.{FlowRecord}
use Rattle.drr.specs.Limits.{most_flows, most_overhead, most_events, least_quantum, most_quantum, least_maximum, most_maximum}
use Rattle.drr.specs.Answers.{fine}
use Rattle.drr.specs.Setup.{terms_of, table_for, flows_answer}
use Rattle.drr.proofs.Bools.{by_test, within_of, and_left, and_right}
use Rattle.drr.proofs.Tables.{InRange}
use Rattle.runfile.specs.File.{Event, events_from, overhead_in, flows_in, events_in, ticks_answer, Sorted, file_answer, file_table}
use Rattle.runfile.specs.Listing.{ticks_of, last_of}
use Rattle.text.specs.Text.{same, word_of, overlaid}
use Rattle.textform.specs.declared.Want.{Want}
use Rattle.textform.specs.declared.Want.TheVariants as want
use Rattle.textform.specs.declared.Item.{Item}
use Rattle.textform.specs.declared.Item.TheVariants.{Nothing, OverheadOf, FlowOf, EventOf}
use Rattle.std.specs.Prelude.{Option, Some, None, Result, Ok, Err}
use Rattle.textform.specs.Grammar.{lines_of, uncommented, words_of, first, others, overhead_word, flow_word, event_word}
use Rattle.textform.specs.Grammar.{in_range, field, given, nothing_more, most_of4, most_of2}
use Rattle.textform.specs.Grammar.{overhead_item, flow_item, event_item, item_in, item_of}
use Rattle.textform.specs.Made.{Draft, no_records, overhead_said, Step, goes, stops, with_overhead, with_flow, with_event, judged}
use Rattle.textform.specs.Made.{judged_line}
use Rattle.textform.specs.Made.{Outcome, made, fault, and_then, drafted, most_text, outcome_of}
use Rattle.textform.specs.Made.{file_of, bytes_in, made_bytes, making_in}
use Rattle.textform.specs.Made.{making_of, most_made}
use Rattle.textform.specs.Shown.{Bytes, FlowsThenEvents}
use Rattle.textform.proofs.Bytes.{file_size, low2, low4}
use Rattle.textform.proofs.Files.{no_gaps, header_read, overhead_back, flows_back, events_back}

-- ---- what a line can say: numbers in their ranges
-- an event whose numbers its bytes hold
pub record InFields (e : Event) : Type 0 where
  pub tick : e.tick ≤ most_of4
  pub flow : e.flow ≤ most_of2
  pub size : e.length ≤ most_of2

abbrev pub Says : Item → Type 0
Says Nothing = Unit {0}
Says (OverheadOf o) = o ≤ most_overhead
Says (FlowOf q l) = InRange (record { quantum = q; maximum = l })
Says (EventOf t f n) = InFields (record { tick = t; flow = f; length = n })

-- .. if it says something, and not what was expected
abbrev pub LineSays : Result Item Want → Type 0
LineSays (Ok item) = Says item
LineSays (Err w) = Unit {0}

abbrev In : ℕ → ℕ → Option ℕ → Type 0
In least most (Some n) = (least ≤ n) × (n ≤ most)
In least most None = Unit {0}

in_range_lem : (least most : ℕ) (w : Option ℕ) → In least most (in_range least most w)
in_range_lem least most (Some n) =
    by_test (In least most) (leb least n && leb n most)
    (λ e. (leb-true least n (and_left (leb least n) (leb n most) e), leb-true n most (and_right (leb least n) (leb n most) e)))
    (λ _. tt)
in_range_lem least most None = tt

given_says : (least most : ℕ) (w : Option ℕ) (x : Want) (then : ℕ → Result Item Want) → In least most w →
    ((n : ℕ) → least ≤ n → n ≤ most → LineSays (then n)) → LineSays (given w x then)
given_says least most (Some n) x then h on = on n h.0 h.1
given_says least most None x then h on = tt

field_says : (least most : ℕ) (w : List ℕ) (x : Want) (then : ℕ → Result Item Want) →
    ((n : ℕ) → least ≤ n → n ≤ most → LineSays (then n)) → LineSays (given (field least most w) x then)
field_says least most w x then on = given_says least most (field least most w) x then (in_range_lem least most (word_of w)) on

end_says : (w : List ℕ) (item : Item) → Says item → LineSays (nothing_more w item)
end_says [] item h = h
end_says (b ∷ bs) item h = tt

overhead_says : (ws : List (List ℕ)) → LineSays (overhead_item ws)
overhead_says ws =
    field_says 0 most_overhead (first ws) want.Overhead _ (λ o _ o1.
    end_says (first (others ws)) (OverheadOf o) o1)

flow_says : (ws : List (List ℕ)) → LineSays (flow_item ws)
flow_says ws =
    field_says least_quantum most_quantum (first ws) want.Quantum _ (λ q q0 q1.
    field_says least_maximum most_maximum (first (others ws)) want.Maximum _ (λ l l0 l1.
    end_says (first (others (others ws))) (FlowOf q l) (record { quantum = (q0, q1); maximum = (l0, l1) })))

event_says : (ws : List (List ℕ)) → LineSays (event_item ws)
event_says ws =
    field_says 0 most_of4 (first ws) want.Tick _ (λ t _ t1.
    field_says 0 most_of2 (first (others ws)) want.Flow _ (λ f _ f1.
    field_says 0 most_of2 (first (others (others ws))) want.Length _ (λ n _ n1.
    end_says (first (others (others (others ws)))) (EventOf t f n) (record { tick = t1; flow = f1; size = n1 }))))

words_say : (ws : List (List ℕ)) → LineSays (item_in ws)
words_say [] = tt
words_say (w ∷ ws) =
    by_test LineSays (same w overhead_word) (λ _. overhead_says ws) (λ _.
    by_test LineSays (same w flow_word) (λ _. flow_says ws) (λ _.
    by_test LineSays (same w event_word) (λ _. event_says ws) (λ _. tt)))

pub line_says : (line : List ℕ) → LineSays (item_of line)
unfolding item_of
line_says line = words_say (words_of (uncommented line))

-- ---- of every element of a list
abbrev pub All : {A : Type 0} → (A → Type 0) → List A → Type 0
All P [] = Unit {0}
All P (x ∷ xs) = P x × All P xs

all_more : {A : Type 0} (P : A → Type 0) (xs : List A) (x : A) → All P xs → P x → All P (xs ++ x ∷ [])
all_more P [] x h p = (p, tt)
all_more P (y ∷ xs) x h p = (h.0, all_more P xs x h.1 p)

-- of every event that is read from bytes
pub read_fields : (t : List ℕ) → Bytes t → (i k : ℕ) → All InFields (events_from t i k)
read_fields t low i zero = tt
read_fields t low i (suc k) = (
  record {
    tick = omega (arith, low4 t low (8 * i));
    flow = omega (arith, low2 t low (8 * i + 4));
    size = omega (arith, low2 t low (8 * i + 6));
  },
  read_fields t low (i + 1) k,
)

-- ---- flows in range are accepted; so are ticks that never fall
pub flows_fine : (f : ℕ) (xs : List FlowRecord) → All InRange xs → flows_answer f xs ≡ fine
flows_fine f [] h = refl
flows_fine f (x ∷ xs) h =
    let q = h.0.quantum in
    let l = h.0.maximum in
    rw (
      within_of least_quantum most_quantum x.quantum q.0 q.1,
      within_of least_maximum most_maximum x.maximum l.0 l.1,
    ) (flows_fine (f + 1) xs h.1)

pub ticks_fine : (i low : ℕ) (es : List Event) → Sorted low es → ticks_answer i low es ≡ fine
ticks_fine i low [] h = refl
ticks_fine i low (e ∷ es) h = rw (le-ltb e.tick low h.0) (ticks_fine (i + 1) e.tick es h.1)

-- an event more, at or after the last tick
sorted_more : (low : ℕ) (es : List Event) (e : Event) → Sorted low es → last_of low (ticks_of es) ≤ e.tick → Sorted low (es ++ e ∷ [])
sorted_more low [] e h l = (l, tt)
sorted_more low (x ∷ es) e h l = (h.0, sorted_more x.tick es e h.1 l)

last_more : (low : ℕ) (es : List Event) (e : Event) → last_of low (ticks_of (es ++ e ∷ [])) ≡ e.tick
last_more low [] e = refl
last_more low (x ∷ es) e = last_more x.tick es e

-- ---- a draft, line by line
pub record Good (d : Draft) : Type 0 where
  pub overheads_few : length d.overheads ≤ 1
  pub overheads_in : All (λ o. o ≤ most_overhead) d.overheads
  pub flows_few : length d.flows ≤ most_flows
  pub flows_in_lem : All InRange d.flows
  pub events_few : length d.events ≤ most_events
  pub events_in_lem : All InFields d.events
  pub sorted : Sorted 0 d.events
  pub last_is : d.last ≡ last_of 0 (ticks_of d.events)

pub start_good : Good no_records
start_good = record {
  overheads_few = omega arith;
  overheads_in = tt;
  flows_few = omega arith;
  flows_in_lem = tt;
  events_few = omega arith;
  events_in_lem = tt;
  sorted = tt;
  last_is = refl;
}

one_longer : {A : Type 0} (xs : List A) (x : A) (most : ℕ) → length xs < most → length (xs ++ x ∷ []) ≤ most
one_longer xs x most h = omega (arith, length-append xs (x ∷ []))

overhead_good : (d : Draft) (o : ℕ) → Good d → length d.overheads ≤ 0 → o ≤ most_overhead → Good (with_overhead d o)
overhead_good d o g none h =
    record {
      overheads_few = one_longer d.overheads o 1 (omega (arith, none));
      overheads_in = all_more (λ k. k ≤ most_overhead) d.overheads o g.overheads_in h;
      flows_few = g.flows_few;
      flows_in_lem = g.flows_in_lem;
      events_few = g.events_few;
      events_in_lem = g.events_in_lem;
      sorted = g.sorted;
      last_is = g.last_is;
    }

flow_good : (d : Draft) (q l : ℕ) → Good d → length d.flows < most_flows →
    InRange (record { quantum = q; maximum = l }) → Good (with_flow d q l)
flow_good d q l g few h =
    let x : FlowRecord = record { quantum = q; maximum = l } in
    record {
      overheads_few = g.overheads_few;
      overheads_in = g.overheads_in;
      flows_few = one_longer d.flows x most_flows few;
      flows_in_lem = all_more InRange d.flows x g.flows_in_lem h;
      events_few = g.events_few;
      events_in_lem = g.events_in_lem;
      sorted = g.sorted;
      last_is = g.last_is;
    }

event_good : (d : Draft) (t f n : ℕ) → Good d → length d.events < most_events → d.last ≤ t →
    InFields (record { tick = t; flow = f; length = n }) → Good (with_event d t f n)
event_good d t f n g few later h =
    let e : Event = record { tick = t; flow = f; length = n } in
    record {
      overheads_few = g.overheads_few;
      overheads_in = g.overheads_in;
      flows_few = g.flows_few;
      flows_in_lem = g.flows_in_lem;
      events_few = one_longer d.events e most_events few;
      events_in_lem = all_more InFields d.events e g.events_in_lem h;
      sorted = sorted_more 0 d.events e g.sorted (omega (arith, g.last_is));
      last_is = sym (last_more 0 d.events e);
    }

abbrev pub GoodStep : Step → Type 0
GoodStep (goes d) = Good d
GoodStep (stops w) = Unit {0}

pub judged_good : (d : Draft) (item : Item) → Good d → Says item → GoodStep (judged d item)
judged_good d Nothing g h = g
judged_good d (OverheadOf o) g h =
    by_test GoodStep (ltb 0 (length d.flows)) (λ _. tt) (λ _.
    by_test GoodStep (ltb 0 (length d.overheads)) (λ _. tt) (λ none.
    overhead_good d o g (ltb-false 0 (length d.overheads) none) h))
judged_good d (FlowOf q l) g h =
    by_test GoodStep (ltb 0 (length d.events)) (λ _. tt) (λ _.
    by_test GoodStep (leb most_flows (length d.flows)) (λ _. tt) (λ few.
    flow_good d q l g (leb-false most_flows (length d.flows) few) h))
judged_good d (EventOf t f n) g h =
    by_test GoodStep (eqb (length d.flows) 0) (λ _. tt) (λ _.
    by_test GoodStep (leb most_events (length d.events)) (λ _. tt) (λ few.
    by_test GoodStep (ltb t d.last) (λ _. tt) (λ later.
    event_good d t f n g (leb-false most_events (length d.events) few) (ltb-false t d.last later) h)))

line_good : (d : Draft) (said : Result Item Want) → Good d → LineSays said → GoodStep (judged_line d said)
line_good d (Ok item) g h = judged_good d item g h
line_good d (Err w) g h = tt

-- ---- the draft of a text, which has a flow
abbrev pub GoodEnd : Outcome → Type 0
GoodEnd (made d) = Good d × (1 ≤ length d.flows)
GoodEnd (fault i w) = Unit {0}

then_good : (s : Step) (then : Draft → Outcome) (otherwise : Want → Outcome) → GoodStep s →
    ((d : Draft) → Good d → GoodEnd (then d)) → ((w : Want) → GoodEnd (otherwise w)) → GoodEnd (and_then s then otherwise)
then_good (goes d) then otherwise g on off = on d g
then_good (stops w) then otherwise g on off = off w

drafted_good : (i : ℕ) (d : Draft) (ls : List (List ℕ)) → Good d → GoodEnd (drafted i d ls)
drafted_good i d [] g =
    by_test GoodEnd (eqb (length d.flows) 0) (λ _. tt) (λ some. (g, omega (arith, eqb-false (length d.flows) 0 some)))
drafted_good i d (l ∷ ls) g =
    then_good (judged_line d (item_of l)) (λ next. drafted (i + 1) next ls) (λ w. fault (i + 1) w) (line_good d (item_of l) g (line_says l))
    (λ next h. drafted_good (i + 1) next ls h) (λ _. tt)

pub outcome_good : (text : List ℕ) → GoodEnd (outcome_of text)
unfolding outcome_of
outcome_good text =
    by_test GoodEnd (ltb most_text (length text)) (λ _. tt) (λ _. drafted_good 0 no_records (lines_of text) start_good)

pub made_good : (text : List ℕ) (d : Draft) → outcome_of text ≡ made d → Good d × (1 ≤ length d.flows)
made_good text d e = subst GoodEnd e (outcome_good text)

-- ---- the file of a good draft
said_most : (os : List ℕ) → All (λ o. o ≤ most_overhead) os → overhead_said os ≤ most_overhead
said_most [] h = omega arith
said_most (o ∷ os) h = h.0

module _ (d : Draft) (g : Good d) where
  abbrev overhead : ℕ
  overhead = overhead_said d.overheads

  abbrev file : List ℕ
  file = file_of overhead d.flows d.events

  pub overhead_most : overhead ≤ most_overhead
  overhead_most = said_most d.overheads g.overheads_in

  file_most : length file ≤ most_made
  file_most = omega (arith, file_size overhead d.flows d.events, g.flows_few, g.events_few)

  module _ (some : 1 ≤ length d.flows) where
    file_fine : file_answer file ≡ fine
    unfolding file_answer
    file_fine = rw (
      header_read overhead d.flows d.events overhead_most some g.flows_few g.events_few,
      flows_back overhead d.flows d.events,
      events_back overhead d.flows d.events,
      flows_fine 0 d.flows g.flows_in_lem,
      ticks_fine 0 0 d.events g.sorted,
    )

    file_table_lem : file_table file ≡ table_for d.flows (terms_of overhead)
    unfolding file_table
    file_table_lem =
        rw file_fine
        (λ i. table_for (flows_back overhead d.flows d.events i) (terms_of (overhead_back overhead d.flows d.events i)))

-- ---- the file that a text makes
module _ (text : List ℕ) where
  -- "what is written is read back as the same table and events", the overhead with the table
  module _ (d : Draft) (e : outcome_of text ≡ made d) where
    made_is : made_bytes text ≡ file_of (overhead_said d.overheads) d.flows d.events
    unfolding made_bytes
    made_is = ap bytes_in e

    pub made_reads : (file_answer (made_bytes text) ≡ fine) × (overhead_in (made_bytes text) ≡ overhead_said d.overheads)
        × (flows_in (made_bytes text) ≡ d.flows) × (events_in (made_bytes text) ≡ d.events)
    made_reads =
        let g = made_good text d e in
        let o = overhead_said d.overheads in (
          ap file_answer made_is ∙ file_fine d g.0 g.1,
          ap overhead_in made_is ∙ overhead_back o d.flows d.events,
          ap flows_in made_is ∙ flows_back o d.flows d.events,
          ap events_in made_is ∙ events_back o d.flows d.events,
        )

    pub made_table : file_table (made_bytes text) ≡ table_for d.flows (terms_of (overhead_said d.overheads))
    made_table = let g = made_good text d e in ap file_table made_is ∙ file_table_lem d g.0 g.1

    pub made_no_gaps : FlowsThenEvents (made_bytes text)
    made_no_gaps = rw made_is (no_gaps (overhead_said d.overheads) d.flows d.events)

  pub made_most : length (made_bytes text) ≤ most_made
  unfolding made_bytes
  made_most = by (outcome_of text) (outcome_good text)
    where
      by : (o : Outcome) → GoodEnd o → length (bytes_in o) ≤ most_made
      by (made d) g = file_most d g.0
      by (fault i w) g = omega arith

  -- where the answer is a file of n bytes, there is a draft, and the file has so many
  module _ (n : ℕ) (e : making_of text ≡ Ok n) where
    pub made_size : length (made_bytes text) ≡ n
    unfolding made_bytes making_of
    made_size = by (outcome_of text) e
      where
        by : (o : Outcome) → making_in o ≡ Ok n → length (bytes_in o) ≡ n
        by (made d) is = file_size (overhead_said d.overheads) d.flows d.events ∙ cc
        by (fault i w) is = cc

    -- the first n bytes of a buffer that has the file at its start are the file
    pub made_taken : (z : List ℕ) → take n (overlaid (made_bytes text) z) ≡ made_bytes text
    made_taken z = take_at (made_bytes text) _ n made_size
