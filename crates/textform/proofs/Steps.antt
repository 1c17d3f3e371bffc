-- A record more: the draft after it, and the file that holds it.
use mathlib.Core.Path.{◌≡◌, refl, sym, ap, ◌∙◌}
use mathlib.Core.List.{List, [], ◌∷◌, ◌++◌}
use Prim.Native.Nat.{ℕ, ◌+◌, ◌*◌, ◌/◌, ◌%◌, ◌≤◌, ◌<◌}
use native.Mathlib.Omega.{arith}
use borrow.Author.Tests.{le-ltb, lt-leb, ne_eqb}
use lib.ListN.{length, length-append}
use lib.Seq.{sets}
use mir.Syntax.{w16, w32}
use Rattle.std.specs.Prelude.{Option, Some}
use Rattle.std.specs.Option.{is_some}
use Rattle.std.specs.Int.{to_le_bytes}
use mathlib.Core.Bool.{false, true≢false}
use Rattle.drr.specs.declared.FlowRecord.{FlowRecord}
use Rattle.drr.specs.Limits.{most_flows, most_events}
use Rattle.runfile.specs.File.{Event, header_size}
use Rattle.text.proofs.Texts.{sets_two}
use Rattle.textform.specs.declared.progress.Progress.{Progress}
use Rattle.textform.specs.declared.Item.TheVariants.{OverheadOf, FlowOf, EventOf}
use Rattle.textform.specs.Made.{Draft, flow_of, event_of, with_overhead, with_flow, with_event, judged}
use Rattle.textform.specs.Made.{bytes2, bytes4, flow_bytes, event_bytes, record_bytes}
use Rattle.textform.specs.Needs.{zeros, said, Holds, Gone}
use Rattle.textform.proofs.Puts.{put_flow, put_event}

-- ---- little-endian
pub written2 : (n : ℕ) → n < 65536 → to_le_bytes w16 n ≡ bytes2 n
written2 n h =
    let e : n / 256 % 256 ≡ n / 256 = omega arith in
    ap (λ (b : ℕ). n % 256 ∷ b ∷ []) e

pub written4 : (n : ℕ) → n < 4294967296 → to_le_bytes w32 n ≡ bytes4 n
written4 n h =
    let e0 : n % 256 ≡ n % 65536 % 256 = omega arith in
    let e1 : n / 256 % 256 ≡ n % 65536 / 256 = omega arith in
    let e2 : n / 65536 % 256 ≡ n / 65536 % 256 = refl in
    let e3 : n / 16777216 % 256 ≡ n / 65536 / 256 = omega arith in
    (λ i. e0 i ∷ e1 i ∷ e2 i ∷ e3 i ∷ [])

-- bytes put behind others
pub then_put : (b u v m m' : List ℕ) (at k : ℕ) → k ≡ at + length u → m ≡ sets b at u → m' ≡ sets m k v → m' ≡ sets b at (u ++ v)
then_put b u v m m' at k e is is' =
    is' ∙ (λ i. sets (is i) (e i) v) ∙ sets_two b u v at

-- ---- the overhead
none_said : (os : List ℕ) → is_some (said os) ≡ false → os ≡ []
none_said [] e = refl
none_said (o ∷ os) e = absurd (true≢false e)

pub one_overhead : (c c' : Progress) (d : Draft) → Holds c d → (o : ℕ) → c.flows ≤ 0 → is_some c.overhead ≡ false → c'.overhead ≡ Some o →
    c'.file ≡ c.file → c'.flows ≡ c.flows → c'.events ≡ c.events → c'.last ≡ c.last → Gone c' (judged d (OverheadOf o))
one_overhead c c' d k o none first is file flows events last =
    let no_overhead : d.overheads ≡ [] = none_said d.overheads (ap (λ (x : Option ℕ). is_some x) (sym k.overhead_is) ∙ first) in
    record {
      next = with_overhead d o;
      goes_to = rw (
        le-ltb 0 (length d.flows) (omega (arith, none, k.flows_are)),
        le-ltb 0 (length d.overheads) (omega (arith, ap length no_overhead)),
      );
      next_held = record {
        overhead_is = is ∙ ap (λ (os : List ℕ). said (os ++ o ∷ [])) (sym no_overhead);
        flows_are = flows ∙ k.flows_are;
        events_are = events ∙ k.events_are;
        last_is = last ∙ k.last_is;
        file_is = file ∙ k.file_is;
      };
    }

module _ (c c' : Progress) (d : Draft) (k : Holds c d) (same_overhead : c'.overhead ≡ c.overhead) where
  -- ---- a flow
  pub one_flow : (q l : ℕ) → c.events ≤ 0 → c.flows < most_flows →
      c'.file ≡ sets c.file (header_size + 8 * c.flows) (flow_bytes (flow_of q l)) → c'.flows ≡ c.flows + 1 → c'.events ≡ c.events →
      c'.last ≡ c.last → Gone c' (judged d (FlowOf q l))
  one_flow q l none few is more same last = record {
    next = with_flow d q l;
    goes_to = rw (
      le-ltb 0 (length d.events) (omega (arith, none, k.events_are)),
      lt-leb most_flows (length d.flows) (omega (arith, few, k.flows_are)),
    );
    next_held = record {
      overhead_is = same_overhead ∙ k.overhead_is;
      flows_are = omega (arith, more, k.flows_are, length-append d.flows (flow_of q l ∷ []));
      events_are = same ∙ k.events_are;
      last_is = last ∙ k.last_is;
      file_is = is
          ∙ (λ i. sets c.file (header_size + 8 * k.flows_are i) (flow_bytes (flow_of q l)))
          ∙ by d.flows d.events k.file_is (omega (arith, none, k.events_are));
    };
  }
    where
      by : (xs : List FlowRecord) (es : List Event) → c.file ≡ sets zeros header_size (record_bytes xs es) → length es ≡ 0 →
          sets c.file (header_size + 8 * length xs) (flow_bytes (flow_of q l))
          ≡ sets zeros header_size (record_bytes (xs ++ flow_of q l ∷ []) es)
      by xs [] held e =
          ap (λ (y : List ℕ). sets y (header_size + 8 * length xs) (flow_bytes (flow_of q l))) held ∙ put_flow zeros xs (flow_of q l)
      by xs (x ∷ es) held e = absurd (omega arith)

  -- ---- an event
  pub one_event : (t f n : ℕ) → (c.flows ≡ 0 → ⊥) → c.events < most_events → c.last ≤ t →
      c'.file ≡ sets c.file (header_size + 8 * c.flows + 8 * c.events) (event_bytes (event_of t f n)) → c'.flows ≡ c.flows →
      c'.events ≡ c.events + 1 → c'.last ≡ t → Gone c' (judged d (EventOf t f n))
  one_event t f n some few later is same more last = record {
    next = with_event d t f n;
    goes_to = rw (
      ne_eqb (length d.flows) 0 (λ e. some (omega (arith, e, k.flows_are))),
      lt-leb most_events (length d.events) (omega (arith, few, k.events_are)),
      le-ltb t d.last (omega (arith, later, k.last_is)),
    );
    next_held = record {
      overhead_is = same_overhead ∙ k.overhead_is;
      flows_are = same ∙ k.flows_are;
      events_are = omega (arith, more, k.events_are, length-append d.events (event_of t f n ∷ []));
      last_is = last;
      file_is = is
          ∙ (λ i. sets (k.file_is i) (header_size + 8 * k.flows_are i + 8 * k.events_are i) (event_bytes (event_of t f n)))
          ∙ put_event zeros d.flows d.events (event_of t f n);
    };
  }
