-- Numbers and records as bytes, and read back from them.
use mathlib.Core.Path.{◌≡◌, refl, sym, ap, ◌∙◌}
use mathlib.Core.List.{List, [], ◌∷◌, ◌++◌, append_assoc}
use Prim.Native.Nat.{ℕ, zero, suc, ◌+◌, ◌*◌, ◌/◌, ◌%◌, ◌≤◌, ◌<◌}
use native.Mathlib.Nat.{add-zero}
use native.Mathlib.Numerals.{add-one}
use native.Mathlib.Omega.{arith}
use lib.ListN.{length, get_or, drop, length-append}
use lib.Seq.{drop-cons, drop-drop, get_or-drop}
use Rattle.drr.specs.declared.FlowRecord.{FlowRecord}
use Rattle.runfile.specs.File.{Event, le2, le4, header_size, flows_from, event_at, events_from}
use Rattle.textform.specs.Made.{bytes2, bytes4, flow_bytes, event_bytes, each, header_bytes, record_bytes, file_of}
use Rattle.textform.specs.Shown.{Bytes}

-- ---- how many bytes there are
pub flows_size : (xs : List FlowRecord) → length (each flow_bytes xs) ≡ 8 * length xs
flows_size [] = refl
flows_size (x ∷ xs) = omega (arith, flows_size xs)

pub events_size : (es : List Event) → length (each event_bytes es) ≡ 8 * length es
events_size [] = refl
events_size (e ∷ es) = omega (arith, events_size es)

pub records_size : (xs : List FlowRecord) (es : List Event) → length (record_bytes xs es) ≡ 8 * (length xs + length es)
records_size xs es =
    omega (arith, length-append (each flow_bytes xs) (each event_bytes es), flows_size xs, events_size es)

pub file_size : (o : ℕ) (xs : List FlowRecord) (es : List Event) → length (file_of o xs es) ≡ header_size + 8 * length xs + 8 * length es
unfolding file_of
file_size o xs es =
    omega (arith, length-append (header_bytes (length xs) (length es) o) (record_bytes xs es), records_size xs es)

-- ---- reading at i is reading at the start of what follows i
pub le2_drop : (b : List ℕ) (i j : ℕ) → le2 (drop i b) j ≡ le2 b (i + j)
le2_drop b i j =
    let e : i + (j + 1) ≡ i + j + 1 = omega arith in
    rw (get_or-drop i b j 0, get_or-drop i b (j + 1) 0, e)

pub le4_drop : (b : List ℕ) (i j : ℕ) → le4 (drop i b) j ≡ le4 b (i + j)
le4_drop b i j =
    let e : i + (j + 2) ≡ i + j + 2 = omega arith in
    rw (le2_drop b i j, le2_drop b i (j + 2), e)

-- ---- a number is read back from its bytes
pub read2 : (n : ℕ) (r : List ℕ) → le2 (bytes2 n ++ r) 0 ≡ n
read2 n r = omega arith

pub read4 : (n : ℕ) (r : List ℕ) → le4 (bytes4 n ++ r) 0 ≡ n
read4 n r = omega arith

-- .. wherever they stand
module _ (b r : List ℕ) (i n : ℕ) where
  pub read2_at : drop i b ≡ bytes2 n ++ r → le2 b i ≡ n
  read2_at e = ap (le2 b) (sym (add-zero i)) ∙ sym (le2_drop b i 0) ∙ ap (λ (l : List ℕ). le2 l 0) e ∙ read2 n r

  pub read4_at : drop i b ≡ bytes4 n ++ r → le4 b i ≡ n
  read4_at e = ap (le4 b) (sym (add-zero i)) ∙ sym (le4_drop b i 0) ∙ ap (λ (l : List ℕ). le4 l 0) e ∙ read4 n r

-- ---- records are read back from their bytes, from number i of a table on
pub flows_read : (xs : List FlowRecord) (t r : List ℕ) (i : ℕ) → drop (8 * i) t ≡ each flow_bytes xs ++ r → flows_from t i (length xs) ≡ xs
flows_read [] t r i e = refl
flows_read (x ∷ xs) t r i e =
    let e0 : drop (8 * i) t ≡ flow_bytes x ++ (each flow_bytes xs ++ r) = e ∙ append_assoc (flow_bytes x) (each flow_bytes xs) r in
    let e4 : drop (8 * i + 4) t ≡ bytes4 x.maximum ++ (each flow_bytes xs ++ r) = sym (drop-drop 4 (8 * i) t) ∙ ap (drop 4) e0 in
    let n8 : 8 * i + 8 ≡ 8 * (i + 1) = omega arith in
    let e8 : drop (8 * (i + 1)) t ≡ each flow_bytes xs ++ r =
    ap (λ (k : ℕ). drop k t) (sym n8) ∙ sym (drop-drop 8 (8 * i) t) ∙ ap (drop 8) e0 in
    let q = read4_at t (bytes4 x.maximum ++ (each flow_bytes xs ++ r)) (8 * i) x.quantum e0 in
    let l = read4_at t (each flow_bytes xs ++ r) (8 * i + 4) x.maximum e4 in
    (λ j. record { quantum = q j; maximum = l j } ∷ flows_read xs t r (i + 1) e8 j)

pub events_read : (es : List Event) (t r : List ℕ) (i : ℕ) → drop (8 * i) t ≡ each event_bytes es ++ r → events_from t i (length es) ≡ es
events_read [] t r i e = refl
events_read (x ∷ es) t r i e =
    let more : List ℕ = each event_bytes es ++ r in
    let e0 : drop (8 * i) t ≡ event_bytes x ++ more = e ∙ append_assoc (event_bytes x) (each event_bytes es) r in
    let e4 : drop (8 * i + 4) t ≡ bytes2 x.flow ++ (bytes2 x.length ++ more) = sym (drop-drop 4 (8 * i) t) ∙ ap (drop 4) e0 in
    let e6 : drop (8 * i + 6) t ≡ bytes2 x.length ++ more = sym (drop-drop 6 (8 * i) t) ∙ ap (drop 6) e0 in
    let n8 : 8 * i + 8 ≡ 8 * (i + 1) = omega arith in
    let e8 : drop (8 * (i + 1)) t ≡ more = ap (λ (k : ℕ). drop k t) (sym n8) ∙ sym (drop-drop 8 (8 * i) t) ∙ ap (drop 8) e0 in
    let tick = read4_at t (bytes2 x.flow ++ (bytes2 x.length ++ more)) (8 * i) x.tick e0 in
    let flow = read2_at t (bytes2 x.length ++ more) (8 * i + 4) x.flow e4 in
    let size = read2_at t more (8 * i + 6) x.length e6 in
    (λ j. record { tick = tick j; flow = flow j; length = size j } ∷ events_read es t r (i + 1) e8 j)

-- ---- the bytes of a number that was read are those that it was read from
pub drop_low : (b : List ℕ) → Bytes b → (o : ℕ) → Bytes (drop o b)
drop_low b low o i = rw (get_or-drop o b i 0) (low (o + i))

one_more : (b : List ℕ) (i : ℕ) → i < length b → get_or b i 0 ∷ drop (i + 1) b ≡ drop i b
one_more b i h = ap (λ (k : ℕ). get_or b i 0 ∷ drop k b) (add-one i) ∙ sym (drop-cons b i 0 h)

-- what stands from i on begins with the bytes of the number read there
module _ (b : List ℕ) (low : Bytes b) (i : ℕ) where
  pub again2 : i + 2 ≤ length b → bytes2 (le2 b i) ++ drop (i + 2) b ≡ drop i b
  again2 h =
      let e0 : le2 b i % 256 ≡ get_or b i 0 = omega (arith, low i) in
      let e1 : le2 b i / 256 ≡ get_or b (i + 1) 0 = omega (arith, low i) in
      let n : i + 2 ≡ i + 1 + 1 = omega arith in
      (λ j. e0 j ∷ e1 j ∷ drop (n j) b)
      ∙ ap (λ (l : List ℕ). get_or b i 0 ∷ l) (one_more b (i + 1) (omega arith))
      ∙ one_more b i (omega arith)

  pub low2 : le2 b i < 65536
  low2 = omega (arith, low i, low (i + 1))

module _ (b : List ℕ) (low : Bytes b) (i : ℕ) where
  pub again4 : i + 4 ≤ length b → bytes4 (le4 b i) ++ drop (i + 4) b ≡ drop i b
  again4 h =
      let e0 : le4 b i % 65536 ≡ le2 b i = omega (arith, low2 b low i) in
      let e1 : le4 b i / 65536 ≡ le2 b (i + 2) = omega (arith, low2 b low i) in
      let n : i + 4 ≡ i + 2 + 2 = omega arith in
      (λ j. bytes2 (e0 j) ++ (bytes2 (e1 j) ++ drop (n j) b))
      ∙ ap (λ (l : List ℕ). bytes2 (le2 b i) ++ l) (again2 b low (i + 2) (omega arith))
      ∙ again2 b low i (omega arith)

  pub low4 : le4 b i < 4294967296
  low4 = omega (arith, low2 b low i, low2 b low (i + 2))

-- .. and with those of the records read there
module _ (t : List ℕ) (low : Bytes t) where
  pub flows_again : (i k : ℕ) → 8 * (i + k) ≤ length t → each flow_bytes (flows_from t i k) ++ drop (8 * (i + k)) t ≡ drop (8 * i) t
  flows_again i zero h = ap (λ (n : ℕ). drop (8 * n) t) (add-zero i)
  flows_again i (suc k) h =
      let x : FlowRecord = record { quantum = le4 t (8 * i); maximum = le4 t (8 * i + 4) } in
      let n1 : 8 * (i + suc k) ≡ 8 * (i + 1 + k) = omega arith in
      let n8 : 8 * (i + 1) ≡ 8 * i + 4 + 4 = omega arith in
      append_assoc (flow_bytes x) (each flow_bytes (flows_from t (i + 1) k)) (drop (8 * (i + suc k)) t)
      ∙ ap (λ (n : ℕ). flow_bytes x ++ (each flow_bytes (flows_from t (i + 1) k) ++ drop n t)) n1
      ∙ ap (λ (l : List ℕ). flow_bytes x ++ l) (flows_again (i + 1) k (omega arith))
      ∙ ap (λ (n : ℕ). flow_bytes x ++ drop n t) n8
      ∙ ap (λ (l : List ℕ). bytes4 x.quantum ++ l) (again4 t low (8 * i + 4) (omega arith))
      ∙ again4 t low (8 * i) (omega arith)

  pub events_again : (i k : ℕ) → 8 * (i + k) ≤ length t → each event_bytes (events_from t i k) ++ drop (8 * (i + k)) t ≡ drop (8 * i) t
  events_again i zero h = ap (λ (n : ℕ). drop (8 * n) t) (add-zero i)
  events_again i (suc k) h =
      let x : Event = event_at t i in
      let n1 : 8 * (i + suc k) ≡ 8 * (i + 1 + k) = omega arith in
      let n8 : 8 * (i + 1) ≡ 8 * i + 6 + 2 = omega arith in
      let n6 : 8 * i + 6 ≡ 8 * i + 4 + 2 = omega arith in
      append_assoc (event_bytes x) (each event_bytes (events_from t (i + 1) k)) (drop (8 * (i + suc k)) t)
      ∙ ap (λ (n : ℕ). event_bytes x ++ (each event_bytes (events_from t (i + 1) k) ++ drop n t)) n1
      ∙ ap (λ (l : List ℕ). event_bytes x ++ l) (events_again (i + 1) k (omega arith))
      ∙ ap (λ (n : ℕ). event_bytes x ++ drop n t) n8
      ∙ ap (λ (l : List ℕ). bytes4 x.tick ++ (bytes2 x.flow ++ l)) (again2 t low (8 * i + 6) (omega arith))
      ∙ ap (λ (n : ℕ). bytes4 x.tick ++ (bytes2 x.flow ++ drop n t)) n6
      ∙ ap (λ (l : List ℕ). bytes4 x.tick ++ l) (again2 t low (8 * i + 4) (omega arith))
      ∙ again4 t low (8 * i) (omega arith)
