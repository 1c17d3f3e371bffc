-- Records put into a file one after the other, and its header at the end.
use mathlib.Core.Path.{◌≡◌, refl, sym, ap, ◌∙◌}
use mathlib.Core.List.{List, [], ◌∷◌, ◌++◌, append_assoc, append-nil}
use Prim.Native.Nat.{ℕ, ◌+◌, ◌*◌, ◌≤◌}
use native.Mathlib.Omega.{arith}
use lib.ListN.{length, take, drop, length-append}
use lib.Seq.{sets, sets-eq, length-sets, length-take-le, drop_at}
use Rattle.drr.specs.declared.FlowRecord.{FlowRecord}
use Rattle.runfile.specs.File.{Event, header_size}
use Rattle.text.specs.Text.{overlaid}
use Rattle.text.proofs.Texts.{sets_two}
use Rattle.textform.specs.Made.{flow_bytes, event_bytes, each, header_bytes, record_bytes, file_of}
use Rattle.textform.proofs.Bytes.{records_size}

-- ---- one record more
pub each_append : {A : Type 0} (f : A → List ℕ) (xs ys : List A) → each f (xs ++ ys) ≡ each f xs ++ each f ys
each_append f [] ys = refl
each_append f (x ∷ xs) ys = rw (each_append f xs ys, append_assoc)

pub flow_more : (xs : List FlowRecord) (x : FlowRecord) → record_bytes (xs ++ x ∷ []) [] ≡ record_bytes xs [] ++ flow_bytes x
flow_more xs x =
    append-nil (each flow_bytes (xs ++ x ∷ []))
    ∙ each_append flow_bytes xs (x ∷ [])
    ∙ ap (λ (l : List ℕ). l ++ flow_bytes x) (sym (append-nil (each flow_bytes xs)))

pub event_more : (xs : List FlowRecord) (es : List Event) (e : Event) → record_bytes xs (es ++ e ∷ []) ≡ record_bytes xs es ++ event_bytes e
event_more xs es e =
    ap (λ (l : List ℕ). each flow_bytes xs ++ l) (each_append event_bytes es (e ∷ []))
    ∙ sym (append_assoc (each flow_bytes xs) (each event_bytes es) (event_bytes e))

-- ---- in a buffer z: bytes behind the place of the header, more behind them, and then the header
pub put_more : (z u v : List ℕ) → sets (sets z header_size u) (header_size + length u) v ≡ sets z header_size (u ++ v)
put_more z u v = sets_two z u v header_size

pub put_header : (z h u : List ℕ) → length h ≡ header_size → header_size + length u ≤ length z →
    sets (sets z header_size u) 0 h ≡ overlaid (h ++ u) z
put_header z h u is room =
    let y : List ℕ = sets z header_size u in
    let d : List ℕ = drop (header_size + length u) z in
    let size : length y ≡ length z = length-sets z header_size u in
    let e0 : 0 + length h ≡ header_size = omega arith in
    let e1 : header_size + length u ≡ length (h ++ u) = omega (arith, length-append h u) in
    sets-eq h y 0 (omega arith)
    ∙ ap (λ (k : ℕ). h ++ drop k y) e0
    ∙ ap (λ (l : List ℕ). h ++ drop header_size l) (sets-eq u z header_size room ∙ append_assoc (take header_size z) u d)
    ∙ ap (λ (l : List ℕ). h ++ l) (drop_at (take header_size z) (u ++ d) header_size (length-take-le header_size z (omega arith)))
    ∙ sym (append_assoc h u d)
    ∙ ap (λ (k : ℕ). h ++ u ++ drop k z) e1

-- .. of records: one more, and the whole file
module _ (z : List ℕ) (xs : List FlowRecord) where
  abbrev put : List Event → List ℕ
  put es = sets z header_size (record_bytes xs es)

  pub put_flow : (x : FlowRecord) →
      sets (put []) (header_size + 8 * length xs) (flow_bytes x) ≡ sets z header_size (record_bytes (xs ++ x ∷ []) [])
  put_flow x =
      let e : header_size + 8 * length xs ≡ header_size + length (record_bytes xs []) = omega (arith, records_size xs []) in
      ap (λ (k : ℕ). sets (put []) k (flow_bytes x)) e
      ∙ put_more z (record_bytes xs []) (flow_bytes x)
      ∙ ap (sets z header_size) (sym (flow_more xs x))

  pub put_event : (es : List Event) (x : Event) →
      sets (put es) (header_size + 8 * length xs + 8 * length es) (event_bytes x) ≡ put (es ++ x ∷ [])
  put_event es x =
      let e : header_size + 8 * length xs + 8 * length es ≡ header_size + length (record_bytes xs es) = omega (arith, records_size xs es) in
      ap (λ (k : ℕ). sets (put es) k (event_bytes x)) e
      ∙ put_more z (record_bytes xs es) (event_bytes x)
      ∙ ap (sets z header_size) (sym (event_more xs es x))

  pub put_file : (o : ℕ) (es : List Event) → header_size + 8 * length xs + 8 * length es ≤ length z →
      sets (put es) 0 (header_bytes (length xs) (length es) o) ≡ overlaid (file_of o xs es) z
  unfolding file_of
  put_file o es room =
      put_header z (header_bytes (length xs) (length es) o) (record_bytes xs es) refl (omega (arith, records_size xs es))
