use Rattle.std.proofs.Common.{◌≡◌, ◌≤◌, ◌+◌, ◌-◌, ℕ, List, length, get_or, take, drop, sym, ap, ◌∙◌, arith, length-take, length-drop}
use Rattle.std.specs.Prelude.{Option}
use Rattle.text.specs.Text.{Form, form_text, fields_in, kinds, form_in, beside_line, Put}
use Rattle.text.proofs.Texts.{left_room, left_then, left_end, put_none}
use Rattle.text.proofs.Lines.{in_form, at_most_five, beside_part, first_line, line_first, line_next, line_last, line_none}
use Rattle.text.proofs.Out.lines.Goals as goal

-- a line, by the form that is found and how many numbers stand beside it
module _ (line w : List ℕ) (n : ℕ) (form : Option Form) (is : form ≡ form_in kinds (get_or line 0 0))
    (many : n ≡ length (beside_line (get_or line 0 0) w)) where
  fits : (at room : ℕ) → at + length (first_line line w) ≤ room →
      at + length (form_text form (take (length line - 1) (drop 1 line)) (take n w)) ≤ room
  fits at room h =
      let five : List ℕ = take (length line - 1) (drop 1 line) in
      omega (
        arith,
        h,
        ap (λ (g : Option Form). length (form_text g five (take n w))) is,
        ap (λ (v : List ℕ). length (form_text (form_in kinds (get_or line 0 0)) five v)) (beside_part (get_or line 0 0) w n many),
      )

  put : (b b' : List ℕ) (at r : ℕ) → Put b at (form_text form (take (length line - 1) (drop 1 line)) (take n w)) b' r →
      Put b at (first_line line w) b' r
  put b b' at r p =
      in_form (sym is) (sym (beside_part (get_or line 0 0) w n many)) (take (length line - 1) (drop 1 line)) b b' at r p

pub returns-then-kind-eq3 : goal.returns-then-kind-eq3
returns-then-kind-eq3 c =
    let o = c.loop-line in
    let s = c.in-Some.ensures.steps in
    let line = c.in-Some.line.now in
    let w = o.left.now in
    record {
      same_buffer = c.line.ensures.same_buffer ∙ o.invariant.same_buffer;
      put =
          left_end o.invariant.left _ (line_last _ line _ w s.1.0 (s.1.1 ∙ o.invariant.six) c.if-kind-eq3.true) _ _
          (put line w c.beside_line-n.result c.form_of.result c.form_of.ensures c.beside_line-n.ensures _ _ _ _ c.line.ensures.put);
    }

pub loop-line-preserved : goal.loop-line-preserved
loop-line-preserved c =
    let o = c.loop-line in
    let s = c.in-Some.ensures.steps in
    let line = c.in-Some.line.now in
    let w = o.left.now in
    let n = c.beside_line-n in
    record {
      same_buffer = c.line.ensures.same_buffer ∙ o.invariant.same_buffer;
      left =
          left_then o.invariant.left (first_line line w) _
          (line_next _ line _ w s.1.0 (s.1.1 ∙ o.invariant.six) c.if-kind-eq3.false n.result n.ensures)
          _ _ (put line w n.result c.form_of.result c.form_of.ensures n.ensures _ _ _ _ c.line.ensures.put);
      six = s.0 ∙ o.invariant.six;
    }

pub returns-in-None : goal.returns-in-None
returns-in-None c =
    let o = c.loop-line in
    let s = c.in-None.ensures.steps in
    record {
      same_buffer = o.invariant.same_buffer;
      put =
          left_end o.invariant.left _ (line_none _ o.left.now (omega (arith, s.1.0, o.invariant.six))) _ _
          (put_none o.self.buf.now o.self.at);
    }

pub line-requires-clause-form_in_bounds : goal.line-requires-clause-form_in_bounds
line-requires-clause-form_in_bounds c =
    let s = c.in-Some.ensures.steps in
    let line = c.in-Some.line.now in
    omega (
      arith,
      ap fields_in c.form_of.ensures,
      at_most_five (get_or line 0 0),
      s.1.1 ∙ c.loop-line.invariant.six,
      length-drop 1 line,
      length-take (length line - 1) (drop 1 line),
    )

pub line-requires-clause-room : goal.line-requires-clause-room
line-requires-clause-room c =
    let o = c.loop-line in
    let s = c.in-Some.ensures.steps in
    let line = c.in-Some.line.now in
    let w = o.left.now in
    fits line w c.beside_line-n.result c.form_of.result c.form_of.ensures c.beside_line-n.ensures o.self.at (length o.self.buf.now)
    (left_room o.invariant.left (first_line line w) _ (line_first _ line _ w s.1.0 (s.1.1 ∙ o.invariant.six)))
