use Rattle.std.proofs.Common.{◌≡◌, ℕ, List, ◌++◌, sym, ap, ◌∙◌, subst, take, drop, arith}
use Rattle.std.proofs.lemmas.Bool.{false≢true}
use Rattle.std.proofs.lemmas.List.{length-take-le, take_at}
use Rattle.std.specs.Prelude.{IsOk}
use Rattle.line_c.specs.Answers.{Moves}
use Rattle.line_c.specs.Kept.{LineState}
use Rattle.line_c.specs.contracts.lines.Lines.{the_view}
use Rattle.line_c.proofs.lines.Lines.move_output.Goals.{in-Ok, in-Err}
use Rattle.line_c.proofs.lines.Lines.move_output.Goals as goal

pub returns : goal.returns
returns c = elim c.match-read.branch [
  | in-Ok w ↦
      let n = w.in-Ok.count in
      let was = c.self.inside.output.items in
      let left = c.read.new.self.items in
      let out = ap (λ (k : LineState). k.output) c.self.view_is in
      let lies : was ≡ take n c.read.new.buf ++ left = w.in-Ok.ensures.bytes.0 in
      subst (λ (m : ℕ). Moves m c.args.slice.now c.read.new.buf c.args.self.now (the_view (record c.self.inside { output = c.read.new.self }))) (sym w.result-is) (record {
        fits = omega (arith, w.in-Ok.ensures.bound.0, c.read.auto.buf);
        moved = sym (take_at (take n c.read.new.buf) left n (length-take-le n c.read.new.buf w.in-Ok.ensures.bound.0)) ∙ ap (take n) (sym lies ∙ out);
        left = ap (λ (bytes : List ℕ). record (the_view c.self.inside) { output = bytes }) (w.in-Ok.ensures.rest ∙ ap (drop n) out) ∙ ap (λ (k : LineState). record k { output = drop n c.args.self.now.output }) c.self.view_is;
        none = λ zero room. sym out ∙ lies ∙ ap (λ (m : ℕ). take m c.read.new.buf ++ left) zero ∙ w.in-Ok.ensures.bytes.1 zero (omega (arith, room, c.read.auto.buf));
      })
  | in-Err w ↦ absurd (false≢true (subst (λ r. IsOk r) w.in-Err.is c.read.ensures.ok))
]
