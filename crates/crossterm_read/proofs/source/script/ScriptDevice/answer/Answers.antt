use Rattle.std.proofs.Common.{◌≡◌, ◌+◌, [], ◌∷◌, List, ℕ, subst, drop, length, ap, sym, ◌∙◌, arith, length-drop, take, min, ◌-◌}
use Rattle.std.proofs.lemmas.List.{take_rest}
use Rattle.std.specs.declared.io.ErrorKind.{ErrorKind}
use Rattle.crossterm_read.specs.Device.{Resized, Woken, Idle, Fault}
use Rattle.crossterm_read.specs.declared.source.script.Act.{Act}
use Rattle.crossterm_read.specs.Scripted.{AnswersWith, device_answers, device_answers_from}
use Rattle.crossterm_read.proofs.Cutting.{words_at, piece_step, drop_answered, act_answered, piece_over, end_answered}
use Rattle.crossterm_read.proofs.source.script.ScriptDevice.answer.Goals.{in-Piece+else-self-len, in_default}
use Rattle.crossterm_read.proofs.source.script.ScriptDevice.answer.Goals as goal

pub returns-then-self-len-clause-answered : goal.returns-then-self-len-clause-answered
returns-then-self-len-clause-answered g c =
    let acts = c.loop-self.self-inside.acts.items in
    let next = c.loop-self.self-inside.next in
    let at = c.loop-self.self-inside.at in
    let same = λ (n : ℕ). words_at acts next n c.index-act.result.now (omega arith) c.index-act.ensures ∙ ap (λ (a : Act g.row.A.Denot). device_answers_from (a ∷ drop (next + 1) acts) n) c.in-Piece.is in
    let bytes = c.in-Piece.bytes.items in
    let rest : take (length c.deref.result.now - at) (drop at c.deref.result.now) ≡ drop at bytes = take_rest c.deref.result.now at ∙ ap (λ (l : List ℕ). drop at l) c.deref.ensures.value in (
      piece_step (drop at c.in-Piece.bytes.items) (drop (at + c.fill-count.result) c.in-Piece.bytes.items) _ c.in-Piece.raw (device_answers (drop (next + 1) acts)) _ _
          (omega (arith, length-drop at bytes)) (drop_answered bytes at c.fill-count.result (c.fill-count.ensures.count ∙ ap (λ (l : List ℕ). min 1024 (length l)) rest))
          (c.fill-count.ensures.answered ∙ ap (λ (l : List ℕ). take 1024 l) rest) (sym (same at) ∙ c.loop-self.invariant.left) (sym (same (at + c.fill-count.result))),
      omega arith,
    )

pub returns-in-Resize-clause-answered : goal.returns-in-Resize-clause-answered
returns-in-Resize-clause-answered g c =
    let self = c.loop-self.self-inside in
    let one = ap (λ (a : Act g.row.A.Denot). device_answers_from (a ∷ drop (self.next + 1) self.acts.items) self.at) c.in-Resize.is in
    (act_answered self.acts.items self.next self.at c.index-act.result.now (Resized c.in-Resize.columns c.in-Resize.rows) _ (omega arith) c.index-act.ensures one c.loop-self.invariant.left, omega arith)

pub returns-in-Woken-clause-answered : goal.returns-in-Woken-clause-answered
returns-in-Woken-clause-answered g c =
    let self = c.loop-self.self-inside in
    let one = ap (λ (a : Act g.row.A.Denot). device_answers_from (a ∷ drop (self.next + 1) self.acts.items) self.at) c.in-Woken.is in
    (act_answered self.acts.items self.next self.at c.index-act.result.now (Woken) _ (omega arith) c.index-act.ensures one c.loop-self.invariant.left, omega arith)

pub returns-in-Idle-clause-answered : goal.returns-in-Idle-clause-answered
returns-in-Idle-clause-answered g c =
    let self = c.loop-self.self-inside in
    let one = ap (λ (a : Act g.row.A.Denot). device_answers_from (a ∷ drop (self.next + 1) self.acts.items) self.at) c.in-Idle.is in
    (act_answered self.acts.items self.next self.at c.index-act.result.now (Idle) _ (omega arith) c.index-act.ensures one c.loop-self.invariant.left, omega arith)

pub returns-in-Fault-clause-answered : goal.returns-in-Fault-clause-answered
returns-in-Fault-clause-answered g c =
    let self = c.loop-self.self-inside in
    let one = ap (λ (a : Act g.row.A.Denot). device_answers_from (a ∷ drop (self.next + 1) self.acts.items) self.at) c.in-Fault.is in
    let answered = act_answered self.acts.items self.next self.at c.index-act.result.now (Fault c.in-Fault.kind) _ (omega arith) c.index-act.ensures one c.loop-self.invariant.left in
    (subst (λ (kind : ErrorKind). AnswersWith c.args.self.now.left (Fault kind ∷ []) (device_answers_from (drop (self.next + 1) self.acts.items) 0)) (sym c.from.ensures) answered, omega arith)

pub loop-self-preserved : goal.loop-self-preserved
loop-self-preserved g c =
    let self = c.loop-self.self-inside in
    record {
      left = elim c.match-act.branch [
        | in-Piece+else-self-len w ↦ piece_over self.acts.items self.next self.at c.index-act.result.now w.in-Piece.bytes w.in-Piece.raw _ (omega arith) c.index-act.ensures w.in-Piece.is (omega arith) c.loop-self.invariant.left
        | in_default w ↦ absurd (w.in_default.not-Piece _ _ c.in-Piece-act.is)
      ];
      failed = c.loop-self.invariant.failed;
      within = omega arith;
    }

pub returns-clause-answered : goal.returns-clause-answered
returns-clause-answered g c = (end_answered c.loop-self.self-inside.acts.items c.loop-self.self-inside.next c.loop-self.self-inside.at _ (omega arith) c.loop-self.invariant.left, omega arith)
