-- The answers of a script.
use Rattle.std.specs.Prelude.{◌≡◌, ℕ, ◌+◌, zero, suc, Bool, true, false, List, [], ◌∷◌, ◌++◌, length, take, drop, map, refl}
use Rattle.std.specs.List.{count_by}
use Rattle.std.proofs.Common.{subst, sym, ap, ◌∙◌, add-zero, add_assoc}
use Rattle.std.proofs.lemmas.List.Sums.{sum_by-append}
use Rattle.crossterm_read.specs.Device.{Answering, DeviceAnswer, Bytes, Resized, Woken, Idle, Fault}
use Rattle.crossterm_read.specs.declared.source.script.Act.{Act}
use Rattle.crossterm_read.specs.declared.source.script.Act.TheVariants as act

-- Bytes cut into buffers of 1024 and a rest, in at most so many steps.
abbrev pub cut_within : ℕ → List ℕ → List (List ℕ)
cut_within zero bytes = []
cut_within (suc n) [] = []
cut_within (suc n) (b ∷ bs) = take 1024 (b ∷ bs) ∷ cut_within n (drop 1024 (b ∷ bs))

-- Bytes cut into buffers of 1024 and a rest; none for no bytes.
abbrev pub buffers : List ℕ → List (List ℕ)
buffers bytes = cut_within (length bytes) bytes

-- A piece is answered in buffers, and an empty one not at all.
abbrev pub piece_answers : List ℕ → Bool → List DeviceAnswer
piece_answers bytes raw = map (λ buffer. Bytes buffer raw) (buffers bytes)

-- The answers of a script's acts.
abbrev pub device_answers : {A : Type 0} → List (Act A) → List DeviceAnswer
device_answers [] = []
device_answers (act.Piece bytes raw ∷ acts) = piece_answers bytes.items raw ++ device_answers acts
device_answers (act.Resize columns rows ∷ acts) = Resized columns rows ∷ device_answers acts
device_answers (act.Woken ∷ acts) = Woken ∷ device_answers acts
device_answers (act.Idle ∷ acts) = Idle ∷ device_answers acts
device_answers (act.Fault kind ∷ acts) = Fault kind ∷ device_answers acts

-- The answers of the acts that are left, after so many bytes of the first one were given.
abbrev pub device_answers_from : {A : Type 0} → List (Act A) → ℕ → List DeviceAnswer
device_answers_from [] answered = []
device_answers_from (act.Piece bytes raw ∷ acts) answered = piece_answers (drop answered bytes.items) raw ++ device_answers acts
device_answers_from (act.Resize columns rows ∷ acts) answered = Resized columns rows ∷ device_answers acts
device_answers_from (act.Woken ∷ acts) answered = Woken ∷ device_answers acts
device_answers_from (act.Idle ∷ acts) answered = Idle ∷ device_answers acts
device_answers_from (act.Fault kind ∷ acts) answered = Fault kind ∷ device_answers acts

-- The first of the answers that are left are given. Past the end each has no bytes: the end of input.
abbrev pub AnswersWith : List DeviceAnswer → List DeviceAnswer → List DeviceAnswer → Type 0
AnswersWith left [] after = left ≡ after
AnswersWith [] (x ∷ xs) after = (x ≡ Bytes [] false) × AnswersWith [] xs after
AnswersWith (w ∷ left) (x ∷ xs) after = (x ≡ w) × AnswersWith left xs after

-- True of an answer that is an error.
abbrev pub is_fault : DeviceAnswer → Bool
is_fault (Bytes bytes raw) = false
is_fault (Resized columns rows) = false
is_fault Woken = false
is_fault Idle = false
is_fault (Fault kind) = true

-- How many answers are errors.
abbrev pub faults : List DeviceAnswer → ℕ
faults ws = count_by is_fault ws

-- A script as its callers see it: the answers that are left, and how often it failed.
pub record ScriptLeft : Type 0 where
  pub left : List DeviceAnswer
  pub failed : ℕ

-- The first of the answers that were left were given, and the errors among them counted.
abbrev pub ScriptAnswers : ScriptLeft → List DeviceAnswer → ScriptLeft → Type 0
ScriptAnswers s xs t = AnswersWith s.left xs t.left × (t.failed ≡ s.failed + faults xs)

-- The two laws.
pub script_none : (s : ScriptLeft) → ScriptAnswers s [] s
script_none s = (refl, sym (add-zero s.failed))

answers_on : (l m k : List DeviceAnswer) (xs ys : List DeviceAnswer) → AnswersWith l xs m → AnswersWith m ys k → AnswersWith l (xs ++ ys) k
answers_on l m k [] ys d e = subst (λ (i : List DeviceAnswer). AnswersWith i ys k) (sym d) e
answers_on [] m k (x ∷ xs) ys d e = (d.0, answers_on [] m k xs ys d.1 e)
answers_on (w ∷ l) m k (x ∷ xs) ys d e = (d.0, answers_on l m k xs ys d.1 e)

pub script_on : (s t u : ScriptLeft) (xs ys : List DeviceAnswer) → ScriptAnswers s xs t → ScriptAnswers t ys u → ScriptAnswers s (xs ++ ys) u
script_on s t u xs ys d e = (
  answers_on s.left t.left u.left xs ys d.0 e.0,
  e.1 ∙ ap (λ (n : ℕ). n + faults ys) d.1 ∙ add_assoc s.failed (faults xs) (faults ys) ∙ ap (λ (n : ℕ). s.failed + n) (sym (sum_by-append _ xs ys)),
)

-- How a script answers, as a device.
abbrev pub script_answering : Answering ScriptLeft
script_answering = record { answered = ScriptAnswers; none = script_none; on = script_on }
