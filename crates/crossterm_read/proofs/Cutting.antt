-- Buffers of a piece.
use Rattle.std.proofs.Common.{◌≡◌, ◌≤◌, ◌<◌, ◌+◌, ℕ, zero, suc, Bool, false, List, Vec, [], ◌∷◌, ◌++◌, length, take, drop, map, refl, ap, sym, subst, ◌∙◌, arith, length-drop}
use Rattle.std.proofs.Common.{get_or, min, drop-drop}
use Rattle.std.proofs.Math.Seq.{drop-nil, take-nil}
use Rattle.std.proofs.lemmas.List.{drop_all, drop_more, take_at, length-take-le}
use Rattle.crossterm_read.specs.Device.{DeviceAnswer, Bytes}
use Rattle.crossterm_read.specs.Scripted.{AnswersWith, cut_within, buffers, piece_answers, device_answers, device_answers_from}
use Rattle.crossterm_read.specs.declared.source.script.Act.{Act}
use Rattle.crossterm_read.specs.declared.source.script.Act.TheVariants as act

cut_none : (n : ℕ) → cut_within n [] ≡ []
cut_none zero = refl
cut_none (suc n) = refl

cut_more : (n m : ℕ) (bytes : List ℕ) → length bytes ≤ n → length bytes ≤ m → cut_within n bytes ≡ cut_within m bytes
cut_more n m [] g h = cut_none n ∙ sym (cut_none m)
cut_more zero m (b ∷ bs) g h = absurd (omega arith)
cut_more (suc n) zero (b ∷ bs) g h = absurd (omega arith)
cut_more (suc n) (suc m) (b ∷ bs) g h = ap (λ (l : List (List ℕ)). take 1024 (b ∷ bs) ∷ l) (cut_more n m (drop 1024 (b ∷ bs)) (omega (arith, length-drop 1024 (b ∷ bs))) (omega (arith, length-drop 1024 (b ∷ bs))))

pub buffers_step : (bytes : List ℕ) → 0 < length bytes → buffers bytes ≡ take 1024 bytes ∷ buffers (drop 1024 bytes)
buffers_step [] h = absurd (omega arith)
buffers_step (b ∷ bs) h = ap (λ (l : List (List ℕ)). take 1024 (b ∷ bs) ∷ l) (cut_more (length bs) (length (drop 1024 (b ∷ bs))) (drop 1024 (b ∷ bs)) (omega (arith, length-drop 1024 (b ∷ bs))) (omega arith))

pub words_at : {A : Type 0} (acts : List (Act A)) (next answered : ℕ) (a : Act A) → next < length acts → a ≡ get_or acts next a → device_answers_from (drop next acts) answered ≡ device_answers_from (a ∷ drop (next + 1) acts) answered
words_at {A} acts next answered a h e = ap (λ (l : List (Act A)). device_answers_from l answered) (drop_more acts next a h ∙ ap (λ (y : Act A). y ∷ drop (next + 1) acts) (sym e))

-- one buffer of a piece is answered
pub piece_step : (bytes more x : List ℕ) (raw : Bool) (ws left right : List DeviceAnswer) → 0 < length bytes → more ≡ drop 1024 bytes → x ≡ take 1024 bytes
    → piece_answers bytes raw ++ ws ≡ left → piece_answers more raw ++ ws ≡ right → AnswersWith left (Bytes x raw ∷ []) right
piece_step bytes more x raw ws left right h m e p q =
    let s = ap (λ (l : List (List ℕ)). map (λ buffer. Bytes buffer raw) l ++ ws) (buffers_step bytes h) in
    subst (λ (l : List DeviceAnswer). AnswersWith l (Bytes x raw ∷ []) right) (sym s ∙ p)
    (ap (λ (b : List ℕ). Bytes b raw) e, ap (λ (b : List ℕ). piece_answers b raw ++ ws) (sym m) ∙ q)

min_drop : (k n : ℕ) (l : List ℕ) → n ≡ min k (length l) → drop n l ≡ drop k l
min_drop k n [] h = drop-nil n ∙ sym (drop-nil k)
min_drop zero n (b ∷ bs) h = let e : n ≡ 0 = omega arith in ap (λ (i : ℕ). drop i (b ∷ bs)) e
min_drop (suc k) zero (b ∷ bs) h = absurd (omega arith)
min_drop (suc k) (suc n) (b ∷ bs) h = min_drop k n bs (omega arith)

min_take : (k n : ℕ) (l : List ℕ) → n ≡ min k (length l) → take n l ≡ take k l
min_take k n [] h = take-nil n ∙ sym (take-nil k)
min_take zero n (b ∷ bs) h = let e : n ≡ 0 = omega arith in ap (λ (i : ℕ). take i (b ∷ bs)) e
min_take (suc k) zero (b ∷ bs) h = absurd (omega arith)
min_take (suc k) (suc n) (b ∷ bs) h = ap (λ (l : List ℕ). b ∷ l) (min_take k n bs (omega arith))

-- what is left after as many bytes as there are, or 1024
pub drop_answered : (bytes : List ℕ) (answered n : ℕ) → n ≡ min 1024 (length (drop answered bytes)) → drop (answered + n) bytes ≡ drop 1024 (drop answered bytes)
drop_answered bytes answered n e = sym (drop-drop n answered bytes) ∙ min_drop 1024 n (drop answered bytes) e

pub take_answered : (bytes buf : List ℕ) (n : ℕ) → n ≡ min 1024 (length bytes) → take n (take n bytes ++ drop n buf) ≡ take 1024 bytes
take_answered bytes buf n e = take_at (take n bytes) (drop n buf) n (length-take-le n bytes (omega arith)) ∙ min_take 1024 n bytes e

device_answers_start : {A : Type 0} (acts : List (Act A)) → device_answers_from acts 0 ≡ device_answers acts
device_answers_start [] = refl
device_answers_start (act.Piece bytes raw ∷ acts) = refl
device_answers_start (act.Resize columns rows ∷ acts) = refl
device_answers_start (act.Woken ∷ acts) = refl
device_answers_start (act.Idle ∷ acts) = refl
device_answers_start (act.Fault kind ∷ acts) = refl

-- an act of one answer is given
pub act_answered : {A : Type 0} (acts : List (Act A)) (next answered : ℕ) (a : Act A) (w : DeviceAnswer) (left : List DeviceAnswer) → next < length acts → a ≡ get_or acts next a
    → device_answers_from (a ∷ drop (next + 1) acts) answered ≡ w ∷ device_answers (drop (next + 1) acts) → device_answers_from (drop next acts) answered ≡ left → AnswersWith left (w ∷ []) (device_answers_from (drop (next + 1) acts) 0)
act_answered acts next answered a w left h e one l =
    subst (λ (ws : List DeviceAnswer). AnswersWith ws (w ∷ []) (device_answers_from (drop (next + 1) acts) 0)) (sym one ∙ sym (words_at acts next answered a h e) ∙ l) (refl, sym (device_answers_start (drop (next + 1) acts)))

-- all of a piece was answered
pub piece_over : {A : Type 0} (acts : List (Act A)) (next answered : ℕ) (a : Act A) (bytes : Vec ℕ A) (raw : Bool) (left : List DeviceAnswer) → next < length acts → a ≡ get_or acts next a
    → a ≡ act.Piece bytes raw → length bytes.items ≤ answered → device_answers_from (drop next acts) answered ≡ left → device_answers_from (drop (next + 1) acts) 0 ≡ left
piece_over {A} acts next answered a bytes raw left h e is over l =
    let rest = drop (next + 1) acts in
    device_answers_start rest ∙ ap (λ (ks : List ℕ). piece_answers ks raw ++ device_answers rest) (sym (drop_all answered bytes.items over))
    ∙ ap (λ (y : Act A). device_answers_from (y ∷ rest) answered) (sym is) ∙ sym (words_at acts next answered a h e) ∙ l

-- past the end the end of input is answered
pub end_answered : {A : Type 0} (acts : List (Act A)) (next answered : ℕ) (left : List DeviceAnswer) → length acts ≤ next → device_answers_from (drop next acts) answered ≡ left
    → AnswersWith left (Bytes [] false ∷ []) (device_answers_from (drop next acts) answered)
end_answered acts next answered left h l =
    let none = ap (λ ws. device_answers_from ws answered) (drop_all next acts h) in
    subst (λ (ws : List DeviceAnswer). AnswersWith ws (Bytes [] false ∷ []) (device_answers_from (drop next acts) answered)) l
    (subst (λ (ws : List DeviceAnswer). AnswersWith ws (Bytes [] false ∷ []) ws) (sym none) (refl, refl))
