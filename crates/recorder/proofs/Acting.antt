-- The acts of a recording answer what they say.
use Rattle.std.proofs.Common.{◌≡◌, ◌≢◌, ◌≤◌, ℕ, zero, suc, Bool, List, [], ◌∷◌, ◌++◌, length, take, drop, map, arith, ap, refl, ◌∙◌}
use Rattle.crossterm_read.specs.Device.{Bytes, Resized, Woken, Idle, Fault}
use Rattle.crossterm_read.specs.Scripted.{cut_within, device_answers, piece_answers}
use Rattle.crossterm_read.specs.declared.source.script.Act.TheVariants as act
use Rattle.recorder.specs.Replaying.{AnswersAsRecorded, RecordsLines}

take_whole : (n : ℕ) (xs : List ℕ) → length xs ≤ n → take n xs ≡ xs
take_whole zero [] l = refl
take_whole zero (x ∷ xs) l = absurd (omega (arith, l))
take_whole (suc n) [] l = refl
take_whole (suc n) (x ∷ xs) l = ap (λ ys. x ∷ ys) (take_whole n xs (omega (arith, l)))

drop_whole : (n : ℕ) (xs : List ℕ) → length xs ≤ n → drop n xs ≡ []
drop_whole zero [] l = refl
drop_whole zero (x ∷ xs) l = absurd (omega (arith, l))
drop_whole (suc n) [] l = refl
drop_whole (suc n) (x ∷ xs) l = drop_whole n xs (omega (arith, l))

cut_nothing : (n : ℕ) → cut_within n [] ≡ []
cut_nothing zero = refl
cut_nothing (suc n) = refl

one_piece : (bytes : List ℕ) (raw : Bool) → bytes ≢ [] → length bytes ≤ 1024 → piece_answers bytes raw ≡ Bytes bytes raw ∷ []
one_piece [] raw f l = absurd (f refl)
one_piece (b ∷ bs) raw f l =
    ap (λ p. map (λ buffer. Bytes buffer raw) (p ∷ cut_within (length bs) (drop 1024 (b ∷ bs)))) (take_whole 1024 (b ∷ bs) l)
    ∙ ap (λ r. map (λ buffer. Bytes buffer raw) ((b ∷ bs) ∷ cut_within (length bs) r)) (drop_whole 1024 (b ∷ bs) l)
    ∙ ap (λ r. map (λ buffer. Bytes buffer raw) ((b ∷ bs) ∷ r)) (cut_nothing (length bs))

pub answers_as_recorded : (A : Type 0) → AnswersAsRecorded A
answers_as_recorded A [] h = refl
answers_as_recorded A (act.Piece bytes raw ∷ acts) h =
    ap (λ ws. ws ++ device_answers acts) (one_piece bytes.items raw h.0.0 h.0.1) ∙ ap (λ ws. Bytes bytes.items raw ∷ ws) (answers_as_recorded A acts h.1)
answers_as_recorded A (act.Resize columns rows ∷ acts) h = ap (λ ws. Resized columns rows ∷ ws) (answers_as_recorded A acts h.1)
answers_as_recorded A (act.Woken ∷ acts) h = ap (λ ws. Woken ∷ ws) (answers_as_recorded A acts h.1)
answers_as_recorded A (act.Idle ∷ acts) h = ap (λ ws. Idle ∷ ws) (answers_as_recorded A acts h.1)
answers_as_recorded A (act.Fault kind ∷ acts) h = ap (λ ws. Fault kind ∷ ws) (answers_as_recorded A acts h.1)

pub records_lines : RecordsLines
records_lines [] h = tt
records_lines (Bytes [] raw ∷ ws) h = records_lines ws h.1
records_lines (Bytes (b ∷ bs) raw ∷ ws) h = ((some, h.0.0), records_lines ws h.1)
  where
    some : (b ∷ bs) ≡ [] → ⊥
    some e = let none : length (b ∷ bs) ≡ 0 = ap length e in omega (arith, none)
records_lines (Resized columns rows ∷ ws) h = (tt, records_lines ws h.1)
records_lines (Woken ∷ ws) h = (tt, records_lines ws h.1)
records_lines (Idle ∷ ws) h = (tt, records_lines ws h.1)
records_lines (Fault kind ∷ ws) h = (tt, records_lines ws h.1)
