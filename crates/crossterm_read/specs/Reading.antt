-- The answers of a device over a reader of bytes.
use Rattle.std.specs.Prelude.{◌≡◌, ◌⊎◌, ◌-◌, ◌^◌, ℕ, Bool, false, Option, None, Some, List, [], ◌∷◌, ◌++◌, refl, ⊤}
use Rattle.std.specs.Io.KnownBytes.{Consumes, IsAtEnd}
use Rattle.std.specs.declared.io.ErrorKind.{ErrorKind}
use Rattle.std.specs.declared.io.ErrorKind.TheVariants.{WouldBlock, Interrupted}
use Rattle.std.proofs.Common.{subst, sym, ap, inl, inr, ◌∙◌, append_assoc}
use Rattle.crossterm_read.specs.Device.{Answering, DeviceAnswer, Bytes, Resized, Woken, Idle, Fault}

-- The kind of an error that only says that nothing came yet.
abbrev pub IsNothingYet : ErrorKind → Type 0
IsNothingYet kind = (kind ≡ WouldBlock) ⊎ (kind ≡ Interrupted)

-- The kind of any other error.
abbrev pub IsFault : ErrorKind → Type 0
IsFault kind = IsNothingYet kind → ⊥

-- The greatest number of failures that is counted.
abbrev pub greatest : ℕ
greatest = 2 ^ 64 - 1

-- The bytes of a device's answers, joined.
abbrev pub bytes_answered : List DeviceAnswer → List ℕ
bytes_answered [] = []
bytes_answered (Bytes bytes raw ∷ ws) = bytes ++ bytes_answered ws
bytes_answered (Resized columns rows ∷ ws) = bytes_answered ws
bytes_answered (Woken ∷ ws) = bytes_answered ws
bytes_answered (Idle ∷ ws) = bytes_answered ws
bytes_answered (Fault kind ∷ ws) = bytes_answered ws

-- One of the answers has no bytes: the end of input.
abbrev pub AnswersEnd : List DeviceAnswer → Type 0
AnswersEnd [] = ⊥
AnswersEnd (Bytes [] raw ∷ ws) = Unit {0}
AnswersEnd (Bytes (x ∷ xs) raw ∷ ws) = AnswersEnd ws
AnswersEnd (Resized columns rows ∷ ws) = AnswersEnd ws
AnswersEnd (Woken ∷ ws) = AnswersEnd ws
AnswersEnd (Idle ∷ ws) = AnswersEnd ws
AnswersEnd (Fault kind ∷ ws) = AnswersEnd ws

-- If it was known which bytes were left, none is left now.
abbrev pub AreSpent : Option (List ℕ) → Option (List ℕ) → Type 0
AreSpent None after = ⊤
AreSpent (Some xs) after = IsAtEnd after

-- The bytes of the answers are the first that the reader had left. The end of input is answered only if none is left.
abbrev pub ReadingAnswers : Option (List ℕ) → List DeviceAnswer → Option (List ℕ) → Type 0
ReadingAnswers before device_answers after = Consumes before after (bytes_answered device_answers) × (AnswersEnd device_answers → AreSpent before after)

-- Its two laws.
pub reading_none : (o : Option (List ℕ)) → ReadingAnswers o [] o
reading_none None = (tt, λ e. absurd e)
reading_none (Some xs) = (refl, λ e. absurd e)

answered_join : (xs ys : List DeviceAnswer) → bytes_answered (xs ++ ys) ≡ bytes_answered xs ++ bytes_answered ys
answered_join [] ys = refl
answered_join (Bytes bytes raw ∷ xs) ys = ap (λ l. bytes ++ l) (answered_join xs ys) ∙ sym (append_assoc bytes (bytes_answered xs) (bytes_answered ys))
answered_join (Resized columns rows ∷ xs) ys = answered_join xs ys
answered_join (Woken ∷ xs) ys = answered_join xs ys
answered_join (Idle ∷ xs) ys = answered_join xs ys
answered_join (Fault kind ∷ xs) ys = answered_join xs ys

end_in_one : (xs ys : List DeviceAnswer) → AnswersEnd (xs ++ ys) → AnswersEnd xs ⊎ AnswersEnd ys
end_in_one [] ys e = inr e
end_in_one (Bytes [] raw ∷ xs) ys e = inl tt
end_in_one (Bytes (x ∷ more) raw ∷ xs) ys e = end_in_one xs ys e
end_in_one (Resized columns rows ∷ xs) ys e = end_in_one xs ys e
end_in_one (Woken ∷ xs) ys e = end_in_one xs ys e
end_in_one (Idle ∷ xs) ys e = end_in_one xs ys e
end_in_one (Fault kind ∷ xs) ys e = end_in_one xs ys e

on : (a b c : Option (List ℕ)) (p q : List ℕ) → Consumes a b p → Consumes b c q → Consumes a c (p ++ q)
on None b c p q d e = tt
on (Some xs) None c p q d e = absurd d
on (Some xs) (Some ys) None p q d e = e
on (Some xs) (Some ys) (Some zs) p q d e = d ∙ (ap (λ l. p ++ l) e ∙ sym (append_assoc p q zs))

-- If nothing was left, nothing is left after more answers.
none_after : (q zs : List ℕ) → [] ≡ q ++ zs → zs ≡ []
none_after [] zs e = sym e
none_after (x ∷ q) zs e = absurd (cc)

spent_first : (a b c : Option (List ℕ)) (p q : List ℕ) → Consumes a b p → Consumes b c q → AreSpent a b → AreSpent a c
spent_first None b c p q d e s = tt
spent_first (Some xs) None c p q d e s = absurd d
spent_first (Some xs) (Some ys) None p q d e s = absurd e
spent_first (Some xs) (Some ys) (Some zs) p q d e s = none_after q zs (sym s ∙ e)

spent_last : (a b c : Option (List ℕ)) (p : List ℕ) → Consumes a b p → AreSpent b c → AreSpent a c
spent_last None b c p d s = tt
spent_last (Some xs) None c p d s = absurd d
spent_last (Some xs) (Some ys) c p d s = s

spent_on : (a b c : Option (List ℕ)) (xs ys : List DeviceAnswer) → ReadingAnswers a xs b → ReadingAnswers b ys c → AnswersEnd xs ⊎ AnswersEnd ys → AreSpent a c
spent_on a b c xs ys d e (inl first) = spent_first a b c (bytes_answered xs) (bytes_answered ys) d.0 e.0 (d.1 first)
spent_on a b c xs ys d e (inr last) = spent_last a b c (bytes_answered xs) d.0 (e.1 last)

pub reading_on : (a b c : Option (List ℕ)) (xs ys : List DeviceAnswer) → ReadingAnswers a xs b → ReadingAnswers b ys c → ReadingAnswers a (xs ++ ys) c
reading_on a b c xs ys d e = (
  subst (λ (l : List ℕ). Consumes a c l) (sym (answered_join xs ys)) (on a b c (bytes_answered xs) (bytes_answered ys) d.0 e.0),
  λ ends. spent_on a b c xs ys d e (end_in_one xs ys ends),
)

-- None of the answers is a resize.
abbrev pub NoneResized : List DeviceAnswer → Type 0
NoneResized [] = Unit {0}
NoneResized (Bytes bytes raw ∷ ws) = NoneResized ws
NoneResized (Resized columns rows ∷ ws) = ⊥
NoneResized (Woken ∷ ws) = NoneResized ws
NoneResized (Idle ∷ ws) = NoneResized ws
NoneResized (Fault kind ∷ ws) = NoneResized ws

none_resized_on : (xs ys : List DeviceAnswer) → NoneResized xs → NoneResized ys → NoneResized (xs ++ ys)
none_resized_on [] ys n m = m
none_resized_on (Bytes bytes raw ∷ xs) ys n m = none_resized_on xs ys n m
none_resized_on (Resized columns rows ∷ xs) ys n m = absurd n
none_resized_on (Woken ∷ xs) ys n m = none_resized_on xs ys n m
none_resized_on (Idle ∷ xs) ys n m = none_resized_on xs ys n m
none_resized_on (Fault kind ∷ xs) ys n m = none_resized_on xs ys n m

-- If nothing reports sizes, no resize is answered.
abbrev pub SizesAnswer : Bool → List DeviceAnswer → Bool → Type 0
SizesAnswer before device_answers after = before ≡ false → NoneResized device_answers × (after ≡ false)

pub sizes_on : (a b c : Bool) (xs ys : List DeviceAnswer) → SizesAnswer a xs b → SizesAnswer b ys c → SizesAnswer a (xs ++ ys) c
sizes_on a b c xs ys d e none =
    let first = d none in
    let last = e first.1 in
    (none_resized_on xs ys first.0 last.0, last.1)

-- How a device over a reader answers, by the bytes that its reader has left, and by whether something reports sizes.
abbrev pub reading_answering : {D : Type 0} → (D → Option (List ℕ)) → (D → Bool) → Answering D
reading_answering left sizes = record {
  answered = λ s device_answers t. ReadingAnswers (left s) device_answers (left t) × SizesAnswer (sizes s) device_answers (sizes t);
  none = λ s. (reading_none (left s), λ none. (tt, none));
  on = λ s t u xs ys d e. (reading_on (left s) (left t) (left u) xs ys d.0 e.0, sizes_on (sizes s) (sizes t) (sizes u) xs ys d.1 e.1);
}
