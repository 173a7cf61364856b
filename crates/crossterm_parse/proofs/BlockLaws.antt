-- Runs of letters and of digits that change no number.
use Rattle.std.proofs.Common.{◌≤◌, ◌<◌, ◌≡◌, ℕ, zero, suc, ◌+◌, ◌-◌, arith, List, ◌++◌, [], ◌∷◌, length, take, get_or, refl, ap, sym, ◌∙◌, subst}
use Rattle.std.proofs.lemmas.List.{take_more}
use Rattle.std.specs.List.{AllByRecursion}
use Rattle.crossterm_parse.specs.Bytes.{IsLetter}
use Rattle.crossterm_parse.specs.Transitions.{Opens, fields_after}
use Rattle.crossterm_parse.specs.inside.Blocks.{LieBetween}
use Rattle.crossterm_parse.specs.declared.numbered.Parameters.{Parameters}
use Rattle.crossterm_parse.specs.declared.paste.Opening.TheVariants as opening
use Rattle.crossterm_parse.specs.declared.state.State.{State}
use Rattle.crossterm_parse.specs.declared.state.State.TheVariants.{Numbered, Sgr}
use Rattle.crossterm_parse.specs.declared.utf8.Validity.TheVariants.{Sound}
use Rattle.crossterm_parse.proofs.RunLaws.{idle_number, idle_report, letters_more, opens_more}

one_more : (bytes : List ℕ) (n : ℕ) → suc n ≤ length bytes → take (suc n) bytes ≡ take n bytes ++ get_or bytes n 0 ∷ []
one_more bytes n l = let on : suc n ≡ n + 1 = omega arith in ap (λ m. take m bytes) on ∙ take_more bytes n 0 (omega (arith, l))

pub letters_between : (bytes : List ℕ) (n : ℕ) → n ≤ length bytes → LieBetween 32 126 bytes 0 n → AllByRecursion IsLetter (take n bytes)
letters_between bytes zero l all = tt
letters_between bytes (suc n) l all =
    let last = all n (omega arith) (omega arith) in
    subst (AllByRecursion IsLetter) (sym (one_more bytes n l))
    (letters_more (take n bytes) (get_or bytes n 0) (letters_between bytes n (omega (arith, l)) (λ k from to. all k from (omega (arith, to)))) (omega (arith, last.0), omega (arith, last.1)))

-- ---- digits that change no number

abbrev last_of : ℕ → List ℕ → ℕ → ℕ
last_of byte bytes zero = byte
last_of byte bytes (suc n) = get_or bytes n 0

-- parameters after so many bytes that change no number
abbrev pub after : Parameters → List ℕ → ℕ → Parameters
after p bytes n = record { fields = p.fields; last = last_of p.last bytes n; validity = p.validity }

pub after_some : (p : Parameters) (bytes : List ℕ) (n : ℕ) → 0 < n → after p bytes n ≡ record { fields = p.fields; last = get_or bytes (n - 1) 0; validity = p.validity }
after_some p bytes zero some = absurd (omega (arith, some))
after_some p bytes (suc n) some =
    let last : n ≡ suc n - 1 = omega arith in
    ap (λ (k : ℕ). record { fields = p.fields; last = get_or bytes k 0; validity = p.validity }) last

-- these bytes are digits that change no number
abbrev pub AreIdle : Parameters → List ℕ → ℕ → Type 0
AreIdle p bytes n = (k : ℕ) → k < n → (48 ≤ get_or bytes k 0) × (get_or bytes k 0 < 58) × (fields_after p.fields (get_or bytes k 0) ≡ p.fields)

pub idle_numbers : (p : Parameters) (bytes : List ℕ) (n : ℕ) → n ≤ length bytes → p.validity ≡ Sound → AreIdle p bytes n
    → Opens (Numbered p opening.Not) (Numbered (after p bytes n) opening.Not) (take n bytes)
idle_numbers p bytes zero l sound all = refl
idle_numbers p bytes (suc n) l sound all =
    let at : ℕ → State = λ m. Numbered (after p bytes m) opening.Not in
    let is = all n (omega arith) in
    subst (Opens (Numbered p opening.Not) (at (suc n))) (sym (one_more bytes n l))
    (opens_more (Numbered p opening.Not) (at n) (at (suc n)) (take n bytes) (get_or bytes n 0) (idle_numbers p bytes n (omega (arith, l)) sound (λ k to. all k (omega (arith, to))))
    (idle_number (after p bytes n) (get_or bytes n 0) is.0 is.1 sound is.2) refl)

pub idle_reports : (p : Parameters) (bytes : List ℕ) (n : ℕ) → n ≤ length bytes → p.validity ≡ Sound → AreIdle p bytes n
    → Opens (Sgr p) (Sgr (after p bytes n)) (take n bytes)
idle_reports p bytes zero l sound all = refl
idle_reports p bytes (suc n) l sound all =
    let at : ℕ → State = λ m. Sgr (after p bytes m) in
    let is = all n (omega arith) in
    subst (Opens (Sgr p) (at (suc n))) (sym (one_more bytes n l))
    (opens_more (Sgr p) (at n) (at (suc n)) (take n bytes) (get_or bytes n 0) (idle_reports p bytes n (omega (arith, l)) sound (λ k to. all k (omega (arith, to))))
    (idle_report (after p bytes n) (get_or bytes n 0) is.0 is.1 sound is.2) refl)
