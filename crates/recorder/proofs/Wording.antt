-- The words of a line.
use Rattle.std.proofs.Common.{◌≡◌, ℕ, ◌==◌, ◌+◌, true, false, List, [], ◌∷◌, ◌++◌, length, map, None, arith, ap, refl, sym, ◌∙◌}
use mathlib.Core.Bool.{true≢false}
use Rattle.std.specs.Cmp.{unsigned_Decides}
use Rattle.std.specs.declared.result.Result.TheVariants.{Ok, Err}
use Rattle.crossterm_read.specs.Device.{DeviceAnswer}
use Rattle.crossterm_read.specs.declared.source.script.Act.{Act}
use Rattle.recorder.specs.Lines.{act_answer}
use Rattle.recorder.specs.Reads.{Session, only, pair, parts, read_after, read_alone, read_fault, read_named, read_next, read_then}
use Rattle.recorder.specs.declared.reading.Wrong.{Wrong}
use Rattle.recorder.specs.declared.reading.Wrong.TheVariants.{Argument, Unended}
use Rattle.recorder.proofs.Cutting.{parts_there}
use Rattle.recorder.proofs.ReadBack.{read_one}

pub only_many : (first : List ℕ) (rest : List (List ℕ)) → (rest ≡ [] → ⊥) → only (first ∷ rest) ≡ None
only_many first [] f = absurd (f refl)
only_many first (a ∷ rest) f = refl

pub pair_many : (first second : List ℕ) (rest : List (List ℕ)) → (rest ≡ [] → ⊥) → pair (first ∷ second ∷ rest) ≡ None
pair_many first second [] f = absurd (f refl)
pair_many first second (a ∷ rest) f = refl

pub fault_words : (words : List (List ℕ)) → (words ≡ [] → ⊥) → read_fault words ≡ read_named (only words)
fault_words [] f = absurd (f refl)
fault_words (word ∷ words) f = refl

pub alone_words : (w : DeviceAnswer) (words : List (List ℕ)) → (words ≡ [] → ⊥) → read_alone w words ≡ Err Argument
alone_words w [] f = absurd (f refl)
alone_words w (word ∷ words) f = refl

-- ---- lines

pub noted_on : {A : Type 0} → (acts : List (Act A)) (a : Act A) → map act_answer (acts ++ a ∷ []) ≡ map act_answer acts ++ act_answer a ∷ []
noted_on [] a = refl
noted_on (x ∷ acts) a = ap (λ l. act_answer x ∷ l) (noted_on acts a)

pub next_line : (s t : Session) (n : ℕ) (rest first after : List ℕ) → parts 10 rest ≡ first ∷ parts 10 after → read_next s first ≡ Ok t
    → read_after s n (parts 10 rest) ≡ read_after t (n + 1) (parts 10 after)
next_line s t n rest first after e f =
    ap (read_after s n) e ∙ read_one s n first (parts 10 after) (parts_there 10 after)
    ∙ ap (λ r. read_then n r (λ t. read_after t (n + 1) (parts 10 after))) f

pub bad_line : (s : Session) (n : ℕ) (rest first after : List ℕ) (e : Wrong) → parts 10 rest ≡ first ∷ parts 10 after → read_next s first ≡ Err e
    → read_after s n (parts 10 rest) ≡ Err (record { number = n; reason = e })
bad_line s n rest first after e p f =
    ap (read_after s n) p ∙ read_one s n first (parts 10 after) (parts_there 10 after)
    ∙ ap (λ r. read_then n r (λ t. read_after t (n + 1) (parts 10 after))) f

cut_off : (s : Session) (n : ℕ) (rest : List ℕ) → (rest ≡ [] → ⊥) → read_after s n (rest ∷ []) ≡ Err (record { number = n; reason = Unended })
cut_off s n [] f = absurd (f refl)
cut_off s n (b ∷ bs) f = refl

pub cut_line : (s : Session) (n : ℕ) (rest : List ℕ) → parts 10 rest ≡ rest ∷ [] → (rest ≡ [] → ⊥)
    → read_after s n (parts 10 rest) ≡ Err (record { number = n; reason = Unended })
cut_line s n rest e f = ap (read_after s n) e ∙ cut_off s n rest f

pub no_line : (s : Session) (n : ℕ) (rest : List ℕ) → rest ≡ [] → read_after s n (parts 10 rest) ≡ Ok s
no_line s n rest e = ap (λ r. read_after s n (parts 10 r)) e

pub empty_is : (text : List ℕ) → (length text == 0) ≡ true → text ≡ []
empty_is [] e = refl
empty_is (b ∷ bs) e =
    let none : length (b ∷ bs) ≡ 0 = (unsigned_Decides (length (b ∷ bs)) 0).0 e in
    absurd (omega (arith, none))

pub not_empty : (text : List ℕ) → (length text == 0) ≡ false → text ≡ [] → ⊥
not_empty [] e f = true≢false (sym ((unsigned_Decides 0 0).1 refl) ∙ e)
not_empty (b ∷ bs) e f = let none : length (b ∷ bs) ≡ 0 = ap length f in omega (arith, none)
