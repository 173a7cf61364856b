-- The parts of a text.
use Rattle.std.proofs.Common.{◌≡◌, ℕ, ◌-◌, ◌<◌, ◌≤◌, Bool, true, false, cond, List, [], ◌∷◌, ◌++◌, refl, sym, ap, ◌∙◌, subst, arith, length, length-append, take, append_assoc, append-nil, get_or, slice_range}
use lib.Utf8.{scalar, scalars}
use Rattle.std.proofs.lemmas.Bool.{and_parts}
use Rattle.std.proofs.lemmas.List.{length-take-le, take_at, take_all}
use Rattle.std.proofs.lemmas.Str.{chars_past_char, encode_ascii, scalars-chars}
use Rattle.std.specs.Char.{IsScalar}
use Rattle.std.specs.Str.{IsUtf8, chars}
use Rattle.screen.specs.Marks.{AreMarks, is_mark_of, most_marks}
use Rattle.screen.specs.Parts.{before_parts, text_parts}
use Rattle.screen.specs.inside.FirstParts.{HoldsMarks, IsFirstPart, behind_marks, first_marks}
use Rattle.screen.proofs.Marking.{low_isnt_mark}

-- ---- the first part

first_by : (c d : ℕ) (ds : List ℕ) (ps : List (List ℕ)) (text : List ℕ) (b : Bool) → is_mark_of c d ≡ b → text_parts (d ∷ text) ≡ (d ∷ first_marks d text) ∷ text_parts (behind_marks d text)
    → cond b ((c ∷ d ∷ first_marks d text) ∷ text_parts (behind_marks d text)) ((c ∷ []) ∷ (d ∷ first_marks d text) ∷ text_parts (behind_marks d text))
    ≡ (c ∷ cond b (d ∷ first_marks d text) []) ∷ text_parts (cond b (behind_marks d text) (d ∷ text))
first_by c d ds ps text true e more = refl
first_by c d ds ps text false e more = ap (λ ps. (c ∷ []) ∷ ps) (sym more)

-- The first part of a text is its first character with the marks behind it.
pub parts_first : (c : ℕ) (text : List ℕ) → text_parts (c ∷ text) ≡ (c ∷ first_marks c text) ∷ text_parts (behind_marks c text)
parts_first c [] = refl
parts_first c (d ∷ text) = ap (before_parts c) (parts_first d text) ∙ first_by c d [] [] text (is_mark_of c d) refl (parts_first d text)

joined_by : (d : ℕ) (text : List ℕ) (b : Bool) → text ≡ first_marks d text ++ behind_marks d text
    → d ∷ text ≡ cond b (d ∷ first_marks d text) [] ++ cond b (behind_marks d text) (d ∷ text)
joined_by d text true e = ap (λ t. d ∷ t) e
joined_by d text false e = refl

-- A text is the marks that it begins with, and what is behind them.
pub marks_joined : (c : ℕ) (text : List ℕ) → text ≡ first_marks c text ++ behind_marks c text
marks_joined c [] = refl
marks_joined c (d ∷ text) = joined_by d text (is_mark_of c d) (marks_joined d text)

are_by : (c d : ℕ) (marks : List ℕ) (b : Bool) → is_mark_of c d ≡ b → IsScalar d → AreMarks d marks → AreMarks c (cond b (d ∷ marks) [])
are_by c d marks true e s m = (s, e, m)
are_by c d marks false e s m = tt

-- The marks that a text begins with are marks.
pub first_are_marks : (c : ℕ) (text : List ℕ) → scalars text ≡ true → AreMarks c (first_marks c text)
first_are_marks c [] s = tt
first_are_marks c (d ∷ text) s =
    let both = and_parts (scalar d) (scalars text) s in
    are_by c d (first_marks d text) (is_mark_of c d) refl both.0 (first_are_marks d text both.1)

-- What the code holds of a text that begins with a character is the first part.
pub is_first : (c : ℕ) (text back held : List ℕ) (is_long : Bool) → scalars (c ∷ text) ≡ true → HoldsMarks is_long held (first_marks c text) → back ≡ behind_marks c text
    → IsFirstPart (c ∷ text) (record { symbol = c; marks = held; is_long = is_long }) back
is_first c text back held is_long s h e =
    let both = and_parts (scalar c) (scalars text) s in
    record {
      front = c ∷ first_marks c text;
      first = parts_first c text ∙ ap (λ t. (c ∷ first_marks c text) ∷ text_parts t) (sym e);
      joined = ap (λ t. c ∷ t) (marks_joined c text ∙ ap (λ t. first_marks c text ++ t) (sym e));
      held = (refl, both.0, first_are_marks c text both.1, h);
    }

-- ---- marks that are gathered

-- Those that are held, if `more` are to come of `all`. If there are more than three, the first three are held.
abbrev pub Holds : Bool → List ℕ → List ℕ → List ℕ → Type 0
Holds false held more all = (all ≡ held ++ more) × (length held ≤ most_marks)
Holds true held more all = HoldsMarks true held all

pub marks_with : (last c : ℕ) (text : List ℕ) → is_mark_of last c ≡ true → first_marks last (c ∷ text) ≡ c ∷ first_marks c text
marks_with last c text e = ap (λ b. cond b (c ∷ first_marks c text) []) e

pub behind_with : (last c : ℕ) (text : List ℕ) → is_mark_of last c ≡ true → behind_marks last (c ∷ text) ≡ behind_marks c text
behind_with last c text e = ap (λ b. cond b (behind_marks c text) (c ∷ text)) e

pub marks_without : (last c : ℕ) (text : List ℕ) → is_mark_of last c ≡ false → first_marks last (c ∷ text) ≡ []
marks_without last c text e = ap (λ b. cond b (c ∷ first_marks c text) []) e

pub behind_without : (last c : ℕ) (text : List ℕ) → is_mark_of last c ≡ false → behind_marks last (c ∷ text) ≡ c ∷ text
behind_without last c text e = ap (λ b. cond b (behind_marks c text) (c ∷ text)) e

-- With room for it, one more is held.
pub holds_more : (is_long : Bool) (held more all : List ℕ) (c : ℕ) → Holds is_long held (c ∷ more) all → length held < most_marks → Holds is_long (held ++ c ∷ []) more all
holds_more false held more all c h room = (h.0 ∙ sym (append_assoc held (c ∷ []) more), omega (arith, length-append held (c ∷ [])))
holds_more true held more all c h room = absurd (omega (arith, ap length h.0, length-take-le 3 all))

-- Without room for it, the first three are held.
pub holds_full : (is_long : Bool) (held more all : List ℕ) (c : ℕ) → Holds is_long held (c ∷ more) all → most_marks ≤ length held → HoldsMarks true held all
holds_full false held more all c h full =
    let three : length held ≡ 3 = omega (arith, h.1) in
    (sym (ap (take 3) h.0 ∙ take_at held (c ∷ more) 3 three), omega (arith, ap length h.0, length-append held (c ∷ more)))
holds_full true held more all c h full = h

-- At the end all are held, or the first three.
pub holds_all : (is_long : Bool) (held all : List ℕ) → Holds is_long held [] all → HoldsMarks is_long held all
holds_all false held all h =
    let same : held ≡ all = sym (append-nil held) ∙ sym h.0 in
    (same, omega (arith, h.1, ap length same))
holds_all true held all h = h

-- ---- two characters of one byte

first_plain : (a b : ℕ) (bytes : List ℕ) → IsUtf8 (a ∷ b ∷ bytes) → IsUtf8 (b ∷ bytes) → a < 128 → b < 128
    → IsFirstPart (chars (a ∷ b ∷ bytes)) (record { symbol = a; marks = []; is_long = false }) (chars (b ∷ bytes))
first_plain a b bytes u v la lb =
    let one : chars (a ∷ b ∷ bytes) ≡ a ∷ chars (b ∷ bytes) = chars_past_char (a ∷ b ∷ bytes) (b ∷ bytes) a u (ap (λ t. t ++ b ∷ bytes) (sym (encode_ascii a la))) in
    let two : chars (b ∷ bytes) ≡ b ∷ chars bytes = chars_past_char (b ∷ bytes) bytes b v (ap (λ t. t ++ bytes) (sym (encode_ascii b lb))) in
    let none : is_mark_of a b ≡ false = low_isnt_mark a b (omega arith) in
    let marks : first_marks a (chars (b ∷ bytes)) ≡ [] = ap (first_marks a) two ∙ marks_without a b (chars bytes) none in
    let behind : behind_marks a (chars (b ∷ bytes)) ≡ chars (b ∷ bytes) = ap (behind_marks a) two ∙ behind_without a b (chars bytes) none ∙ sym two in
    let s : scalars (a ∷ chars (b ∷ bytes)) ≡ true = ap scalars (sym one) ∙ scalars-chars (a ∷ b ∷ bytes) u in
    subst (λ t. IsFirstPart t (record { symbol = a; marks = []; is_long = false }) (chars (b ∷ bytes))) (sym one)
    (is_first a (chars (b ∷ bytes)) (chars (b ∷ bytes)) [] false s (sym marks, omega (arith, ap length marks)) (sym behind))

-- The first part of a text that begins with two characters of one byte is the first of them.
pub first_of_two : (text back : List ℕ) → IsUtf8 text → IsUtf8 back → 2 ≤ length text → get_or text 0 0 < 128 → get_or text 1 0 < 128 → back ≡ slice_range text 1 (length text)
    → IsFirstPart (chars text) (record { symbol = get_or text 0 0; marks = []; is_long = false }) (chars back)
first_of_two [] back u v two la lb e = absurd (omega (arith, two))
first_of_two (a ∷ []) back u v two la lb e = absurd (omega (arith, two))
first_of_two (a ∷ b ∷ bytes) back u v two la lb e =
    let same : back ≡ b ∷ bytes = e ∙ take_all (length (a ∷ b ∷ bytes) - 1) (b ∷ bytes) (omega arith) in
    subst (λ t. IsFirstPart (chars (a ∷ b ∷ bytes)) (record { symbol = a; marks = []; is_long = false }) (chars t)) (sym same)
    (first_plain a b bytes u (subst IsUtf8 same v) la lb)
