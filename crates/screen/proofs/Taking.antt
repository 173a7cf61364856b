-- The cells that characters take.
use Rattle.std.proofs.Common.{◌≡◌, ℕ, zero, suc, ◌+◌, ◌-◌, ◌*◌, ◌%◌, ◌<◌, ◌≤◌, ◌==◌, nat_le, Bool, true, false, cond, List, [], ◌∷◌, ◌++◌, inl, refl, sym, ap, ◌∙◌, subst, arith, length, length-append, take, drop}
use Rattle.std.specs.List.{All, AllByRecursion}
use Rattle.std.proofs.lemmas.Bool.Decides.{nat_tests}
use Rattle.std.proofs.lemmas.List.Elements.{All-append}
use Rattle.std.proofs.lemmas.List.{take_at}
use Rattle.std.proofs.Math.Nat.{mul-le-mul_right}
use Rattle.std.proofs.lemmas.Nat.{mod-mul-add}
use Rattle.crossterm_style.specs.declared.content_style.ContentStyle.{ContentStyle}
use Rattle.screen.specs.Cells.{AreLaidOut, ArePaired, Cell, FitsCell, IsPrinted, IsPlaced}
use Rattle.screen.specs.Grids.{is_last, takes_two}
use Rattle.screen.specs.Overwriting.{cells_with, covered, overwritten}
use Rattle.screen.specs.Texts.{cells_of, columns, part_columns, text_columns, within}
use Rattle.screen.proofs.Fitting.{held_placed, printed_there}
use Rattle.screen.proofs.Halves.{overwritten_length}
use Rattle.screen.proofs.Laying.{StayFrom, overwritten_laid_out, paired_joined, stay_joined}
use Rattle.screen.proofs.Squares.{zero_takes_no_two}

-- ---- a character and its marks

abbrev cells_by : Bool → ContentStyle → ℕ → List ℕ → List Cell
cells_by two s c marks = cond two (record { symbol = c; marks = marks; style = s } ∷ covered s ∷ []) (record { symbol = c; marks = marks; style = s } ∷ [])

placed_by : (two : Bool) (s : ContentStyle) (c : ℕ) (marks : List ℕ) → FitsCell (c ∷ marks) → All IsPlaced (cells_by two s c marks)
placed_by true s c marks p zero d lt = held_placed (record { symbol = c; marks = marks; style = s }) p
placed_by true s c marks p (suc zero) d lt = inl refl
placed_by true s c marks p (suc (suc k)) d lt = absurd (omega (arith, lt))
placed_by false s c marks p zero d lt = held_placed (record { symbol = c; marks = marks; style = s }) p
placed_by false s c marks p (suc k) d lt = absurd (omega (arith, lt))

paired_by : (two : Bool) (s : ContentStyle) (c : ℕ) (marks : List ℕ) → takes_two c ≡ two → IsPrinted c → ArePaired false (cells_by two s c marks)
paired_by true s c marks e p = (printed_there c p, (sym e, zero_takes_no_two))
paired_by false s c marks e p = (printed_there c p, e)

stay_by : (two : Bool) (s : ContentStyle) (c : ℕ) (marks : List ℕ) (width at : ℕ) → takes_two c ≡ two → (two ≡ true → is_last width at ≡ false) → StayFrom width at (cells_by two s c marks)
stay_by true s c marks width at e room = (λ w. room refl, (λ w. let no : true ≡ false = sym w ∙ zero_takes_no_two in cc, tt))
stay_by false s c marks width at e room = (λ w. let no : true ≡ false = sym w ∙ e in cc, tt)

length_by : (two : Bool) (s : ContentStyle) (c : ℕ) (marks : List ℕ) → length (cells_by two s c marks) ≡ cond two 2 1
length_by true s c marks = refl
length_by false s c marks = refl

pub with_length : (s : ContentStyle) (p : List ℕ) → length (cells_with s p) ≡ part_columns p
with_length s [] = refl
with_length s (c ∷ marks) = length_by (takes_two c) s c marks

pub with_placed : (s : ContentStyle) (p : List ℕ) → FitsCell p → All IsPlaced (cells_with s p)
with_placed s [] h = absurd h
with_placed s (c ∷ marks) h = placed_by (takes_two c) s c marks h

pub with_paired : (s : ContentStyle) (p : List ℕ) → FitsCell p → ArePaired false (cells_with s p)
with_paired s [] h = absurd h
with_paired s (c ∷ marks) h = paired_by (takes_two c) s c marks refl h.0

-- In a row a place isn't the last one if there is another one behind it.
not_last : (width row column : ℕ) → column + 1 < width → is_last width (row * width + column) ≡ false
not_last width row column lt =
    let shifted : row * width + column + 1 ≡ row * width + (column + 1) = omega arith in
    let left : (row * width + column + 1) % width ≡ column + 1 = ap (λ n. n % width) shifted ∙ mod-mul-add row width (column + 1) lt in
    ap (λ n. n == 0) left ∙ grind (arith, nat_tests)

two_columns : (two : Bool) (column width : ℕ) → column + cond two 2 1 ≤ width → two ≡ true → column + 1 < width
two_columns true column width le e = omega (arith, le)
two_columns false column width le e = cc

pub with_stay : (s : ContentStyle) (p : List ℕ) (width row column : ℕ) → column + part_columns p ≤ width → StayFrom width (row * width + column) (cells_with s p)
with_stay s [] width row column le = tt
with_stay s (c ∷ marks) width row column le =
    stay_by (takes_two c) s c marks width (row * width + column) refl (λ e. not_last width row column (two_columns (takes_two c) column width le e))

-- Cells in which a character is set stay laid out.
pub symbol_laid_out : (s : ContentStyle) (c : List ℕ) (width row column : ℕ) (cells : List Cell) → column + part_columns c ≤ width → row * width + column + part_columns c ≤ length cells
    → FitsCell c → AreLaidOut width cells → AreLaidOut width (overwritten cells (row * width + column) (cells_with s c))
symbol_laid_out s c width row column cells room le p laid =
    overwritten_laid_out width (row * width + column) cells (cells_with s c) (omega (arith, le, with_length s c)) laid (with_placed s c p) (with_paired s c p) (with_stay s c width row column room)

-- ---- a text

pub text_length : (s : ContentStyle) (text : List (List ℕ)) → length (cells_of s text) ≡ text_columns text
text_length s [] = refl
text_length s (c ∷ text) = length-append (cells_with s c) (cells_of s text) ∙ ap (λ n. n + length (cells_of s text)) (with_length s c) ∙ ap (λ n. part_columns c + n) (text_length s text)

pub text_placed : (s : ContentStyle) (text : List (List ℕ)) → AllByRecursion FitsCell text → All IsPlaced (cells_of s text)
text_placed s [] all = λ k d lt. absurd (omega (arith, lt))
text_placed s (c ∷ text) all = All-append IsPlaced (cells_with s c) (cells_of s text) (with_placed s c all.0) (text_placed s text all.1)

pub text_paired : (s : ContentStyle) (text : List (List ℕ)) → AllByRecursion FitsCell text → ArePaired false (cells_of s text)
text_paired s [] all = refl
text_paired s (c ∷ text) all = paired_joined false (cells_with s c) (cells_of s text) (with_paired s c all.0) (text_paired s text all.1)

text_stay : (s : ContentStyle) (text : List (List ℕ)) (width row column : ℕ) → column + text_columns text ≤ width → StayFrom width (row * width + column) (cells_of s text)
text_stay s [] width row column le = tt
text_stay s (c ∷ text) width row column le =
    let n = part_columns c in
    let moved : row * width + (column + n) ≡ row * width + column + length (cells_with s c) = omega (arith, with_length s c) in
    stay_joined width (row * width + column) (cells_with s c) (cells_of s text) (with_stay s c width row column (omega (arith, le)))
    (subst (λ k. StayFrom width k (cells_of s text)) moved (text_stay s text width row (column + n) (omega (arith, le))))

within_by : (fits : Bool) (room : ℕ) (c : List ℕ) (text : List (List ℕ)) → nat_le (part_columns c) room ≡ fits → text_columns (within (room - part_columns c) text) ≤ room - part_columns c
    → text_columns (cond fits (c ∷ within (room - part_columns c) text) []) ≤ room
within_by true room c text e le =
    let few : part_columns c ≤ room = grind (arith, nat_tests) in
    let goal : part_columns c + text_columns (within (room - part_columns c) text) ≤ room = omega (arith, few, le) in goal
within_by false room c text e le = let goal : 0 ≤ room = omega arith in goal

-- What is shown in so many columns takes no more.
pub within_columns : (text : List (List ℕ)) (room : ℕ) → text_columns (within room text) ≤ room
within_columns [] room = omega arith
within_columns (c ∷ text) room = within_by (nat_le (part_columns c) room) room c text refl (within_columns text (room - part_columns c))

-- Cells in which a text is printed stay laid out.
pub text_laid_out : (s : ContentStyle) (text : List (List ℕ)) (width row column : ℕ) (cells : List Cell) → column + text_columns text ≤ width → row * width + column + text_columns text ≤ length cells
    → AllByRecursion FitsCell text → AreLaidOut width cells → AreLaidOut width (overwritten cells (row * width + column) (cells_of s text))
text_laid_out s text width row column cells room le all laid =
    overwritten_laid_out width (row * width + column) cells (cells_of s text) (omega (arith, le, text_length s text)) laid (text_placed s text all) (text_paired s text all) (text_stay s text width row column room)

-- ---- all cells of a buffer

room_in : (row h w column n : ℕ) → row < h → column + n ≤ w → row * w + column + n ≤ w * h
room_in row h w column n r le =
    let more : (row + 1) * w ≤ h * w = mul-le-mul_right {m = row + 1} {n = h} w (omega (arith, r)) in
    let split : (row + 1) * w ≡ row * w + w = grind arith in
    let turned : h * w ≡ w * h = grind arith in
    omega (arith, more, split, turned, le)

-- Cells that replace as many others stay laid out.
pub kept : (w h n : ℕ) (items new : List Cell) → length items ≡ n → length items ≡ w * h → length new ≡ length items → AreLaidOut w new
    → (length (take n (new ++ drop (length new) items)) ≡ w * h) × AreLaidOut w (take n (new ++ drop (length new) items))
kept w h n items new count whole same laid =
    let back : new ≡ take n (new ++ drop (length new) items) = sym (take_at new (drop (length new) items) n (same ∙ count)) in
    (ap length (sym back) ∙ same ∙ whole, subst (AreLaidOut w) back laid)

pub symbol_kept : (s : ContentStyle) (c : List ℕ) (w h n row column at : ℕ) (items old new : List Cell) → length items ≡ n → length items ≡ w * h → AreLaidOut w items → old ≡ items
    → row < h → column + part_columns c ≤ w → FitsCell c → at ≡ row * w + column → new ≡ overwritten old at (cells_with s c)
    → (length (take n (new ++ drop (length new) items)) ≡ w * h) × AreLaidOut w (take n (new ++ drop (length new) items))
symbol_kept s c w h n row column at items old new count whole laid is r room p place written =
    let le : row * w + column + part_columns c ≤ length items = omega (arith, room_in row h w column (part_columns c) r room, whole) in
    let now : new ≡ overwritten items (row * w + column) (cells_with s c) =
    written ∙ ap (λ l. overwritten l at (cells_with s c)) is ∙ ap (λ k. overwritten items k (cells_with s c)) place in
    kept w h n items new count whole (ap length now ∙ overwritten_length items (cells_with s c) (row * w + column) (omega (arith, le, with_length s c)))
    (subst (AreLaidOut w) (sym now) (symbol_laid_out s c w row column items room le p laid))

pub text_kept : (s : ContentStyle) (text : List (List ℕ)) (w h n row column room at : ℕ) (items old new : List Cell) → length items ≡ n → length items ≡ w * h → AreLaidOut w items → old ≡ items
    → row < h → column + room ≤ w → AllByRecursion FitsCell (within room text) → at ≡ row * w + column → new ≡ overwritten old at (cells_of s (within room text))
    → (length (take n (new ++ drop (length new) items)) ≡ w * h) × AreLaidOut w (take n (new ++ drop (length new) items))
text_kept s text w h n row column room at items old new count whole laid is r k all place written =
    let shown = within room text in
    let fits : column + text_columns shown ≤ w = omega (arith, within_columns text room, k) in
    let le : row * w + column + text_columns shown ≤ length items = omega (arith, room_in row h w column (text_columns shown) r fits, whole) in
    let now : new ≡ overwritten items (row * w + column) (cells_of s shown) =
    written ∙ ap (λ l. overwritten l at (cells_of s shown)) is ∙ ap (λ m. overwritten items m (cells_of s shown)) place in
    kept w h n items new count whole (ap length now ∙ overwritten_length items (cells_of s shown) (row * w + column) (omega (arith, le, text_length s shown)))
    (subst (AreLaidOut w) (sym now) (text_laid_out s shown w row column items fits le all laid))

-- A part with a character.
abbrev pub HasCharacter : List ℕ → Type 0
HasCharacter [] = ⊥
HasCharacter (c ∷ marks) = Unit {0}

-- In no column nothing is shown.
pub within_none : (room : ℕ) (text : List (List ℕ)) → AllByRecursion HasCharacter text → room ≡ 0 → within room text ≡ []
within_none room [] all e = refl
within_none room ([] ∷ text) all e = absurd all.0
within_none room ((c ∷ marks) ∷ text) all e =
    elim (takes_two c) as (λ two. cond (nat_le (cond {A = ℕ} two 2 1) room) ((c ∷ marks) ∷ within (room - columns c) text) [] ≡ []) [
      | true ↦ ap (λ k. cond (nat_le 2 k) ((c ∷ marks) ∷ within (room - columns c) text) []) e
      | false ↦ ap (λ k. cond (nat_le 1 k) ((c ∷ marks) ∷ within (room - columns c) text) []) e
    ]
