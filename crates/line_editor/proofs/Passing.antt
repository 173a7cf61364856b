-- What is seen of a line, past characters of ASCII.
use Rattle.std.proofs.Common.{◌≡◌, ℕ, ◌+◌, ◌-◌, ◌<◌, ◌≤◌, true, List, ◌∷◌, length, get_or, refl, sym, ap, ◌∙◌, arith}
use Rattle.std.proofs.lemmas.Bool.{le-leb, lt-ltb}
use Rattle.std.proofs.lemmas.Str.{IsCharBoundary-after_ascii, IsCharBoundary-before_ascii}
use Rattle.std.specs.Prelude.{zero, suc}
use Rattle.std.specs.List.{AllWithin}
use Rattle.std.specs.Str.{IsUtf8, IsCharBoundary}
use Rattle.unicode_width.specs.Width.{char_width}
use Rattle.unicode_segmentation.specs.Segments.{chars_before, chars_from}
use Rattle.line_editor.specs.Places.{is_between}
use Rattle.line_editor.specs.Splits.{Split, split_at}
use Rattle.line_editor.specs.Views.{Start, columns_of, furthest, last_seen, place_or, start_at, start_or}
use Rattle.line_editor.specs.inside.Ascii.{IsPrintable}
use Rattle.line_editor.proofs.Ascii.{before-byte, between-bytes, from-byte}

-- A printable character of ASCII takes one column.
pub columns-printable : (c : ℕ) → IsPrintable c → columns_of c ≡ 1
unfolding char_width
columns-printable c h = rw (lt-ltb c 127 (omega (arith, h.1)), le-leb 32 c h.0) refl

-- A place right before one of them, or right behind it, is no part of a character.
pub boundary-before : (text : List ℕ) (from to at : ℕ) → AllWithin IsPrintable text from to → from ≤ at → at < to → to ≤ length text
    → IsCharBoundary text at
boundary-before text from to at h low high inside =
    IsCharBoundary-before_ascii text at (omega (arith, high, inside)) (let c = h at 0 low high in omega (arith, c.1))

pub boundary-behind : (text : List ℕ) (from to at : ℕ) → IsUtf8 text → AllWithin IsPrintable text from to → from < at → at ≤ to → to ≤ length text
    → IsCharBoundary text at
boundary-behind text from to at u h low high inside =
    let c = h (at - 1) 0 (omega (arith, low)) (omega (arith, low, high)) in
    let e : at ≡ (at - 1) + 1 = omega (arith, low) in
    rw e (IsCharBoundary-after_ascii text (at - 1) u (omega (arith, low, high, inside)) (omega (arith, c.1)))

-- A place between two of them is between clusters.
between-printable : (text : List ℕ) (from to at : ℕ) → IsUtf8 text → AllWithin IsPrintable text from to → to ≤ length text → from < at → at < to
    → is_between (chars_before text at) (chars_from text at) ≡ true
between-printable text from to at u h inside low high =
    let a = h (at - 1) 0 (omega (arith, low)) (omega (arith, low, high)) in
    let b = h at 0 (omega (arith, low)) high in
    between-bytes text at u (omega (arith, low)) (omega (arith, high, inside)) (omega (arith, a.1)) (omega (arith, b.1)) (λ e. omega (arith, e, b.0))

-- ---- back

-- One of them is passed.
furthest-printable : (room used c : ℕ) (before after : List ℕ) (best : Start) → IsPrintable c → used + 1 ≤ room
    → furthest room used (c ∷ before) after best
    ≡ furthest room (used + 1) before (c ∷ after) (start_or (record { place = record { before = before; after = c ∷ after }; column = used + 1 }) best)
furthest-printable room used c before after best h le = rw (columns-printable c h, le-leb (used + 1) room le) refl

furthest-byte : (text : List ℕ) (room used at place : ℕ) (best : Start) → IsUtf8 text → place < length text → IsPrintable (get_or text place 0)
    → used + 1 ≤ room → at ≡ place + 1
    → furthest room used (chars_before text at) (chars_from text at) best
    ≡ furthest room (used + 1) (chars_before text place) (chars_from text place) (start_or (start_at text (place, used + 1)) best)
furthest-byte text room used at place best u inside h le e =
    let c = get_or text place 0 in
    let below : c < 128 = omega (arith, h.1) in
    ap (λ n. furthest room used (chars_before text n) (chars_from text n) best) e
    ∙ ap (λ t. furthest room used t (chars_from text (place + 1)) best) (before-byte text place u inside below)
    ∙ furthest-printable room used c (chars_before text place) (chars_from text (place + 1)) best h le
    ∙ ap (λ t. furthest room (used + 1) (chars_before text place) t (start_or (record { place = record { before = chars_before text place; after = t }; column = used + 1 }) best))
    (sym (from-byte text place u inside below))

start-here : (text : List ℕ) (at used : ℕ) (best : Start) → is_between (chars_before text at) (chars_from text at) ≡ true
    → start_or (start_at text (at, used)) best ≡ start_at text (at, used)
start-here text at used best h = rw h refl

-- The best start if so many of them have been passed, and one more.
abbrev start_before : List ℕ → ℕ → ℕ → Start → ℕ → Start
start_before text at used best zero = best
start_before text at used best (suc n) = start_at text (at - suc n, used + suc n)

furthest-more : (text : List ℕ) (room used at : ℕ) (best : Start) (n : ℕ) → IsUtf8 text → at ≤ length text → n < at → used + n < room
    → AllWithin IsPrintable text (at - suc n) at
    → furthest room used (chars_before text at) (chars_from text at) best
    ≡ furthest room (used + suc n) (chars_before text (at - suc n)) (chars_from text (at - suc n))
    (start_or (start_at text (at - suc n, used + suc n)) (start_before text at used best n))
furthest-more text room used at best zero u inside le few h =
    furthest-byte text room used at (at - 1) best u (omega (arith, le, inside)) (h (at - 1) 0 (omega arith) (omega (arith, le))) (omega (arith, few)) (omega (arith, le))
furthest-more text room used at best (suc n) u inside le few h =
    let here = at - suc n in
    let place = at - suc (suc n) in
    let more : used + suc n + 1 ≡ used + suc (suc n) = omega arith in
    furthest-more text room used at best n u inside (omega (arith, le)) (omega (arith, few)) (λ k d low high. h k d (omega (arith, low)) high)
    ∙ ap (λ s. furthest room (used + suc n) (chars_before text here) (chars_from text here) s)
    (start-here text here (used + suc n) (start_before text at used best n) (between-printable text place at here u h inside (omega (arith, le)) (omega (arith, le))))
    ∙ furthest-byte text room (used + suc n) here place (start_at text (here, used + suc n)) u (omega (arith, le, inside))
    (h place 0 (omega arith) (omega (arith, le))) (omega (arith, few)) (omega (arith, le))
    ∙ ap (λ m. furthest room m (chars_before text place) (chars_from text place) (start_or (start_at text (place, m)) (start_at text (here, used + suc n)))) more

-- Several of them are passed at once.
pub furthest-passed : (text : List ℕ) (room used at : ℕ) (best : Start) (n : ℕ) → IsUtf8 text → at ≤ length text → 1 < n → n ≤ at → used + n ≤ room
    → AllWithin IsPrintable text (at - n) at
    → furthest room used (chars_before text at) (chars_from text at) best
    ≡ furthest room (used + n) (chars_before text (at - n)) (chars_from text (at - n))
    (start_or (start_at text (at - n, used + n)) (start_at text (at - n + 1, used + n - 1)))
furthest-passed text room used at best zero u inside some le few h = absurd (omega (arith, some))
furthest-passed text room used at best (suc zero) u inside some le few h = absurd (omega (arith, some))
furthest-passed text room used at best (suc (suc n)) u inside some le few h =
    let place = at - suc (suc n) in
    let next : at - suc n ≡ place + 1 = omega (arith, le) in
    let less : used + suc n ≡ used + suc (suc n) - 1 = omega arith in
    furthest-more text room used at best (suc n) u inside (omega (arith, le)) (omega (arith, few)) h
    ∙ ap (λ m. furthest room (used + suc (suc n)) (chars_before text place) (chars_from text place)
    (start_or (start_at text (place, used + suc (suc n))) (start_at text (m, used + suc n)))) next
    ∙ ap (λ m. furthest room (used + suc (suc n)) (chars_before text place) (chars_from text place)
    (start_or (start_at text (place, used + suc (suc n))) (start_at text (place + 1, m)))) less

-- ---- forward

last_seen-printable : (room used c : ℕ) (before after : List ℕ) (best : Split) → IsPrintable c → used + 1 ≤ room
    → last_seen room used before (c ∷ after) best
    ≡ last_seen room (used + 1) (c ∷ before) after (place_or (record { before = c ∷ before; after = after }) best)
last_seen-printable room used c before after best h le = rw (columns-printable c h, le-leb (used + 1) room le) refl

last_seen-byte : (text : List ℕ) (room used at : ℕ) (best : Split) → IsUtf8 text → at < length text → IsPrintable (get_or text at 0)
    → used + 1 ≤ room
    → last_seen room used (chars_before text at) (chars_from text at) best
    ≡ last_seen room (used + 1) (chars_before text (at + 1)) (chars_from text (at + 1)) (place_or (split_at text (at + 1)) best)
last_seen-byte text room used at best u inside h le =
    let c = get_or text at 0 in
    let below : c < 128 = omega (arith, h.1) in
    ap (λ t. last_seen room used (chars_before text at) t best) (from-byte text at u inside below)
    ∙ last_seen-printable room used c (chars_before text at) (chars_from text (at + 1)) best h le
    ∙ ap (λ t. last_seen room (used + 1) t (chars_from text (at + 1)) (place_or (record { before = t; after = chars_from text (at + 1) }) best))
    (sym (before-byte text at u inside below))

place-here : (text : List ℕ) (at : ℕ) (best : Split) → is_between (chars_before text at) (chars_from text at) ≡ true
    → place_or (split_at text at) best ≡ split_at text at
place-here text at best h = rw h refl

-- The best end if so many of them have been passed, and one more.
abbrev place_before : List ℕ → ℕ → Split → ℕ → Split
place_before text at best zero = best
place_before text at best (suc n) = split_at text (at + suc n)

last_seen-more : (text : List ℕ) (room used at : ℕ) (best : Split) (n : ℕ) → IsUtf8 text → at + suc n ≤ length text → used + n < room
    → AllWithin IsPrintable text at (at + suc n)
    → last_seen room used (chars_before text at) (chars_from text at) best
    ≡ last_seen room (used + suc n) (chars_before text (at + suc n)) (chars_from text (at + suc n))
    (place_or (split_at text (at + suc n)) (place_before text at best n))
last_seen-more text room used at best zero u inside few h =
    last_seen-byte text room used at best u (omega (arith, inside)) (h at 0 (omega arith) (omega arith)) (omega (arith, few))
last_seen-more text room used at best (suc n) u inside few h =
    let here = at + suc n in
    let more : used + suc n + 1 ≡ used + suc (suc n) = omega arith in
    let next : here + 1 ≡ at + suc (suc n) = omega arith in
    last_seen-more text room used at best n u (omega (arith, inside)) (omega (arith, few)) (λ k d low high. h k d low (omega (arith, high)))
    ∙ ap (λ s. last_seen room (used + suc n) (chars_before text here) (chars_from text here) s)
    (place-here text here (place_before text at best n) (between-printable text at (at + suc (suc n)) here u h inside (omega arith) (omega arith)))
    ∙ last_seen-byte text room (used + suc n) here (split_at text here) u (omega (arith, inside))
    (h here 0 (omega arith) (omega arith)) (omega (arith, few))
    ∙ ap (λ m. last_seen room m (chars_before text (here + 1)) (chars_from text (here + 1)) (place_or (split_at text (here + 1)) (split_at text here))) more
    ∙ ap (λ m. last_seen room (used + suc (suc n)) (chars_before text m) (chars_from text m) (place_or (split_at text m) (split_at text here))) next

pub last_seen-passed : (text : List ℕ) (room used at : ℕ) (best : Split) (n : ℕ) → IsUtf8 text → at + n ≤ length text → 1 < n → used + n ≤ room
    → AllWithin IsPrintable text at (at + n)
    → last_seen room used (chars_before text at) (chars_from text at) best
    ≡ last_seen room (used + n) (chars_before text (at + n)) (chars_from text (at + n)) (place_or (split_at text (at + n)) (split_at text (at + n - 1)))
last_seen-passed text room used at best zero u inside some few h = absurd (omega (arith, some))
last_seen-passed text room used at best (suc zero) u inside some few h = absurd (omega (arith, some))
last_seen-passed text room used at best (suc (suc n)) u inside some few h =
    let place = at + suc (suc n) in
    let less : at + suc n ≡ place - 1 = omega arith in
    last_seen-more text room used at best (suc n) u inside (omega (arith, few)) h
    ∙ ap (λ m. last_seen room (used + suc (suc n)) (chars_before text place) (chars_from text place) (place_or (split_at text place) (split_at text m))) less
