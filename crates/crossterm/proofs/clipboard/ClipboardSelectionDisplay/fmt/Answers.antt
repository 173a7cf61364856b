use Rattle.std.proofs.Common.{◌≡◌, ℕ, ◌+◌, ◌<◌, List, [], ◌∷◌, ◌++◌, encode_utf8, encode_utf8_all, get_or, length, map, take, true, refl, sym, ap, ◌∙◌, append-nil}
use Rattle.std.proofs.Output.{has_written_append, has_written_of_eq}
use Rattle.std.proofs.lemmas.List.{take_more, map-append}
use Rattle.std.proofs.lemmas.Str.{encodes-append}
use Rattle.crossterm.specs.declared.clipboard.ClipboardType.{ClipboardType}
use Rattle.crossterm.specs.Clipboard.{letter_of, selection_text}
use Rattle.crossterm.proofs.clipboard.ClipboardSelectionDisplay.fmt.Goals as goal

-- the letters up to a place, and the letter at it
one_more : (types : List ClipboardType) (i : ℕ) (d : ClipboardType) (c : ℕ) → i < length types → c ≡ letter_of (get_or types i d)
    → selection_text (take i types) ++ encode_utf8 c ≡ selection_text (take (i + 1) types)
one_more types i d c l e =
    let place = get_or types i d in
    let front = map letter_of (take i types) in
    let last = encode_utf8 (letter_of place) in
    sym (
    ap selection_text (take_more types i d l)
    ∙ ap encode_utf8_all (map-append letter_of (take i types) (place ∷ []))
    ∙ encodes-append front (letter_of place ∷ [])
    ∙ ap (λ t. encode_utf8_all front ++ t) (append-nil last)
    ∙ ap (λ x. encode_utf8_all front ++ encode_utf8 x) (sym e)
    )

pub loop-place-preserved : goal.loop-place-preserved
loop-place-preserved g c =
    λ plain.
    let front = c.loop-place.invariant plain in
    has_written_of_eq _ _ _ _ _ (one_more c.deref-place-items.result.now c.loop-place.place-index _ c.from.result c.loop-place-test.true c.from.ensures)
    (has_written_append _ _ _ _ _ _ front (c.in_ok-write_char.ensures.writes front.plain (refl {a = true})))
