-- An open paste, whose bytes the caller keeps.
use Rattle.std.proofs.Common.{◌≡◌, ◌==◌, ◌≤◌, ◌<◌, ℕ, ◌+◌, ◌-◌, Bool, true, false, not, ◌&&◌, if◌then◌else◌, List, [], ◌∷◌, ◌++◌, length, take, drop, get_or, refl, ap, sym, ◌∙◌, subst, arith, append_assoc}
use Rattle.std.proofs.lemmas.List.{append-nil, length-append, take-append-le, take_more, take_rest}
use Rattle.std.proofs.Math.Seq.{take-add}
use Rattle.crossterm_types.specs.Seen.{Seen}
use Rattle.crossterm_parse.specs.States.{is_paste}
use Rattle.crossterm_parse.specs.Transitions.{state_after, state_left, text_left, events_left, ByteStep, Open, Closed}
use Rattle.crossterm_parse.specs.Putting.{PutsAll, PutsByte}
use Rattle.crossterm_parse.specs.Marked.{marked}
use Rattle.crossterm_parse.specs.Meaning.{pasted}
use Rattle.crossterm_parse.specs.View.{AdvancesOver}
use Rattle.crossterm_parse.specs.declared.state.State.{State}
use Rattle.crossterm_parse.specs.declared.state.State.TheVariants.{Ground}
use Rattle.crossterm_parse.proofs.ViewLaws.{advance_more}
use Rattle.crossterm_parse.proofs.RunLaws.{advance_rest, all_on}
use Rattle.crossterm_c.specs.Feeding.{after_paste, view_of}

-- The bytes of a piece up to a place, and more of what is left.
pub taken_on : (piece : List ℕ) (i n : ℕ) → take i piece ++ take n (take (length piece - i) (drop i piece)) ≡ take (i + n) piece
taken_on piece i n = ap (λ (bs : List ℕ). take i piece ++ take n bs) (take_rest piece i) ∙ sym (take-add i n piece)

-- Bytes were skipped.
pub skipped : (old mid : State) (kept : List ℕ) (waiting : List Seen) (piece : List ℕ) (more raw : Bool) (i n : ℕ) → i + n ≤ length piece
    → ((before : List ℕ) → PutsAll (view_of mid before waiting) (view_of mid (before ++ take n (take (length piece - i) (drop i piece))) waiting) (take n (take (length piece - i) (drop i piece))))
    → AdvancesOver (view_of old kept waiting) (view_of mid (kept ++ take i piece) waiting) (take i (marked piece more raw))
    → AdvancesOver (view_of old kept waiting) (view_of mid (kept ++ take (i + n) piece) waiting) (take (i + n) (marked piece more raw))
skipped old mid kept waiting piece more raw i n l puts before =
    let rest = take n (take (length piece - i) (drop i piece)) in
    let whole : (kept ++ take i piece) ++ rest ≡ kept ++ take (i + n) piece = append_assoc kept (take i piece) rest ∙ ap (λ (bs : List ℕ). kept ++ bs) (taken_on piece i n) in
    subst (λ (bs : List ℕ). AdvancesOver (view_of old kept waiting) (view_of mid bs waiting) (take (i + n) (marked piece more raw))) whole
    (advance_rest n (view_of old kept waiting) (view_of mid (kept ++ take i piece) waiting) (view_of mid ((kept ++ take i piece) ++ rest) waiting) piece more raw i l (all_on raw _ _ _ (puts (kept ++ take i piece))) before)

text_goes_on : (s t : Bool) (text : List ℕ) (b : ℕ) → s ≡ true → t ≡ true → text ++ b ∷ [] ≡ (if t then (if s then text ++ b ∷ [] else []) else text)
text_goes_on true true text b hs ht = refl
text_goes_on true false text b hs ht = cc
text_goes_on false t text b hs ht = cc

-- A byte with which a paste goes on.
byte_goes_on : (old new : State) (text : List ℕ) (waiting : List Seen) (b : ℕ) (raw pause : Bool) → is_paste old ≡ true → is_paste new ≡ true → state_after old b raw pause ≡ Open new
    → PutsByte (view_of old text waiting) (view_of new (text ++ b ∷ []) waiting) b raw pause
byte_goes_on old new text waiting b raw pause was is opens = (
  ap (λ (s : ByteStep). state_left s) (sym opens),
  text_goes_on (is_paste old) (is_paste new) text b was is ∙ ap (λ (s : ByteStep). text_left s old text b) (sym opens),
  sym (append-nil waiting) ∙ ap (λ (s : ByteStep). waiting ++ events_left s text) (sym opens),
)

-- The byte with which it is over.
byte_closes : (old : State) (text : List ℕ) (waiting : List Seen) (b : ℕ) (raw pause : Bool) → state_after old b raw pause ≡ Closed
    → PutsByte (view_of old text waiting) (view_of Ground [] (waiting ++ pasted (take (length text - 5) text) ∷ [])) b raw pause
byte_closes old text waiting b raw pause closes = (
  ap (λ (s : ByteStep). state_left s) (sym closes),
  ap (λ (s : ByteStep). text_left s old text b) (sym closes),
  ap (λ (s : ByteStep). waiting ++ events_left s text) (sym closes),
)

-- The last byte of the end belongs to what is kept.
pub text_of_kept : (text : List ℕ) (b : ℕ) → take (length text - 5) text ≡ take (length (text ++ b ∷ []) - 6) (text ++ b ∷ [])
text_of_kept text b =
    let longer : length (text ++ b ∷ []) ≡ length text + 1 = length-append text (b ∷ []) in
    let less : length (text ++ b ∷ []) - 6 ≡ length text - 5 = omega (arith, longer) in
    sym (ap (λ (n : ℕ). take n (text ++ b ∷ [])) less ∙ take-append-le (length text - 5) text (b ∷ []) (omega arith))

-- One more byte of a piece.
pub kept_more : (kept piece : List ℕ) (i b : ℕ) → i < length piece → b ≡ get_or piece i 0 → (kept ++ take i piece) ++ b ∷ [] ≡ kept ++ take (i + 1) piece
kept_more kept piece i b l is = append_assoc kept (take i piece) (b ∷ [])
    ∙ ap (λ (bs : List ℕ). kept ++ bs) (ap (λ (x : ℕ). take i piece ++ x ∷ []) is ∙ sym (take_more piece i 0 l))

-- A byte more of an open paste.
pub paste_more : (old mid new : State) (kept : List ℕ) (waiting : List Seen) (piece : List ℕ) (more raw : Bool) (i b : ℕ) → i < length piece → b ≡ get_or piece i 0
    → is_paste mid ≡ true → is_paste new ≡ true → ((pause : Bool) → state_after mid b raw pause ≡ Open new)
    → AdvancesOver (view_of old kept waiting) (view_of mid (kept ++ take i piece) waiting) (take i (marked piece more raw))
    → AdvancesOver (view_of old kept waiting) (view_of new (kept ++ take (i + 1) piece) waiting) (take (i + 1) (marked piece more raw))
paste_more old mid new kept waiting piece more raw i b l at was is opens before =
    let text = kept ++ take i piece in
    let pause = not more && (i + 1 == length piece) in
    let puts = byte_goes_on mid new text waiting b raw pause was is (opens pause) in
    subst (λ (bs : List ℕ). AdvancesOver (view_of old kept waiting) (view_of new bs waiting) (take (i + 1) (marked piece more raw))) (kept_more kept piece i b l at)
    (advance_more (view_of old kept waiting) (view_of mid text waiting) (view_of new (text ++ b ∷ []) waiting) piece more raw i b pause l at refl puts.0 puts.1 puts.2 before)

-- The last byte of an open paste.
pub paste_closes : (old mid : State) (kept : List ℕ) (waiting : List Seen) (piece : List ℕ) (more raw : Bool) (i b : ℕ) → i < length piece → b ≡ get_or piece i 0
    → ((pause : Bool) → state_after mid b raw pause ≡ Closed)
    → AdvancesOver (view_of old kept waiting) (view_of mid (kept ++ take i piece) waiting) (take i (marked piece more raw))
    → AdvancesOver (view_of old kept waiting) (after_paste Ground (kept ++ take (i + 1) piece) waiting true) (take (i + 1) (marked piece more raw))
paste_closes old mid kept waiting piece more raw i b l at closes before =
    let text = kept ++ take i piece in
    let pause = not more && (i + 1 == length piece) in
    let puts = byte_closes mid text waiting b raw pause (closes pause) in
    let same : take (length text - 5) text ≡ take (length (kept ++ take (i + 1) piece) - 6) (kept ++ take (i + 1) piece) =
    text_of_kept text b ∙ ap (λ (bs : List ℕ). take (length bs - 6) bs) (kept_more kept piece i b l at) in
    subst (λ (bs : List ℕ). AdvancesOver (view_of old kept waiting) (view_of Ground [] (waiting ++ pasted bs ∷ [])) (take (i + 1) (marked piece more raw))) same
    (advance_more (view_of old kept waiting) (view_of mid text waiting) (view_of Ground [] (waiting ++ pasted (take (length text - 5) text) ∷ [])) piece more raw i b pause l at refl puts.0 puts.1 puts.2 before)
