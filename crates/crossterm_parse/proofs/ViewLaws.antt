-- What one more byte, and one more piece, do to what a parser represents.
use Rattle.std.proofs.Common.{◌≡◌, ◌==◌, ◌<◌, ℕ, ◌+◌, Bool, true, false, not, cond, ◌&&◌, ◌||◌, List, [], ◌∷◌, ◌++◌, length, take, get_or, zero, suc, refl, ap, sym, ◌∙◌, subst, arith, append_assoc, Option, Some, None, option_to_list, drop, inl, inr, ◌⊎◌, ◌-◌, ◌*◌, ◌≤◌, length-drop}
use Rattle.std.proofs.Math.Seq.{drop-nil}
use Rattle.std.proofs.lemmas.List.{append-nil, drop_more, take_more, append_cancel_left, take-append-drop, take-append-le, length_push}
use Rattle.std.proofs.lemmas.Bool.{false≢true, cases_Bool}
use Rattle.std.proofs.lemmas.Bool.Decides.{nat_tests}
use Rattle.std.proofs.lemmas.List.Elements.{filter_map-append}
use Rattle.std.specs.List.{filter_map, flat_map, cons_option, AllByRecursion}
use Rattle.std.specs.Option.{option_map}
use Rattle.crossterm_types.specs.Seen.{Seen}
use Rattle.crossterm_parse.specs.Marked.{Marked, bytes_of, last_raw, marked}
use Rattle.crossterm_parse.specs.Grammar.{begins, paste_mark, paste_start}
use Rattle.crossterm_parse.specs.Recognizer.{is_character, is_shape, is_whole, is_decided}
use Rattle.crossterm_parse.specs.Transitions.{state_after, state_left, text_left, events_left, IsRight, ByteStep, Open, Whole, Closed}
use Rattle.crossterm_parse.specs.States.{x10_bytes, is_paste, IsOpening, StateRepresents, prefixed, kept_text}
use Rattle.crossterm_parse.specs.Tracking.{begun_bytes}
use Rattle.crossterm_parse.specs.Division.{Divides, IsUndecided}
use Rattle.crossterm_parse.specs.Grammar as grammar
use Rattle.crossterm_parse.specs.Meaning.{meaning, meaning_seen, meaning_of, seen_meaning, paste_text, pasted}
use Rattle.crossterm_parse.specs.View.{ParserView, Represents, AdvancesOver, EndsNoEvent, OpensNoPaste, paste_length, TakesSteps}
use Rattle.crossterm_parse.specs.declared.character.Begun.{Begun}
use Rattle.crossterm_parse.specs.declared.character.Begun.TheVariants.{One, Two, Three}
use Rattle.crossterm_parse.specs.declared.meaning.Meaning.{Meaning}
use Rattle.crossterm_parse.specs.declared.mouse.X10Report.{X10Report}
use Rattle.crossterm_parse.specs.declared.paste.Opening.{Opening}
use Rattle.crossterm_parse.specs.declared.paste.Opening.TheVariants as opening
use Rattle.crossterm_parse.specs.declared.state.State.{State}
use Rattle.crossterm_parse.specs.declared.state.State.TheVariants.{Ground, Escape, Ss3, Csi, LinuxKey, X10, Sgr, Private, Reply, Numbered, Paste, Utf8}
use Rattle.crossterm_parse.proofs.DivisionLaws.{divide_join, divide_whole, divide_open, some_division, unique_division, two_fronts, not_front}
use Rattle.crossterm_parse.proofs.PasteLaws.{third_apart, begins_start, begins_is, begins_from}
use Rattle.crossterm_parse.proofs.GrammarLaws.{bytes_of-append, bytes_of_nil, whole_true, true_whole, nil_not_whole, whole_closes, whole_or_not}
use Rattle.crossterm_parse.proofs.MachineLaws.{state_right}

last_raw-push : (ms : List Marked) (m : Marked) → last_raw (ms ++ m ∷ []) ≡ m.raw
last_raw-push [] m = refl
last_raw-push (n ∷ []) m = refl
last_raw-push (n ∷ o ∷ ms) m = last_raw-push (o ∷ ms) m

-- undecided bytes don't begin with an escape and a pause
pub undecided_false : (n : Marked) (ns : List Marked) → IsUndecided grammar.Whole (n ∷ ns) → (n.byte == 27) && n.pause ≡ false
undecided_false n ns h = elim (cases_Bool ((n.byte == 27) && n.pause)) [
  | inl t ↦ absurd (h 1 (true_whole (n ∷ []) (rw t)))
  | inr f ↦ f
]

-- the test of the parser's bytes is that of the marked bytes
pub decided_is : (before : List Marked) (m : Marked) → IsUndecided grammar.Whole before → is_decided (bytes_of before ++ m.byte ∷ []) m.pause ≡ is_whole (before ++ m ∷ [])
decided_is [] m h = go (m.byte == 27) m.pause (is_character (m.byte ∷ [])) where
  go : (t p x : Bool) → (((t && true) && p) || cond t false x) ≡ cond (t && p) true (cond t false x)
  go true true x = refl
  go true false x = refl
  go false true x = refl
  go false false x = refl
decided_is (n ∷ []) m h = rw (undecided_false n [] h) (go (n.byte == 27) m.pause (is_shape (n.byte ∷ m.byte ∷ []))) where
  go : (t p s : Bool) → (((t && false) && p) || s) ≡ s
  go true p s = refl
  go false p s = refl
decided_is (n ∷ o ∷ ns) m h = rw (undecided_false n (o ∷ ns) h, bytes_of-append ns (m ∷ [])) (go (n.byte == 27) m.pause (is_shape (n.byte ∷ o.byte ∷ (bytes_of ns ++ m.byte ∷ [])))) where
  go : (t p s : Bool) → (((t && false) && p) || s) ≡ s
  go true p s = refl
  go false p s = refl

one_option : {A : Type 0} (o : Option A) → option_to_list o ≡ cons_option o []
one_option None = refl
one_option (Some x) = refl

-- what is meant by the bytes that the parser has
pub meant : (bytes : List ℕ) (before : List Marked) (m : Marked) → bytes ≡ bytes_of (before ++ m ∷ [])
    → option_to_list (meaning_seen m.raw bytes) ≡ filter_map meaning_of ((before ++ m ∷ []) ∷ [])
meant bytes before m e = rw (last_raw-push before m, e) (one_option _)

-- whether the bytes of an open sequence open a paste
begun_begins : (escaped : Bool) (t : Begun) → begins paste_start (prefixed escaped (begun_bytes t)) ≡ false
begun_begins true (One a) = refl
begun_begins true (Two a b) = refl
begun_begins true (Three a b c) = refl
begun_begins false (One a) = refl
begun_begins false (Two a b) = refl
begun_begins false (Three a b c) = refl

opening_begins : (p : Opening) (text : List ℕ) → IsOpening p text → begins paste_mark text ≡ false
opening_begins opening.Two text h = rw h
opening_begins opening.Zero text h = rw h
opening_begins opening.Zeros text h = rw h
opening_begins opening.Not text h = rw append-nil at (h [])

x10_begins : (c : X10Report) → begins paste_start (27 ∷ 91 ∷ 77 ∷ x10_bytes c) ≡ false
x10_begins c = third_apart 77 (x10_bytes c) refl

paste_begins : (state : State) (bytes : List ℕ) → StateRepresents state bytes → begins paste_start bytes ≡ is_paste state
paste_begins Ground bytes h = rw h
paste_begins Escape bytes h = rw h
paste_begins Ss3 bytes h = rw h
paste_begins Csi bytes h = rw h
paste_begins LinuxKey bytes h = rw h
paste_begins (X10 c) bytes h = rw h (x10_begins c)
paste_begins (Sgr d) bytes h = rw h.is (third_apart 60 h.more refl)
paste_begins Private bytes h = rw h
paste_begins (Reply n) bytes h = rw h.is (third_apart 63 (h.first ∷ h.more) refl)
paste_begins (Numbered d p) bytes h = rw h.is (begins_start (h.digit ∷ h.more) ∙ opening_begins p (h.digit ∷ h.more) h.opens)
paste_begins (Paste m) bytes h = begins_from paste_start bytes h.text h.is
paste_begins (Utf8 c) bytes h = rw h.0 (begun_begins c.escaped c.begun)

append_none : (p t : List ℕ) → [] ≡ p ++ t → t ≡ []
append_none [] t e = sym e
append_none (q ∷ p) t e = cc

-- a list with one more element begins with p: it is p, or the list began with it
front_or_none : (p bytes t : List ℕ) (b : ℕ) → bytes ++ b ∷ [] ≡ p ++ t → (t ≡ []) ⊎ ((u : List ℕ) × (bytes ≡ p ++ u))
front_or_none [] bytes t b e = inr (bytes, refl)
front_or_none (q ∷ p) [] t b e = inl (append_none p t cc)
front_or_none (q ∷ p) (c ∷ bytes) t b e =
    let head : c ≡ q = cc in
    let tail : bytes ++ b ∷ [] ≡ p ++ t = cc in
    elim (front_or_none p bytes t b tail) [
      | inl n ↦ inl n
      | inr u ↦ let is : bytes ≡ p ++ u.0 = u.1 in inr (u.0, cc)
    ]

begins_on : (bytes : List ℕ) (b : ℕ) → begins paste_start bytes ≡ true → begins paste_start (bytes ++ b ∷ []) ≡ true
begins_on bytes b h = begins_from paste_start (bytes ++ b ∷ []) (drop 6 bytes ++ b ∷ []) (ap (λ (xs : List ℕ). xs ++ b ∷ []) (begins_is paste_start bytes h))

drop_on : (bytes : List ℕ) (b : ℕ) → begins paste_start bytes ≡ true → drop 6 bytes ++ b ∷ [] ≡ drop 6 (bytes ++ b ∷ [])
drop_on bytes b h = let is = begins_is paste_start bytes h in sym (ap (λ (xs : List ℕ). drop 6 (xs ++ b ∷ [])) is)

opened_empty : (bytes : List ℕ) (b : ℕ) → begins paste_start bytes ≡ false → begins paste_start (bytes ++ b ∷ []) ≡ true → [] ≡ drop 6 (bytes ++ b ∷ [])
opened_empty bytes b none opens = elim (front_or_none paste_start bytes (drop 6 (bytes ++ b ∷ [])) b (begins_is paste_start (bytes ++ b ∷ []) opens)) [
  | inl n ↦ sym n
  | inr u ↦ absurd (false≢true (sym none ∙ begins_from paste_start bytes u.0 u.1))
]

-- the text that is kept with one more byte
text_kept : (s n : Bool) (text bytes : List ℕ) (b : ℕ) → begins paste_start bytes ≡ s → begins paste_start (bytes ++ b ∷ []) ≡ n → text ≡ cond s (drop 6 bytes) []
    → cond n (cond s (text ++ b ∷ []) []) text ≡ cond n (drop 6 (bytes ++ b ∷ [])) []
text_kept true true text bytes b h l e = ap (λ (xs : List ℕ). xs ++ b ∷ []) e ∙ drop_on bytes b h
text_kept true false text bytes b h l e = absurd (false≢true (sym l ∙ begins_on bytes b h))
text_kept false true text bytes b h l e = opened_empty bytes b h l
text_kept false false text bytes b h l e = e

text_over : (s : Bool) (text bytes : List ℕ) (b : ℕ) → begins paste_start bytes ≡ s → begins paste_start (bytes ++ b ∷ []) ≡ false → text ≡ cond s (drop 6 bytes) [] → text ≡ []
text_over true text bytes b h l e = absurd (false≢true (sym l ∙ begins_on bytes b h))
text_over false text bytes b h l e = e

-- one byte that completes a sequence
advance_whole : (old new : ParserView) (m : Marked) (event : Option Seen)
    → ((before : List Marked) → Represents old before
    → (is_decided (bytes_of before ++ m.byte ∷ []) m.pause ≡ true) × (event ≡ meaning_seen m.raw (bytes_of before ++ m.byte ∷ [])) × (new.text ≡ []))
    → new.state ≡ Ground
    → new.waiting ≡ old.waiting ++ option_to_list event
    → AdvancesOver old new (m ∷ [])
advance_whole old new m event right cleared waiting before represents undecided =
    let r = right before represents in
    let bytes : bytes_of before ++ m.byte ∷ [] ≡ bytes_of (before ++ m ∷ []) = sym (bytes_of-append before (m ∷ [])) in
    let w : grammar.Whole (before ++ m ∷ []) = true_whole _ (sym (decided_is before m undecided) ∙ r.0) in
    record {
      parts = (before ++ m ∷ []) ∷ [];
      rest = [];
      division = divide_whole grammar.Whole nil_not_whole before [] before m (record { joined = refl; whole = tt; undecided = undecided }) w;
      given = waiting ∙ ap (λ (events : List Seen). old.waiting ++ events) (ap (λ (e : Option Seen). option_to_list e) r.1 ∙ meant _ before m bytes);
      represents = rw cleared (refl, r.2);
    }

-- one byte that completes nothing
advance_open : (old new : ParserView) (m : Marked) (state : State)
    → ((before : List Marked) → Represents old before
    → (is_decided (bytes_of before ++ m.byte ∷ []) m.pause ≡ false) × StateRepresents state (bytes_of before ++ m.byte ∷ []) × (new.text ≡ kept_text state (bytes_of before ++ m.byte ∷ [])))
    → new.state ≡ state
    → new.waiting ≡ old.waiting
    → AdvancesOver old new (m ∷ [])
advance_open old new m state right grown waiting before represents undecided =
    let r = right before represents in
    let open_still : grammar.Whole (before ++ m ∷ []) → ⊥ = λ (w : grammar.Whole (before ++ m ∷ [])). false≢true (sym r.0 ∙ decided_is before m undecided ∙ whole_true _ w) in
    record {
      parts = [];
      rest = before ++ m ∷ [];
      division = divide_open grammar.Whole before [] before m (record { joined = refl; whole = tt; undecided = undecided }) open_still;
      given = waiting ∙ sym (append-nil old.waiting);
      represents = rw (grown, bytes_of-append) (r.1, r.2);
    }

plain_seen : (raw : Bool) (bytes : List ℕ) (event : Option Meaning) → event ≡ meaning raw bytes → begins paste_start bytes ≡ false → option_map seen_meaning event ≡ meaning_seen raw bytes
plain_seen raw bytes event e h = rw h (ap (λ (x : Option Meaning). option_map seen_meaning x) e)

-- the text of a paste without its end
closed_text : (text bytes : List ℕ) (b : ℕ) → begins paste_start bytes ≡ true → text ≡ drop 6 bytes → take (length text - 5) text ≡ paste_text (bytes ++ b ∷ [])
closed_text text bytes b h e =
    let rest : drop 6 (bytes ++ b ∷ []) ≡ text ++ b ∷ [] = sym (ap (λ (xs : List ℕ). xs ++ b ∷ []) e ∙ drop_on bytes b h) in
    let count : length text - 5 ≡ length (text ++ b ∷ []) - 6 = omega (arith, length_push text b) in
    ap (λ (n : ℕ). take n text) count ∙ sym (take-append-le (length (text ++ b ∷ []) - 6) text (b ∷ []) (omega (arith, length_push text b)))
    ∙ sym (ap (λ (xs : List ℕ). take (length xs - 6) xs) rest)

closed_seen : (raw : Bool) (bytes text : List ℕ) → begins paste_start bytes ≡ true → text ≡ paste_text bytes → Some (pasted text) ≡ meaning_seen raw bytes
closed_seen raw bytes text h e = rw h (ap (λ (xs : List ℕ). Some (pasted xs)) e)

-- what opens a paste isn't whole
undecided_start : (bytes : List ℕ) (pause : Bool) → begins paste_start bytes ≡ true → [] ≡ drop 6 bytes → is_decided bytes pause ≡ false
undecided_start bytes pause h e = rw (begins_is paste_start bytes h, ← e) refl

-- one byte
pub advance_byte : (old new : ParserView) (m : Marked)
    → new.state ≡ state_left (state_after old.state m.byte m.raw m.pause)
    → new.text ≡ text_left (state_after old.state m.byte m.raw m.pause) old.state old.text m.byte
    → new.waiting ≡ old.waiting ++ events_left (state_after old.state m.byte m.raw m.pause) old.text
    → AdvancesOver old new (m ∷ [])
advance_byte old new m state text waiting = go (state_after old.state m.byte m.raw m.pause) state text waiting (λ before represents. state_right old.state (bytes_of before) m.byte m.raw m.pause represents.0) where
  go : (step : ByteStep) → new.state ≡ state_left step → new.text ≡ text_left step old.state old.text m.byte → new.waiting ≡ old.waiting ++ events_left step old.text
      → ((before : List Marked) → Represents old before → IsRight step (bytes_of before ++ m.byte ∷ []) m.raw m.pause)
      → AdvancesOver old new (m ∷ [])
  go (Open next) s t w right = advance_open old new m next (λ before represents. let r = right before represents in (
    r.0,
    r.1,
    t ∙ text_kept (is_paste old.state) (is_paste next) old.text (bytes_of before) m.byte (paste_begins old.state (bytes_of before) represents.0) (paste_begins next (bytes_of before ++ m.byte ∷ []) r.1) represents.1,
  )) s (w ∙ append-nil old.waiting)
  go (Whole event) s t w right = advance_whole old new m (option_map seen_meaning event) (λ before represents. let r = right before represents in (
    r.0,
    plain_seen m.raw (bytes_of before ++ m.byte ∷ []) event r.1 r.2,
    t ∙ text_over (is_paste old.state) old.text (bytes_of before) m.byte (paste_begins old.state (bytes_of before) represents.0) r.2 represents.1,
  )) s w
  go Closed s t w right = advance_whole old new m (Some (pasted (take (length old.text - 5) old.text))) (λ before represents. let r = right before represents in (
    r.0,
    closed_seen m.raw (bytes_of before ++ m.byte ∷ []) (take (length old.text - 5) old.text) r.1 (closed_in (is_paste old.state) before r.1 (paste_begins old.state (bytes_of before) represents.0) represents.1 r.0),
    t,
  )) s w where
    closed_in : (s : Bool) (before : List Marked) → begins paste_start (bytes_of before ++ m.byte ∷ []) ≡ true → begins paste_start (bytes_of before) ≡ s → old.text ≡ cond s (drop 6 (bytes_of before)) []
        → is_decided (bytes_of before ++ m.byte ∷ []) m.pause ≡ true → take (length old.text - 5) old.text ≡ paste_text (bytes_of before ++ m.byte ∷ [])
    closed_in true before opens began e whole = closed_text old.text (bytes_of before) m.byte began e
    closed_in false before opens began e whole = absurd (false≢true (sym (undecided_start (bytes_of before ++ m.byte ∷ []) m.pause opens (opened_empty (bytes_of before) m.byte began opens)) ∙ whole))

-- one piece after another
pub advance_join : (old mid new : ParserView) (taken more : List Marked) → AdvancesOver old mid taken → AdvancesOver mid new more → AdvancesOver old new (taken ++ more)
advance_join old mid new taken more first second before represents undecided =
    let a = first before represents undecided in
    let b = second a.rest a.represents a.division.undecided in
    record {
      parts = a.parts ++ b.parts;
      rest = b.rest;
      division = rw (← append_assoc before taken more) (divide_join grammar.Whole (before ++ taken) more a.parts b.parts a.rest b.rest a.division b.division);
      given = rw (filter_map-append, b.given, a.given) (append_assoc old.waiting _ _);
      represents = b.represents;
    }

-- nothing is taken
pub advance_none : (old : ParserView) → AdvancesOver old old []
advance_none old before represents undecided = record {
  parts = [];
  rest = before;
  division = record { joined = append-nil before; whole = tt; undecided = undecided };
  given = sym (append-nil old.waiting);
  represents = represents;
}

and_true_right : (b : Bool) → b ≡ b && true
and_true_right true = refl
and_true_right false = refl

and_false_right : (b : Bool) → false ≡ b && false
and_false_right true = refl
and_false_right false = refl

not_last : (n : ℕ) → 1 == suc (suc n) ≡ false
not_last n = grind (arith, nat_tests)

same_last : (i n : ℕ) → i + 1 == suc n ≡ (suc i + 1 == suc (suc n))
same_last i n = grind (arith, nat_tests)

abbrev at : ℕ → Bool → Bool → Marked
at b raw pause = record { byte = b; raw = raw; pause = pause }

-- the byte of a piece at a place, with its marks
pub get_or-marked : (piece : List ℕ) (more raw : Bool) (i : ℕ) (d : Marked) → i < length piece
    → get_or (marked piece more raw) i d ≡ record { byte = get_or piece i 0; raw = raw; pause = not more && (i + 1 == length piece) }
get_or-marked [] more raw i d l = absurd (omega arith)
get_or-marked (b ∷ []) more raw zero d l = ap (λ (pause : Bool). at b raw pause) (and_true_right (not more))
get_or-marked (b ∷ []) more raw (suc i) d l = absurd (omega arith)
get_or-marked (b ∷ c ∷ bs) more raw zero d l = ap (λ (pause : Bool). at b raw pause) (rw (not_last (length bs)) (and_false_right (not more)))
get_or-marked (b ∷ c ∷ bs) more raw (suc i) d l = get_or-marked (c ∷ bs) more raw i d (omega arith) ∙ ap (λ (last : Bool). at (get_or (c ∷ bs) i 0) raw (not more && last)) (same_last i (length bs))

pub length-marked : (piece : List ℕ) (more raw : Bool) → length (marked piece more raw) ≡ length piece
length-marked [] more raw = refl
length-marked (b ∷ []) more raw = refl
length-marked (b ∷ c ∷ bs) more raw = ap suc (length-marked (c ∷ bs) more raw)

-- what is left of a piece's marks behind a front are the marks of what is left
pub marked_rest : (piece : List ℕ) (more raw : Bool) (i : ℕ) → drop i (marked piece more raw) ≡ marked (drop i piece) more raw
marked_rest piece more raw zero = refl
marked_rest [] more raw (suc i) = refl
marked_rest (b ∷ []) more raw (suc i) = drop-nil i ∙ ap (λ (bs : List ℕ). marked bs more raw) (sym (drop-nil i))
marked_rest (b ∷ c ∷ bs) more raw (suc i) = marked_rest (c ∷ bs) more raw i

-- one more byte of a piece
pub advance_more : (old mid new : ParserView) (piece : List ℕ) (more raw : Bool) (i b : ℕ) (pause : Bool) → i < length piece
    → b ≡ get_or piece i 0 → pause ≡ not more && (i + 1 == length piece)
    → new.state ≡ state_left (state_after mid.state b raw pause)
    → new.text ≡ text_left (state_after mid.state b raw pause) mid.state mid.text b
    → new.waiting ≡ mid.waiting ++ events_left (state_after mid.state b raw pause) mid.text
    → AdvancesOver old mid (take i (marked piece more raw))
    → AdvancesOver old new (take (i + 1) (marked piece more raw))
advance_more old mid new piece more raw i b pause l is_byte is_pause state text waiting before =
    let ms = marked piece more raw in
    let m : Marked = at b raw pause in
    let read : get_or ms i m ≡ m = get_or-marked piece more raw i m l ∙ rw (is_byte, is_pause) refl in
    let longer : take (i + 1) ms ≡ take i ms ++ m ∷ [] = take_more ms i m (omega (arith, length-marked piece more raw)) ∙ ap (λ (n : Marked). take i ms ++ n ∷ []) read in
    subst (AdvancesOver old new) (sym longer) (advance_join old mid new (take i ms) (m ∷ []) before (advance_byte mid new m state text waiting))

not_bytes : (before : List Marked) (b : ℕ) (bs : List ℕ) → bytes_of before ≡ b ∷ bs → before ≡ [] → ⊥
not_bytes [] b bs h e = cc
not_bytes (m ∷ before) b bs h e = cc

begun_not_nil : (escaped : Bool) (t : Begun) → prefixed escaped (begun_bytes t) ≡ [] → ⊥
begun_not_nil true t e = cc
begun_not_nil false (One a) e = cc
begun_not_nil false (Two a b) e = cc
begun_not_nil false (Three a b c) e = cc

-- whether no sequence is open, against what the state represents
pub ground_only : (state : State) (before : List Marked) → StateRepresents state (bytes_of before) → (state ≡ Ground → before ≡ []) × (before ≡ [] → state ≡ Ground)
ground_only Ground before h = (λ _. bytes_of_nil before h, λ _. refl)
ground_only Escape before h = (λ e. cc, λ e. absurd (not_bytes before _ _ h e))
ground_only Ss3 before h = (λ e. cc, λ e. absurd (not_bytes before _ _ h e))
ground_only Csi before h = (λ e. cc, λ e. absurd (not_bytes before _ _ h e))
ground_only LinuxKey before h = (λ e. cc, λ e. absurd (not_bytes before _ _ h e))
ground_only (X10 c) before h = (λ e. cc, λ e. absurd (not_bytes before _ _ h e))
ground_only (Sgr d) before h = (λ e. cc, λ e. absurd (not_bytes before _ _ h.is e))
ground_only Private before h = (λ e. cc, λ e. absurd (not_bytes before _ _ h e))
ground_only (Reply n) before h = (λ e. cc, λ e. absurd (not_bytes before _ _ h.is e))
ground_only (Numbered d p) before h = (λ e. cc, λ e. absurd (not_bytes before _ _ h.is e))
ground_only (Paste m) before h = (λ e. cc, λ e. absurd (not_bytes before _ _ h.is e))
ground_only (Utf8 c) before h = (λ e. cc, λ e. absurd (begun_not_nil c.escaped c.begun (sym h.0 ∙ ap bytes_of e)))

nil_left : {A : Type 0} (xs ys : List A) → xs ++ ys ≡ [] → xs ≡ []
nil_left [] ys e = refl
nil_left (x ∷ xs) ys e = cc

nothing_more : {A : Type 0} (xs ys : List A) → xs ++ ys ≡ xs → ys ≡ []
nothing_more xs ys e = append_cancel_left xs ys [] (e ∙ sym (append-nil xs))

nil_right : {A : Type 0} (xs ys : List A) → xs ++ ys ≡ [] → ys ≡ []
nil_right [] ys e = e
nil_right (x ∷ xs) ys e = cc

-- what is left of the bytes after a front of them
record Left (old mid : ParserView) (taken more : List Marked) : Type 0 where
  rest : List Marked
  represents : Represents mid rest
  undecided : IsUndecided grammar.Whole rest
  others : List (List Marked)
  last : List Marked
  division : Divides grammar.Whole (rest ++ more) others last
  none : filter_map meaning_of others ≡ []
  no_paste : begins paste_start (bytes_of last) ≡ false
  same : mid.waiting ≡ old.waiting

left_of : (old mid : ParserView) (taken more : List Marked) → EndsNoEvent old (taken ++ more) → AdvancesOver old mid taken → Left old mid taken more
left_of old mid taken more q first =
    let a = first q.0 q.3 q.4 in
    let later = some_division grammar.Whole nil_not_whole whole_or_not (a.rest ++ more) in
    let all = divide_join grammar.Whole (q.0 ++ taken) more a.parts later.0 a.rest later.1 a.division later.2 in
    let same = unique_division grammar.Whole nil_not_whole whole_closes (q.0 ++ (taken ++ more)) q.1 (a.parts ++ later.0) q.2 later.1 q.5 (rw (← append_assoc q.0 taken more) all) in
    let none : filter_map meaning_of a.parts ++ filter_map meaning_of later.0 ≡ [] = sym (filter_map-append meaning_of a.parts later.0) ∙ ap (λ (parts : List (List Marked)). filter_map meaning_of parts) (sym same.0) ∙ q.6 in
    record {
      rest = a.rest;
      represents = a.represents;
      undecided = a.division.undecided;
      others = later.0;
      last = later.1;
      division = later.2;
      none = nil_right _ _ none;
      no_paste = ap (λ (ms : List Marked). begins paste_start (bytes_of ms)) (sym same.1) ∙ q.7;
      same = a.given ∙ ap (λ (events : List Seen). old.waiting ++ events) (nil_left _ _ none) ∙ append-nil old.waiting;
    }

begins_longer : (p x : List Marked) → begins paste_start (bytes_of p) ≡ true → begins paste_start (bytes_of (p ++ x)) ≡ true
begins_longer p x h = begins_from paste_start (bytes_of (p ++ x)) (drop 6 (bytes_of p) ++ bytes_of x) (bytes_of-append p x ∙ ap (λ (ys : List ℕ). ys ++ bytes_of x) (begins_is paste_start (bytes_of p) h))

not_cons_seen : (x : Seen) (xs : List Seen) → x ∷ xs ≡ [] → ⊥
not_cons_seen x xs e = cc

pasted_is : (raw : Bool) (bytes : List ℕ) → begins paste_start bytes ≡ true → meaning_seen raw bytes ≡ Some (pasted (paste_text bytes))
pasted_is raw bytes h = rw h

means_paste : (p : List Marked) (ps : List (List Marked)) → begins paste_start (bytes_of p) ≡ true → filter_map meaning_of (p ∷ ps) ≡ [] → ⊥
means_paste p ps h e = not_cons_seen _ _ (sym (ap (λ (o : Option Seen). cons_option o (filter_map meaning_of ps)) (pasted_is (last_raw p) (bytes_of p) h)) ∙ e)

-- the first part is no paste
abbrev NoneFirst : List (List Marked) → Type 0
NoneFirst others = (p : List Marked) (ps : List (List Marked)) → others ≡ p ∷ ps → begins paste_start (bytes_of p) ≡ true → ⊥

pub quiet_first : (others : List (List Marked)) → filter_map meaning_of others ≡ [] → NoneFirst others
quiet_first others e p ps is h = means_paste p ps h (ap (λ (xs : List (List Marked)). filter_map meaning_of xs) (sym is) ∙ e)

free_first : (others : List (List Marked)) → AllByRecursion (λ part. begins paste_start (bytes_of part) ≡ false) others → NoneFirst others
free_first [] all p ps is h = cc
free_first (q ∷ qs) all p ps is h =
    let same : q ≡ p = cc in
    false≢true (sym all.0 ∙ ap (λ (ms : List Marked). begins paste_start (bytes_of ms)) same ∙ h)

all_right : {A : Type 0} (P : A → Type 0) (xs ys : List A) → AllByRecursion P (xs ++ ys) → AllByRecursion P ys
all_right P [] ys h = h
all_right P (x ∷ xs) ys h = all_right P xs ys h.1

-- what is left of an open paste is no quiet rest
pub paste_left : (rest more : List Marked) (others : List (List Marked)) (last : List Marked) → begins paste_start (bytes_of rest) ≡ true → IsUndecided grammar.Whole rest
    → Divides grammar.Whole (rest ++ more) others last → NoneFirst others → begins paste_start (bytes_of last) ≡ false → ⊥
paste_left rest more [] last e u d none h = false≢true (sym h ∙ ap (λ (ms : List Marked). begins paste_start (bytes_of ms)) (sym d.joined) ∙ begins_longer rest more e)
paste_left rest more (p ∷ ps) last e u d none h = elim (two_fronts rest p more (flat_map (λ part. part) ps ++ last) (d.joined ∙ append_assoc p (flat_map (λ part. part) ps) last)) [
  | inl w ↦ none p ps refl (ap (λ (ms : List Marked). begins paste_start (bytes_of ms)) w.1 ∙ begins_longer rest w.0 e)
  | inr w ↦ not_front grammar.Whole p w.0 rest w.1 d.whole.0 u
]

not_pasting : (mid : ParserView) (rest more : List Marked) (others : List (List Marked)) (last : List Marked) → Represents mid rest → IsUndecided grammar.Whole rest
    → Divides grammar.Whole (rest ++ more) others last → NoneFirst others → begins paste_start (bytes_of last) ≡ false → is_paste mid.state ≡ false
not_pasting mid rest more others last s u d none h = elim (cases_Bool (is_paste mid.state)) [
  | inl t ↦ absurd (paste_left rest more others last (paste_begins mid.state (bytes_of rest) s.0 ∙ t) u d none h)
  | inr f ↦ f
]

-- a byte of a piece that ends no event gives none, and is in no paste
pub byte_quiet : (old mid : ParserView) (piece : List ℕ) (more raw : Bool) (i b : ℕ) (pause : Bool) → i < length piece
    → b ≡ get_or piece i 0 → pause ≡ not more && (i + 1 == length piece)
    → AdvancesOver old mid (take i (marked piece more raw))
    → EndsNoEvent old (marked piece more raw)
    → (is_paste mid.state ≡ false) × (events_left (state_after mid.state b raw pause) mid.text ≡ [])
byte_quiet old mid piece more raw i b pause l is_byte is_pause before q =
    let ms = marked piece more raw in
    let step = state_after mid.state b raw pause in
    let new : ParserView = record { waiting = mid.waiting ++ events_left step mid.text; state = state_left step; text = text_left step mid.state mid.text b; typed = 0; room = 0 } in
    let next = advance_more old mid new piece more raw i b pause l is_byte is_pause refl refl refl before in
    let at_i = left_of old mid (take i ms) (drop i ms) (subst (EndsNoEvent old) (sym (take-append-drop i ms)) q) before in
    let at_next = left_of old new (take (i + 1) ms) (drop (i + 1) ms) (subst (EndsNoEvent old) (sym (take-append-drop (i + 1) ms)) q) next in (
      not_pasting mid at_i.rest (drop i ms) at_i.others at_i.last at_i.represents at_i.undecided at_i.division (quiet_first at_i.others at_i.none) at_i.no_paste,
      nothing_more mid.waiting (events_left step mid.text) (at_next.same ∙ sym at_i.same),
    )

-- a front that gives an event ends one
pub some_ends : (old : ParserView) (e : Seen) (n : ℕ) (ms : List Marked) → AdvancesOver old (record old { waiting = old.waiting ++ e ∷ [] }) (take n ms) → EndsNoEvent old ms → ⊥
some_ends old e n ms gives q =
    let left = left_of old (record old { waiting = old.waiting ++ e ∷ [] }) (take n ms) (drop n ms) (subst (EndsNoEvent old) (sym (take-append-drop n ms)) q) gives in
    let none : e ∷ [] ≡ [] = nothing_more old.waiting (e ∷ []) left.same in
    absurd (cc)

twice_not : (p : Bool) → p ≡ not (not p) && true
twice_not true = refl
twice_not false = refl

-- a byte at some place of a piece that ends no event from there on
pub byte_rests : (mid : ParserView) (piece : List ℕ) (more raw : Bool) (i b : ℕ) (pause : Bool) → i < length piece
    → b ≡ get_or piece i 0 → pause ≡ not more && (i + 1 == length piece)
    → EndsNoEvent mid (take 1 (drop i (marked piece more raw)))
    → (is_paste mid.state ≡ false) × (events_left (state_after mid.state b raw pause) mid.text ≡ [])
byte_rests mid piece more raw i b pause l is_byte is_pause q =
    let ms = marked piece more raw in
    let m : Marked = at b raw pause in
    let read : get_or ms i m ≡ m = get_or-marked piece more raw i m l ∙ rw (is_byte, is_pause) refl in
    let one : take 1 (drop i ms) ≡ m ∷ [] = ap (λ (xs : List Marked). take 1 xs) (drop_more ms i m (omega (arith, length-marked piece more raw))) ∙ ap (λ (n : Marked). n ∷ []) read in
    let same : m ∷ [] ≡ marked (b ∷ []) (not pause) raw = ap (λ (p : Bool). at b raw p ∷ []) (twice_not pause ∙ sym (and_true_right (not (not pause)))) in
    byte_quiet mid mid (b ∷ []) (not pause) raw 0 b pause (omega arith) refl (twice_not pause) (advance_none mid) (subst (EndsNoEvent mid) (one ∙ same) q)

-- a byte of a piece that opens no paste is in none
pub byte_free : (old mid : ParserView) (ms : List Marked) (i : ℕ) → AdvancesOver old mid (take i ms) → OpensNoPaste old ms → is_paste mid.state ≡ false
byte_free old mid ms i first q =
    let taken = take i ms in
    let more = drop i ms in
    let a = first q.0 q.3 q.4 in
    let later = some_division grammar.Whole nil_not_whole whole_or_not (a.rest ++ more) in
    let all = divide_join grammar.Whole (q.0 ++ taken) more a.parts later.0 a.rest later.1 a.division later.2 in
    let whole : Divides grammar.Whole (q.0 ++ (taken ++ more)) q.1 q.2 = subst (λ (xs : List Marked). Divides grammar.Whole (q.0 ++ xs) q.1 q.2) (sym (take-append-drop i ms)) q.5 in
    let same = unique_division grammar.Whole nil_not_whole whole_closes (q.0 ++ (taken ++ more)) q.1 (a.parts ++ later.0) q.2 later.1 whole (rw (← append_assoc q.0 taken more) all) in
    let free = all_right (λ part. begins paste_start (bytes_of part) ≡ false) a.parts later.0 (subst (AllByRecursion (λ part. begins paste_start (bytes_of part) ≡ false)) same.0 q.6) in
    not_pasting mid a.rest more later.0 later.1 a.represents a.division.undecided later.2 (free_first later.0 free) (ap (λ (xs : List Marked). begins paste_start (bytes_of xs)) (sym same.1) ∙ q.7)

-- nor does one byte that opens no paste
pub byte_opens : (mid : ParserView) (ms : List Marked) → OpensNoPaste mid ms → is_paste mid.state ≡ false
byte_opens mid ms q = byte_free mid mid ms 0 (advance_none mid) q

-- the text of a parser is as long as the paste that its bytes open
text_length : (s : Bool) (bytes text : List ℕ) → begins paste_start bytes ≡ s → text ≡ cond s (drop 6 bytes) [] → cond s (length bytes - 6) 0 ≡ length text
text_length true bytes text h e = sym (ap length e ∙ length-drop 6 bytes)
text_length false bytes text h e = sym (ap length e)

pub paste_length_is : (parser : ParserView) (before : List Marked) → Represents parser before → paste_length (bytes_of before) ≡ length parser.text
paste_length_is parser before h =
    let began = paste_begins parser.state (bytes_of before) h.0 in
    rw began (text_length (is_paste parser.state) (bytes_of before) parser.text began h.1)

-- the steps of the bytes of a piece
pub takes_steps : (old new : ParserView) (s t n : ℕ) → t + length new.text ≤ s + length old.text + 2 * n → TakesSteps old new s t n
takes_steps old new s t n h before rest represents still = rw (paste_length_is old before represents, paste_length_is new rest still) h
