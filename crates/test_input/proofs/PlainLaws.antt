-- The slow program, byte by byte.
use Rattle.std.proofs.Common.{Bool, Option, Some, None, ◌==◌, eqb, ◌&&◌, ◌||◌, inl, inr, ◌≡◌, ℕ, ◌+◌, ◌-◌, zero, suc, cond, arith, true, false, List, [], ◌∷◌, ◌++◌, length, map, take, get_or, drop, ◌<◌, ◌≤◌, refl, ap, sym, ◌∙◌, subst, option_to_list, encode_utf8_all}
use Rattle.std.proofs.Math.Bool.{and_comm}
use Rattle.std.proofs.lemmas.Bool.{false≢true, cases_Bool}
use Rattle.std.proofs.lemmas.List.{append-nil, take_more, take_all, map-append}
use Rattle.std.proofs.lemmas.List.Elements.{filter_map-append}
use Rattle.std.specs.Cmp.Lexicographic.{pointwise}
use Rattle.std.specs.List.{filter_map}
use Rattle.std.specs.Option.{option_map}
use Rattle.bstr.specs.Utf8.{lossy_chars}
use Rattle.crossterm_types.specs.Seen.{Seen, Paste}
use Rattle.crossterm_parse.specs.Marked.{bytes_of}
use Rattle.crossterm_parse.specs.declared.marked.Marked.{Marked}
use Rattle.crossterm_parse.specs.Grammar.{begins, Whole, paste_mark, paste_start, paste_end}
use Rattle.crossterm_parse.specs.Recognizer.{is_whole, is_decided, is_shape, is_character, ends_character, ends_numbered, ends_paste, ends_digit, is_continuing, is_nil}
use Rattle.crossterm_parse.specs.Tracking.{KeptAgrees, Tracks}
use Rattle.crossterm_parse.specs.Transitions.{parameters_after, readings_at, number_after, reading}
use Rattle.crossterm_parse.specs.Division.{Divides, IsUndecided}
use Rattle.crossterm_parse.specs.Meaning.{reply_meaning, csi_meaning, flags_reply, meaning, meaning_seen, meaning_of, seen_meaning}
use Rattle.crossterm_parse.specs.Number.{number}
use Rattle.crossterm_parse.specs.Numbered.{readings_of, numbered_meaning, sgr_meaning, last_of, front_of}
use Rattle.crossterm_parse.specs.declared.meaning.Meaning.{Meaning}
use Rattle.crossterm_parse.specs.declared.meaning.Meaning.TheVariants.{PrimaryDeviceAttributes}
use Rattle.crossterm_parse.specs.declared.number.Number.{Number}
use Rattle.crossterm_parse.specs.declared.numbered.Parameters.{Parameters}
use Rattle.crossterm_parse.specs.declared.readings.Readings.{Readings}
use Rattle.crossterm_parse.proofs.NumberLaws.{tracks_more, tracks_reading}
use Rattle.crossterm_parse.proofs.MachineLaws.{kept_more, kept_readings, last_at, front_at}
use Rattle.crossterm_parse.proofs.DivisionLaws.{divide_whole, divide_open, nil_undecided}
use Rattle.crossterm_parse.proofs.GrammarLaws.{digit_apart, bytes_of-append, true_whole, whole_true, nil_not_whole}
use Rattle.crossterm_parse.proofs.ViewLaws.{decided_is, meant}

-- What was found of the first bytes.
pub record Found (bytes : List Marked) (part lengths : List ℕ) (events : List Seen) : Type 0 where
  pub parts : List (List Marked)
  pub rest : List Marked
  pub division : Divides Whole bytes parts rest
  pub kept : part ≡ bytes_of rest
  pub counted : lengths ≡ map length parts
  pub given : events ≡ filter_map meaning_of parts

pub found_none : Found [] [] [] []
found_none = record { parts = []; rest = []; division = record { joined = refl; whole = tt; undecided = nil_undecided Whole nil_not_whole }; kept = refl; counted = refl; given = refl }

part_more : (rest : List Marked) (part : List ℕ) (m : Marked) → part ≡ bytes_of rest → part ++ m.byte ∷ [] ≡ bytes_of (rest ++ m ∷ [])
part_more rest part m e = ap (λ (bs : List ℕ). bs ++ m.byte ∷ []) e ∙ sym (bytes_of-append rest (m ∷ []))

part_length : (ms : List Marked) → length (bytes_of ms) ≡ length ms
part_length [] = refl
part_length (m ∷ ms) = ap suc (part_length ms)

part_whole : (rest : List Marked) (part : List ℕ) (m : Marked) → IsUndecided Whole rest → part ≡ bytes_of rest → is_decided (part ++ m.byte ∷ []) m.pause ≡ is_whole (rest ++ m ∷ [])
part_whole rest part m h e = rw e (decided_is rest m h)

-- One more byte that completes nothing.
found_open : (bytes : List Marked) (part lengths : List ℕ) (events : List Seen) (m : Marked) → Found bytes part lengths events
    → is_decided (part ++ m.byte ∷ []) m.pause ≡ false → Found (bytes ++ m ∷ []) (part ++ m.byte ∷ []) lengths events
found_open bytes part lengths events m f more = record {
  parts = f.parts;
  rest = f.rest ++ m ∷ [];
  division = divide_open Whole bytes f.parts f.rest m f.division
      (λ (w : Whole (f.rest ++ m ∷ [])). false≢true (sym more ∙ part_whole f.rest part m f.division.undecided f.kept ∙ whole_true _ w));
  kept = part_more f.rest part m f.kept;
  counted = f.counted;
  given = f.given;
}

-- One more byte that completes a part.
found_whole : (bytes : List Marked) (part lengths : List ℕ) (events : List Seen) (m : Marked) → Found bytes part lengths events
    → is_decided (part ++ m.byte ∷ []) m.pause ≡ true
    → Found (bytes ++ m ∷ []) [] (lengths ++ length (part ++ m.byte ∷ []) ∷ []) (events ++ option_to_list (meaning_seen m.raw (part ++ m.byte ∷ [])))
found_whole bytes part lengths events m f closed =
    let more : part ++ m.byte ∷ [] ≡ bytes_of (f.rest ++ m ∷ []) = part_more f.rest part m f.kept in
    let long : length (part ++ m.byte ∷ []) ≡ length (f.rest ++ m ∷ []) = ap length more ∙ part_length (f.rest ++ m ∷ []) in
    record {
      parts = f.parts ++ (f.rest ++ m ∷ []) ∷ [];
      rest = [];
      division = divide_whole Whole nil_not_whole bytes f.parts f.rest m f.division (true_whole _ (sym (part_whole f.rest part m f.division.undecided f.kept) ∙ closed));
      kept = refl;
      counted = rw (f.counted, long) (sym (map-append length f.parts ((f.rest ++ m ∷ []) ∷ [])));
      given = rw f.given (ap (λ (es : List Seen). filter_map meaning_of f.parts ++ es) (meant _ f.rest m more) ∙ sym (filter_map-append meaning_of f.parts ((f.rest ++ m ∷ []) ∷ [])));
    }

-- The next byte, after which the open bytes are `new`.
pub next_open : (bytes : List Marked) (i : ℕ) (d : Marked) (part new lengths : List ℕ) (events : List Seen) → i < length bytes
    → Found (take i bytes) part lengths events → new ≡ part ++ (get_or bytes i d).byte ∷ [] → is_decided new (get_or bytes i d).pause ≡ false
    → Found (take (i + 1) bytes) new lengths events
next_open bytes i d part new lengths events l f more goes_on =
    rw (take_more bytes i d l, more) (found_open (take i bytes) part lengths events (get_or bytes i d) f (rw (sym more) goes_on))

pub next_whole : (bytes : List Marked) (i : ℕ) (d : Marked) (part new lengths : List ℕ) (events : List Seen) → i < length bytes
    → Found (take i bytes) part lengths events → new ≡ part ++ (get_or bytes i d).byte ∷ [] → is_decided new (get_or bytes i d).pause ≡ true
    → Found (take (i + 1) bytes) [] (lengths ++ length new ∷ []) (events ++ option_to_list (meaning_seen (get_or bytes i d).raw new))
next_whole bytes i d part new lengths events l f more closed =
    rw (take_more bytes i d l, more) (found_whole (take i bytes) part lengths events (get_or bytes i d) f (rw (sym more) closed))

-- A character that goes on.
pub ends_further : (n b : ℕ) (bs : List ℕ) → 0 < n → ends_character n (b ∷ bs) ≡ cond (is_continuing b) (ends_character (n - 1) bs) (is_nil bs)
ends_further zero b bs l = absurd (omega arith)
ends_further (suc n) b bs l = let e : suc n - 1 ≡ n = omega arith in rw e refl

pub ends_on : (n : ℕ) (bytes : List ℕ) → 1 ≤ length bytes → 0 < n → is_continuing (get_or bytes 0 0) ≡ true
    → ends_character (n - 1) (take (length bytes - 1) (drop 1 bytes)) ≡ ends_character n bytes
ends_on n [] l m h = absurd (omega arith)
ends_on n (b ∷ bs) l m h =
    ap (λ (xs : List ℕ). ends_character (n - 1) xs) (take_all (length (b ∷ bs) - 1) bs (omega arith)) ∙ sym (ends_further n b bs m ∙ rw h refl)

-- One more byte of a numbered sequence.
pub number_next : (d new : Parameters) (text : List ℕ) (i b : ℕ) → i < length text → b ≡ get_or text i 0 → new ≡ parameters_after d b → KeptAgrees d (take i text) → KeptAgrees new (take (i + 1) text)
number_next d new text i b l is e k =
    let longer : take (i + 1) text ≡ take i text ++ b ∷ [] = take_more text i 0 l ∙ ap (λ (c : ℕ). take i text ++ c ∷ []) (sym is) in
    subst (λ (n : Parameters). KeptAgrees n (take (i + 1) text)) (sym e) (subst (KeptAgrees (parameters_after d b)) (sym longer) (kept_more d (take i text) b k))

pub number_over : (d : Parameters) (text : List ℕ) (i : ℕ) → length text ≤ i → KeptAgrees d (take i text) → readings_at d ≡ readings_of text
number_over d text i l k = kept_readings d text (subst (KeptAgrees d) (take_all i text l) k)

-- One more byte of a number.
pub digit_next : (n : Number) (text : List ℕ) (i b : ℕ) → i < length text → b ≡ get_or text i 0 → Tracks (take i text) n → Tracks (take (i + 1) text) (number_after n b)
digit_next n text i b l is h =
    let longer : take (i + 1) text ≡ take i text ++ b ∷ [] = take_more text i 0 l ∙ ap (λ (c : ℕ). take i text ++ c ∷ []) (sym is) in
    subst (λ (bs : List ℕ). Tracks bs (number_after n b)) (sym longer) (tracks_more (take i text) n b h)

pub digits_over : (n : Number) (text : List ℕ) (i : ℕ) → length text ≤ i → Tracks (take i text) n → reading n ≡ number text
digits_over n text i l h = tracks_reading text n (subst (λ (bs : List ℕ). Tracks bs n) (take_all i text l) h)

-- The meaning of a reply, by its last byte and what is before it.
pub reply_at : (bytes : List ℕ) → 1 ≤ length bytes
    → reply_meaning bytes ≡ cond (get_or bytes (length bytes - 1) 0 == 99) (Some PrimaryDeviceAttributes) (flags_reply (number (take (length bytes - 1) bytes)))
reply_at [] h = absurd (omega arith)
reply_at (b ∷ bs) h =
    ap (λ (l : ℕ). cond (l == 99) (Some PrimaryDeviceAttributes) (flags_reply (number (front_of (b ∷ bs))))) (last_at (b ∷ bs) h)
    ∙ ap (λ (text : List ℕ). cond (get_or (b ∷ bs) (length (b ∷ bs) - 1) 0 == 99) (Some PrimaryDeviceAttributes) (flags_reply (number text))) (front_at (b ∷ bs))

-- What is read before the last byte, and that byte.
pub read_at : (means : ℕ → Readings → Option Meaning) (bytes : List ℕ) (r : Readings) → 1 ≤ length bytes → r ≡ readings_of (take (length bytes - 1) bytes)
    → means (get_or bytes (length bytes - 1) 0) r ≡ means (last_of bytes) (readings_of (front_of bytes))
read_at means bytes r l e = rw (last_at bytes l, front_at bytes, e) refl

-- What is meant by bytes that begin with a digit, and with `<`.
pub number_at : (raw : Bool) (bytes : List ℕ) → 1 ≤ length bytes → 48 ≤ get_or bytes 0 0 → get_or bytes 0 0 ≤ 57 → numbered_meaning raw bytes ≡ csi_meaning raw bytes
number_at raw [] l m n = absurd (omega arith)
number_at raw (b ∷ bs) l m n = let t = digit_apart b (m, n) in rw (t.0, t.1, t.2, t.3, t.4) refl

pub report_at : (raw : Bool) (bytes : List ℕ) → 1 ≤ length bytes → get_or bytes 0 0 ≡ 60 → sgr_meaning (take (length bytes - 1) (drop 1 bytes)) ≡ csi_meaning raw bytes
report_at raw [] l h = absurd (omega arith)
report_at raw (b ∷ bs) l h = ap sgr_meaning (take_all (length (b ∷ bs) - 1) bs (omega arith)) ∙ rw h refl

-- What a front that is taken away says.
pub stripped : (front bytes : List ℕ) → pointwise eqb (take (length front) bytes) front ≡ begins front bytes
stripped [] bytes = refl
stripped (p ∷ ps) [] = refl
stripped (p ∷ ps) (b ∷ bs) = ap (λ (t : Bool). (b == p) && t) (stripped ps bs) ∙ and_comm (b == p) (begins ps bs)

-- What doesn't begin with the end of a paste ends as its rest does.
pub paste_on : (bytes : List ℕ) → 1 ≤ length bytes → pointwise eqb (take 6 bytes) paste_end ≡ false → ends_paste (take (length bytes - 1) (drop 1 bytes)) ≡ ends_paste bytes
paste_on [] l h = absurd (omega arith)
paste_on (b ∷ bs) l h = ap ends_paste (take_all (length (b ∷ bs) - 1) bs (omega arith)) ∙ sym (rw (sym (stripped paste_end (b ∷ bs)) ∙ h) refl)

-- A numbered sequence or a paste, by whether the bytes open one.
pub digit_at : (bytes : List ℕ) (t : Bool) → 1 ≤ length bytes → pointwise eqb (take 4 bytes) paste_mark ≡ t
    → cond t (ends_paste (drop 4 bytes)) (ends_numbered (take (length bytes - 1) (drop 1 bytes))) ≡ ends_digit bytes
digit_at [] t l h = absurd (omega arith)
digit_at (b ∷ bs) t l h = rw (sym (stripped paste_mark (b ∷ bs)) ∙ h, take_all (length (b ∷ bs) - 1) bs (omega arith)) refl

-- What is meant by bytes that open a paste, and by others.
pub paste_seen : (raw : Bool) (bytes rest text : List ℕ) (n : ℕ) → pointwise eqb (take 6 bytes) paste_start ≡ true → rest ≡ drop 6 bytes → n ≡ length rest - 6
    → text ≡ encode_utf8_all (lossy_chars (take n rest)) → Some (Paste text) ≡ meaning_seen raw bytes
paste_seen raw bytes rest text n h r e t = rw (sym (stripped paste_start bytes) ∙ h, t, e, r) refl

pub other_seen : (raw : Bool) (bytes : List ℕ) → pointwise eqb (take 6 bytes) paste_start ≡ false → option_map seen_meaning (meaning raw bytes) ≡ meaning_seen raw bytes
other_seen raw bytes h = rw (sym (stripped paste_start bytes) ∙ h) refl

-- The events with one more, or with none.
pub given_some : {X : Type 0} (see : X → Seen) (old new : List X) (x : X) (o : Option X) (means : Option Seen) → o ≡ Some x → new ≡ old ++ x ∷ []
    → option_map see o ≡ means → map see new ≡ map see old ++ option_to_list means
given_some see old new x o means s n e = rw (sym e, s, n) (map-append see old (x ∷ []))

pub given_none : {X : Type 0} (see : X → Seen) (old : List X) (o : Option X) (means : Option Seen) → o ≡ None → option_map see o ≡ means → map see old ≡ map see old ++ option_to_list means
given_none see old o means s e = rw (sym e, s) (sym (append-nil (map see old)))
