-- Bytes that are put in at once are put in one after another.
use Rattle.std.proofs.Common.{◌≡◌, ◌≢◌, ◌==◌, ◌≤◌, ◌<◌, ℕ, zero, suc, ◌+◌, ◌-◌, Bool, true, false, not, ◌&&◌, if◌then◌else◌, List, [], ◌∷◌, ◌++◌, length, take, drop, get_or, slice_index, Option, Some, None, option_to_list, map, nat_lt, refl, ap, sym, ◌∙◌, subst, arith, append_assoc}
use Rattle.std.proofs.lemmas.List.{append-nil, drop_more, take_all, take_rest, length-drop}
use Rattle.std.specs.Prelude.{nat_le}
use Rattle.std.proofs.lemmas.Bool.{and_parts}
use Rattle.std.proofs.lemmas.Bool.Decides.{nat_tests}
use Rattle.std.specs.List.{AllByRecursion}
use Rattle.std.proofs.lemmas.Bool.{false_from_ne_true}
use Rattle.bstr.specs.Utf8.{Decoded, decoded, second, continues, code_of_2, code_of_3, code_of_4}
use Rattle.bstr.proofs.lemmas.PieceLemmas.{by-shape}
use Rattle.crossterm_parse.specs.Transitions.{fields_after, utf8_after, IsCharacterOf, parameters_after, state_after, state_left, text_left, events_left, Opens, OpensWith, ByteStep, Open, Whole}
use Rattle.crossterm_parse.specs.Recognizer.{is_lead, is_continuing, is_final, is_mouse_end, further_after}
use Rattle.crossterm_parse.specs.Bytes.{IsLetter}
use Rattle.crossterm_parse.specs.States.{is_paste, StateRepresents, kept_text}
use Rattle.crossterm_parse.specs.Putting.{Gives, PutsAll, PutsByte, PutsOn, bare}
use Rattle.crossterm_parse.specs.Meaning.{typed, single, decoded_character, seen_meaning}
use Rattle.crossterm_types.specs.Seen.{Seen}
use Rattle.memchr.specs.Find.{Nowhere, Passes, is_byte}
use Rattle.crossterm_parse.specs.Marked.{Marked, bytes_of, marked}
use Rattle.crossterm_parse.specs.View.{ParserView, Represents, AdvancesOver}
use Rattle.crossterm_parse.specs.inside.InFront.{EndsFrom}
use Rattle.crossterm_parse.specs.declared.fields.Fields.{Fields}
use Rattle.crossterm_parse.specs.declared.numbered.Parameters.{Parameters}
use Rattle.crossterm_parse.specs.declared.utf8.Validity.{Validity}
use Rattle.crossterm_parse.specs.declared.utf8.Validity.TheVariants.{Sound}
use Rattle.crossterm_parse.specs.declared.whole.WholeSequence.{WholeSequence}
use Rattle.crossterm_parse.specs.declared.paste.Met.TheVariants as met
use Rattle.crossterm_parse.specs.declared.paste.Opening.TheVariants as opening
use Rattle.crossterm_parse.specs.declared.state.State.{State}
use Rattle.crossterm_parse.specs.declared.state.State.TheVariants.{Ground, Escape, Sgr, Numbered, Paste, Utf8}
use Rattle.crossterm_parse.specs.declared.character.Begun.{Begun}
use Rattle.crossterm_parse.specs.declared.character.Begun.TheVariants.{One, Two, Three}
use Rattle.crossterm_parse.specs.declared.meaning.Meaning.{Meaning}
use Rattle.crossterm_parse.proofs.ViewLaws.{advance_more, advance_none}
use Rattle.crossterm_parse.proofs.Utf8Laws.{leads, two_whole, three_whole, four_whole}

same_start : (old mid new : ParserView) (b : ℕ) (raw pause : Bool) → PutsAll old mid [] → PutsByte mid new b raw pause → PutsByte old new b raw pause
same_start old mid new b raw pause same puts = (
  puts.0 ∙ (λ k. state_left (state_after (same.0 k) b raw pause)),
  puts.1 ∙ (λ k. text_left (state_after (same.0 k) b raw pause) (same.0 k) (same.1 k) b),
  puts.2 ∙ (λ k. same.2 k ++ events_left (state_after (same.0 k) b raw pause) (same.1 k)),
)

take_none : (n : ℕ) → take {A = ℕ} n [] ≡ []
take_none zero = refl
take_none (suc n) = refl

take_join : (i n : ℕ) (bs : List ℕ) → take i bs ++ take n (drop i bs) ≡ take (i + n) bs
take_join zero n bs = let none : 0 + n ≡ n = omega arith in ap (λ (m : ℕ). take m bs) (sym none)
take_join (suc i) n [] = take_none n ∙ sym (take_none (suc i + n))
take_join (suc i) n (b ∷ bs) =
    let more : suc (i + n) ≡ suc i + n = omega arith in
    ap (λ (t : List ℕ). b ∷ t) (take_join i n bs) ∙ ap (λ (m : ℕ). take m (b ∷ bs)) more

-- if bytes may have pauses behind them, they may have none
pub all_on : (raw : Bool) (bs : List ℕ) (old new : ParserView) → PutsAll old new bs → PutsOn raw old new bs
all_on raw [] old new all = all
all_on raw (b ∷ bs) old new all = (all.0, (λ pause last. all.1 raw pause), all_on raw bs all.0 new all.2)

-- a change of the room alone puts nothing
pub on_still : (raw : Bool) (old mid new : ParserView) (bs : List ℕ) → PutsOn raw old mid bs → PutsOn raw mid new [] → PutsOn raw old new bs
on_still raw old mid new [] on same = (same.0 ∙ on.0, same.1 ∙ on.1, same.2 ∙ on.2)
on_still raw old mid new (b ∷ bs) on same = (on.0, on.1, on_still raw on.0 mid new bs on.2 same)

none_left : (bs cs : List ℕ) → length (bs ++ cs) ≡ 0 → length bs ≡ 0
none_left [] cs none = refl
none_left (b ∷ bs) cs none = absurd (omega (arith, none))

on_join : (raw : Bool) (bs cs : List ℕ) (old mid new : ParserView) → PutsOn raw old mid bs → PutsOn raw mid new cs → PutsOn raw old new (bs ++ cs)
on_join raw [] [] old mid new same on = (on.0 ∙ same.0, on.1 ∙ same.1, on.2 ∙ same.2)
on_join raw [] (c ∷ cs) old mid new same on = (on.0, (λ pause last. same_start old mid on.0 c raw pause same (on.1 pause last)), on.2)
on_join raw (b ∷ bs) cs old mid new all on = (all.0, (λ pause last. all.1 pause (λ is. none_left bs cs (last is))), on_join raw bs cs all.0 mid new all.2 on)

-- more bytes of what is left
pub on_after : (raw : Bool) (old mid new : ParserView) (bs : List ℕ) (i n : ℕ) → PutsOn raw old mid (take i bs)
    → PutsOn raw mid new (take n (take (length bs - i) (drop i bs))) → PutsOn raw old new (take (i + n) bs)
on_after raw old mid new bs i n all more =
    let left : length (drop i bs) ≤ length bs - i = omega (arith, length-drop i bs) in
    subst (PutsOn raw old new) (take_join i n bs)
    (on_join raw (take i bs) (take n (drop i bs)) old mid new all (subst (λ (cs : List ℕ). PutsOn raw mid new (take n cs)) (take_all (length bs - i) (drop i bs) left) more))

plain_byte : (old : ParserView) (b : ℕ) (raw pause : Bool) → b == 27 ≡ false → old.state ≡ Paste met.Nothing
    → PutsByte old (record { waiting = old.waiting; state = old.state; text = old.text ++ b ∷ []; typed = old.typed; room = old.room }) b raw pause
plain_byte old b raw pause e is = (
  is ∙ sym (ap (λ (s : State). state_left (state_after s b raw pause)) is ∙ ap (λ (t : Bool). Paste (if t then met.Escape else met.Nothing)) e),
  sym (ap (λ (s : State). text_left (state_after s b raw pause) s old.text b) is),
  sym (ap (λ (s : State). old.waiting ++ events_left (state_after s b raw pause) old.text) is ∙ append-nil old.waiting),
)

-- bytes of a paste before the next ESC
pub paste_run : (bs : List ℕ) (old new : ParserView) → AllByRecursion (λ b. b == 27 ≡ false) bs → old.state ≡ Paste met.Nothing → new.state ≡ old.state
    → new.text ≡ old.text ++ bs → new.waiting ≡ old.waiting → PutsAll old new bs
paste_run [] old new none is state text waiting = (state, text ∙ append-nil old.text, waiting)
paste_run (b ∷ bs) old new none is state text waiting =
    let mid : ParserView = record { waiting = old.waiting; state = old.state; text = old.text ++ b ∷ []; typed = old.typed; room = old.room } in
    (mid, (λ raw pause. plain_byte old b raw pause none.0 is), paste_run bs mid new none.1 is state (text ∙ sym (append_assoc old.text (b ∷ []) bs)) waiting)

-- if ESC is at no index below n, none of the first n bytes is one
pub none_is : (bs : List ℕ) (n : ℕ) → Nowhere (Passes (is_byte 27) bs) 0 n → AllByRecursion (λ b. b == 27 ≡ false) (take n bs)
none_is bs zero f = tt
none_is [] (suc n) f = tt
none_is (b ∷ bs) (suc n) f = (false_from_ne_true (b == 27) (f 0 (omega arith) (omega arith)), none_is bs n (λ k low high. f (suc k) (omega arith) (omega (arith, high))))

still : (mid new : ParserView) (rest : List Marked) → PutsAll mid new [] → Represents mid rest → Represents new rest
still mid new rest same represents = (
  subst (λ (s : State). StateRepresents s (bytes_of rest)) (sym same.0) represents.0,
  same.1 ∙ represents.1 ∙ ap (λ (s : State). kept_text s (bytes_of rest)) (sym same.0),
)

pub advance_still : (old mid new : ParserView) (taken : List Marked) → PutsAll mid new [] → AdvancesOver old mid taken → AdvancesOver old new taken
advance_still old mid new taken same over before represents undecided =
    let a = over before represents undecided in
    record { parts = a.parts; rest = a.rest; division = a.division; given = same.2 ∙ a.given; represents = still mid new a.rest same a.represents }

last_byte : (piece : List ℕ) (quiet : Bool) (i n : ℕ) → i + suc n ≤ length piece → i + 1 == length piece ≡ true → length (take n (drop (i + 1) piece)) ≡ 0
last_byte piece quiet i n l last =
    let end : i + 1 ≡ length piece = grind (arith, nat_tests) in
    let none : n ≡ 0 = omega (arith, l, end) in
    ap (λ (m : ℕ). length (take m (drop (i + 1) piece))) none

-- a run
advance_run : (n : ℕ) (old mid new : ParserView) (piece : List ℕ) (more raw : Bool) (i : ℕ) → i + n ≤ length piece → PutsOn raw mid new (take n (drop i piece))
    → AdvancesOver old mid (take i (marked piece more raw)) → AdvancesOver old new (take (i + n) (marked piece more raw))
advance_run zero old mid new piece more raw i l all before =
    let none : i ≡ i + 0 = omega arith in
    subst (λ (j : ℕ). AdvancesOver old new (take j (marked piece more raw))) none (advance_still old mid new (take i (marked piece more raw)) all before)
advance_run (suc n) old mid new piece more raw i l all before =
    let lt : i < length piece = omega (arith, l) in
    let front : PutsOn raw mid new (get_or piece i 0 ∷ take n (drop (i + 1) piece)) = subst (PutsOn raw mid new) (ap (λ (bs : List ℕ). take (suc n) bs) (drop_more piece i 0 lt)) all in
    let pause : Bool = not more && (i + 1 == length piece) in
    let one = front.1 pause (λ p. last_byte piece (not more) i n l (and_parts (not more) (i + 1 == length piece) p).1) in
    let next = advance_more old mid front.0 piece more raw i (get_or piece i 0) pause lt refl refl one.0 one.1 one.2 before in
    let on : i + 1 + n ≡ i + suc n = omega arith in
    subst (λ (j : ℕ). AdvancesOver old new (take j (marked piece more raw))) on (advance_run n old front.0 new piece more raw (i + 1) (omega (arith, l)) front.2 next)

-- a run over what is left of the piece
pub advance_rest : (n : ℕ) (old mid new : ParserView) (piece : List ℕ) (more raw : Bool) (i : ℕ) → i + n ≤ length piece
    → PutsOn raw mid new (take n (take (length piece - i) (drop i piece)))
    → AdvancesOver old mid (take i (marked piece more raw)) → AdvancesOver old new (take (i + n) (marked piece more raw))
advance_rest n old mid new piece more raw i l all before =
    let left : length (drop i piece) ≤ length piece - i = omega (arith, length-drop i piece) in
    advance_run n old mid new piece more raw i l (subst (λ (bs : List ℕ). PutsOn raw mid new (take n bs)) (take_all (length piece - i) (drop i piece) left) all) before

pub take_less : (n m : ℕ) (bs : List ℕ) → n ≤ length (take m bs) → take n (take m bs) ≡ take n bs
take_less zero m bs l = refl
take_less (suc n) zero bs l = absurd (omega (arith, l))
take_less (suc n) (suc m) [] l = refl
take_less (suc n) (suc m) (b ∷ bs) l = ap (λ (t : List ℕ). b ∷ t) (take_less n m bs (omega (arith, l)))

-- one more byte with which a sequence goes on
pub opens_more : (old mid new : State) (bs : List ℕ) (b : ℕ) → Opens old mid bs → ((raw pause : Bool) → state_after mid b raw pause ≡ Open new) → is_paste new ≡ false
    → Opens old new (bs ++ b ∷ [])
opens_more old mid new [] b all opens outside = (new, (λ raw pause. ap (λ (s : State). state_after s b raw pause) (sym all) ∙ opens raw pause), outside, refl)
opens_more old mid new (x ∷ xs) b all opens outside = (all.0, all.1, all.2, opens_more all.0 mid new xs b all.3 opens outside)

-- bytes with which a sequence goes on
pub opens_puts : (bs : List ℕ) (old new : ParserView) → Opens old.state new.state bs → new.text ≡ old.text → new.waiting ≡ old.waiting → PutsAll old new bs
opens_puts [] old new opens text waiting = (opens, text, waiting)
opens_puts (b ∷ bs) old new opens text waiting =
    let mid : ParserView = record { waiting = old.waiting; state = opens.0; text = old.text; typed = old.typed; room = old.room } in
    let puts : (raw pause : Bool) → PutsByte old mid b raw pause = λ raw pause. (
      ap (λ (s : ByteStep). state_left s) (sym (opens.1 raw pause)),
      sym (ap (λ (s : ByteStep). text_left s old.state old.text b) (opens.1 raw pause)
          ∙ ap (λ (t : Bool). if t then (if is_paste old.state then old.text ++ b ∷ [] else []) else old.text) opens.2),
      sym (ap (λ (s : ByteStep). old.waiting ++ events_left s old.text) (opens.1 raw pause) ∙ append-nil old.waiting),
    ) in
    (mid, puts, opens_puts bs mid new opens.3 text waiting)

pub opens_join : (bs cs : List ℕ) (old mid new : State) → Opens old mid bs → Opens mid new cs → Opens old new (bs ++ cs)
opens_join [] cs old mid new same more = subst (λ (s : State). Opens s new cs) same more
opens_join (b ∷ bs) cs old mid new all more = (all.0, all.1, all.2, opens_join bs cs all.0 mid new all.3 more)

-- bytes at the front of a slice, and bytes behind them
pub opens_front : (old new : State) (bs : List ℕ) (few n : ℕ) → n ≤ length (take few bs) → Opens old new (take n (take few bs)) → Opens old new (take n bs)
opens_front old new bs few n l opens = subst (Opens old new) (take_less n few bs l) opens

pub opens_on : (old mid new : State) (bs : List ℕ) (i n : ℕ) → Opens old mid (take i bs) → Opens mid new (take n (take (length bs - i) (drop i bs))) → Opens old new (take (i + n) bs)
opens_on old mid new bs i n opens more =
    let left : length (drop i bs) ≤ length bs - i = omega (arith, length-drop i bs) in
    subst (Opens old new) (take_join i n bs) (opens_join (take i bs) (take n (drop i bs)) old mid new opens
    (subst (λ (cs : List ℕ). Opens mid new (take n cs)) (take_all (length bs - i) (drop i bs) left) more))

-- a digit that changes no number
idle_after : (p : Parameters) (b : ℕ) → b < 58 → p.validity ≡ Sound → fields_after p.fields b ≡ p.fields
    → parameters_after p b ≡ record { fields = p.fields; last = b; validity = p.validity }
idle_after p b high sound same =
    let ascii : nat_lt b 128 ≡ true = grind (arith, nat_tests) in
    let still : utf8_after Sound b ≡ Sound = rw (ascii) refl in
    let valid : utf8_after p.validity b ≡ p.validity = ap (λ (v : Validity). utf8_after v b) sound ∙ still ∙ sym sound in
    ap (λ (fs : Fields). record { fields = fs; last = b; validity = utf8_after p.validity b }) same
    ∙ ap (λ (v : Validity). record { fields = p.fields; last = b; validity = v }) valid

pub idle_number : (p : Parameters) (b : ℕ) → 48 ≤ b → b < 58 → p.validity ≡ Sound → fields_after p.fields b ≡ p.fields → (raw pause : Bool)
    → state_after (Numbered p opening.Not) b raw pause ≡ Open (Numbered (record { fields = p.fields; last = b; validity = p.validity }) opening.Not)
idle_number p b low high sound same raw pause =
    let on : is_final b ≡ false = grind (arith, nat_tests) in
    let same = ap (λ (q : Parameters). Open (Numbered q opening.Not)) (idle_after p b high sound same) in
    rw on same

pub idle_report : (p : Parameters) (b : ℕ) → 48 ≤ b → b < 58 → p.validity ≡ Sound → fields_after p.fields b ≡ p.fields → (raw pause : Bool)
    → state_after (Sgr p) b raw pause ≡ Open (Sgr (record { fields = p.fields; last = b; validity = p.validity }))
idle_report p b low high sound same raw pause =
    let on : is_mouse_end b ≡ false = grind (arith, nat_tests) in
    let same = ap (λ (q : Parameters). Open (Sgr q)) (idle_after p b high sound same) in
    rw on same

-- ESC and the byte behind it
escape_byte : (old : ParserView) (bs : List ℕ) (raw pause : Bool) → 0 < length bs → (pause ≡ true → length bs ≡ 0) → old.state ≡ Ground
    → PutsByte old (record { waiting = old.waiting; state = Escape; text = old.text; typed = old.typed; room = old.room }) 27 raw pause
escape_byte old bs raw true some last ground = absurd (omega (arith, some, last refl))
escape_byte old bs raw false some last ground =
    let step : state_after old.state 27 raw false ≡ Open Escape = ap (λ (s : State). state_after s 27 raw false) ground in (
      ap (λ (s : ByteStep). state_left s) (sym step),
      sym (ap (λ (s : ByteStep). text_left s old.state old.text 27) step),
      sym (ap (λ (s : ByteStep). old.waiting ++ events_left s old.text) step ∙ append-nil old.waiting),
    )

escape_on : (raw : Bool) (old new : ParserView) (b : ℕ) (bs : List ℕ) → old.state ≡ Ground → Opens Escape new.state (b ∷ bs) → new.text ≡ old.text → new.waiting ≡ old.waiting
    → PutsOn raw old new (27 ∷ b ∷ bs)
escape_on raw old new b bs ground opens text waiting =
    let mid : ParserView = record { waiting = old.waiting; state = Escape; text = old.text; typed = old.typed; room = old.room } in (
      mid,
      (λ pause last. escape_byte old (b ∷ bs) raw pause (omega arith) last ground),
      all_on raw (b ∷ bs) mid new (opens_puts (b ∷ bs) mid new opens text waiting),
    )

-- a sequence that opens, or nothing
pub opened_on : (raw : Bool) (n : ℕ) (old new : ParserView) (bs : List ℕ) → old.state ≡ Ground → (n ≡ 0 → new.state ≡ Ground) → (0 < n → OpensWith new.state (take n bs))
    → new.text ≡ old.text → new.waiting ≡ old.waiting → PutsOn raw old new (take n bs)
opened_on raw zero old new bs ground none some text waiting = (none refl ∙ sym ground, text, waiting)
opened_on raw (suc n) old new bs ground none some text waiting =
    let opens = some (omega arith) in
    subst (PutsOn raw old new) (sym opens.2) (escape_on raw old new opens.0 opens.1 ground opens.3 text waiting)

-- a sequence that is whole with its last byte
whole_on : (raw : Bool) (state : State) (b : ℕ) (m : Option Meaning) (w : List Seen) → ((pause : Bool) → state_after state b raw pause ≡ Whole m) → (pause : Bool)
    → PutsByte (bare state w) (bare Ground (w ++ map seen_meaning (option_to_list m))) b raw pause
whole_on raw state b None w whole pause = (
  ap (λ (s : ByteStep). state_left s) (sym (whole pause)),
  sym (ap (λ (s : ByteStep). text_left s state [] b) (whole pause)),
  sym (ap (λ (s : ByteStep). w ++ events_left s []) (whole pause)),
)
whole_on raw state b (Some m) w whole pause = (
  ap (λ (s : ByteStep). state_left s) (sym (whole pause)),
  sym (ap (λ (s : ByteStep). text_left s state [] b) (whole pause)),
  sym (ap (λ (s : ByteStep). w ++ events_left s []) (whole pause)),
)

-- what is whole in front of a piece, if no sequence is open
pub front_on : (old : ParserView) (bs : List ℕ) (m : Meaning) (raw more : Bool) (n : ℕ) → old.state ≡ Ground → n ≤ length bs
    → ((w : List Seen) → PutsOn raw (bare Ground w) (bare Ground (w ++ seen_meaning m ∷ [])) (take n bs))
    → AdvancesOver old (record old { waiting = old.waiting ++ seen_meaning m ∷ [] }) (take n (marked bs more raw))
front_on old bs m raw more n ground within puts before represents undecided =
    let was = bare Ground old.waiting in
    let is = bare Ground (old.waiting ++ seen_meaning m ∷ []) in
    let on : 0 + n ≡ n = omega arith in
    let over : AdvancesOver was is (take n (marked bs more raw)) = subst (λ (j : ℕ). AdvancesOver was is (take j (marked bs more raw))) on (advance_run n was was is bs more raw 0 (omega (arith, within)) (puts old.waiting) (advance_none was)) in
    let a = over before (subst (λ (s : State). StateRepresents s (bytes_of before)) ground represents.0, refl) undecided in
    record {
      parts = a.parts;
      rest = a.rest;
      division = a.division;
      given = a.given;
      represents = (
        subst (λ (s : State). StateRepresents s (bytes_of a.rest)) (sym ground) a.represents.0,
        represents.1 ∙ ap (λ (s : State). kept_text s (bytes_of before)) ground ∙ sym (ap (λ (s : State). kept_text s (bytes_of a.rest)) ground),
      );
    }

-- a control byte
control_after : (b : ℕ) → b < 128 → b ≢ 27 → (raw pause : Bool) → state_after Ground b raw pause ≡ Whole (single raw b)
control_after b low other raw pause =
    let escape : b == 27 ≡ false = grind (arith, nat_tests) in
    let lead : is_lead b ≡ false = grind (arith, nat_tests) in
    rw (escape, lead) refl

pub control_on : (raw : Bool) (s : State) (bs : List ℕ) (m : Meaning) (w : List Seen) → s ≡ Ground → 0 < length bs → (get_or bs 0 0 < 128) × (get_or bs 0 0 ≢ 27) → Some m ≡ single raw (get_or bs 0 0)
    → PutsOn raw (bare s w) (bare s (w ++ map seen_meaning (m ∷ []))) (take 1 bs)
control_on raw s [] m w ground some control is = absurd (omega arith)
control_on raw s (b ∷ bs) m w ground some control is = subst (λ (t : State). PutsOn raw (bare t w) (bare t (w ++ map seen_meaning (m ∷ []))) (b ∷ [])) (sym ground) (
  bare Ground (w ++ map seen_meaning (m ∷ [])),
  λ pause last. whole_on raw Ground b (Some m) w (λ pause. control_after b control.0 control.1 raw pause ∙ ap Whole (sym is)) pause,
  (refl, refl, refl),
)

some_bytes : (bs : List ℕ) (b : ℕ) → 0 < length (bs ++ b ∷ [])
some_bytes [] b = omega arith
some_bytes (c ∷ bs) b = omega arith

-- ESC, and a whole sequence behind it
pub sequence_on : (raw : Bool) (s : State) (bs : List ℕ) (it : WholeSequence) (w : List Seen) → s ≡ Ground → 0 < length bs → slice_index bs 0 ≡ 27
    → EndsFrom Escape (take (length bs - 1) (drop 1 bs)) raw it
    → PutsOn raw (bare s w) (bare s (w ++ map seen_meaning (option_to_list it.meaning))) (take (1 + it.count) bs)
sequence_on raw s bs it w ground some escape ends =
    let on : 1 + it.count ≡ suc it.count = omega arith in
    let text : List ℕ = ends.text ++ ends.last ∷ [] in
    let behind : take it.count (drop 1 bs) ≡ text = ap (λ (cs : List ℕ). take it.count cs) (sym (take_rest bs 1)) ∙ ends.is in
    let is : take (1 + it.count) bs ≡ 27 ∷ text =
    ap (λ (m : ℕ). take m bs) on ∙ ap (λ (cs : List ℕ). take (suc it.count) cs) (drop_more bs 0 0 some) ∙ ap (λ (b : ℕ). b ∷ take it.count (drop 1 bs)) escape
    ∙ ap (λ (cs : List ℕ). 27 ∷ cs) behind in
    let given = w ++ map seen_meaning (option_to_list it.meaning) in
    let new : ParserView = bare Ground given in
    subst (λ (cs : List ℕ). PutsOn raw (bare s w) (bare s given) cs) (sym is)
    (subst (λ (t : State). PutsOn raw (bare t w) (bare t given) (27 ∷ text)) (sym ground) (
      bare Escape w,
      (λ pause last. escape_byte (bare Ground w) text raw pause (some_bytes ends.text ends.last) last refl),
      on_join raw ends.text (ends.last ∷ []) (bare Escape w) (bare ends.state w) new
          (all_on raw ends.text (bare Escape w) (bare ends.state w) (opens_puts ends.text (bare Escape w) (bare ends.state w) ends.opens refl refl))
          (new, (λ pause last. whole_on raw ends.state ends.last it.meaning w ends.whole pause), (refl, refl, refl)),
    ))

first_bytes : (bs : List ℕ) → 3 ≤ length bs → bs ≡ slice_index bs 0 ∷ slice_index bs 1 ∷ slice_index bs 2 ∷ drop 3 bs
first_bytes bs l =
    drop_more bs 0 0 (omega (arith, l))
    ∙ ap (λ t. slice_index bs 0 ∷ t) (drop_more bs 1 0 (omega (arith, l)))
    ∙ ap (λ t. slice_index bs 0 ∷ slice_index bs 1 ∷ t) (drop_more bs 2 0 (omega (arith, l)))

pub opens_two : (new : State) (bs : List ℕ) → 3 ≤ length bs → slice_index bs 0 ≡ 27 → Opens Escape new (slice_index bs 1 ∷ []) → OpensWith new (take 2 bs)
opens_two new bs l first opens = (
  slice_index bs 1,
  [],
  ap (λ (cs : List ℕ). take 2 cs) (first_bytes bs l) ∙ ap (λ (b : ℕ). b ∷ slice_index bs 1 ∷ []) first,
  opens,
)

pub opens_three : (mid new : State) (bs : List ℕ) (n : ℕ) → 3 ≤ length bs → slice_index bs 0 ≡ 27 → Opens Escape mid (slice_index bs 1 ∷ slice_index bs 2 ∷ [])
    → Opens mid new (take n (take (length bs - 3) (drop 3 bs))) → OpensWith new (take (3 + n) bs)
opens_three mid new bs n l first opens more =
    let left : length (drop 3 bs) ≤ length bs - 3 = omega (arith, length-drop 3 bs) in
    let on : 3 + n ≡ suc (suc (suc n)) = omega arith in
    let rest = take n (drop 3 bs) in (
      slice_index bs 1,
      slice_index bs 2 ∷ rest,
      ap (λ (m : ℕ). take m bs) on ∙ ap (λ (cs : List ℕ). take (suc (suc (suc n))) cs) (first_bytes bs l) ∙ ap (λ (b : ℕ). b ∷ slice_index bs 1 ∷ slice_index bs 2 ∷ rest) first,
      opens_join (slice_index bs 1 ∷ slice_index bs 2 ∷ []) rest Escape mid new opens
          (subst (λ (cs : List ℕ). Opens mid new (take n cs)) (take_all (length bs - 3) (drop 3 bs) left) more),
    )

-- letters
letter_after : (b : ℕ) → IsLetter b → (raw pause : Bool) → state_after Ground b raw pause ≡ Whole (Some (typed b))
letter_after b is raw pause =
    let escape : b == 27 ≡ false = grind (arith, nat_tests) in
    let lead : is_lead b ≡ false = grind (arith, nat_tests) in
    let nul : b == 0 ≡ false = grind (arith, nat_tests) in
    let tab : b == 9 ≡ false = grind (arith, nat_tests) in
    let feed : b == 10 ≡ false = grind (arith, nat_tests) in
    let enter : b == 13 ≡ false = grind (arith, nat_tests) in
    let control : nat_le b 26 ≡ false = grind (arith, nat_tests) in
    let digit : nat_le b 31 ≡ false = grind (arith, nat_tests) in
    let low : nat_lt b 127 ≡ true = grind (arith, nat_tests) in
    rw (escape, lead, nul, tab, feed, enter, control, digit, low) refl

whole_byte : (old new : ParserView) (state : State) (b : ℕ) (m : Meaning) → old.state ≡ state → ((raw pause : Bool) → state_after state b raw pause ≡ Whole (Some m)) → Gives old new m
    → (raw pause : Bool) → PutsByte old new b raw pause
whole_byte old new state b m is whole gives raw pause =
    let step : state_after old.state b raw pause ≡ Whole (Some m) = ap (λ (s : State). state_after s b raw pause) is ∙ whole raw pause in (
      gives.0 ∙ sym (ap (λ (s : ByteStep). state_left s) step),
      gives.1 ∙ sym (ap (λ (s : ByteStep). text_left s old.state old.text b) step),
      gives.2 ∙ sym (ap (λ (s : ByteStep). old.waiting ++ events_left s old.text) step),
    )

pub letter_puts : (old new : ParserView) (b : ℕ) → IsLetter b → old.state ≡ Ground → Gives old new (typed b) → (raw pause : Bool) → PutsByte old new b raw pause
letter_puts old new b is ground gives = whole_byte old new Ground b (typed b) ground (letter_after b is) gives

pub letters_more : (bs : List ℕ) (b : ℕ) → AllByRecursion IsLetter bs → IsLetter b → AllByRecursion IsLetter (bs ++ b ∷ [])
letters_more [] b all is = (is, tt)
letters_more (x ∷ bs) b all is = (all.0, letters_more bs b all.1 is)

pub letter_at : (bs : List ℕ) (i : ℕ) → AllByRecursion IsLetter bs → i < length bs → IsLetter (get_or bs i 0)
letter_at [] i all l = absurd (omega (arith, l))
letter_at (b ∷ bs) zero all l = all.0
letter_at (b ∷ bs) (suc i) all l = letter_at bs i all.1 (omega (arith, l))

-- a character in UTF-8
abbrev begun : Begun → State
begun t = Utf8 (record { escaped = false; begun = t })

open_byte : (old : ParserView) (state next : State) (b : ℕ) → old.state ≡ state → ((raw pause : Bool) → state_after state b raw pause ≡ Open next) → is_paste next ≡ false
    → (raw pause : Bool) → PutsByte old (record { waiting = old.waiting; state = next; text = old.text; typed = old.typed; room = old.room }) b raw pause
open_byte old state next b is opens outside raw pause =
    let step : state_after old.state b raw pause ≡ Open next = ap (λ (s : State). state_after s b raw pause) is ∙ opens raw pause in (
      ap (λ (s : ByteStep). state_left s) (sym step),
      sym (ap (λ (s : ByteStep). text_left s old.state old.text b) step ∙ ap (λ (t : Bool). if t then (if is_paste old.state then old.text ++ b ∷ [] else []) else old.text) outside),
      sym (ap (λ (s : ByteStep). old.waiting ++ events_left s old.text) step ∙ append-nil old.waiting),
    )

lead_after : (a : ℕ) → 0xC2 ≤ a → a ≤ 0xF4 → (raw pause : Bool) → state_after Ground a raw pause ≡ Open (begun (One a))
lead_after a l h raw pause =
    let escape : a == 27 ≡ false = grind (arith, nat_tests) in
    let lead : is_lead a ≡ true = grind (arith, nat_tests) in
    rw (escape, lead) refl

continuing : (b : ℕ) → continues b ≡ true → is_continuing b ≡ true
continuing b h =
    let w = and_parts (nat_lt 0x7F b) (nat_lt b 0xC0) h in
    let low = w.0 in
    let high = w.1 in
    grind (arith, nat_tests)

second-continues : (b c : ℕ) → second b c ≡ true → continues c ≡ true
second-continues b c is = grind (arith, nat_tests)

further_none : (a : ℕ) → a < 0xE0 → further_after a ≡ 0
further_none a h = let t : nat_le a 223 ≡ true = grind (arith, nat_tests) in rw t refl

further_one : (a : ℕ) → 0xE0 ≤ a → a < 0xF0 → further_after a ≡ 1
further_one a l h =
    let s : nat_le a 223 ≡ false = grind (arith, nat_tests) in
    let t : nat_le a 239 ≡ true = grind (arith, nat_tests) in
    rw (s, t) refl

further_two : (a : ℕ) → 0xF0 ≤ a → further_after a ≡ 2
further_two a l =
    let s : nat_le a 223 ≡ false = grind (arith, nat_tests) in
    let t : nat_le a 239 ≡ false = grind (arith, nat_tests) in
    rw (s, t) refl

two_puts : (old new : ParserView) (a b c : ℕ) → 0xC2 ≤ a → a < 0xE0 → second a b ≡ true → Some (code_of_2 a b) ≡ Some c → old.state ≡ Ground → Gives old new (typed c)
    → PutsAll old new (a ∷ b ∷ [])
two_puts old new a b c low high ok is ground gives =
    let one : ParserView = record { waiting = old.waiting; state = begun (One a); text = old.text; typed = old.typed; room = old.room } in
    let last : (raw pause : Bool) → state_after (begun (One a)) b raw pause ≡ Whole (Some (typed c)) = λ raw pause.
    rw (further_none a high, continuing b (second-continues a b ok)) refl
    ∙ ap (λ (x : Option ℕ). Whole (decoded_character x)) ((two_whole a b (leads a low (omega arith)) ok (grind (arith, nat_tests))).0 ∙ is) in (
      one,
      open_byte old Ground (begun (One a)) a ground (lead_after a low (omega arith)) refl,
      (new, whole_byte one new (begun (One a)) b (typed c) refl last gives, (refl, refl, refl)),
    )

three_puts : (old new : ParserView) (a b d c : ℕ) → 0xE0 ≤ a → a < 0xF0 → second a b ≡ true → continues d ≡ true → Some (code_of_3 a b d) ≡ Some c → old.state ≡ Ground → Gives old new (typed c)
    → PutsAll old new (a ∷ b ∷ d ∷ [])
three_puts old new a b d c low high ok more is ground gives =
    let one : ParserView = record { waiting = old.waiting; state = begun (One a); text = old.text; typed = old.typed; room = old.room } in
    let two : ParserView = record { waiting = old.waiting; state = begun (Two a b); text = old.text; typed = old.typed; room = old.room } in
    let next : (raw pause : Bool) → state_after (begun (One a)) b raw pause ≡ Open (begun (Two a b)) = λ raw pause.
    rw (further_one a low high, continuing b (second-continues a b ok)) refl in
    let last : (raw pause : Bool) → state_after (begun (Two a b)) d raw pause ≡ Whole (Some (typed c)) = λ raw pause.
    rw (further_one a low high, continuing d more) refl
    ∙ ap (λ (x : Option ℕ). Whole (decoded_character x)) ((three_whole a b d (leads a (omega arith) (omega arith)) ok (grind (arith, nat_tests)) more (grind (arith, nat_tests))).0 ∙ is) in (
      one,
      open_byte old Ground (begun (One a)) a ground (lead_after a (omega arith) (omega arith)) refl,
      (
        two,
        open_byte one (begun (One a)) (begun (Two a b)) b refl next refl,
        (new, whole_byte two new (begun (Two a b)) d (typed c) refl last gives, (refl, refl, refl)),
      ),
    )

four_puts : (old new : ParserView) (a b d e c : ℕ) → 0xF0 ≤ a → a ≤ 0xF4 → second a b ≡ true → continues d ≡ true → continues e ≡ true → Some (code_of_4 a b d e) ≡ Some c
    → old.state ≡ Ground → Gives old new (typed c) → PutsAll old new (a ∷ b ∷ d ∷ e ∷ [])
four_puts old new a b d e c low high ok more most is ground gives =
    let one : ParserView = record { waiting = old.waiting; state = begun (One a); text = old.text; typed = old.typed; room = old.room } in
    let two : ParserView = record { waiting = old.waiting; state = begun (Two a b); text = old.text; typed = old.typed; room = old.room } in
    let three : ParserView = record { waiting = old.waiting; state = begun (Three a b d); text = old.text; typed = old.typed; room = old.room } in
    let next : (raw pause : Bool) → state_after (begun (One a)) b raw pause ≡ Open (begun (Two a b)) = λ raw pause.
    rw (further_two a low, continuing b (second-continues a b ok)) refl in
    let longer : (raw pause : Bool) → state_after (begun (Two a b)) d raw pause ≡ Open (begun (Three a b d)) = λ raw pause.
    rw (further_two a low, continuing d more) refl in
    let last : (raw pause : Bool) → state_after (begun (Three a b d)) e raw pause ≡ Whole (Some (typed c)) = λ raw pause.
    ap (λ (x : Option ℕ). Whole (decoded_character x)) ((four_whole a b d e (leads a (omega arith) high) ok (grind (arith, nat_tests)) more (grind (arith, nat_tests)) most).0 ∙ is) in (
      one,
      open_byte old Ground (begun (One a)) a ground (lead_after a (omega arith) high) refl,
      (
        two,
        open_byte one (begun (One a)) (begun (Two a b)) b refl next refl,
        (
          three,
          open_byte two (begun (Two a b)) (begun (Three a b d)) d refl longer refl,
          (new, whole_byte three new (begun (Three a b d)) e (typed c) refl last gives, (refl, refl, refl)),
        ),
      ),
    )

pub character_puts : (old new : ParserView) (bs : List ℕ) (c size : ℕ) → IsCharacterOf bs c size → old.state ≡ Ground → Gives old new (typed c) → PutsAll old new (take size bs)
character_puts old new bs x size is ground gives =
    let b = slice_index bs 0 in let c = slice_index bs 1 in let d = slice_index bs 2 in let e = slice_index bs 3 in
    let one = λ (h : 0 < length bs). drop_more bs 0 0 h in
    let two = λ (h : 1 < length bs). one (omega arith) ∙ ap (λ t. b ∷ t) (drop_more bs 1 0 h) in
    let three = λ (h : 2 < length bs). two (omega arith) ∙ ap (λ t. b ∷ c ∷ t) (drop_more bs 2 0 h) in
    let four = λ (h : 3 < length bs). three (omega arith) ∙ ap (λ t. b ∷ c ∷ d ∷ t) (drop_more bs 3 0 h) in
    let char = λ (p : Decoded) (e : decoded bs ≡ p). sym (ap (λ (q : Decoded). q.char) e) ∙ is.char in
    let wide = λ (p : Decoded) (e : decoded bs ≡ p). sym is.sized ∙ ap (λ (q : Decoded). q.size) e in
    let front = λ (n : ℕ) (e : size ≡ n). ap (λ (m : ℕ). take m bs) e in
    by-shape (length bs) b c d e
    (λ h. let k = char _ h.1 in cc)
    (λ h. let k : size ≡ 1 = wide _ h.2 in let long = is.long in absurd (omega (arith, k, long)))
    (λ h. let k = char _ h.3 in cc) (λ h. let k = char _ h.2 in cc) (λ h. let k = char _ h.4 in cc) (λ h. let k = char _ h.4 in cc)
    (λ h. subst (PutsAll old new) (sym (front 2 (wide _ h.4) ∙ ap (λ (l : List ℕ). take 2 l) (two h.0))) (two_puts old new b c x h.1 h.2 h.3 (char _ h.4) ground gives))
    (λ h. let k = char _ h.5 in cc) (λ h. let k = char _ h.5 in cc)
    (λ h. subst (PutsAll old new) (sym (front 3 (wide _ h.5) ∙ ap (λ (l : List ℕ). take 3 l) (three h.0))) (three_puts old new b c d x h.1 h.2 h.3 h.4 (char _ h.5) ground gives))
    (λ h. let k = char _ h.6 in cc) (λ h. let k = char _ h.6 in cc)
    (λ h. subst (PutsAll old new) (sym (front 4 (wide _ h.6) ∙ ap (λ (l : List ℕ). take 4 l) (four h.0))) (four_puts old new b c d e x h.1 h.2 h.3 h.4 h.5 (char _ h.6) ground gives))
