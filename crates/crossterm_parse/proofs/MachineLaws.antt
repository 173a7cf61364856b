-- The state of an open sequence does what the grammar says.
use Rattle.std.proofs.Common.{◌≡◌, ◌==◌, ℕ, Bool, true, false, cond, List, [], ◌∷◌, ◌++◌, refl, sym, ap, ◌∙◌, arith, not, ◌<◌, ◌≤◌, zero, suc, ◌&&◌, Some, inl, inr, length, take, get_or, ◌-◌, subst, append_assoc}
use Rattle.std.proofs.lemmas.List.{append-nil}
use Rattle.std.specs.Prelude.{nat_le, nat_lt}
use Rattle.std.proofs.lemmas.Bool.{cond_both, eqb-true, and_parts}
use Rattle.std.proofs.lemmas.Bool.Decides.{nat_tests}
use Rattle.bstr.specs.Utf8.{decoded}
use Rattle.crossterm_parse.specs.declared.character.Begun.{Begun}
use Rattle.crossterm_parse.specs.declared.character.Begun.TheVariants.{One, Two, Three}
use Rattle.crossterm_parse.specs.declared.meaning.Meaning.TheVariants.{PrimaryDeviceAttributes}
use Rattle.crossterm_parse.specs.declared.mouse.X10Report.{X10Report}
use Rattle.crossterm_parse.specs.declared.mouse.X10Report.TheVariants as x10
use Rattle.crossterm_parse.specs.declared.number.Number.{Number}
use Rattle.crossterm_parse.specs.declared.number.Number.TheVariants.{Empty}
use Rattle.crossterm_parse.specs.declared.numbered.Parameters.{Parameters}
use Rattle.crossterm_parse.specs.declared.paste.Met.{Met}
use Rattle.crossterm_parse.specs.declared.paste.Met.TheVariants as met
use Rattle.crossterm_parse.specs.declared.paste.Opening.{Opening}
use Rattle.crossterm_parse.specs.declared.paste.Opening.TheVariants as opening
use Rattle.crossterm_parse.specs.declared.readings.Readings.{Readings}
use Rattle.crossterm_parse.specs.declared.state.State.{State}
use Rattle.crossterm_parse.specs.declared.state.State.TheVariants.{Ground, Escape, Ss3, Csi, LinuxKey, X10, Sgr, Private, Reply, Numbered, Paste, Utf8}
use Rattle.crossterm_parse.specs.Transitions.{ByteStep, Open, Whole, Closed, Grown, grown, step_of, parameters_after, empty_parameters, readings_at, state_after, opens_with, opens_after, number_ends, met_anew, met_after, x10_after, IsRight, reading}
use Rattle.crossterm_parse.specs.Tracking.{begun_bytes, KeptAgrees}
use Rattle.crossterm_parse.specs.Recognizer.{ends_paste, ends_digit, is_final, is_reply_end, is_mouse_end, ends_reply, is_lead, is_continuing, further_after, ends_character, is_decided}
use Rattle.crossterm_parse.specs.States.{prefixed, IsBegun, OpenReply, OpenMouse, OpenPaste, OpenNumber, IsOpening, met_bytes, x10_bytes, StateRepresents}
use Rattle.crossterm_parse.specs.Bytes.{is_digit}
use Rattle.crossterm_parse.specs.Grammar.{begins, paste_mark, paste_start, IsDigit, EndsNumbered, IsLead, EndsNoMouse, EndsNoReply}
use Rattle.crossterm_parse.specs.Fields.{cut}
use Rattle.crossterm_parse.specs.Meaning.{meaning, with_alt, decoded_character, flags_reply}
use Rattle.crossterm_parse.specs.Number.{number}
use Rattle.crossterm_parse.specs.Numbered.{readings_of, numbered_by, numbered_meaning, sgr_by, front_of, last_of}
use Rattle.crossterm_parse.proofs.FieldsLaws.{empty_reads, text_more, numbers_of}
use Rattle.crossterm_parse.proofs.NumberLaws.{tracks_more, tracks_reading}
use Rattle.crossterm_parse.proofs.PasteLaws.{and_false, third_apart, begins_start}
use Rattle.crossterm_parse.proofs.EndLaws.{ended, not_ended}
use Rattle.crossterm_parse.proofs.GrammarLaws.{digit_apart, true_within, not_within, final_tested, is_one_of, reply_tested, mouse_tested, not_reply_end, not_mouse_end, within_true}
use Rattle.crossterm_parse.proofs.Utf8Laws.{utf8_more, utf8_is, utf8_nil, longer}
use Rattle.crossterm_types.proofs.Lists.{all_push}

-- a byte that leads a character is none of those that an escape chooses by
lead_apart : (a : ℕ) → IsLead a → ((a == 27) ≡ false) × ((a == 79) ≡ false) × ((a == 91) ≡ false) × (is_lead a ≡ true)
lead_apart a h = (grind (arith, nat_tests), grind (arith, nat_tests), grind (arith, nat_tests), grind (arith, nat_tests))

decided_begun : (escaped : Bool) (a c : ℕ) (rest : List ℕ) (pause : Bool) → IsLead a
    → is_decided (prefixed escaped (a ∷ c ∷ rest)) pause ≡ ends_character (further_after a) (c ∷ rest)
decided_begun true a c rest pause h = let t = lead_apart a h in rw (t.0, t.1, t.2, t.3)
decided_begun false a c rest pause h = let t = lead_apart a h in rw (t.0, t.3)

meaning_begun : (escaped raw : Bool) (a c : ℕ) (rest : List ℕ) → IsLead a
    → meaning raw (prefixed escaped (a ∷ c ∷ rest)) ≡ cond escaped (with_alt (decoded_character (decoded (a ∷ c ∷ rest)).char)) (decoded_character (decoded (a ∷ c ∷ rest)).char)
meaning_begun true raw a c rest h = let t = lead_apart a h in rw (t.0, t.1, t.2)
meaning_begun false raw a c rest h = let t = lead_apart a h in rw t.0

prefixed_more : (escaped : Bool) (xs ys : List ℕ) → prefixed escaped xs ++ ys ≡ prefixed escaped (xs ++ ys)
prefixed_more true xs ys = refl
prefixed_more false xs ys = refl

positive : (n : ℕ) → nat_lt 0 (suc n) ≡ true
positive n = grind (arith, nat_tests)

one_less : (n : ℕ) → nat_lt 0 n ≡ nat_lt 1 (suc n)
one_less n = grind (arith, nat_tests)

above : (k n : ℕ) → nat_lt k n ≡ true → k < n
above k n h = grind (arith, nat_tests)

one_end : (n b : ℕ) → ends_character n (b ∷ []) ≡ not (is_continuing b && nat_lt 0 n)
one_end zero b = go (is_continuing b) where
  go : (t : Bool) → true ≡ not (t && false)
  go true = refl
  go false = refl
one_end (suc n) b = rw (positive n) (go (is_continuing b)) where
  go : (t : Bool) → cond t false true ≡ not (t && true)
  go true = refl
  go false = refl

two_end : (n b c : ℕ) → is_continuing b ≡ true → 0 < n → ends_character n (b ∷ c ∷ []) ≡ not (is_continuing c && nat_lt 1 n)
two_end zero b c h l = absurd (omega arith)
two_end (suc n) b c h l = rw h (one_end n c ∙ ap (λ (t : Bool). not (is_continuing c && t)) (one_less n))

three_end : (n b c d : ℕ) → is_continuing b ≡ true → is_continuing c ≡ true → 1 < n → n ≤ 2 → ends_character n (b ∷ c ∷ d ∷ []) ≡ true
three_end zero b c d h k l m = absurd (omega arith)
three_end (suc zero) b c d h k l m = absurd (omega arith)
three_end (suc (suc zero)) b c d h k l m = rw (h, k)
three_end (suc (suc (suc n))) b c d h k l m = absurd (omega arith)

further_le : (a : ℕ) → further_after a ≤ 2
further_le a = go (nat_le a 223) (nat_le a 239) where
  go : (s t : Bool) → cond s 0 (cond t 1 2) ≤ 2
  go true t = omega arith
  go false true = omega arith
  go false false = omega arith

one_short : (escaped : Bool) (a b : ℕ) → begins paste_start (prefixed escaped (a ∷ b ∷ [])) ≡ false
one_short true a b = refl
one_short false a b = refl

two_short : (escaped : Bool) (a b c : ℕ) → begins paste_start (prefixed escaped (a ∷ b ∷ c ∷ [])) ≡ false
two_short true a b c = refl
two_short false a b c = refl

three_short : (escaped : Bool) (a b c d : ℕ) → begins paste_start (prefixed escaped (a ∷ b ∷ c ∷ d ∷ [])) ≡ false
three_short true a b c d = refl
three_short false a b c d = refl

begun_right : (escaped : Bool) (t : Begun) (bytes : List ℕ) (b : ℕ) (raw pause : Bool) → bytes ≡ prefixed escaped (begun_bytes t) → IsBegun t
    → IsRight (step_of escaped (grown escaped t b)) (bytes ++ b ∷ []) raw pause
begun_right escaped (One a) bytes b raw pause e h = rw (e, prefixed_more escaped (a ∷ []) (b ∷ [])) (
    cond_both (is_continuing b && nat_lt 0 (further_after a)) _ _ (λ (g : Grown). IsRight (step_of escaped g) (prefixed escaped (a ∷ b ∷ [])) raw pause)
    (λ t. (decided_begun escaped a b [] pause h ∙ one_end (further_after a) b ∙ ap not t, (refl, let w = and_parts (is_continuing b) (nat_lt 0 (further_after a)) t in (h, true_within b w.0, above 0 (further_after a) w.1))))
    (λ t. (decided_begun escaped a b [] pause h ∙ one_end (further_after a) b ∙ ap not t, sym (meaning_begun escaped raw a b [] h), one_short escaped a b)))
begun_right escaped (Two a b) bytes c raw pause e h = rw (e, prefixed_more escaped (a ∷ b ∷ []) (c ∷ [])) (
    cond_both (is_continuing c && nat_lt 1 (further_after a)) _ _ (λ (g : Grown). IsRight (step_of escaped g) (prefixed escaped (a ∷ b ∷ c ∷ [])) raw pause)
    (λ t. (decided_begun escaped a b (c ∷ []) pause h.0 ∙ two_end (further_after a) b c (within_true b h.1) h.2 ∙ ap not t, (refl, let w = and_parts (is_continuing c) (nat_lt 1 (further_after a)) t in (h.0, h.1, true_within c w.0, above 1 (further_after a) w.1))))
    (λ t. (decided_begun escaped a b (c ∷ []) pause h.0 ∙ two_end (further_after a) b c (within_true b h.1) h.2 ∙ ap not t, sym (meaning_begun escaped raw a b (c ∷ []) h.0), two_short escaped a b c)))
begun_right escaped (Three a b c) bytes d raw pause e h = rw (e, prefixed_more escaped (a ∷ b ∷ c ∷ []) (d ∷ [])) (
  decided_begun escaped a b (c ∷ d ∷ []) pause h.0 ∙ three_end (further_after a) b c d (within_true b h.1) (within_true c h.2) h.3 (further_le a),
  sym (meaning_begun escaped raw a b (c ∷ d ∷ []) h.0),
  three_short escaped a b c d,
)

-- a numbered sequence, whole
front_of-push : (d : ℕ) (w : List ℕ) (b : ℕ) → front_of (d ∷ (w ++ b ∷ [])) ≡ d ∷ w
front_of-push d [] b = refl
front_of-push d (c ∷ w) b = ap (λ (bs : List ℕ). d ∷ bs) (front_of-push c w b)

last_of-push : (d : ℕ) (w : List ℕ) (b : ℕ) → last_of (d ∷ (w ++ b ∷ [])) ≡ b
last_of-push d [] b = refl
last_of-push d (c ∷ w) b = last_of-push c w b

meaning_numbered : (raw : Bool) (d : ℕ) (bs : List ℕ) → IsDigit d → meaning raw (27 ∷ 91 ∷ d ∷ bs) ≡ numbered_meaning raw (d ∷ bs)
meaning_numbered raw d bs h = let t = digit_apart d h in rw (t.0, t.1, t.2, t.3, t.4) refl

decided_numbered : (d : ℕ) (bs : List ℕ) (pause : Bool) → IsDigit d → is_decided (27 ∷ 91 ∷ d ∷ bs) pause ≡ ends_digit (d ∷ bs)
decided_numbered d bs pause h = let t = digit_apart d h in rw (t.0, t.1, t.2, t.3, t.4) refl

-- what was read is what is in the text
pub kept_readings : (d : Parameters) (text : List ℕ) → KeptAgrees d text → readings_at d ≡ readings_of text
kept_readings d text k =
    let n = numbers_of d.fields (cut 59 text) k.reads in
    let v = utf8_is text d.validity k.utf8 in
    λ i. record {
      first = n.first i;
      second = n.second i;
      third = n.third i;
      code = n.code i;
      alternate = n.alternate i;
      mask = n.mask i;
      kind = n.kind i;
      last = k.last i;
      utf8 = v i;
    }

last_push : (text : List ℕ) (b : ℕ) → last_of (text ++ b ∷ []) ≡ b
last_push [] b = refl
last_push (c ∷ cs) b = last_of-push c cs b

front_push : (text : List ℕ) (b : ℕ) → front_of (text ++ b ∷ []) ≡ text
front_push [] b = refl
front_push (c ∷ cs) b = front_of-push c cs b

pub kept_none : KeptAgrees empty_parameters []
kept_none = record { reads = (refl, empty_reads, refl, refl); last = refl; utf8 = utf8_nil }

pub kept_more : (d : Parameters) (text : List ℕ) (b : ℕ) → KeptAgrees d text → KeptAgrees (parameters_after d b) (text ++ b ∷ [])
kept_more d text b k = record { reads = text_more d.fields text b k.reads; last = sym (last_push text b); utf8 = utf8_more text d.validity b k.utf8 }

-- what is meant by a text and a final byte, by what is kept of the text
kept_means : {A : Type 0} (by : ℕ → Readings → A) (d : Parameters) (text : List ℕ) (b : ℕ) → KeptAgrees d text
    → by b (readings_at d) ≡ by (last_of (text ++ b ∷ [])) (readings_of (front_of (text ++ b ∷ [])))
kept_means by d text b k = ap (λ (r : Readings). by b r) (kept_readings d text k)
    ∙ sym (ap (λ (bs : List ℕ). by (last_of (text ++ b ∷ [])) (readings_of bs)) (front_push text b) ∙ ap (λ (f : ℕ). by f (readings_of text)) (last_push text b))

not_tilde : (b : ℕ) → is_final b ≡ false → (b == 126) ≡ false
not_tilde b h = grind (arith, nat_tests)

-- no paste is opened if the byte isn't the last one of what opens it
opens_none : (o : Opening) (text : List ℕ) (b : ℕ) → IsOpening o text → (o ≡ opening.Zeros → (b == 126) ≡ false) → begins paste_mark (text ++ b ∷ []) ≡ false
opens_none opening.Two text b e h = rw e
opens_none opening.Zero text b e h = rw e
opens_none opening.Zeros text b e h = rw (e, h refl)
opens_none opening.Not text b e h = e (b ∷ [])

opens_more : (o : Opening) (text : List ℕ) (b : ℕ) → IsOpening o text → (b == 126) ≡ false → IsOpening (opens_after o b) (text ++ b ∷ [])
opens_more opening.Two text b e h = rw e (go (b == 48) refl) where
  go : (t : Bool) → (b == 48) ≡ t → IsOpening (cond t opening.Zero opening.Not) (50 ∷ b ∷ [])
  go true t = let is : b ≡ 48 = eqb-true b 48 t in rw is
  go false t = λ more. rw (t, and_false (begins (48 ∷ 126 ∷ []) more))
opens_more opening.Zero text b e h = rw e (go (b == 48) refl) where
  go : (t : Bool) → (b == 48) ≡ t → IsOpening (cond t opening.Zeros opening.Not) (50 ∷ 48 ∷ b ∷ [])
  go true t = let is : b ≡ 48 = eqb-true b 48 t in rw is
  go false t = λ more. rw (t, and_false (begins (126 ∷ []) more))
opens_more opening.Zeros text b e h = λ more. rw (e, h)
opens_more opening.Not text b e h = λ more. rw (append_assoc text (b ∷ []) more) (e (b ∷ more))

opening_is : (b : ℕ) → IsOpening (opens_with b) (b ∷ [])
opening_is b = go (b == 50) refl where
  go : (t : Bool) → (b == 50) ≡ t → IsOpening (cond t opening.Two opening.Not) (b ∷ [])
  go true t = let is : b ≡ 50 = eqb-true b 50 t in rw is
  go false t = λ more. rw (t, and_false (begins (48 ∷ 48 ∷ 126 ∷ []) more))

-- a final byte that opens no paste
number_whole : (d : Parameters) (p : Opening) (bytes : List ℕ) (b : ℕ) (raw pause : Bool) → OpenNumber d p bytes → is_final b ≡ true → (p ≡ opening.Zeros → (b == 126) ≡ false)
    → IsRight (Whole (numbered_by raw b (readings_at d))) (bytes ++ b ∷ []) raw pause
number_whole d p bytes b raw pause o l h =
    let none = opens_none p (o.digit ∷ o.more) b o.opens h in
    rw o.is (
      decided_numbered o.digit (o.more ++ b ∷ []) pause o.is_digit ∙ rw none (ended (λ c. ¬ EndsNumbered c) is_final final_tested o.more b o.no_final l),
      kept_means (numbered_by raw) d (o.digit ∷ o.more) b o.kept ∙ sym (meaning_numbered raw o.digit (o.more ++ b ∷ []) o.is_digit),
      begins_start (o.digit ∷ (o.more ++ b ∷ [])) ∙ none,
    )

number_more : (d : Parameters) (p : Opening) (bytes : List ℕ) (b : ℕ) (raw pause : Bool) → OpenNumber d p bytes → is_final b ≡ false
    → IsRight (Open (Numbered (parameters_after d b) (opens_after p b))) (bytes ++ b ∷ []) raw pause
number_more d p bytes b raw pause o l =
    let none = opens_none p (o.digit ∷ o.more) b o.opens (λ h. not_tilde b l) in
    rw o.is (
      decided_numbered o.digit (o.more ++ b ∷ []) pause o.is_digit ∙ rw none (not_ended (λ c. ¬ EndsNumbered c) is_final final_tested o.more b o.no_final l),
      record {
        digit = o.digit;
        more = o.more ++ b ∷ [];
        is = refl;
        is_digit = o.is_digit;
        no_final = all_push (λ c. ¬ EndsNumbered c) o.more b o.no_final (not_within b l);
        kept = kept_more d (o.digit ∷ o.more) b o.kept;
        opens = opens_more p (o.digit ∷ o.more) b o.opens (not_tilde b l);
      },
    )

number_end : (d : Parameters) (p : Opening) (bytes : List ℕ) (b : ℕ) (raw pause : Bool) → OpenNumber d p bytes → is_final b ≡ true → IsRight (number_ends p d raw b) (bytes ++ b ∷ []) raw pause
number_end d opening.Two bytes b raw pause o l = number_whole d opening.Two bytes b raw pause o l (λ h. cc)
number_end d opening.Zero bytes b raw pause o l = number_whole d opening.Zero bytes b raw pause o l (λ h. cc)
number_end d opening.Not bytes b raw pause o l = number_whole d opening.Not bytes b raw pause o l (λ h. cc)
number_end d opening.Zeros bytes b raw pause o l = go (b == 126) refl where
  opened : (b ≡ 126) → bytes ≡ 27 ∷ 91 ∷ 50 ∷ 48 ∷ 48 ∷ [] → IsRight (Open (Paste met.Nothing)) (bytes ++ b ∷ []) raw pause
  opened is all = rw (is, all) (refl, record { text = []; is = refl; before = []; ends = refl; alike = λ more. refl })

  go : (t : Bool) → (b == 126) ≡ t → IsRight (cond t (Open (Paste met.Nothing)) (Whole (numbered_by raw b (readings_at d)))) (bytes ++ b ∷ []) raw pause
  go true t = opened (eqb-true b 126 t) (o.is ∙ ap (λ (ys : List ℕ). 27 ∷ 91 ∷ ys) o.opens)
  go false t = number_whole d opening.Zeros bytes b raw pause o l (λ h. t)

number_right : (d : Parameters) (p : Opening) (bytes : List ℕ) (b : ℕ) (raw pause : Bool) → OpenNumber d p bytes → IsRight (state_after (Numbered d p) b raw pause) (bytes ++ b ∷ []) raw pause
number_right d p bytes b raw pause o = cond_both (is_final b) _ _ (λ (s : ByteStep). IsRight s (bytes ++ b ∷ []) raw pause) (number_end d p bytes b raw pause o) (number_more d p bytes b raw pause o)

-- a report of the mouse
mouse_whole : (d : Parameters) (bytes : List ℕ) (b : ℕ) (raw pause : Bool) → OpenMouse d bytes → is_mouse_end b ≡ true → IsRight (Whole (sgr_by b (readings_at d))) (bytes ++ b ∷ []) raw pause
mouse_whole d bytes b raw pause o l = rw o.is (
  ended EndsNoMouse is_mouse_end mouse_tested o.more b o.no_end l,
  kept_means sgr_by d o.more b o.kept,
  third_apart 60 (o.more ++ b ∷ []) refl,
)

mouse_more : (d : Parameters) (bytes : List ℕ) (b : ℕ) (raw pause : Bool) → OpenMouse d bytes → is_mouse_end b ≡ false → IsRight (Open (Sgr (parameters_after d b))) (bytes ++ b ∷ []) raw pause
mouse_more d bytes b raw pause o l = rw o.is (
  not_ended EndsNoMouse is_mouse_end mouse_tested o.more b o.no_end l,
  record { more = o.more ++ b ∷ []; is = refl; no_end = all_push EndsNoMouse o.more b o.no_end (not_mouse_end b l); kept = kept_more d o.more b o.kept },
)

mouse_right : (d : Parameters) (bytes : List ℕ) (b : ℕ) (raw pause : Bool) → OpenMouse d bytes → IsRight (state_after (Sgr d) b raw pause) (bytes ++ b ∷ []) raw pause
mouse_right d bytes b raw pause o = cond_both (is_mouse_end b) _ _ (λ (s : ByteStep). IsRight s (bytes ++ b ∷ []) raw pause) (mouse_whole d bytes b raw pause o) (mouse_more d bytes b raw pause o)

x10_right : (c : X10Report) (bytes : List ℕ) (b : ℕ) (raw pause : Bool) → bytes ≡ 27 ∷ 91 ∷ 77 ∷ x10_bytes c → IsRight (x10_after c b) (bytes ++ b ∷ []) raw pause
x10_right x10.Empty bytes b raw pause e = rw e (refl, refl)
x10_right (x10.Code x) bytes b raw pause e = rw e (refl, refl)
x10_right (x10.Column x y) bytes b raw pause e = rw e (refl, refl, third_apart 77 (x ∷ y ∷ b ∷ []) refl)

-- the last byte, and what is before it
pub last_at : (bytes : List ℕ) → 0 < length bytes → last_of bytes ≡ get_or bytes (length bytes - 1) 0
last_at [] h = absurd (omega arith)
last_at (b ∷ []) h = refl
last_at (b ∷ c ∷ bs) h =
    let e : length (b ∷ c ∷ bs) - 1 ≡ suc (length (c ∷ bs) - 1) = omega arith in
    last_at (c ∷ bs) (omega arith) ∙ sym (ap (λ (i : ℕ). get_or (b ∷ c ∷ bs) i 0) e)

pub front_at : (bytes : List ℕ) → front_of bytes ≡ take (length bytes - 1) bytes
front_at [] = refl
front_at (b ∷ []) = refl
front_at (b ∷ c ∷ bs) =
    let e : length (b ∷ c ∷ bs) - 1 ≡ suc (length (c ∷ bs) - 1) = omega arith in
    ap (λ (xs : List ℕ). b ∷ xs) (front_at (c ∷ bs)) ∙ sym (ap (λ (i : ℕ). take i (b ∷ c ∷ bs)) e)

-- the first digit
number_begun : (b : ℕ) → is_digit b ≡ true → OpenNumber (parameters_after empty_parameters b) (opens_with b) (27 ∷ 91 ∷ b ∷ [])
number_begun b t = record {
  digit = b;
  more = [];
  is = refl;
  is_digit = true_within b t;
  no_final = tt;
  kept = kept_more empty_parameters [] b kept_none;
  opens = opening_is b;
}

csi_right : (bytes : List ℕ) (b : ℕ) (raw pause : Bool) → bytes ≡ 27 ∷ 91 ∷ [] → IsRight (state_after Csi b raw pause) (bytes ++ b ∷ []) raw pause
csi_right bytes b raw pause e = rw e (
    let R = λ (s : ByteStep). IsRight s (27 ∷ 91 ∷ b ∷ []) raw pause in
    cond_both (b == 91) _ _ R
    (λ t. (rw t refl, let is : b ≡ 91 = eqb-true b 91 t in rw is refl))
    (λ t. cond_both (b == 77) _ _ R
    (λ s. (rw (t, s) refl, let is : b ≡ 77 = eqb-true b 77 s in rw is refl))
    (λ s. cond_both (b == 60) _ _ R
    (λ r. (rw (t, s, r) refl, let is : b ≡ 60 = eqb-true b 60 r in rw is (record { more = []; is = refl; no_end = tt; kept = kept_none })))
    (λ r. cond_both (b == 63) _ _ R
    (λ u. (rw (t, s, r, u) refl, let is : b ≡ 63 = eqb-true b 63 u in rw is refl))
    (λ u. cond_both (is_digit b) _ _ R
    (λ v. (rw (t, s, r, u, v) refl, number_begun b v))
    (λ v. (rw (t, s, r, u, v) refl, rw (t, s, r, u, v) refl, refl)))))))

-- a reply
private_right : (bytes : List ℕ) (b : ℕ) (raw pause : Bool) → bytes ≡ 27 ∷ 91 ∷ 63 ∷ [] → IsRight (state_after Private b raw pause) (bytes ++ b ∷ []) raw pause
private_right bytes b raw pause e = rw e (cond_both (b == 99) _ _ (λ (s : ByteStep). IsRight s (27 ∷ 91 ∷ 63 ∷ b ∷ []) raw pause)
    (λ t. (rw t refl, rw t refl, refl))
    (λ t. (rw t refl, record { first = b; more = []; is = refl; no_end = (let n = t in grind (arith, nat_tests), tt); tracks = tracks_more [] Empty b refl })))

decided_reply : (first : ℕ) (bs : List ℕ) (pause : Bool) → (first == 99) ≡ false → is_decided (27 ∷ 91 ∷ 63 ∷ first ∷ bs) pause ≡ ends_reply bs
decided_reply first bs pause h = rw h refl

-- what its first byte, more and the last one mean
meaning_reply : (raw : Bool) (first : ℕ) (w : List ℕ) (b : ℕ)
    → meaning raw (27 ∷ 91 ∷ 63 ∷ first ∷ (w ++ b ∷ [])) ≡ cond (b == 99) (Some PrimaryDeviceAttributes) (flags_reply (number (first ∷ w)))
meaning_reply raw first w b =
    ap (λ (l : ℕ). cond (l == 99) (Some PrimaryDeviceAttributes) (flags_reply (number (front_of (first ∷ (w ++ b ∷ [])))))) (last_of-push first w b)
    ∙ ap (λ (text : List ℕ). cond (b == 99) (Some PrimaryDeviceAttributes) (flags_reply (number text))) (front_of-push first w b)

reply_right : (n : Number) (bytes : List ℕ) (b : ℕ) (raw pause : Bool) → OpenReply n bytes → IsRight (state_after (Reply n) b raw pause) (bytes ++ b ∷ []) raw pause
reply_right n bytes b raw pause o =
    let apart : (o.first == 99) ≡ false = (let m = o.no_end.0 in grind (arith, nat_tests)) in
    let same_flags : flags_reply (reading n) ≡ flags_reply (number (o.first ∷ o.more)) = ap flags_reply (tracks_reading (o.first ∷ o.more) n o.tracks) in
    rw o.is (cond_both (b == 99) _ _ (λ (s : ByteStep). IsRight s (27 ∷ 91 ∷ 63 ∷ o.first ∷ (o.more ++ b ∷ [])) raw pause)
    (λ t. (decided_reply o.first (o.more ++ b ∷ []) pause apart ∙ ended EndsNoReply is_reply_end reply_tested o.more b o.no_end.1 (is_one_of b 99 117 (inl (eqb-true b 99 t))), sym (meaning_reply raw o.first o.more b ∙ rw t refl), third_apart 63 (o.first ∷ (o.more ++ b ∷ [])) refl))
    (λ t. cond_both (b == 117) _ _ (λ (s : ByteStep). IsRight s (27 ∷ 91 ∷ 63 ∷ o.first ∷ (o.more ++ b ∷ [])) raw pause)
    (λ u. (decided_reply o.first (o.more ++ b ∷ []) pause apart ∙ ended EndsNoReply is_reply_end reply_tested o.more b o.no_end.1 (is_one_of b 99 117 (inr (eqb-true b 117 u))), same_flags ∙ sym (meaning_reply raw o.first o.more b ∙ rw t refl), third_apart 63 (o.first ∷ (o.more ++ b ∷ [])) refl))
    (λ u. (
      decided_reply o.first (o.more ++ b ∷ []) pause apart ∙ not_ended EndsNoReply is_reply_end reply_tested o.more b o.no_end.1 (rw (t, u) refl),
      record {
        first = o.first;
        more = o.more ++ b ∷ [];
        is = refl;
        no_end = (o.no_end.0, all_push EndsNoReply o.more b o.no_end.1 (not_reply_end b (rw (t, u) refl)));
        tracks = tracks_more (o.first ∷ o.more) n b o.tracks;
      },
    ))))

-- a paste's text, as far as its end goes
skip : (c : ℕ) (bs : List ℕ) → (c == 27) ≡ false → ends_paste (c ∷ bs) ≡ ends_paste bs
skip c bs h = rw (h, and_false (begins (91 ∷ 50 ∷ 48 ∷ 49 ∷ 126 ∷ []) bs))

abbrev anew : ℕ → Met
anew b = cond (b == 27) met.Escape met.Nothing

from_nothing : (b : ℕ) (more : List ℕ) → ends_paste (b ∷ more) ≡ ends_paste (met_bytes (anew b) ++ more)
from_nothing b more = go (b == 27) refl where
  go : (t : Bool) → (b == 27) ≡ t → ends_paste (b ∷ more) ≡ ends_paste (met_bytes (cond t met.Escape met.Nothing) ++ more)
  go true t = let is : b ≡ 27 = eqb-true b 27 t in rw is
  go false t = skip b more t

from_escape : (b : ℕ) (more : List ℕ) → (b == 91) ≡ false → ends_paste (27 ∷ b ∷ more) ≡ ends_paste (met_bytes (anew b) ++ more)
from_escape b more h = rw (h, and_false (begins (50 ∷ 48 ∷ 49 ∷ 126 ∷ []) more)) (from_nothing b more)

from_bracket : (b : ℕ) (more : List ℕ) → (b == 50) ≡ false → ends_paste (27 ∷ 91 ∷ b ∷ more) ≡ ends_paste (met_bytes (anew b) ++ more)
from_bracket b more h = rw (h, and_false (begins (48 ∷ 49 ∷ 126 ∷ []) more)) (skip 91 (b ∷ more) refl ∙ from_nothing b more)

from_two : (b : ℕ) (more : List ℕ) → (b == 48) ≡ false → ends_paste (27 ∷ 91 ∷ 50 ∷ b ∷ more) ≡ ends_paste (met_bytes (anew b) ++ more)
from_two b more h = rw (h, and_false (begins (49 ∷ 126 ∷ []) more)) (skip 91 (50 ∷ b ∷ more) refl ∙ skip 50 (b ∷ more) refl ∙ from_nothing b more)

from_zero : (b : ℕ) (more : List ℕ) → (b == 49) ≡ false → ends_paste (27 ∷ 91 ∷ 50 ∷ 48 ∷ b ∷ more) ≡ ends_paste (met_bytes (anew b) ++ more)
from_zero b more h = rw (h, and_false (begins (126 ∷ []) more)) (skip 91 (50 ∷ 48 ∷ b ∷ more) refl ∙ skip 50 (48 ∷ b ∷ more) refl ∙ skip 48 (b ∷ more) refl ∙ from_nothing b more)

from_one : (b : ℕ) (more : List ℕ) → (b == 126) ≡ false → ends_paste (27 ∷ 91 ∷ 50 ∷ 48 ∷ 49 ∷ b ∷ more) ≡ ends_paste (met_bytes (anew b) ++ more)
from_one b more h = rw h (skip 91 (50 ∷ 48 ∷ 49 ∷ b ∷ more) refl ∙ skip 50 (48 ∷ 49 ∷ b ∷ more) refl ∙ skip 48 (49 ∷ b ∷ more) refl ∙ skip 49 (b ∷ more) refl ∙ from_nothing b more)

met_open : (m : Met) → ends_paste (met_bytes m ++ []) ≡ false
met_open met.Nothing = refl
met_open met.Escape = refl
met_open met.Bracket = refl
met_open met.Two = refl
met_open met.Zero = refl
met_open met.One = refl

-- the paste goes on
paste_on : (m next : Met) (bytes : List ℕ) (b : ℕ) (raw pause : Bool) (before : List ℕ) (o : OpenPaste m bytes)
    → ((more : List ℕ) → ends_paste (met_bytes m ++ b ∷ more) ≡ ends_paste (met_bytes next ++ more))
    → o.text ++ b ∷ [] ≡ before ++ met_bytes next
    → IsRight (Open (Paste next)) (bytes ++ b ∷ []) raw pause
paste_on m next bytes b raw pause before o alike ends = rw o.is (
  o.alike (b ∷ []) ∙ alike [] ∙ met_open next,
  record {
    text = o.text ++ b ∷ [];
    is = refl;
    before = before;
    ends = ends;
    alike = λ more. rw (append_assoc o.text (b ∷ []) more) (o.alike (b ∷ more) ∙ alike more);
  },
)

paste_anew : (m : Met) (bytes : List ℕ) (b : ℕ) (raw pause : Bool) → OpenPaste m bytes
    → ((more : List ℕ) → ends_paste (met_bytes m ++ b ∷ more) ≡ ends_paste (met_bytes (anew b) ++ more))
    → IsRight (met_anew b) (bytes ++ b ∷ []) raw pause
paste_anew m bytes b raw pause o alike = go (b == 27) refl alike where
  go : (t : Bool) → (b == 27) ≡ t → ((more : List ℕ) → ends_paste (met_bytes m ++ b ∷ more) ≡ ends_paste (met_bytes (cond t met.Escape met.Nothing) ++ more))
      → IsRight (Open (Paste (cond t met.Escape met.Nothing))) (bytes ++ b ∷ []) raw pause
  go true t h = paste_on m met.Escape bytes b raw pause o.text o h (let is : b ≡ 27 = eqb-true b 27 t in rw is)
  go false t h = paste_on m met.Nothing bytes b raw pause (o.text ++ b ∷ []) o h (sym (append-nil (o.text ++ b ∷ [])))

paste_closed : (bytes : List ℕ) (raw pause : Bool) → OpenPaste met.One bytes → IsRight Closed (bytes ++ 126 ∷ []) raw pause
paste_closed bytes raw pause o = rw o.is (o.alike (126 ∷ []), refl)

paste_right : (m : Met) (bytes : List ℕ) (b : ℕ) (raw pause : Bool) → OpenPaste m bytes → IsRight (met_after m b) (bytes ++ b ∷ []) raw pause
paste_right met.Nothing bytes b raw pause o = paste_anew met.Nothing bytes b raw pause o (from_nothing b)
paste_right met.Escape bytes b raw pause o = go (b == 91) refl where
  go : (t : Bool) → (b == 91) ≡ t → IsRight (cond t (Open (Paste met.Bracket)) (met_anew b)) (bytes ++ b ∷ []) raw pause
  go true t = paste_on met.Escape met.Bracket bytes b raw pause o.before o (λ more. let is : b ≡ 91 = eqb-true b 91 t in rw is) (longer o.text o.before (27 ∷ []) b o.ends ∙ (let is : b ≡ 91 = eqb-true b 91 t in rw is))
  go false t = paste_anew met.Escape bytes b raw pause o (λ more. from_escape b more t)
paste_right met.Bracket bytes b raw pause o = go (b == 50) refl where
  go : (t : Bool) → (b == 50) ≡ t → IsRight (cond t (Open (Paste met.Two)) (met_anew b)) (bytes ++ b ∷ []) raw pause
  go true t = paste_on met.Bracket met.Two bytes b raw pause o.before o (λ more. let is : b ≡ 50 = eqb-true b 50 t in rw is) (longer o.text o.before (27 ∷ 91 ∷ []) b o.ends ∙ (let is : b ≡ 50 = eqb-true b 50 t in rw is))
  go false t = paste_anew met.Bracket bytes b raw pause o (λ more. from_bracket b more t)
paste_right met.Two bytes b raw pause o = go (b == 48) refl where
  go : (t : Bool) → (b == 48) ≡ t → IsRight (cond t (Open (Paste met.Zero)) (met_anew b)) (bytes ++ b ∷ []) raw pause
  go true t = paste_on met.Two met.Zero bytes b raw pause o.before o (λ more. let is : b ≡ 48 = eqb-true b 48 t in rw is) (longer o.text o.before (27 ∷ 91 ∷ 50 ∷ []) b o.ends ∙ (let is : b ≡ 48 = eqb-true b 48 t in rw is))
  go false t = paste_anew met.Two bytes b raw pause o (λ more. from_two b more t)
paste_right met.Zero bytes b raw pause o = go (b == 49) refl where
  go : (t : Bool) → (b == 49) ≡ t → IsRight (cond t (Open (Paste met.One)) (met_anew b)) (bytes ++ b ∷ []) raw pause
  go true t = paste_on met.Zero met.One bytes b raw pause o.before o (λ more. let is : b ≡ 49 = eqb-true b 49 t in rw is) (longer o.text o.before (27 ∷ 91 ∷ 50 ∷ 48 ∷ []) b o.ends ∙ (let is : b ≡ 49 = eqb-true b 49 t in rw is))
  go false t = paste_anew met.Zero bytes b raw pause o (λ more. from_zero b more t)
paste_right met.One bytes b raw pause o = go (b == 126) refl where
  go : (t : Bool) → (b == 126) ≡ t → IsRight (cond t Closed (met_anew b)) (bytes ++ b ∷ []) raw pause
  go true t = let is : b ≡ 126 = eqb-true b 126 t in subst (λ (c : ℕ). IsRight Closed (bytes ++ c ∷ []) raw pause) (sym is) (paste_closed bytes raw pause o)
  go false t = paste_anew met.One bytes b raw pause o (λ more. from_one b more t)

ground_right : (bytes : List ℕ) (b : ℕ) (raw pause : Bool) → bytes ≡ [] → IsRight (state_after Ground b raw pause) (bytes ++ b ∷ []) raw pause
ground_right bytes b raw pause e = rw e (cond_both (b == 27) _ _ (λ (s : ByteStep). IsRight s (b ∷ []) raw pause)
    (λ t. cond_both pause _ _ (λ (s : ByteStep). IsRight s (b ∷ []) raw pause)
    (λ p. (rw (t, p), rw t, refl))
    (λ p. (rw (t, p), let is : b ≡ 27 = grind (arith, nat_tests) in rw is)))
    (λ t. cond_both (is_lead b) _ _ (λ (s : ByteStep). IsRight s (b ∷ []) raw pause)
    (λ l. (rw (t, l), (refl, true_within b l)))
    (λ l. (rw (t, l), rw t, refl))))

escape_right : (bytes : List ℕ) (b : ℕ) (raw pause : Bool) → bytes ≡ 27 ∷ [] → IsRight (state_after Escape b raw pause) (bytes ++ b ∷ []) raw pause
escape_right bytes b raw pause e = rw e (cond_both (b == 79) _ _ (λ (s : ByteStep). IsRight s (27 ∷ b ∷ []) raw pause)
    (λ t. (rw t, let is : b ≡ 79 = grind (arith, nat_tests) in rw is))
    (λ t. cond_both (b == 91) _ _ (λ (s : ByteStep). IsRight s (27 ∷ b ∷ []) raw pause)
    (λ u. (rw (t, u), let is : b ≡ 91 = grind (arith, nat_tests) in rw is))
    (λ u. cond_both (b == 27) _ _ (λ (s : ByteStep). IsRight s (27 ∷ b ∷ []) raw pause)
    (λ v. (rw (t, u, v), rw (t, u, v), refl))
    (λ v. cond_both (is_lead b) _ _ (λ (s : ByteStep). IsRight s (27 ∷ b ∷ []) raw pause)
    (λ l. (rw (t, u, v, l), (refl, true_within b l)))
    (λ l. (rw (t, u, v, l), rw (t, u, v), refl))))))

-- One more byte does right.
pub state_right : (state : State) (bytes : List ℕ) (b : ℕ) (raw pause : Bool) → StateRepresents state bytes → IsRight (state_after state b raw pause) (bytes ++ b ∷ []) raw pause
state_right Ground bytes b raw pause e = ground_right bytes b raw pause e
state_right Escape bytes b raw pause e = escape_right bytes b raw pause e
state_right Ss3 bytes b raw pause e = rw e (refl, refl, refl)
state_right Csi bytes b raw pause e = csi_right bytes b raw pause e
state_right LinuxKey bytes b raw pause e = rw e (refl, refl, refl)
state_right (X10 c) bytes b raw pause e = x10_right c bytes b raw pause e
state_right (Sgr d) bytes b raw pause e = mouse_right d bytes b raw pause e
state_right Private bytes b raw pause e = private_right bytes b raw pause e
state_right (Reply n) bytes b raw pause e = reply_right n bytes b raw pause e
state_right (Numbered d p) bytes b raw pause e = number_right d p bytes b raw pause e
state_right (Paste m) bytes b raw pause e = paste_right m bytes b raw pause e
state_right (Utf8 c) bytes b raw pause e = begun_right c.escaped c.begun bytes b raw pause e.0 e.1
