-- How a recorder answers, given how its device answers, with the two laws that this needs.
use Rattle.std.specs.Prelude.{◌≡◌, ◌≤◌, ◌+◌, ℕ, List, [], ◌∷◌, ◌++◌, length, Option, Some, None, refl}
use Rattle.std.specs.Io.KnownBytes.{Appends}
use Rattle.std.proofs.Common.{ap, arith, sym, subst, ◌∙◌, append_assoc}
use Rattle.std.proofs.KnownBytes.{Appends-nil, Appends-trans}
use Rattle.crossterm_read.specs.Device.{Answering, DeviceAnswer, Bytes, Resized, Woken, Idle, Fault}
use Rattle.recorder.specs.Lines.{entry_answers, entry, text, times_of}
use Rattle.recorder.specs.Recording.{HasRoomFor, IsPossible, Recording, Records, Rises, Uses, WritesEntries, millis, recorded}
use Rattle.recorder.specs.declared.recorder.Stop.{Stop}
use Rattle.recorder.specs.declared.recorder.Stop.TheVariants as stop
use Rattle.crossterm_types.proofs.Lists.{all_append}

pub recorded_on : (xs ys : List DeviceAnswer) → recorded (xs ++ ys) ≡ recorded xs ++ recorded ys
recorded_on [] ys = refl
recorded_on (Bytes [] raw ∷ xs) ys = recorded_on xs ys
recorded_on (Bytes (b ∷ bs) raw ∷ xs) ys = ap (λ ws. Bytes (b ∷ bs) raw ∷ ws) (recorded_on xs ys)
recorded_on (Resized columns rows ∷ xs) ys = ap (λ ws. Resized columns rows ∷ ws) (recorded_on xs ys)
recorded_on (Woken ∷ xs) ys = ap (λ ws. Woken ∷ ws) (recorded_on xs ys)
recorded_on (Idle ∷ xs) ys = ap (λ ws. Idle ∷ ws) (recorded_on xs ys)
recorded_on (Fault kind ∷ xs) ys = ap (λ ws. Fault kind ∷ ws) (recorded_on xs ys)

pub text_on : (xs ys : List (ℕ × DeviceAnswer)) → text (xs ++ ys) ≡ text xs ++ text ys
text_on [] ys = refl
text_on (e ∷ es) ys = ap (λ l. entry e ++ l) (text_on es ys) ∙ sym (append_assoc (entry e) (text es) (text ys))

pub says_on : (xs ys : List (ℕ × DeviceAnswer)) (us vs : List DeviceAnswer) → entry_answers xs ≡ us → entry_answers ys ≡ vs → entry_answers (xs ++ ys) ≡ us ++ vs
says_on xs ys us vs d e = on xs ∙ ap (λ l. l ++ entry_answers ys) d ∙ ap (λ l. us ++ l) e
  where
    on : (xs : List (ℕ × DeviceAnswer)) → entry_answers (xs ++ ys) ≡ entry_answers xs ++ entry_answers ys
    on [] = refl
    on (x ∷ xs) = ap (λ l. x.1 ∷ l) (on xs)

rises_from : (low mid high : ℕ) (times : List ℕ) → low ≤ mid → Rises mid times high → Rises low times high
rises_from low mid high [] l r = omega (arith, l, r)
rises_from low mid high (time ∷ times) l r = (omega (arith, l, r.0), r.1)

pub rises_on : (low mid high : ℕ) (xs ys : List (ℕ × DeviceAnswer)) → Rises low (times_of xs) mid → Rises mid (times_of ys) high → Rises low (times_of (xs ++ ys)) high
rises_on low mid high [] ys d e = rises_from low mid high (times_of ys) d e
rises_on low mid high (x ∷ xs) ys d e = (d.0, rises_on x.0 mid high xs ys d.1 e)

pub length_on : (xs ys : List ℕ) → length (xs ++ ys) ≡ length xs + length ys
length_on [] ys = omega arith
length_on (x ∷ xs) ys = omega (arith, length_on xs ys)

-- ---- room

uses_on : (r s t : Option ℕ) (m n : ℕ) → Uses r m s → Uses s n t → Uses r (m + n) t
uses_on None s t m n d e = subst (λ (o : Option ℕ). Uses o n t) d e
uses_on (Some room) s t m n d e = joined (subst (λ (o : Option ℕ). Uses o n t) d.1 e)
  where
    joined : Uses (Some d.0) n t → Uses (Some room) (m + n) t
    joined u = (u.0, u.1, omega (arith, d.2, u.2))

fits_on : (r s : Option ℕ) (m n : ℕ) → Uses r m s → HasRoomFor s n → HasRoomFor r (m + n)
fits_on None s m n d f = tt
fits_on (Some room) s m n d f = joined (subst (λ (o : Option ℕ). HasRoomFor o n) d.1 f) d.2
  where
    joined : n ≤ d.0 → d.0 + m ≡ room → m + n ≤ room
    joined l e = omega (arith, l, e)

-- ---- writing

front_fits : (r s : Option ℕ) (m n : ℕ) (l : ℕ) → l ≡ m + n → Uses r m s → HasRoomFor s n → HasRoomFor r l
front_fits r s m n l e d f = subst (λ (k : ℕ). HasRoomFor r k) (sym e) (fits_on r s m n d f)

not_fits : (r s : Option ℕ) (m n : ℕ) → Uses r m s → (HasRoomFor s n → ⊥) → HasRoomFor r (m + n) → ⊥
not_fits None s m n d f l = f (subst (λ (o : Option ℕ). HasRoomFor o n) (sym d) tt)
not_fits (Some room) s m n d f l = f (subst (λ (o : Option ℕ). HasRoomFor o n) (sym d.1) (left d.2 l))
  where
    left : d.0 + m ≡ room → m + n ≤ room → n ≤ d.0
    left u v = omega (arith, u, v)

-- What was written whole before comes first.
whole_then : {W : Type 0} (contents : W → Option (List ℕ)) (why : Stop) (r s t : Option ℕ) (a b c : W) (xs ys : List (ℕ × DeviceAnswer))
    → WritesEntries contents None r a xs None s b → WritesEntries contents None s b ys (Some why) t c → WritesEntries contents None r a (xs ++ ys) (Some why) t c
whole_then contents stop.Cut r s t a b c xs ys d e = record {
  kept = xs ++ e.kept;
  next = e.next;
  rest = e.rest;
  split = ap (λ l. xs ++ l) e.split ∙ sym (append_assoc xs e.kept (e.next ∷ e.rest));
  written = subst (λ (l : List ℕ). Appends (contents a) (contents c) l) (sym (text_on xs e.kept)) (Appends-trans _ _ _ _ _ d.0 e.written);
  full = λ f. not_fits r s (length (text xs)) (length (text (e.kept ++ e.next ∷ []))) d.1 e.full
      (subst (λ (n : ℕ). HasRoomFor r n) (ap (λ l. length (text l)) (append_assoc xs e.kept (e.next ∷ [])) ∙ ap length (text_on xs (e.kept ++ e.next ∷ [])) ∙ length_on (text xs) (text (e.kept ++ e.next ∷ []))) f);
}
whole_then contents (stop.Failed kind) r s t a b c xs ys d e = record {
  written = record {
    front = text xs ++ e.written.front;
    rest = e.written.rest;
    split = text_on xs ys ∙ ap (λ l. text xs ++ l) e.written.split ∙ sym (append_assoc (text xs) e.written.front e.written.rest);
    grown = Appends-trans _ _ _ _ _ d.0 e.written.grown;
  };
  fits = front_fits r s (length (text xs)) (length e.written.front) _ (length_on (text xs) e.written.front) d.1 e.fits;
}

-- After a stop nothing more is written.
stopped_then : {W : Type 0} (contents : W → Option (List ℕ)) (why : Stop) (r s t : Option ℕ) (a b : W) (xs ys : List (ℕ × DeviceAnswer))
    → WritesEntries contents None r a xs (Some why) s b → WritesEntries contents None r a (xs ++ ys) (Some why) t b
stopped_then contents stop.Cut r s t a b xs ys d = record {
  kept = d.kept;
  next = d.next;
  rest = d.rest ++ ys;
  split = ap (λ l. l ++ ys) d.split ∙ append_assoc d.kept (d.next ∷ d.rest) ys;
  written = d.written;
  full = d.full;
}
stopped_then contents (stop.Failed kind) r s t a b xs ys d = record {
  written = record {
    front = d.written.front;
    rest = d.written.rest ++ text ys;
    split = text_on xs ys ∙ ap (λ l. l ++ text ys) d.written.split ∙ append_assoc d.written.front d.written.rest (text ys);
    grown = d.written.grown;
  };
  fits = d.fits;
}

pub writes_on : {W : Type 0} (contents : W → Option (List ℕ)) (f g h : Option Stop) (r s t : Option ℕ) (a b c : W) (xs ys : List (ℕ × DeviceAnswer))
    → WritesEntries contents f r a xs g s b → WritesEntries contents g s b ys h t c → WritesEntries contents f r a (xs ++ ys) h t c
writes_on contents None None None r s t a b c xs ys d e = (
  subst (λ (l : List ℕ). Appends (contents a) (contents c) l) (sym (text_on xs ys)) (Appends-trans _ _ _ _ _ d.0 e.0),
  subst (λ (n : ℕ). Uses r n t) (sym (ap length (text_on xs ys) ∙ length_on (text xs) (text ys))) (uses_on r s t (length (text xs)) (length (text ys)) d.1 e.1),
)
writes_on contents None None (Some k) r s t a b c xs ys d e = whole_then contents k r s t a b c xs ys d e
writes_on contents None (Some j) None r s t a b c xs ys d e = absurd e
writes_on contents None (Some j) (Some k) r s t a b c xs ys d e =
    subst (λ (w : Stop). WritesEntries contents None r a (xs ++ ys) (Some w) t c) (sym e.0)
    (subst (λ (x : _). WritesEntries contents None r a (xs ++ ys) (Some j) t x) (sym e.1) (stopped_then contents j r s t a b xs ys d))
writes_on contents (Some i) None h r s t a b c xs ys d e = absurd d
writes_on contents (Some i) (Some j) None r s t a b c xs ys d e = absurd e
writes_on contents (Some i) (Some j) (Some k) r s t a b c xs ys d e = (e.0 ∙ d.0, e.1 ∙ d.1)

uses_none : (r : Option ℕ) → Uses r 0 r
uses_none None = refl
uses_none (Some room) = (room, refl, omega arith)

pub writes_none : {W : Type 0} (contents : W → Option (List ℕ)) (f : Option Stop) (r : Option ℕ) (s : W) → WritesEntries contents f r s [] f r s
writes_none contents None r s = (Appends-nil (contents s), uses_none r)
writes_none contents (Some k) r s = (refl, refl)

-- How a recorder answers (`Records`), with two laws: no answers change nothing, and answers after others join them.
abbrev pub recorder_answering : {D W : Type 0} → (W → Option (List ℕ)) → Answering D → Answering (Recording D W)
recorder_answering contents answering = record {
  answered = Records contents answering.answered;
  none = λ s. record {
    given = answering.none s.device;
    entries = [];
    says = refl;
    rises = omega arith;
    written = writes_none contents s.stop s.room s.writer;
    are_answers = tt;
  };
  on = λ s t u xs ys d e. record {
    given = answering.on s.device t.device u.device xs ys d.given e.given;
    entries = d.entries ++ e.entries;
    says = says_on d.entries e.entries (recorded xs) (recorded ys) d.says e.says ∙ sym (recorded_on xs ys);
    rises = rises_on (millis s.clock) (millis t.clock) (millis u.clock) d.entries e.entries d.rises e.rises;
    written = writes_on contents s.stop t.stop u.stop s.room t.room u.room s.writer t.writer u.writer d.entries e.entries d.written e.written;
    are_answers = all_append IsPossible xs ys d.are_answers e.are_answers;
  };
}
