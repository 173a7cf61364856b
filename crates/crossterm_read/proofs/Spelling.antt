-- What a source answers comes of its device's answers.
use Rattle.std.proofs.Common.{◌≡◌, ◌≢◌, inl, inr, ℕ, Bool, true, false, List, [], ◌∷◌, ◌++◌, map, take, refl, ap, sym, subst, ◌∙◌, append-nil, append_assoc}
use Rattle.std.proofs.lemmas.Bool.{cases_Bool}
use Rattle.std.proofs.lemmas.List.Elements.{filter_map-append}
use Rattle.std.specs.List.{filter_map}
use Rattle.std.specs.declared.io.ErrorKind.TheVariants.{OutOfMemory}
use Rattle.crossterm_parse.specs.declared.marked.Marked.{Marked}
use Rattle.crossterm_types.specs.Seen.{Seen}
use Rattle.crossterm_parse.specs.Grammar.{Whole}
use Rattle.crossterm_parse.specs.Meaning.{meaning_of}
use Rattle.crossterm_parse.specs.Division.{Divides, IsUndecided, UniqueDivision, SomeDivision}
use Rattle.crossterm_parse.proofs.DivisionLaws as laws
use Rattle.crossterm_parse.proofs.GrammarLaws.{nil_not_whole, whole_closes, whole_or_not}
use Rattle.crossterm_parse.proofs.ViewLaws.{paste_left, quiet_first}
use Rattle.crossterm_read.specs.Answers.{SourceAnswer, Gave, Nothing, Failed}
use Rattle.crossterm_read.specs.Device.{DeviceAnswer, Bytes, Resized, Woken, Idle, Fault, marked_bytes}
use Rattle.crossterm_parse.specs.View.{Represents}
use Rattle.crossterm_read.specs.Scripted.{AnswersWith, ScriptLeft, ScriptAnswers}
use Rattle.crossterm_read.specs.Outcomes.{IsAnsweredBy, Outcome, Ended, Single, is_pasting, Produces, Happens, Delivers, DeliversBytes, DeliversAll, Answered}
use Rattle.crossterm_read.specs.Sources.{Source, at, SourceDrawn, At, EndNoEvent, Takes, GivesFirst, Turn, waited, again, fresh, other, Turns}

one : UniqueDivision Whole
one = laws.unique_division Whole nil_not_whole whole_closes

some : SomeDivision Whole
some = laws.some_division Whole nil_not_whole whole_or_not

-- the events of the outcome that is open
abbrev current : List Seen → List (List Marked) → List Seen
current waiting parts = waiting ++ filter_map meaning_of parts

undivided : (before : List Marked) (parts : List (List Marked)) (rest : List Marked) → IsUndecided Whole before → Divides Whole (before ++ []) parts rest → (parts ≡ []) × (rest ≡ before)
undivided before parts rest u d = one (before ++ []) parts [] rest before d (record { joined = append-nil before; whole = tt; undecided = u })

-- The answers go on so: what is left of the open outcome, of which this holds, and then the outcomes of the device's answers.
record Spelled (P : List SourceAnswer → Type 0) (rest : List Marked) (ws : List DeviceAnswer) (xs : List SourceAnswer) : Type 0 where
  outcomes : List Outcome
  after : List Marked
  more : List SourceAnswer
  front : List SourceAnswer
  others : List SourceAnswer
  happens : Happens rest ws outcomes after
  joined : xs ++ more ≡ front ++ others
  delivers_all : DeliversAll outcomes others
  so : P front

-- What is left of it gives these events: some answers if bytes are untaken, and none if nothing waits either.
record Front (waiting : List Seen) (untaken : List Marked) (pasting : Bool) (es : List Seen) (front : List SourceAnswer) : Type 0 where
  delivers : Delivers pasting es front
  some : untaken ≢ [] → front ≢ []
  none : waiting ≡ [] → untaken ≡ [] → front ≡ []

abbrev Spells : List Seen → List Marked → List Seen → List Marked → List DeviceAnswer → List SourceAnswer → Type 0
Spells waiting untaken es rest = Spelled (Front waiting untaken (is_pasting rest) es) rest

-- All of it is left.
abbrev Begun : List Seen → List Marked → List DeviceAnswer → List SourceAnswer → Type 0
Begun es rest = Spelled (DeliversBytes (is_pasting rest) es) rest

cons_not_nil : {X : Type 0} (x : X) (xs : List X) → x ∷ xs ≢ []
cons_not_nil x xs e = cc

delivers_gave : (pasting : Bool) (es : List Seen) → Delivers pasting es (map Gave es)
delivers_gave pasting [] = tt
delivers_gave pasting (e ∷ es) = (refl, delivers_gave pasting es)

bytes_refused : (pasting : Bool) (es : List Seen) (front : List SourceAnswer) → front ≢ [] → Delivers pasting es front → DeliversBytes pasting es (Failed OutOfMemory ∷ front)
bytes_refused pasting [] [] n s = absurd (n refl)
bytes_refused pasting [] (x ∷ xs) n s = inr (s.0, (refl, s.1))
bytes_refused pasting (e ∷ es) front n s = (refl, s)

-- what is answered for bytes that were left comes behind the events before them
bytes_late : (pasting : Bool) (es : List Seen) (xs : List SourceAnswer) → (es ≡ [] → pasting ≡ true) → DeliversBytes pasting es xs → Delivers pasting es xs
bytes_late pasting [] xs o (inl none) = subst (Delivers pasting []) (sym none) (o refl, refl)
bytes_late pasting [] [] o (inr late) = absurd late.1
bytes_late pasting [] (x ∷ xs) o (inr late) = late
bytes_late pasting (e ∷ es) xs o s = s

bytes_some : (pasting : Bool) (es : List Seen) (xs : List SourceAnswer) → DeliversBytes pasting es xs → xs ≢ []
bytes_some pasting [] [] (inl none) e = absurd (cons_not_nil Nothing [] (sym none))
bytes_some pasting [] [] (inr late) e = absurd late.1
bytes_some pasting [] (x ∷ xs) s e = cons_not_nil x xs e
bytes_some pasting (e ∷ es) [] s none = absurd s
bytes_some pasting (e ∷ es) (x ∷ xs) s none = cons_not_nil x xs none

map_nil : (es : List Seen) → es ≡ [] → map Gave es ≡ []
map_nil es e = ap (map Gave) e

-- The first byte that is untaken ends an event, or is of a paste.
abbrev IsLeft : At → Type 0
IsLeft p = p.untaken ≢ [] → ¬ EndNoEvent p.undecided (take 1 p.untaken)

nil_left : {X : Type 0} (xs ys : List X) → xs ++ ys ≡ [] → xs ≡ []
nil_left [] ys e = refl
nil_left (x ∷ xs) ys e = cc

nil_right : {X : Type 0} (xs ys : List X) → xs ++ ys ≡ [] → ys ≡ []
nil_right [] ys e = e
nil_right (x ∷ xs) ys e = cc

-- If the first byte ends an event or is of a paste, and all together end none, a paste is open after them.
opens : (before bytes : List Marked) (parts : List (List Marked)) (rest : List Marked) → bytes ≢ [] → ¬ EndNoEvent before (take 1 bytes)
    → Divides Whole (before ++ bytes) parts rest → filter_map meaning_of parts ≡ [] → is_pasting rest ≡ true
opens before [] parts rest b n d e = absurd (b refl)
opens before (m ∷ ms) parts rest b n d e = elim (cases_Bool (is_pasting rest)) [
  | inl t ↦ t
  | inr f ↦
      let first = some (before ++ m ∷ []) in
      let later = some (first.1 ++ ms) in
      let all : Divides Whole ((before ++ m ∷ []) ++ ms) (first.0 ++ later.0) later.1 = laws.divide_join Whole (before ++ m ∷ []) ms first.0 later.0 first.1 later.1 first.2 later.2 in
      let same = one (before ++ m ∷ ms) parts (first.0 ++ later.0) rest later.1 d (subst (λ (l : List Marked). Divides Whole l (first.0 ++ later.0) later.1) (append_assoc before (m ∷ []) ms) all) in
      let none : filter_map meaning_of first.0 ++ filter_map meaning_of later.0 ≡ [] = sym (filter_map-append meaning_of first.0 later.0) ∙ ap (filter_map meaning_of) (sym same.0) ∙ e in
      let shut : is_pasting first.1 ≡ false = elim (cases_Bool (is_pasting first.1)) [
        | inl t ↦ absurd (paste_left first.1 ms later.0 later.1 t first.2.undecided later.2 (quiet_first later.0 (nil_right _ _ none)) (ap is_pasting (sym same.1) ∙ f))
        | inr g ↦ g
      ] in
      absurd (n (first.0, first.1, first.2, nil_left _ _ none, shut))
]

-- nothing more was answered
spell_none : (waiting : List Seen) (untaken : List Marked) (es : List Seen) (rest : List Marked) → (waiting ≡ [] → untaken ≡ [] → es ≡ []) → (untaken ≢ [] → es ≡ [] → is_pasting rest ≡ true)
    → Spells waiting untaken es rest [] []
spell_none waiting [] es rest n o = record {
  outcomes = [];
  after = rest;
  more = map Gave es;
  front = map Gave es;
  others = [];
  happens = refl;
  joined = sym (append-nil (map Gave es));
  delivers_all = refl;
  so = record { delivers = delivers_gave (is_pasting rest) es; some = λ h. absurd (h refl); none = λ w u. map_nil es (n w u) };
}
spell_none waiting (m ∷ ms) [] rest n o = record {
  outcomes = [];
  after = rest;
  more = Nothing ∷ [];
  front = Nothing ∷ [];
  others = [];
  happens = refl;
  joined = refl;
  delivers_all = refl;
  so = record { delivers = (o (cons_not_nil m ms) refl, refl); some = λ h. cons_not_nil Nothing []; none = λ w u. absurd (cons_not_nil m ms u) };
}
spell_none waiting (m ∷ ms) (e ∷ es) rest n o = record {
  outcomes = [];
  after = rest;
  more = map Gave (e ∷ es);
  front = map Gave (e ∷ es);
  others = [];
  happens = refl;
  joined = sym (append-nil (map Gave (e ∷ es)));
  delivers_all = refl;
  so = record { delivers = delivers_gave (is_pasting rest) (e ∷ es); some = λ h. cons_not_nil (Gave e) (map Gave es); none = λ w u. absurd (cons_not_nil m ms u) };
}

-- what the next answers are, from each state
abbrev Next : At → List DeviceAnswer → List SourceAnswer → Type 0
Next m ws xs = (ps : List (List Marked)) (r : List Marked) → Divides Whole (m.undecided ++ m.untaken) ps r → Spells m.waiting m.untaken (current m.waiting ps) r ws xs

-- The parser took some bytes, and the first event was given, or none.
begin : (w : List Seen) (u before : List Marked) (n : ℕ) (m : At) (x : SourceAnswer) (ws : List DeviceAnswer) (xs : List SourceAnswer) (parts : List (List Marked)) (rest : List Marked)
    → IsUndecided Whole before → Divides Whole (before ++ u) parts rest → GivesFirst w (record { waiting = w; untaken = u; undecided = before; room = n }) x m → Next m ws xs
    → Begun (current w parts) rest ws (x ∷ xs)
begin (e ∷ es) u before n m x ws xs parts rest h d g next =
    let s : Spells es u (current es parts) rest ws xs = subst (λ (y : At). Next y ws xs) g.1 next parts rest d in
    record {
      outcomes = s.outcomes;
      after = s.after;
      more = s.more;
      front = x ∷ s.front;
      others = s.others;
      happens = s.happens;
      joined = ap (λ (l : List SourceAnswer). x ∷ l) s.joined;
      delivers_all = s.delivers_all;
      so = subst (λ (y : SourceAnswer). Delivers (is_pasting rest) (e ∷ current es parts) (y ∷ s.front)) (sym g.0) (refl, s.so.delivers);
    }
begin [] [] before n m x ws xs parts rest h d g next =
    let s : Spells [] [] (current [] parts) rest ws xs = subst (λ (y : At). Next y ws xs) g.1 next parts rest d in
    let none = undivided before parts rest h d in
    record {
      outcomes = s.outcomes;
      after = s.after;
      more = s.more;
      front = Nothing ∷ [];
      others = s.others;
      happens = s.happens;
      joined = ap (λ (y : SourceAnswer). y ∷ (xs ++ s.more)) g.0 ∙ ap (λ (l : List SourceAnswer). Nothing ∷ l) (s.joined ∙ ap (λ (l : List SourceAnswer). l ++ s.others) (s.so.none refl refl));
      delivers_all = s.delivers_all;
      so = subst (λ (l : List (List Marked)). DeliversBytes (is_pasting rest) (current [] l) (Nothing ∷ [])) (sym none.0) (inl refl);
    }
begin [] (k ∷ ks) before n m x ws xs parts rest h d g next =
    let s : Spells [] (k ∷ ks) (current [] parts) rest ws xs = subst (λ (y : At). Next y ws xs) g.1 next parts rest d in
    record {
      outcomes = s.outcomes;
      after = s.after;
      more = s.more;
      front = Failed OutOfMemory ∷ s.front;
      others = s.others;
      happens = s.happens;
      joined = ap (λ (y : SourceAnswer). y ∷ (xs ++ s.more)) g.0 ∙ ap (λ (l : List SourceAnswer). Failed OutOfMemory ∷ l) s.joined;
      delivers_all = s.delivers_all;
      so = bytes_refused (is_pasting rest) (current [] parts) s.front (s.so.some (cons_not_nil k ks)) s.so.delivers;
    }

-- Two takes are one.
taken_on : (before bytes : List Marked) (mid : At) (parts others : List (List Marked)) (rest last : List Marked) (t : Takes before bytes mid)
    → Divides Whole (before ++ bytes) parts rest → Divides Whole (mid.undecided ++ mid.untaken) others last → (parts ≡ t.parts ++ others) × (rest ≡ last)
taken_on before bytes mid parts others rest last t d e =
    let j : Divides Whole ((before ++ t.taken) ++ mid.untaken) (t.parts ++ others) last = laws.divide_join Whole (before ++ t.taken) mid.untaken t.parts others mid.undecided last t.division e in
    let c : (before ++ t.taken) ++ mid.untaken ≡ before ++ bytes = append_assoc before t.taken mid.untaken ∙ ap (λ (l : List Marked). before ++ l) (sym t.cut) in
    one (before ++ bytes) parts (t.parts ++ others) rest last d (subst (λ (l : List Marked). Divides Whole l (t.parts ++ others) last) c j)

current_on : (mid : At) (before bytes : List Marked) (parts others : List (List Marked)) (t : Takes before bytes mid) → parts ≡ t.parts ++ others → current mid.waiting others ≡ filter_map meaning_of parts
current_on mid before bytes parts others t e =
    ap (λ (l : List Seen). l ++ filter_map meaning_of others) t.waiting ∙ sym (filter_map-append meaning_of t.parts others) ∙ ap (filter_map meaning_of) (sym e)

produces_single : (before : List Marked) (w : DeviceAnswer) (x : SourceAnswer) → IsAnsweredBy w x → Produces before w (Single x) before
produces_single before (Bytes [] raw) x a = (a, refl)
produces_single before (Bytes (b ∷ bs) raw) x a = absurd a
produces_single before (Resized columns rows) x a = (a, refl)
produces_single before Woken x a = (a, refl)
produces_single before Idle x a = (a, refl)
produces_single before (Fault kind) x a = (a, refl)

module _ (p m : At) (vs : List DeviceAnswer) (x : SourceAnswer) (xs : List SourceAnswer) where
  next_waited : (e : Seen) → p.waiting ≡ e ∷ m.waiting → m.untaken ≡ p.untaken → m.undecided ≡ p.undecided → x ≡ Gave e → Next m vs xs → Next p vs (x ∷ xs)
  next_waited e w u n g next ps r d =
      let d' : Divides Whole (m.undecided ++ m.untaken) ps r = subst (λ (l : List Marked). Divides Whole l ps r) (ap (λ (l : List Marked). l ++ p.untaken) (sym n) ∙ ap (λ (l : List Marked). m.undecided ++ l) (sym u)) d in
      let s = next ps r d' in
      record {
        outcomes = s.outcomes;
        after = s.after;
        more = s.more;
        front = Gave e ∷ s.front;
        others = s.others;
        happens = s.happens;
        joined = ap (λ (y : SourceAnswer). y ∷ (xs ++ s.more)) g ∙ ap (λ (l : List SourceAnswer). Gave e ∷ l) s.joined;
        delivers_all = s.delivers_all;
        so = record {
          delivers = subst (λ (l : List Seen). Delivers (is_pasting r) (current l ps) (Gave e ∷ s.front)) (sym w) (refl, s.so.delivers);
          some = λ h. cons_not_nil (Gave e) s.front;
          none = λ a b. absurd (cons_not_nil e m.waiting (sym w ∙ a));
        };
      }

  next_again : (mid : At) → p.waiting ≡ [] → p.untaken ≢ [] → IsLeft p → Takes p.undecided p.untaken mid → GivesFirst mid.waiting mid x m → Next m vs xs → Next p vs (x ∷ xs)
  next_again mid w u l t g next ps r d =
      let o = some (mid.undecided ++ mid.untaken) in
      let both = taken_on p.undecided p.untaken mid ps o.0 r o.1 t d o.2 in
      let b = begin mid.waiting mid.untaken mid.undecided mid.room m x vs xs o.0 o.1 t.division.undecided o.2 g next in
      let same : current mid.waiting o.0 ≡ current p.waiting ps = current_on mid p.undecided p.untaken ps o.0 t both.0 ∙ ap (λ (l : List Seen). l ++ filter_map meaning_of ps) (sym w) in
      let all : DeliversBytes (is_pasting r) (current p.waiting ps) b.front = subst (λ (l : List Marked). DeliversBytes (is_pasting l) (current p.waiting ps) b.front) (sym both.1)
      (subst (λ (l : List Seen). DeliversBytes (is_pasting o.1) l b.front) same b.so) in
      record {
        outcomes = b.outcomes;
        after = b.after;
        more = b.more;
        front = b.front;
        others = b.others;
        happens = subst (λ (l : List Marked). Happens l vs b.outcomes b.after) (sym both.1) b.happens;
        joined = b.joined;
        delivers_all = b.delivers_all;
        so = record {
          delivers = bytes_late (is_pasting r) (current p.waiting ps) b.front (λ e. opens p.undecided p.untaken ps r u (l u) d (nil_right p.waiting (filter_map meaning_of ps) e)) all;
          some = λ h. bytes_some (is_pasting r) (current p.waiting ps) b.front all;
          none = λ a c. absurd (u c);
        };
      }

  next_fresh : (bytes : List ℕ) (raw : Bool) (mid : At) → p.waiting ≡ [] → p.untaken ≡ [] → IsUndecided Whole p.undecided → bytes ≢ [] → Takes p.undecided (marked_bytes bytes raw) mid → GivesFirst mid.waiting mid x m
      → Next m vs xs → Next p (Bytes bytes raw ∷ vs) (x ∷ xs)
  next_fresh [] raw mid w u h n t g next ps r d = absurd (n refl)
  next_fresh (k ∷ ks) raw mid w u h n t g next ps r d =
      let none = undivided p.undecided ps r h (subst (λ (l : List Marked). Divides Whole (p.undecided ++ l) ps r) u d) in
      let o = some (mid.undecided ++ mid.untaken) in
      let all = some (p.undecided ++ marked_bytes (k ∷ ks) raw) in
      let both = taken_on p.undecided (marked_bytes (k ∷ ks) raw) mid all.0 o.0 all.1 o.1 t all.2 o.2 in
      let b = begin mid.waiting mid.untaken mid.undecided mid.room m x vs xs o.0 o.1 t.division.undecided o.2 g next in
      let same = current_on mid p.undecided (marked_bytes (k ∷ ks) raw) all.0 o.0 t both.0 in
      record {
        outcomes = Ended (current mid.waiting o.0) (is_pasting o.1) ∷ b.outcomes;
        after = b.after;
        more = b.more;
        front = [];
        others = x ∷ (xs ++ b.more);
        happens = (
          o.1,
          subst (λ (l : List Marked). Produces l (Bytes (k ∷ ks) raw) (Ended (current mid.waiting o.0) (is_pasting o.1)) o.1) (sym none.1)
              (all.0, subst (λ (l : List Marked). Divides Whole (p.undecided ++ marked_bytes (k ∷ ks) raw) all.0 l) both.1 all.2, same, refl),
          b.happens,
        );
        joined = refl;
        delivers_all = (b.front, b.others, b.joined, b.so, b.delivers_all);
        so = record {
          delivers = subst (λ (l : List Seen). Delivers (is_pasting r) l []) (sym (ap (λ (l : List Seen). l ++ filter_map meaning_of ps) w ∙ ap (λ (l : List (List Marked)). filter_map meaning_of l) none.0)) tt;
          some = λ a. absurd (a u);
          none = λ a c. refl;
        };
      }

  next_other : (w : DeviceAnswer) → p.waiting ≡ [] → p.untaken ≡ [] → IsUndecided Whole p.undecided → IsAnsweredBy w x → m ≡ p → Next m vs xs → Next p (w ∷ vs) (x ∷ xs)
  next_other w wt u h a e next ps r d =
      let none = undivided p.undecided ps r h (subst (λ (l : List Marked). Divides Whole (p.undecided ++ l) ps r) u d) in
      let s = subst (λ (y : At). Next y vs xs) e next ps r d in
      record {
        outcomes = Single x ∷ s.outcomes;
        after = s.after;
        more = s.more;
        front = [];
        others = x ∷ (xs ++ s.more);
        happens = (r, produces_single r w x a, s.happens);
        joined = refl;
        delivers_all = (xs ++ s.more, refl, subst (λ (l : List SourceAnswer). DeliversAll s.outcomes l) (sym (s.joined ∙ ap (λ (l : List SourceAnswer). l ++ s.others) (s.so.none wt u))) s.delivers_all);
        so = record {
          delivers = subst (λ (l : List Seen). Delivers (is_pasting r) l []) (sym (ap (λ (l : List Seen). l ++ filter_map meaning_of ps) wt ∙ ap (λ (l : List (List Marked)). filter_map meaning_of l) none.0)) tt;
          some = λ b. absurd (b u);
          none = λ b c. refl;
        };
      }

-- What holds of each state: its undecided bytes are undecided, and what is untaken was left.
record Represented (p : At) : Type 0 where
  undecided : IsUndecided Whole p.undecided
  left : IsLeft p

gives_represents : (w : List Seen) (mid m : At) (x : SourceAnswer) → Represented mid → GivesFirst w mid x m → Represented m
gives_represents [] mid m x h g = subst Represented (sym g.1) h
gives_represents (e ∷ es) mid m x h g = subst Represented (sym g.1) (record { undecided = h.undecided; left = h.left })

takes_represents : (before bytes : List Marked) (mid : At) → Takes before bytes mid → Represented mid
takes_represents before bytes mid t = record { undecided = t.division.undecided; left = t.left }

turn_represents : (p m : At) (us : List DeviceAnswer) (x : SourceAnswer) → Represented p → Turn p us x m → Represented m
turn_represents p m us x h (waited e w u n ws g) = record {
  undecided = subst (λ (l : List Marked). IsUndecided Whole l) (sym n) h.undecided;
  left = subst (λ (l : List Marked). m.untaken ≢ [] → ¬ EndNoEvent l (take 1 m.untaken)) (sym n) (subst (λ (l : List Marked). l ≢ [] → ¬ EndNoEvent p.undecided (take 1 l)) (sym u) h.left);
}
turn_represents p m us x h (again mid w u ws t g) = gives_represents mid.waiting mid m x (takes_represents p.undecided p.untaken mid t) g
turn_represents p m us x h (fresh bytes raw mid w u n ws t g) = gives_represents mid.waiting mid m x (takes_represents p.undecided (marked_bytes bytes raw) mid t) g
turn_represents p m us x h (other w wt u ws a e) = subst Represented (sym e) h

next_turn : (p m : At) (us vs : List DeviceAnswer) (x : SourceAnswer) (xs : List SourceAnswer) → Represented p → Turn p us x m → Next m vs xs → Next p (us ++ vs) (x ∷ xs)
next_turn p m us vs x xs h (waited e w u n ws g) next = subst (λ (l : List DeviceAnswer). Next p (l ++ vs) (x ∷ xs)) (sym ws) (next_waited p m vs x xs e w u n g next)
next_turn p m us vs x xs h (again mid w u ws t g) next = subst (λ (l : List DeviceAnswer). Next p (l ++ vs) (x ∷ xs)) (sym ws) (next_again p m vs x xs mid w u h.left t g next)
next_turn p m us vs x xs h (fresh bytes raw mid w u n ws t g) next = subst (λ (l : List DeviceAnswer). Next p (l ++ vs) (x ∷ xs)) (sym ws) (next_fresh p m vs x xs bytes raw mid w u h.undecided n t g next)
next_turn p m us vs x xs h (other w wt u ws a e) next = subst (λ (l : List DeviceAnswer). Next p (l ++ vs) (x ∷ xs)) (sym ws) (next_other p m vs x xs w wt u h.undecided a e next)

next_none : (p : At) → Represented p → Next p [] []
next_none p h ps r d = spell_none p.waiting p.untaken (current p.waiting ps) r
    (λ w u.
    let none = undivided p.undecided ps r h.undecided (subst (λ (l : List Marked). Divides Whole (p.undecided ++ l) ps r) u d) in
    ap (λ (l : List Seen). l ++ filter_map meaning_of ps) w ∙ ap (λ (l : List (List Marked)). filter_map meaning_of l) none.0)
    (λ u e. opens p.undecided p.untaken ps r u (h.left u) d (nil_right p.waiting (filter_map meaning_of ps) e))

next_all : (p q : At) (ws : List DeviceAnswer) (xs : List SourceAnswer) → Represented p → Turns p ws xs q → Next p ws xs
next_all p q ws [] h t = subst (λ (l : List DeviceAnswer). Next p l []) (sym t.0) (next_none p h)
next_all p q ws (x ∷ xs) h t = subst (λ (l : List DeviceAnswer). Next p l (x ∷ xs)) (sym t.3)
    (next_turn p t.2 t.0 t.1 x xs h t.4 (next_all t.2 q t.1 xs (turn_represents p t.2 t.0 x h t.4) t.5))

nil_undecided : IsUndecided Whole []
nil_undecided = laws.nil_undecided Whole nil_not_whole

-- What a source answers from its beginning on comes of the answers that its device had.
pub answered_of : (n : ℕ) (q : At) (device_answers ws left : List DeviceAnswer) (xs : List SourceAnswer) → AnswersWith device_answers ws left → Turns (record { waiting = []; untaken = []; undecided = []; room = n }) ws xs q
    → Answered device_answers xs
answered_of n q device_answers ws left xs t turns =
    let s : Spells [] [] [] [] ws xs = next_all (record { waiting = []; untaken = []; undecided = []; room = n }) q ws xs (record { undecided = nil_undecided; left = λ h. absurd (h refl) }) turns [] []
    (record { joined = refl; whole = tt; undecided = nil_undecided }) in
    record {
      answered = ws;
      left = left;
      outcomes = s.outcomes;
      undecided = s.after;
      more = s.more;
      answering = t;
      happens = s.happens;
      delivers = subst (λ (l : List SourceAnswer). DeliversAll s.outcomes l) (sym (s.joined ∙ ap (λ (l : List SourceAnswer). l ++ s.others) (s.so.none refl refl))) s.delivers_all;
    }

-- What a source over a script answers from its beginning on follows from the script.
pub script_answered : (s t : Source ScriptLeft) (xs : List SourceAnswer) → s.parser.waiting ≡ [] → Represents s.parser [] → s.untaken ≡ [] → SourceDrawn ScriptAnswers s xs t → Answered s.device.left xs
script_answered s t xs w h u d =
    let r = d.2 [] h nil_undecided in
    let same : at s [] ≡ record { waiting = []; untaken = []; undecided = []; room = s.parser.room } = λ i. record { waiting = w i; untaken = u i; undecided = []; room = s.parser.room } in
    answered_of s.parser.room (at t r.0) s.device.left d.0 t.device.left xs d.1.0 (subst (λ (y : At). Turns y d.0 xs (at t r.0)) same r.3)
