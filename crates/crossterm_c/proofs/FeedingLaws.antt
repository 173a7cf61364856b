-- What a call takes.
use Rattle.std.proofs.lemmas.Bool.Decides.{nat_tests}
use Rattle.std.proofs.Common.{◌≡◌, ◌==◌, ◌<◌, ◌+◌, not, get_or, arith, slice_set, map, ℕ, Bool, true, false, if◌then◌else◌, List, [], ◌∷◌, ◌++◌, take, length, ◌-◌, refl, ap, sym, ◌∙◌, subst}
use Rattle.std.proofs.lemmas.List.{append-nil, map-append, take_more}
use Rattle.crossterm_types.specs.Seen.{Seen}
use Rattle.crossterm_types.specs.Seen as seen
use Rattle.crossterm_types.specs.declared.event.key.KeyEvent.{KeyEvent}
use Rattle.crossterm_parse.specs.Bytes.{IsLetter}
use Rattle.crossterm_parse.specs.States.{is_paste}
use Rattle.crossterm_parse.specs.Marked.{marked}
use Rattle.crossterm_parse.specs.Putting.{bare}
use Rattle.crossterm_parse.specs.declared.marked.Marked.{Marked}
use Rattle.crossterm_parse.specs.Meaning.{pasted, seen_meaning, typed}
use Rattle.crossterm_parse.specs.declared.meaning.Meaning.{Meaning}
use Rattle.crossterm_parse.specs.declared.meaning.Meaning.TheVariants as meaning
use Rattle.crossterm_parse.specs.View.{AdvancesOver}
use Rattle.crossterm_parse.specs.declared.state.State.{State}
use Rattle.crossterm_parse.specs.declared.state.State.TheVariants.{Ground}
use Rattle.crossterm_parse.proofs.RunLaws.{letter_puts}
use Rattle.crossterm_parse.proofs.ViewLaws.{advance_byte}
use Rattle.numbers.specs.Event.{event_at}
use Rattle.crossterm_c.specs.Feeding.{Feeds, Pastes, kept_after, kept_with, view_of}
use Rattle.crossterm_c.specs.inside.Table.{Filled, PutsEvents, filled_on}
use Rattle.crossterm_c.specs.declared.table.Table.{Table}
use Rattle.numbers.specs.declared.event.GelvanhEvent.{GelvanhEvent}

no_text : (t : Bool) (text : List ℕ) → t ≡ false → [] ≡ (if t then text else [])
no_text true text h = cc
no_text false text h = refl

none_kept : (s t : Bool) (kept bytes : List ℕ) → s ≡ false → (if t then (if s then kept ++ bytes else []) else []) ≡ []
none_kept true t kept bytes h = cc
none_kept false true kept bytes h = refl
none_kept false false kept bytes h = refl

-- What was taken outside of a paste.
pub feeds_given : (old new : State) (given : List GelvanhEvent) (bytes : List ℕ) (taken : List Marked) (ms : List Meaning) → is_paste old ≡ false
    → ((kept : List ℕ) → map (event_at kept) given ≡ map seen_meaning ms) → ((waiting : List Seen) → AdvancesOver (bare old waiting) (bare new (waiting ++ map seen_meaning ms)) taken)
    → Feeds old new given bytes taken
feeds_given old new given bytes taken ms outside means over kept waiting before represents undecided =
    let a = over waiting before (represents.0, no_text (is_paste old) _ outside) undecided in
    record {
      parts = a.parts;
      rest = a.rest;
      division = a.division;
      given = ap (λ (events : List Seen). waiting ++ events) (means (kept_with old kept bytes)) ∙ a.given;
      represents = (a.represents.0, none_kept (is_paste old) (is_paste new) kept bytes outside ∙ a.represents.1);
    }

still_kept : (t : Bool) (kept text : List ℕ) → kept ≡ (if t then text else []) → (if t then (if t then kept ++ [] else []) else []) ≡ (if t then text else [])
still_kept true kept text e = append-nil kept ∙ e
still_kept false kept text e = refl

-- Nothing is taken.
pub feeds_nothing : (old : State) → Feeds old old [] [] []
feeds_nothing old kept waiting before represents undecided =
    record {
      parts = [];
      rest = before;
      division = record { joined = append-nil before; whole = tt; undecided = undecided };
      given = refl;
      represents = (represents.0, still_kept (is_paste old) kept _ represents.1);
    }

with_kept : (t : Bool) (kept bytes : List ℕ) → t ≡ true → kept ++ bytes ≡ (if t then kept ++ bytes else [])
with_kept true kept bytes h = refl
with_kept false kept bytes h = cc

after_open : (t : Bool) (kept : List ℕ) → t ≡ true → kept ≡ (if t then kept else [])
after_open true kept h = refl
after_open false kept h = cc

after_closed : (t : Bool) (kept : List ℕ) → t ≡ false → [] ≡ (if t then kept else [])
after_closed true kept h = cc
after_closed false kept h = refl

-- An open paste goes on.
pub feeds_open : (old new : State) (bytes : List ℕ) (taken : List Marked) → is_paste old ≡ true → is_paste new ≡ true → Pastes old new bytes false taken → Feeds old new [] bytes taken
feeds_open old new bytes taken was is pastes kept waiting =
    subst (λ (events : List Seen). AdvancesOver (view_of old kept waiting) (view_of new (kept_after new (kept_with old kept bytes)) events) taken) (sym (append-nil waiting))
    (subst (λ (bs : List ℕ). AdvancesOver (view_of old kept waiting) (view_of new bs waiting) taken)
    (with_kept (is_paste old) kept bytes was ∙ after_open (is_paste new) (kept_with old kept bytes) is) (pastes kept waiting))

-- An open paste is over.
pub feeds_closed : (old new : State) (e : GelvanhEvent) (bytes : List ℕ) (taken : List Marked) → is_paste old ≡ true → is_paste new ≡ false
    → ((kept : List ℕ) → event_at kept e ≡ pasted (take (length kept - 6) kept)) → Pastes old new bytes true taken → Feeds old new (e ∷ []) bytes taken
feeds_closed old new e bytes taken was is means pastes kept waiting =
    let same = with_kept (is_paste old) kept bytes was in
    let event : pasted (take (length (kept ++ bytes) - 6) (kept ++ bytes)) ≡ event_at (kept_with old kept bytes) e =
    ap (λ (bs : List ℕ). pasted (take (length bs - 6) bs)) same ∙ sym (means (kept_with old kept bytes)) in
    subst (λ (s : Seen). AdvancesOver (view_of old kept waiting) (view_of new (kept_after new (kept_with old kept bytes)) (waiting ++ s ∷ [])) taken) event
    (subst (λ (bs : List ℕ). AdvancesOver (view_of old kept waiting) (view_of new bs (waiting ++ pasted (take (length (kept ++ bytes) - 6) (kept ++ bytes)) ∷ [])) taken)
    (after_closed (is_paste new) (kept_with old kept bytes) is) (pastes kept waiting))

-- An event more, by its meaning.
pub filled_one : (old new : Table) (e : GelvanhEvent) (meaning : Meaning) → PutsEvents old (e ∷ []) new → ((kept : List ℕ) → event_at kept e ≡ seen_meaning meaning) → Filled old (meaning ∷ []) new
filled_one old new e meaning puts is = record { given = e ∷ []; means = λ kept. ap (λ (x : Seen). x ∷ []) (is kept); puts = puts }

-- A key more.
pub one_letter : (s t u : Table) (e : GelvanhEvent) (key : KeyEvent) (letters : List ℕ) (i : ℕ) → i < length letters → Filled s (map typed (take i letters)) t → PutsEvents t (e ∷ []) u
    → ((kept : List ℕ) → event_at kept e ≡ seen.Key key) → meaning.Key key ≡ typed (get_or letters i 0) → Filled s (map typed (take (i + 1) letters)) u
one_letter s t u e key letters i l filled puts is means =
    let byte = get_or letters i 0 in
    subst (λ (ms : List Meaning). Filled s ms u) (sym (ap (λ (bs : List ℕ). map typed bs) (take_more letters i 0 l) ∙ map-append typed (take i letters) (byte ∷ [])))
    (filled_on s t u (map typed (take i letters)) (typed byte ∷ []) filled (filled_one t u e (typed byte) puts (λ kept. is kept ∙ ap (λ (x : Meaning). seen_meaning x) means)))

-- A letter that comes alone.
pub feeds_letter : (s : State) (piece : List ℕ) (more raw : Bool) (e : GelvanhEvent) (key : KeyEvent) → s ≡ Ground → length piece ≡ 1 → IsLetter (get_or piece 0 0)
    → ((kept : List ℕ) → event_at kept e ≡ seen.Key key) → meaning.Key key ≡ typed (get_or piece 0 0) → Feeds s s (e ∷ []) (take 1 piece) (take 1 (marked piece more raw))
feeds_letter s [] more raw e key ground one letter is means = absurd (omega (arith, one))
feeds_letter s (b ∷ c ∷ bs) more raw e key ground one letter is means = absurd (omega (arith, one))
feeds_letter s (b ∷ []) more raw e key ground one letter is means =
    let m : Marked = record { byte = b; raw = raw; pause = not more } in
    feeds_given s s (e ∷ []) (b ∷ []) (m ∷ []) (typed b ∷ []) (ap (λ (t : State). is_paste t) ground) (λ kept. ap (λ (x : Seen). x ∷ []) (is kept ∙ ap (λ (x : Meaning). seen_meaning x) means))
    (λ waiting.
    let new = bare s (waiting ++ seen_meaning (typed b) ∷ []) in
    let put = letter_puts (bare s waiting) new b letter ground (ground, refl, refl) raw (not more) in
    advance_byte (bare s waiting) new m put.0 put.1 put.2)

-- The first event of a table.
pub first_set : (events : List GelvanhEvent) (e : GelvanhEvent) → 0 < length events → e ∷ [] ≡ take 1 (slice_set events 0 e)
first_set [] e some = absurd (omega (arith, some))
first_set (x ∷ events) e some = refl

pub some_events : (events : List GelvanhEvent) → length events == 0 ≡ false → 0 < length events
some_events events h = grind (arith, nat_tests)
