-- Bytes that are taken outside of a paste, and what an outlet is given for them.
use Rattle.std.proofs.Common.{◌≤◌, ◌≡◌, ◌≢◌, ◌==◌, ◌<◌, ℕ, zero, suc, ◌+◌, ◌-◌, arith, Bool, false, if◌then◌else◌, not, ◌&&◌, List, [], ◌∷◌, ◌++◌, length, map, take, drop, get_or, refl, ap, sym, ◌∙◌, subst, append_assoc}
use Rattle.std.proofs.Math.Seq.{take-add}
use Rattle.std.proofs.lemmas.List.{append-nil, get_or-drop, length-drop, map-append, take_all}
use Rattle.std.proofs.lemmas.Bool.Decides.{nat_tests}
use Rattle.std.specs.List.{AllByRecursion}
use Rattle.crossterm_types.specs.Seen.{Seen}
use Rattle.crossterm_parse.specs.Transitions.{IsCharacterOf, Opens, OpensWith, events_left, state_after}
use Rattle.crossterm_parse.specs.Bytes.{IsLetter}
use Rattle.crossterm_parse.specs.States.{is_paste}
use Rattle.crossterm_parse.specs.Putting.{PutsOn, PutsAll, TakesPart, Through, bare}
use Rattle.crossterm_parse.specs.Marked.{Marked, bytes_of, marked}
use Rattle.crossterm_parse.specs.Meaning.{seen_meaning, typed}
use Rattle.crossterm_parse.specs.View.{AdvancesOver, ParserView}
use Rattle.crossterm_parse.specs.declared.meaning.Meaning.{Meaning}
use Rattle.crossterm_parse.specs.declared.state.State.{State}
use Rattle.crossterm_parse.specs.declared.state.State.TheVariants.{Ground, Escape}
use Rattle.crossterm_parse.proofs.RunLaws.{advance_rest, character_puts, letter_puts}
use Rattle.crossterm_parse.proofs.ViewLaws.{advance_join, marked_rest}

more_seen : (w : List Seen) (ms ns : List Meaning) → (w ++ map seen_meaning ms) ++ map seen_meaning ns ≡ w ++ map seen_meaning (ms ++ ns)
more_seen w ms ns = append_assoc w (map seen_meaning ms) (map seen_meaning ns) ∙ ap (λ (xs : List Seen). w ++ xs) (sym (map-append seen_meaning ms ns))

-- ---- what is done through an outlet

module _ {O : Type 0} (given : O → List Meaning → O → Type 0) where
  -- nothing is given
  pub through_none : (R : ParserView → ParserView → Type 0) (s t : State) (o p : O) → given o [] p → ((w : List Seen) → R (bare s w) (bare t w)) → Through given R s t o p
  through_none R s t o p none does = ([], none, λ w. subst (λ (xs : List Seen). R (bare s w) (bare t xs)) (sym (append-nil w)) (does w))

  pub through_as : (R S : ParserView → ParserView → Type 0) (s t : State) (o p : O) → ((old new : ParserView) → R old new → S old new) → Through given R s t o p → Through given S s t o p
  through_as R S s t o p weaker through = (through.0, through.1, λ w. weaker _ _ (through.2 w))

  -- one after another
  pub through_join : (R S T : ParserView → ParserView → Type 0) (s t u : State) (o p q : O)
      → ((o p q : O) (xs ys : List Meaning) → given o xs p → given p ys q → given o (xs ++ ys) q)
      → ((old mid new : ParserView) → R old mid → S mid new → T old new) → Through given R s t o p → Through given S t u p q → Through given T s u o q
  through_join R S T s t u o p q on join first more = (
    first.0 ++ more.0,
    on o p q first.0 more.0 first.1 more.1,
    λ w. let mid = w ++ map seen_meaning first.0 in
        subst (λ (xs : List Seen). T (bare s w) (bare u xs)) (more_seen w first.0 more.0)
        (join (bare s w) (bare t mid) (bare u (mid ++ map seen_meaning more.0)) (first.2 w) (more.2 mid)),
  )

-- what is done outside of a paste, whatever else the parser keeps
pub beside : (old new : ParserView) (given : List Seen) (ms : List Marked) → is_paste old.state ≡ false → new.text ≡ old.text → new.waiting ≡ given
    → AdvancesOver (bare old.state old.waiting) (bare new.state given) ms → AdvancesOver old new ms
beside old new given ms outside text waiting over before represents undecided =
    let none : old.text ≡ [] = represents.1 ∙ ap (λ (t : Bool). if t then drop 6 (bytes_of before) else []) outside in
    let a = over before (represents.0, sym none ∙ represents.1) undecided in
    record { parts = a.parts; rest = a.rest; division = a.division; given = waiting ∙ a.given; represents = (a.represents.0, text ∙ none ∙ a.represents.1) }

-- a run over what is left of a piece
pub through_run : {O : Type 0} (given : O → List Meaning → O → Type 0) (s t u : State) (o p q : O) (piece : List ℕ) (more raw : Bool) (i n : ℕ)
    → ((o p q : O) (xs ys : List Meaning) → given o xs p → given p ys q → given o (xs ++ ys) q) → i + n ≤ length piece
    → Through given (λ old new. AdvancesOver old new (take i (marked piece more raw))) s t o p
    → Through given (λ old new. PutsOn raw old new (take n (take (length piece - i) (drop i piece)))) t u p q
    → Through given (λ old new. AdvancesOver old new (take (i + n) (marked piece more raw))) s u o q
through_run given s t u o p q piece more raw i n on l before run =
    let ms = marked piece more raw in
    through_join given (λ old new. AdvancesOver old new (take i ms)) (λ old new. PutsOn raw old new (take n (take (length piece - i) (drop i piece))))
    (λ old new. AdvancesOver old new (take (i + n) ms)) s t u o p q on (λ old mid new first next. advance_rest n old mid new piece more raw i l next first) before run

-- ---- text

one_more : (w : List Seen) (b : ℕ) (bs : List ℕ) → (w ++ seen_meaning (typed b) ∷ []) ++ map seen_meaning (map typed bs) ≡ w ++ map seen_meaning (map typed (b ∷ bs))
one_more w b bs = append_assoc w (seen_meaning (typed b) ∷ []) (map seen_meaning (map typed bs))

letters_put : (bs : List ℕ) (w : List Seen) → AllByRecursion IsLetter bs → PutsAll (bare Ground w) (bare Ground (w ++ map seen_meaning (map typed bs))) bs
letters_put [] w all = (refl, refl, append-nil w)
letters_put (b ∷ bs) w all =
    let mid : ParserView = bare Ground (w ++ seen_meaning (typed b) ∷ []) in (
      mid,
      letter_puts (bare Ground w) mid b all.0 refl (refl, refl, refl),
      subst (λ (xs : List Seen). PutsAll mid (bare Ground xs) bs) (one_more w b bs) (letters_put bs (w ++ seen_meaning (typed b) ∷ []) all.1),
    )

pub all_letters : (s : State) (bs : List ℕ) (w : List Seen) → s ≡ Ground → AllByRecursion IsLetter bs → PutsAll (bare s w) (bare s (w ++ map seen_meaning (map typed bs))) bs
all_letters s bs w ground all = subst (λ (t : State). PutsAll (bare t w) (bare t (w ++ map seen_meaning (map typed bs))) bs) (sym ground) (letters_put bs w all)

pub one_character : (s : State) (bs : List ℕ) (c size : ℕ) (m : Meaning) (w : List Seen) → s ≡ Ground → IsCharacterOf bs c size → m ≡ typed c
    → PutsAll (bare s w) (bare s (w ++ map seen_meaning (m ∷ []))) (take size bs)
one_character s bs c size m w ground is means =
    character_puts (bare s w) (bare s (w ++ seen_meaning m ∷ [])) bs c size is ground (ground, refl, ap (λ (x : Meaning). w ++ seen_meaning x ∷ []) means)

-- ---- sequences

pub opens_outside : (bs : List ℕ) (old new : State) → is_paste old ≡ false → Opens old new bs → is_paste new ≡ false
opens_outside [] old new outside opens = ap (λ (s : State). is_paste s) opens ∙ outside
opens_outside (b ∷ bs) old new outside opens = opens_outside bs opens.0 new opens.2 opens.3

pub opened_outside : (n : ℕ) (old new : State) (bs : List ℕ) → (n ≡ 0 → new ≡ Ground) → (0 < n → OpensWith new (take n bs)) → is_paste new ≡ false
opened_outside zero old new bs none some = ap (λ (s : State). is_paste s) (none refl)
opened_outside (suc n) old new bs none some = let opens = some (omega arith) in opens_outside (opens.0 ∷ opens.1) Escape new refl opens.3

-- ---- parts of a piece

-- what is left of a piece, behind some of its bytes
rest_of : (piece : List ℕ) (i : ℕ) → take (length piece - i) (drop i piece) ≡ drop i piece
rest_of piece i = take_all (length piece - i) (drop i piece) (omega (arith, length-drop i piece))

-- bytes of what is left were taken
pub advance_on : (old mid new : ParserView) (piece : List ℕ) (more raw : Bool) (i n : ℕ) → AdvancesOver old mid (take i (marked piece more raw))
    → AdvancesOver mid new (take n (marked (take (length piece - i) (drop i piece)) more raw)) → AdvancesOver old new (take (i + n) (marked piece more raw))
advance_on old mid new piece more raw i n first next =
    let ms = marked piece more raw in
    let same : marked (take (length piece - i) (drop i piece)) more raw ≡ drop i ms = ap (λ (bs : List ℕ). marked bs more raw) (rest_of piece i) ∙ sym (marked_rest piece more raw i) in
    subst (AdvancesOver old new) (sym (take-add i n ms)) (advance_join old mid new (take i ms) (take n (drop i ms)) first (subst (λ (xs : List Marked). AdvancesOver mid new (take n xs)) same next))

-- the byte at a place of what is left, and whether it is the last one
pub rest_at : (piece : List ℕ) (i n : ℕ) → get_or (take (length piece - i) (drop i piece)) n 0 ≡ get_or piece (i + n) 0
rest_at piece i n = ap (λ (bs : List ℕ). get_or bs n 0) (rest_of piece i) ∙ get_or-drop i piece n 0

rest_last : (piece : List ℕ) (i n : ℕ) → i + n < length piece → n + 1 == length (take (length piece - i) (drop i piece)) ≡ (i + n + 1 == length piece)
rest_last piece i n l =
    let size : length (take (length piece - i) (drop i piece)) ≡ length piece - i = ap (λ (bs : List ℕ). length bs) (rest_of piece i) ∙ length-drop i piece in
    rw size (last_of (length piece) i n l) where
      last_of : (m i n : ℕ) → i + n < m → n + 1 == m - i ≡ (i + n + 1 == m)
      last_of m i n l = grind (arith, nat_tests)

pub rest_size : (piece : List ℕ) (i : ℕ) → length (take (length piece - i) (drop i piece)) ≡ length piece - i
rest_size piece i = ap (λ (bs : List ℕ). length bs) (rest_of piece i) ∙ length-drop i piece

-- a part that stops outside of a paste: there is no room, and an event ends at the next byte
pub stopped : (mid new : ParserView) (piece : List ℕ) (more raw : Bool) (i n s t : ℕ) → i + n < length piece → is_paste new.state ≡ is_paste mid.state → is_paste new.state ≡ false
    → TakesPart mid new (take (length piece - i) (drop i piece)) more raw n s t
    → (new.room ≡ 0) × ((text : List ℕ) → events_left (state_after new.state (get_or piece (i + n) 0) raw (not more && (i + n + 1 == length piece))) text ≢ [])
stopped mid new piece more raw i n s t l same outside takes =
    let less : n < length (take (length piece - i) (drop i piece)) = omega (arith, l, rest_size piece i) in
    let was = sym same ∙ outside in (
      takes.full less was outside,
      λ text. subst (λ (b : ℕ). events_left (state_after new.state b raw (not more && (i + n + 1 == length piece))) text ≢ []) (rest_at piece i n)
          (subst (λ (p : Bool). events_left (state_after new.state (get_or (take (length piece - i) (drop i piece)) n 0) raw (not more && p)) text ≢ []) (rest_last piece i n l) (takes.ends less was outside text)),
    )
