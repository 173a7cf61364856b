-- The ring of kills.
use Rattle.std.proofs.Common.{◌≡◌, Bool, true, ℕ, ◌<◌, ◌≤◌, List, [], ◌∷◌, ◌++◌, length, reverse, take, drop, refl, sym, subst, ap, ◌∙◌, inl, inr, arith, append_assoc, length-append, length-take-le, slice_index_or, take_at, take-append-drop}
use Rattle.std.proofs.lemmas.Bool.{cases_Bool, eqb-true}
use Rattle.std.proofs.lemmas.List.{reverse-append, reverse-reverse, take-map}
use Rattle.std.proofs.lemmas.Str.{encodes-append, encodes-chars, IsUtf8-append, IsUtf8-drop, IsUtf8-take, IsCharBoundary-at_seam}
use Rattle.std.specs.Prelude.{Option, Some, None, IfSome, ◌==◌, encode_utf8_all, suc, zero, string_bytes}
use Rattle.std.specs.List.{AllByRecursion}
use Rattle.std.specs.Str.{chars, IsCharBoundary, IsUtf8}
use Rattle.std.specs.declared.string.String.{String}
use Rattle.unicode_segmentation.specs.Segments.{chars_before}
use Rattle.line_editor.specs.declared.last.Last.{Last}
use Rattle.line_editor.specs.declared.last.Last.TheVariants.{Killed, Other, Seeking, Took, Walked, Yanked}
use Rattle.line_editor.specs.declared.places.Target.{Target}
use Rattle.line_editor.specs.declared.places.Target.TheVariants.{Back, Forward}
use Rattle.line_editor.specs.Kills.{kept_by, kill_at, kill_text, kills_before, kills_with, texts}
use Rattle.line_editor.specs.Shown.{AreIn, AreRows}
use Rattle.line_editor.specs.Splits.{Split, bytes_before, split_at}
use Rattle.line_editor.specs.States.{behind_front}
use Rattle.line_editor.specs.inside.Changes.{line_bytes}
use Rattle.line_editor.proofs.Changing.{before-line, line_bytes-line}
use Rattle.line_editor.proofs.Showing.{shown-append}

-- ---- all kills are shown

pub all-first : {X : Type 0} (P : X → Type 0) (n : ℕ) (xs : List X) → AllByRecursion P xs → AllByRecursion P (take n xs)
all-first P zero xs h = tt
all-first P (suc n) [] h = tt
all-first P (suc n) (x ∷ xs) h = (h.0, all-first P n xs h.1)

module _ (multiline : Bool) where
  abbrev Are : List ℕ → Type 0
  Are text = AreIn multiline text

  pub kill-shown : (kills : List (List ℕ)) (at : ℕ) → AllByRecursion Are kills → Are (kill_at kills at)
  kill-shown [] at h = refl
  kill-shown (text ∷ kills) zero h = h.0
  kill-shown (text ∷ kills) (suc at) h = kill-shown kills at h.1

  pub kept-shown : (last : Last) (kills : List (List ℕ)) → AllByRecursion Are kills → Are (kept_by last kills)
  kept-shown Other kills h = refl
  kept-shown Walked kills h = refl
  kept-shown Killed kills h = kill-shown kills 0 h
  kept-shown Yanked kills h = refl
  kept-shown (Took at) kills h = refl
  kept-shown (Seeking s) kills h = refl

  before-shown : (last : Last) (kills : List (List ℕ)) → AllByRecursion Are kills → AllByRecursion Are (kills_before last kills)
  before-shown Other kills h = h
  before-shown Walked kills h = h
  before-shown Killed [] h = tt
  before-shown Killed (text ∷ kills) h = h.1
  before-shown Yanked kills h = h
  before-shown (Took at) kills h = h
  before-shown (Seeking s) kills h = h

  joined-shown : (target : Target) (text kept : List ℕ) → Are text → Are kept → Are (kill_text target text kept)
  joined-shown (Back stop) text kept k l = shown-append multiline text kept k l
  joined-shown (Forward stop) text kept k l = shown-append multiline kept text l k

  pub with-shown : (limit : ℕ) (last : Last) (target : Target) (text : List ℕ) (kills : List (List ℕ)) → Are text → AllByRecursion Are kills
      → AllByRecursion Are (kills_with limit last target text kills)
  with-shown limit last target text kills k h =
      all-first Are limit (kill_text target text (kept_by last kills) ∷ kills_before last kills)
      (joined-shown target text (kept_by last kills) k (kept-shown last kills h), before-shown last kills h)

-- ---- strings of kills

before-texts : {A : Type 0} (last : Last) (items : List (String A)) → texts (kills_before last items) ≡ kills_before last (texts items)
before-texts Other items = refl
before-texts Walked items = refl
before-texts Killed [] = refl
before-texts Killed (x ∷ items) = refl
before-texts Yanked items = refl
before-texts (Took at) items = refl
before-texts (Seeking s) items = refl

module _ {A : Type 0} (limit : ℕ) (last : Last) (killed : String A) (items new : List (String A)) (e : new ≡ take limit (killed ∷ kills_before last items)) where
  pub kept-texts : texts new ≡ take limit (chars (string_bytes killed) ∷ kills_before last (texts items))
  kept-texts =
      ap texts e ∙ sym (take-map (λ (text : String A). chars (string_bytes text)) limit (killed ∷ kills_before last items))
      ∙ ap (λ t. take limit (chars (string_bytes killed) ∷ t)) (before-texts last items)

  pub kept-all : AreRows (chars (string_bytes killed)) → AllByRecursion AreRows (texts items) → AllByRecursion AreRows (texts new)
  kept-all k h =
      subst (AllByRecursion AreRows) (sym kept-texts)
      (all-first AreRows limit (chars (string_bytes killed) ∷ kills_before last (texts items)) (k, before-shown true last (texts items) h))

-- The kill at a place of the strings.
module _ {A : Type 0} where
  pub kill_found : (items : List (String A)) (at : ℕ) (x : String A) → at < length items → x ≡ slice_index_or items at x → chars (string_bytes x) ≡ kill_at (texts items) at
  kill_found [] at x lt e = absurd (omega (arith, lt))
  kill_found (y ∷ items) zero x lt e = ap (λ (t : String A). chars (string_bytes t)) e
  kill_found (y ∷ items) (suc at) x lt e = kill_found items at x (omega (arith, lt)) e

  pub kill_missed : (items : List (String A)) (at : ℕ) → length items ≤ at → [] ≡ kill_at (texts items) at
  kill_missed [] at le = refl
  kill_missed (y ∷ items) zero le = absurd (omega (arith, le))
  kill_missed (y ∷ items) (suc at) le = kill_missed items at (omega (arith, le))

  pub kill_found-shown : (items : List (String A)) (at : ℕ) (text : List ℕ) → text ≡ kill_at (texts items) at → AllByRecursion AreRows (texts items) → AreRows text
  kill_found-shown items at text e h = subst AreRows (sym e) (kill-shown true (texts items) at h)

-- ---- a text that begins or ends with another one

pub some-weaker : {X : Type 0} (P Q : X → Type 0) (o : Option X) → ((x : X) → P x → Q x) → IfSome o P → IfSome o Q
some-weaker P Q (Some x) f h = f x h
some-weaker P Q None f h = tt

pub behind-front : (front text : List ℕ) → IfSome (behind_front front text) (λ rest. text ≡ front ++ rest)
behind-front [] text = refl
behind-front (c ∷ front) [] = tt
behind-front (c ∷ front) (x ∷ text) =
    elim (cases_Bool (c == x)) [
      | inl here ↦ rw here (some-weaker (λ rest. text ≡ front ++ rest) (λ rest. x ∷ text ≡ (c ∷ front) ++ rest) (behind_front front text)
          (λ rest e. ap (λ n. n ∷ text) (sym (eqb-true c x here)) ∙ ap (λ t. c ∷ t) e) (behind-front front text))
      | inr not_here ↦ rw not_here tt
    ]

-- A text before a place ends with another one, or doesn't.
module _ (text before end : List ℕ) (at : ℕ) (d : Split) (u : IsUtf8 text) (b : IsCharBoundary text at) (is : split_at text at ≡ d) (same : before ≡ take at text) where
  line_before : reverse (chars before) ≡ d.before
  line_before = ap (λ t. reverse (chars t)) same ∙ ap (λ (x : Split). x.before) is

  pub place_missed : None ≡ behind_front (reverse (chars end)) (reverse (chars before)) → behind_front (reverse (chars end)) d.before ≡ None
  place_missed none = ap (behind_front (reverse (chars end))) (sym line_before) ∙ sym none

  module _ (v : IsUtf8 end) (front : List ℕ) (w : IsUtf8 front) (some : Some (reverse (chars front)) ≡ behind_front (reverse (chars end)) (reverse (chars before))) where
    reversed : reverse (chars before) ≡ reverse (chars end) ++ reverse (chars front)
    reversed =
        let P : Option (List ℕ) → Type 0 = λ o. IfSome o (λ rest. reverse (chars before) ≡ reverse (chars end) ++ rest) in
        subst P (sym some) (behind-front (reverse (chars end)) (reverse (chars before)))

    whole : chars before ≡ chars front ++ chars end
    whole =
        sym (reverse-reverse (chars before)) ∙ ap reverse reversed ∙ reverse-append (reverse (chars end)) (reverse (chars front))
        ∙ ap (λ t. t ++ reverse (reverse (chars end))) (reverse-reverse (chars front)) ∙ ap (λ t. chars front ++ t) (reverse-reverse (chars end))

    parts : before ≡ front ++ end
    parts =
        sym (encodes-chars before (subst IsUtf8 (sym same) (IsUtf8-take text at u b))) ∙ ap encode_utf8_all whole ∙ encodes-append (chars front) (chars end)
        ∙ ap (λ t. t ++ encode_utf8_all (chars end)) (encodes-chars front w) ∙ ap (λ t. front ++ t) (encodes-chars end v)

    split : text ≡ front ++ (end ++ drop at text)
    split = sym (take-append-drop at text) ∙ ap (λ t. t ++ drop at text) (sym same ∙ parts) ∙ append_assoc front end (drop at text)

    pub place_found : (n : ℕ) → n ≡ length front → (n ≤ bytes_before d) × IsCharBoundary (line_bytes d) n
        × (behind_front (reverse (chars end)) d.before ≡ Some (chars_before (line_bytes d) n))
    place_found n len =
        let Q : ℕ → Type 0 = λ n. (n ≤ bytes_before d) × IsCharBoundary (line_bytes d) n × (behind_front (reverse (chars end)) d.before ≡ Some (chars_before (line_bytes d) n)) in
        let P : List ℕ → Type 0 = λ t. IsCharBoundary t (length front) in
        let bytes : line_bytes d ≡ text = line_bytes-line text at u b d is in
        let first : take (length front) text ≡ front = ap (take (length front)) split ∙ take_at front (end ++ drop at text) (length front) refl in subst Q (sym len) (
          omega (arith, before-line text at u b d is, ap length parts, length-append front end, ap length same, length-take-le at text b.0),
          subst P (sym bytes) (IsCharBoundary-at_seam text front (end ++ drop at text) split (IsUtf8-append end (drop at text) v (IsUtf8-drop text at u b))),
          ap (behind_front (reverse (chars end))) (sym line_before) ∙ sym some
              ∙ ap (λ t. Some (reverse (chars t))) (sym first) ∙ ap (λ t. Some (chars_before t (length front))) (sym bytes),
        )
