-- Back into the history, and forth again.
use Rattle.std.proofs.Common.{◌≡◌, ℕ, ◌+◌, ◌<◌, ◌≤◌, true, false, List, [], ◌∷◌, length, refl, sym, subst, ap, ◌∙◌, inl, inr, arith}
use Rattle.std.proofs.lemmas.Bool.{cases_Bool, eq-eqb, eqb-true, false_from_ne_true}
use Rattle.std.specs.Option.{option_map}
use Rattle.std.specs.Prelude.{Option, Some, ◌==◌, suc, zero, slice_get}
use Rattle.line_editor.specs.declared.last.Last.TheVariants.{Other}
use Rattle.line_editor.specs.declared.actions.Action.TheVariants.{Newer, Older}
use Rattle.line_editor.specs.declared.places.Stop.TheVariants.{Edge}
use Rattle.line_editor.specs.declared.places.Target.TheVariants.{Forward}
use Rattle.line_editor.specs.Edits.{empty_line}
use Rattle.line_editor.specs.Laws.{ComesBack, newer_times, older_times}
use Rattle.line_editor.specs.Places.{target_place}
use Rattle.line_editor.specs.Splits.{Split, line_text}
use Rattle.line_editor.specs.States.{DraftState, EditorState, LeftLine, after, brought_to, draft_at, draft_of, gone_to, left_at, line_at, line_or, newer_from, shown_as, with_draft, left_but}
use Rattle.line_editor.proofs.Keeping.{keeps_text}
use Rattle.line_editor.proofs.Leaving.{shown_same}

some_at : (lines : List Split) (at : ℕ) → at < length lines → (d : Split) × (slice_get lines at ≡ Some d)
some_at [] at lt = absurd (omega (arith, lt))
some_at (d ∷ lines) zero lt = (d, refl)
some_at (d ∷ lines) (suc at) lt = some_at lines at (omega (arith, lt))

apart : (a b : ℕ) → (a ≡ b → ⊥) → (a == b) ≡ false
apart a b h = false_from_ne_true (a == b) (λ same. h (eqb-true a b same))

-- The line of a place stays among those that were left when the one of another place goes.
module _ (place other : ℕ) (ne : other ≡ place → ⊥) where
  still : (left : List LeftLine) → left_at place (left_but other left) ≡ left_at place left
  still [] = refl
  still (x ∷ left) =
      elim (cases_Bool (x.place == other)) [
        | inl gone ↦
            let skip : (x.place == place) ≡ false = apart x.place place (λ e. ne (sym (eqb-true x.place other gone) ∙ e)) in
            rw (gone, skip) refl
        | inr stays ↦ rw stays (elim (cases_Bool (x.place == place)) [ inl here ↦ rw here refl | inr past ↦ rw past (still left) ])
      ]

  still_draft : (steps : ℕ) (d : Split) (left : List LeftLine) → draft_at steps place d (left_but other left) ≡ draft_at steps place d left
  still_draft steps d [] = refl
  still_draft steps d (x ∷ left) =
      elim (cases_Bool (x.place == other)) [
        | inl gone ↦
            let skip : (x.place == place) ≡ false = apart x.place place (λ e. ne (sym (eqb-true x.place other gone) ∙ e)) in
            rw (gone, skip) refl
        | inr stays ↦ rw stays (elim (cases_Bool (x.place == place)) [ inl here ↦ rw here refl | inr past ↦ rw past (still_draft steps d left) ])
      ]

-- A line as that of an editor, with what can be undone of it.
record IsAs (w : EditorState) (x : DraftState) : Type 0 where
  text : line_text x.line ≡ line_text w.line
  line : w.back ≡ 0 → x.line ≡ w.line
  past : x.past ≡ w.past
  undone : x.undone ≡ w.undone

-- The line is among those that were left.
record IsAmong (w : EditorState) (left : List LeftLine) : Type 0 where
  draft : DraftState
  same : IsAs w draft
  line : left_at w.back left ≡ Some draft.line
  shows : (steps : ℕ) (d : Split) → draft_at steps w.back d left ≡ shown_as steps d draft

-- An editor so many lines further back in the history than another one.
record Browses (w : EditorState) (n : ℕ) (v : EditorState) : Type 0 where
  lines : v.history ≡ w.history
  place : v.back ≡ w.back + n
  here : n ≡ 0 → IsAs w (draft_of v)
  left : 0 < n → IsAmong w v.left

among_first : (w : EditorState) (x : DraftState) (place : ℕ) (left : List LeftLine) → place ≡ w.back → IsAs w x → IsAmong w (record { place = place; draft = x } ∷ left)
among_first w x place left e h =
    let same : (place == w.back) ≡ true = eq-eqb place w.back e in
    record { draft = x; same = h; line = rw same refl; shows = λ steps d. (rw same refl) }

among_later : (w : EditorState) (y : LeftLine) (other : ℕ) (left : List LeftLine) → (y.place ≡ w.back → ⊥) → (other ≡ w.back → ⊥) → IsAmong w left
    → IsAmong w (y ∷ left_but other left)
among_later w y other left ne nf h =
    let skip : (y.place == w.back) ≡ false = apart y.place w.back ne in
    record {
      draft = h.draft;
      same = h.same;
      line = rw skip (still w.back other nf left ∙ h.line);
      shows = λ steps d. (rw skip (still_draft w.back other nf steps d left ∙ h.shows steps d));
    }

-- An editor that goes to another place.
abbrev moved_to : ℕ → Split → EditorState → EditorState
moved_to place d v =
    record (with_draft (draft_at v.limits.steps place d v.left) v) {
      left = record { place = v.back; draft = draft_of v } ∷ left_but place v.left;
      back = place;
      last = Other;
    }

goes : (place : ℕ) (d : Split) (v : EditorState) → (place ≡ v.back → ⊥) → record (brought_to place d v) { last = Other } ≡ moved_to place d v
goes place d v ne = let other = apart place v.back ne in rw other refl

-- The line of a place of the history.
abbrev at_end : ℕ → EditorState → Split → Split
at_end place v d = target_place (Forward Edge) (line_or d (left_at place v.left))

history_line : (v : EditorState) (at : ℕ) → at < length v.history → (d : Split) × (line_at (suc at) v ≡ Some (at_end (suc at) v d))
history_line v at lt = let found = some_at v.history at lt in (found.0, ap (option_map (at_end (suc at) v)) found.1)

module _ (w : EditorState) where
  older_step : (n : ℕ) (v : EditorState) → Browses w n v → w.back + n < length w.history → Browses w (suc n) (after Older v)
  older_step n v b lt =
      let at : ℕ = v.back in
      let within : at < length v.history = omega (arith, lt, b.place, ap length b.lines) in
      let line = history_line v at within in
      let next : v.back + 1 ≡ suc at = omega arith in
      let way : after Older v ≡ record (gone_to (suc at) (line_at (suc at) v) v) { last = Other } =
      ap (λ p. record (gone_to p (line_at p v) v) { last = Other }) next in
      let e : after Older v ≡ moved_to (suc at) (at_end (suc at) v line.0) v =
      way ∙ ap (λ o. record (gone_to (suc at) o v) { last = Other }) line.1 ∙ goes (suc at) (at_end (suc at) v line.0) v (λ same. omega (arith, same)) in
      let P : EditorState → Type 0 = λ x. Browses w (suc n) x in
      subst P (sym e) (record {
        lines = b.lines;
        place = omega (arith, b.place);
        here = λ none. absurd (omega (arith, none));
        left = λ _. left_on n (suc at) v b (λ same. omega (arith, same, b.place));
      })
    where
      left_on : (n other : ℕ) (v : EditorState) → Browses w n v → (other ≡ w.back → ⊥)
          → IsAmong w (record { place = v.back; draft = draft_of v } ∷ left_but other v.left)
      left_on zero other v b ne = among_first w (draft_of v) v.back (left_but other v.left) (omega (arith, b.place)) (b.here refl)
      left_on (suc n) other v b ne =
          among_later w (record { place = v.back; draft = draft_of v }) other v.left (λ same. omega (arith, same, b.place)) ne (b.left (omega arith))

  -- The line comes back.
  comes : (v : EditorState) (place : ℕ) → place ≡ w.back → (h : IsAmong w v.left) → (d : Split) → line_text d ≡ line_text h.draft.line
      → (w.back ≡ 0 → d ≡ h.draft.line) → IsAs w (draft_at v.limits.steps place d v.left)
  comes v place e h d text line =
      let steps = v.limits.steps in
      let is : draft_at steps place d v.left ≡ record h.draft { line = d; typing = false } =
      ap (λ p. draft_at steps p d v.left) e ∙ h.shows steps d ∙ shown_same steps d h.draft text in
      subst (IsAs w) (sym is) (record {
        text = text ∙ h.same.text;
        line = λ none. line none ∙ h.same.line none;
        past = h.same.past;
        undone = h.same.undone;
      })

  newer_to : (n place : ℕ) (v : EditorState) → place ≡ w.back + n → v.back ≡ suc place → Browses w (suc n) v → (d : Split) → (n ≡ 0 → (h : IsAmong w v.left) → line_text d ≡ line_text h.draft.line)
      → (n ≡ 0 → w.back ≡ 0 → (h : IsAmong w v.left) → d ≡ h.draft.line) → Browses w n (moved_to place d v)
  newer_to n place v e f b d text line = record {
    lines = b.lines;
    place = e;
    here = λ none. (let h = b.left (omega arith) in comes v place (omega (arith, e, none)) h d (text none h) (λ first. line none first h));
    left = λ some. among_later w (record { place = v.back; draft = draft_of v }) place v.left (λ same. omega (arith, same, f, e)) (λ same. omega (arith, same, e, some)) (b.left (omega arith));
  }

  newer_at : (n place : ℕ) (v : EditorState) → place ≡ w.back + n → v.back ≡ suc place → Browses w (suc n) v → place ≤ length w.history
      → Browses w n (record (gone_to place (line_at place v) v) { last = Other })
  newer_at n zero v e f b le =
      let first : w.back ≡ 0 = omega (arith, e) in
      let d = line_or empty_line (left_at 0 v.left) in
      let is : (h : IsAmong w v.left) → d ≡ h.draft.line = λ h. ap (line_or empty_line) (ap (λ p. left_at p v.left) (sym first) ∙ h.line) in
      let P : EditorState → Type 0 = λ x. Browses w n x in
      subst P (sym (goes 0 d v (λ same. omega (arith, same, f)))) (newer_to n 0 v e f b d (λ _. λ h. ap line_text (is h)) (λ _. λ _. is))
  newer_at n (suc at) v e f b le =
      let line = history_line v at (omega (arith, le, ap length b.lines)) in
      let d = at_end (suc at) v line.0 in
      let P : EditorState → Type 0 = λ x. Browses w n x in
      let way = ap (λ o. record (gone_to (suc at) o v) { last = Other }) line.1 ∙ goes (suc at) d v (λ same. omega (arith, same, f)) in
      subst P (sym way) (newer_to n (suc at) v e f b d (λ none. λ h. text line.0 none h) (λ none. λ first. absurd (omega (arith, e, none, first))))
    where
      text : (line : Split) → n ≡ 0 → (h : IsAmong w v.left) → line_text (at_end (suc at) v line) ≡ line_text h.draft.line
      text line none h =
          keeps_text (Forward Edge) (line_or line (left_at (suc at) v.left))
          ∙ ap (λ (o : Option Split). line_text (line_or line o)) (ap (λ p. left_at p v.left) (omega (arith, e, none)) ∙ h.line)

  newer_step : (n : ℕ) (v : EditorState) → Browses w (suc n) v → w.back + suc n ≤ length w.history → Browses w n (after Newer v)
  newer_step n v b le =
      let place : v.back ≡ suc (w.back + n) = omega (arith, b.place) in
      let P : ℕ → Type 0 = λ k. Browses w n (record (newer_from k v) { last = Other }) in
      subst P (sym place) (newer_at n (w.back + n) v refl place b (omega (arith, le)))

  older_all : (n from last : ℕ) (v : EditorState) → from + n ≡ last → w.back + last ≤ length w.history → Browses w from v → Browses w last (older_times n v)
  older_all zero from last v e le b =
      let P : ℕ → Type 0 = λ k. Browses w k v in
      let same : from ≡ last = omega (arith, e) in
      subst P same b
  older_all (suc n) from last v e le b =
      older_all n (suc from) last (after Older v) (omega (arith, e)) le (older_step from v b (omega (arith, e, le)))

  newer_all : (n : ℕ) (v : EditorState) → w.back + n ≤ length w.history → Browses w n v → Browses w 0 (newer_times n v)
  newer_all zero v le b = b
  newer_all (suc n) v le b = newer_all n (after Newer v) (omega (arith, le)) (newer_step n v b le)

  begins : Browses w 0 w
  begins = record {
    lines = refl;
    place = omega arith;
    here = λ _. record { text = refl; line = λ _. refl; past = refl; undone = refl };
    left = λ some. absurd (omega (arith, some));
  }

pub comes_back : (n : ℕ) (w : EditorState) → ComesBack n w
comes_back n w enough =
    let b = newer_all w n (older_times n w) enough (older_all w n 0 n w (omega arith) enough (begins w)) in
    let h = b.here refl in
    record { place = omega (arith, b.place); text = h.text; line = h.line; past = h.past; undone = h.undone }
