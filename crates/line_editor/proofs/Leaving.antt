-- Lines that were left for others.
use Rattle.std.proofs.Common.{◌≡◌, ℕ, ◌+◌, ◌<◌, ◌≤◌, true, false, List, [], ◌∷◌, length, drop, refl, sym, subst, ap, ◌∙◌, inl, inr, arith}
use Rattle.std.proofs.lemmas.Bool.{cases_Bool, eq-eqb, ne_eqb}
use Rattle.std.proofs.lemmas.Slice.Eq.{bytes_eq-Decides}
use Rattle.std.specs.Prelude.{Some, None, ◌==◌, remove, slice_index_or, slice_set, suc, zero}
use Rattle.std.specs.Str.{bytes_eq}
use Rattle.line_editor.specs.Splits.{Split, line_text}
use Rattle.line_editor.specs.States.{DraftState, EditorState, LeftLine, brought_to, draft_at, draft_of, left_at, new_draft, shown_as, with_draft, left_but}
use Rattle.line_editor.specs.inside.Lines.{position_in}

-- ---- a line, as another one has it

bytes_same : (text : List ℕ) → bytes_eq text text ≡ true
bytes_same text = (bytes_eq-Decides text text).1 refl

pub shown_same : (steps : ℕ) (d : Split) (x : DraftState) → line_text d ≡ line_text x.line → shown_as steps d x ≡ record x { line = d; typing = false }
shown_same steps d x e =
    let same : bytes_eq (line_text d) (line_text x.line) ≡ true = ap (λ t. bytes_eq (line_text d) t) (sym e) ∙ bytes_same (line_text d) in
    rw same refl

-- ---- the place of a line among those that were left

-- What is found of the line of a place.
pub record IsFound (place : ℕ) (left : List LeftLine) (at : ℕ) : Type 0 where
  pub within : at < length left
  pub line : (m : LeftLine) → m ≡ slice_index_or left at m → left_at place left ≡ Some m.draft.line
  pub draft : (steps : ℕ) (d : Split) (m : LeftLine) → m ≡ slice_index_or left at m → draft_at steps place d left ≡ shown_as steps d m.draft
  pub rest : left_but place left ≡ remove left at

module _ (place : ℕ) (x : LeftLine) (left : List LeftLine) where
  found_here : (x.place == place) ≡ true → IsFound place (x ∷ left) zero
  found_here here = record {
    within = omega arith;
    line = λ m f. (rw here (ap (λ (y : LeftLine). Some y.draft.line) (sym f)));
    draft = λ steps d m f. (rw here (ap (λ (y : LeftLine). shown_as steps d y.draft) (sym f)));
    rest = rw here refl;
  }

  found_later : (x.place == place) ≡ false → (n : ℕ) → IsFound place left n → IsFound place (x ∷ left) (suc n)
  found_later other n b = record {
    within = omega (arith, b.within);
    line = λ m f. (rw other (b.line m f));
    draft = λ steps d m f. (rw other (b.draft steps d m f));
    rest = rw other (ap (λ l. x ∷ l) b.rest);
  }

  place_first : (passed : ℕ) → (x.place == place) ≡ true → position_in place passed (x ∷ left) ≡ Some passed
  place_first passed here = rw here refl

  place_later : (passed : ℕ) → (x.place == place) ≡ false → position_in place passed (x ∷ left) ≡ position_in place (passed + 1) left
  place_later passed other = rw other refl

same_number : (a b : ℕ) → Some a ≡ Some b → a ≡ b
same_number a b e = cc

found_at : (place passed : ℕ) (left : List LeftLine) (at : ℕ) → Some at ≡ position_in place passed left → (n : ℕ) × (at ≡ passed + n) × IsFound place left n
found_at place passed [] at e = cc
found_at place passed (x ∷ left) at e =
    elim (cases_Bool (x.place == place)) [
      | inl here ↦ (zero, omega (arith, same_number at passed (e ∙ place_first place x left passed here)), found_here place x left here)
      | inr other ↦
          let more = found_at place (passed + 1) left at (e ∙ place_later place x left passed other) in
          (suc more.0, omega (arith, more.1), found_later place x left other more.0 more.2)
    ]

pub position_found : (place : ℕ) (left : List LeftLine) (at : ℕ) → Some at ≡ position_in place 0 left → IsFound place left at
position_found place left at e =
    let found = found_at place 0 left at e in
    let same : found.0 ≡ at = omega (arith, found.1) in
    subst (IsFound place left) same found.2

pub position_within : (place : ℕ) (left : List LeftLine) (at : ℕ) → Some at ≡ position_in place 0 left → at < length left
position_within place left at e = (position_found place left at e).within

-- What is left of the others, if the line was shown otherwise before it went.
remove_set : (left : List LeftLine) (at : ℕ) (y : LeftLine) → remove (slice_set left at y) at ≡ remove left at
remove_set [] at y = refl
remove_set (x ∷ left) zero y = refl
remove_set (x ∷ left) (suc at) y = ap (λ l. x ∷ l) (remove_set left at y)

set_get : (left : List LeftLine) (at : ℕ) (m y : LeftLine) → at < length left → m ≡ slice_index_or (slice_set left at y) at m → m ≡ y
set_get [] at m y lt e = absurd (omega (arith, lt))
set_get (x ∷ left) zero m y lt e = e
set_get (x ∷ left) (suc at) m y lt e = set_get left at m y (omega (arith, lt)) e

get_any : (left : List LeftLine) (at : ℕ) → at < length left → (m : LeftLine) × (m ≡ slice_index_or left at m)
get_any [] at lt = absurd (omega (arith, lt))
get_any (x ∷ left) zero lt = (x, refl)
get_any (x ∷ left) (suc at) lt = get_any left at (omega (arith, lt))

-- A line that was left is shown, and then it goes.
module _ (steps place at : ℕ) (d : Split) (old shown new : List LeftLine) (found : Some at ≡ position_in place 0 old)
    (shows : (m : LeftLine) → m ≡ slice_index_or old at m → shown ≡ slice_set old at (record m { draft = shown_as steps d m.draft })) where
  is : IsFound place old at
  is = position_found place old at found

  was : (m : LeftLine) × (m ≡ slice_index_or old at m)
  was = get_any old at is.within

  pub taken_rest : new ≡ remove shown at → new ≡ left_but place old
  taken_rest e = e ∙ ap (λ l. remove l at) (shows was.0 was.1) ∙ remove_set old at _ ∙ sym is.rest

  pub taken_draft : (m : LeftLine) → m ≡ slice_index_or shown at m → m.draft ≡ draft_at steps place d old
  taken_draft m e =
      let set = shows was.0 was.1 in
      let P : List LeftLine → Type 0 = λ l. m ≡ slice_index_or l at m in
      ap (λ (y : LeftLine). y.draft) (set_get old at m _ is.within (subst P set e)) ∙ sym (is.draft steps d was.0 was.1)

-- No line was left at a place.
module _ (steps place : ℕ) (d : Split) where
  missed : (passed : ℕ) (left : List LeftLine) → None ≡ position_in place passed left
      → (draft_at steps place d left ≡ new_draft d) × (left_at place left ≡ None) × (left_but place left ≡ left)
  missed passed [] e = (refl, refl, refl)
  missed passed (x ∷ left) e =
      elim (cases_Bool (x.place == place)) [
        | inl here ↦ absurd (some_none passed (e ∙ (rw here refl)))
        | inr other ↦ let rest = missed (passed + 1) left (e ∙ (rw other refl)) in (rw other rest.0, rw other rest.1, rw other (ap (λ l. x ∷ l) rest.2))
      ]
    where
      some_none : (n : ℕ) → None ≡ Some n → ⊥
      some_none n e = cc

  pub missed_draft : (left : List LeftLine) → None ≡ position_in place 0 left → draft_at steps place d left ≡ new_draft d
  missed_draft left e = (missed 0 left e).0

  pub missed_line : (left : List LeftLine) → None ≡ position_in place 0 left → left_at place left ≡ None
  missed_line left e = (missed 0 left e).1

  pub missed_rest : (left : List LeftLine) → None ≡ position_in place 0 left → left_but place left ≡ left
  missed_rest left e = (missed 0 left e).2

-- ---- one line after another

module _ (place : ℕ) where
  line-at : (lines : List LeftLine) (at : ℕ) → at < length lines → (x : LeftLine) × (drop at lines ≡ x ∷ drop (at + 1) lines) × (slice_index_or lines at x ≡ x)
  line-at [] at lt = absurd (omega (arith, lt))
  line-at (x ∷ lines) zero lt = (x, refl, refl)
  line-at (x ∷ lines) (suc at) lt =
      let rest = line-at lines at (omega (arith, lt)) in
      let e : suc (at + 1) ≡ suc at + 1 = omega arith in
      (rest.0, rest.1 ∙ ap (λ l. rest.0 ∷ l) (ap (λ n. drop n (x ∷ lines)) e), rest.2)

  any_same : (lines : List LeftLine) (at : ℕ) (m x : LeftLine) → at < length lines → m ≡ slice_index_or lines at m → slice_index_or lines at x ≡ x → m ≡ x
  any_same [] at m x lt e f = absurd (omega (arith, lt))
  any_same (y ∷ lines) zero m x lt e f = e ∙ f
  any_same (y ∷ lines) (suc at) m x lt e f = any_same lines at m x (omega (arith, lt)) e f

  module _ (lines : List LeftLine) (at : ℕ) (lt : at < length lines) (m : LeftLine) (is : m ≡ slice_index_or lines at m) where
    pub place_here : m.place ≡ place → position_in place at (drop at lines) ≡ Some at
    place_here e =
        let x = line-at lines at lt in
        let here : (x.0.place == place) ≡ true = ap (λ (y : LeftLine). y.place == place) (sym (any_same lines at m x.0 lt is x.2)) ∙ eq-eqb m.place place e in
        ap (position_in place at) x.1 ∙ (rw here refl)

    pub place_past : (m.place == place) ≡ false → position_in place at (drop at lines) ≡ position_in place (at + 1) (drop (at + 1) lines)
    place_past e =
        let x = line-at lines at lt in
        let past : (x.0.place == place) ≡ false = ap (λ (y : LeftLine). y.place == place) (sym (any_same lines at m x.0 lt is x.2)) ∙ e in
        ap (position_in place at) x.1 ∙ (rw past refl)

  pub place_none : (lines : List LeftLine) (at : ℕ) → length lines ≤ at → position_in place at (drop at lines) ≡ None
  place_none lines at le = ap (position_in place at) (none lines at le)
    where
      none : (lines : List LeftLine) (at : ℕ) → length lines ≤ at → drop at lines ≡ []
      none [] zero le = refl
      none [] (suc at) le = refl
      none (x ∷ lines) zero le = absurd (omega (arith, le))
      none (x ∷ lines) (suc at) le = none lines at (omega (arith, le))

-- ---- another line

-- An editor with a line at another place.
pub shown_elsewhere : (v w : EditorState) → v ≡ w → (place : ℕ) (d : Split) (x next y : DraftState) (first second third : List LeftLine) → (place ≡ v.back → ⊥)
    → first ≡ v.left → next ≡ draft_at v.limits.steps place d first → second ≡ left_but place first → x ≡ next → y ≡ draft_of v
    → third ≡ record { place = v.back; draft = y } ∷ second
    → record (with_draft x v) { left = third; back = place } ≡ brought_to place d w
shown_elsewhere v w is place d x next y first second third ne same comes rest shows gone all =
    let other : (place == v.back) ≡ false = ne_eqb place v.back ne in
    let there : brought_to place d v ≡ record (with_draft (draft_at v.limits.steps place d v.left) v) { left = record { place = v.back; draft = draft_of v } ∷ left_but place v.left; back = place } =
    rw other refl in
    ap (λ (z : DraftState). record (with_draft z v) { left = third; back = place }) (shows ∙ comes ∙ ap (draft_at v.limits.steps place d) same)
    ∙ ap (λ l. record (with_draft (draft_at v.limits.steps place d v.left) v) { left = l; back = place })
    (all ∙ ap (λ (z : DraftState). record { place = v.back; draft = z } ∷ second) gone
    ∙ ap (λ l. record { place = v.back; draft = draft_of v } ∷ l) (rest ∙ ap (left_but place) same))
    ∙ sym there
    ∙ ap (brought_to place d) is
