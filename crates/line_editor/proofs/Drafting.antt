-- A line with its changes, after each of its edits.
use Rattle.std.proofs.Common.{◌≡◌, ℕ, ◌+◌, ◌≤◌, List, [], ◌∷◌, ◌++◌, length, take, drop, refl, sym, subst, ap, ◌∙◌, arith, append_assoc, take_at, drop_at, length-append, length-take-le}
use Rattle.std.proofs.lemmas.Bool.{false≢true}
use Rattle.std.proofs.lemmas.Str.{encodes-chars, IsUtf8-append, IsUtf8-take, IsUtf8-drop, IsCharBoundary-at_seam}
use Rattle.std.specs.List.{insert_slice}
use Rattle.std.specs.Prelude.{Bool, true, false, encode_utf8_all, zero, suc, Result, Ok, Err, OnErr}
use Rattle.std.specs.Str.{chars, IsUtf8, IsCharBoundary}
use Rattle.line_editor.specs.Edits.{inserted}
use Rattle.line_editor.specs.Recent.{first_or, pushed_if, rest_of}
use Rattle.line_editor.specs.Splits.{Split, bytes_before, line_text}
use Rattle.line_editor.specs.States.{DraftState, draft_changed}
use Rattle.line_editor.specs.inside.Changes.{AllFit, AreChanges, EndsBy, Splice, TakesBack, line_bytes, draft_redone, draft_typed, draft_undone, first_ended, first_reached, lines_by}
use Rattle.line_editor.proofs.Changing.{AllFit-take, ended-reached, ends-grown, fit_more, grown-AllFit, grown-lines, lines_by-take, lines_more}

-- The state of a line with its changes.
abbrev pub seen : Split → List Splice → List Splice → Bool → DraftState
seen d past undone typing = record { line = d; past = lines_by (line_bytes d) past; undone = lines_by (line_bytes d) undone; typing = typing }

-- No changes.
pub none-AreChanges : (d : Split) (past undone : List Splice) (typing : Bool) → past ≡ [] → undone ≡ [] → AreChanges d past undone typing
none-AreChanges d past undone typing e f =
    let P : List Splice → Type 0 = λ l. AllFit (line_bytes d) l in
    let Q : List Splice → Type 0 = λ l. EndsBy (bytes_before d) l in
    record { back = subst P (sym e) tt; forth = subst P (sym f) tt; typed = λ _. subst Q (sym e) tt }

pub seen_none : (d v : Split) (past undone : List Splice) (typing : Bool) → d ≡ v → past ≡ [] → undone ≡ []
    → seen d past undone typing ≡ record { line = v; past = []; undone = []; typing = typing }
seen_none d v past undone typing g e f =
    ap (λ l. seen d l undone typing) e ∙ ap (λ l. seen d [] l typing) f ∙ ap (λ (x : Split). seen x [] [] typing) g

-- The cursor elsewhere.
module _ (d w : Split) (past undone : List Splice) (text : line_text w ≡ line_text d) where
  moved-bytes : line_bytes w ≡ line_bytes d
  moved-bytes = ap encode_utf8_all text

  pub moved-AreChanges : (typing : Bool) → AreChanges d past undone typing → AreChanges w past undone false
  moved-AreChanges typing h =
      let P : List ℕ → Type 0 = λ t. AllFit t past in
      let Q : List ℕ → Type 0 = λ t. AllFit t undone in
      record { back = subst P (sym moved-bytes) h.back; forth = subst Q (sym moved-bytes) h.forth; typed = λ off. absurd (false≢true off) }

  pub seen_moved : (typing : Bool) (s : DraftState) → seen d past undone typing ≡ s → seen w past undone false ≡ record s { line = w; typing = false }
  seen_moved typing s is =
      ap (λ t. record { line = w; past = lines_by t past; undone = lines_by t undone; typing = false }) moved-bytes
      ∙ ap (λ (x : DraftState). record x { line = w; typing = false }) is

EndsBy-take : (n at : ℕ) (c : Splice) (old : List Splice) → c.to ≤ at → EndsBy at (take n (c ∷ old))
EndsBy-take zero at c old h = tt
EndsBy-take (suc n) at c old h = h

-- A change is noted.
module _ (steps : ℕ) (c : Splice) (d w : Split) (h : TakesBack c d w) (old gone past undone : List Splice) (typed typing : Bool) (f : AreChanges d old gone typed)
    (e : past ≡ take steps (c ∷ old)) (g : undone ≡ []) where
  noted-lines : lines_by (line_bytes w) past ≡ take steps (d ∷ lines_by (line_bytes d) old)
  noted-lines = ap (lines_by (line_bytes w)) e ∙ lines_by-take steps (line_bytes w) (c ∷ old) ∙ ap (take steps) (lines_more c d w h old)

  pub noted-AreChanges : (typing ≡ true → c.to ≤ bytes_before w) → AreChanges w past undone typing
  noted-AreChanges k =
      let P : List Splice → Type 0 = λ l. AllFit (line_bytes w) l in
      let Q : List Splice → Type 0 = λ l. EndsBy (bytes_before w) l in
      record {
        back = subst P (sym e) (AllFit-take steps (line_bytes w) (c ∷ old) (fit_more c d w h old f.back));
        forth = subst P (sym g) tt;
        typed = λ sure. subst Q (sym e) (EndsBy-take steps (bytes_before w) c old (k sure));
      }

  seen_noted : seen w past undone typing ≡ record { line = w; past = take steps (d ∷ lines_by (line_bytes d) old); undone = []; typing = typing }
  seen_noted =
      ap (λ l. seen w past l typing) g ∙ ap (λ (l : List Split). record { line = w; past = l; undone = []; typing = typing }) noted-lines

  pub seen_changed : (s : DraftState) → seen d old gone typed ≡ s → (edit : Split → Split) → w ≡ edit d → typing ≡ false
      → seen w past undone typing ≡ draft_changed steps (edit s.line) s
  seen_changed s is edit same off =
      seen_noted
      ∙ ap (λ (t : Bool). record { line = w; past = take steps (d ∷ lines_by (line_bytes d) old); undone = []; typing = t }) off
      ∙ ap (λ (l : Split). draft_changed steps l (seen d old gone typed)) same
      ∙ ap (λ (x : DraftState). draft_changed steps (edit x.line) x) is

  pub seen_typed : (s : DraftState) → seen d old gone typed ≡ s → (edit : Split → Split) → w ≡ edit d → typed ≡ false → typing ≡ true
      → seen w past undone typing ≡ draft_typed steps (edit s.line) s
  seen_typed s is edit same off on =
      seen_noted
      ∙ ap (λ (t : Bool). record { line = w; past = take steps (d ∷ lines_by (line_bytes d) old); undone = []; typing = t }) on
      ∙ ap (λ (l : Split). draft_typed steps l (seen d old gone false)) same
      ∙ ap (λ (t : Bool). draft_typed steps (edit d) (seen d old gone t)) (sym off)
      ∙ ap (λ (x : DraftState). draft_typed steps (edit x.line) x) is

-- A text is typed behind what was typed before.
module _ (d w : Split) (text with : List ℕ) (at end : ℕ) (u : IsUtf8 text) (v : IsUtf8 with) (same : chars text ≡ line_text d) (here : at ≡ bytes_before d)
    (there : IsCharBoundary (line_bytes d) at) where
  text-bytes : text ≡ line_bytes d
  text-bytes = sym (encodes-chars text u) ∙ ap encode_utf8_all same

  place : IsCharBoundary text at
  place = let P : List ℕ → Type 0 = λ t. IsCharBoundary t at in subst P (sym text-bytes) there

  pub reached-boundary : IsCharBoundary text at
  reached-boundary = place

  pub reached-fit : (past : List Splice) → AllFit (line_bytes d) past → AllFit text past
  reached-fit past h = let P : List ℕ → Type 0 = λ t. AllFit t past in subst P (sym text-bytes) h

  pub reached-ends : (past : List Splice) → EndsBy (bytes_before d) past → EndsBy at past
  reached-ends past h = let P : ℕ → Type 0 = λ n. EndsBy n past in subst P (sym here) h

  module _ (old gone : List Splice) (typing : Bool) (sure : typing ≡ true) (f : AreChanges d old gone typing) where
    ends : EndsBy at old
    ends = reached-ends old (f.typed sure)

    fit : AllFit text old
    fit = reached-fit old f.back

    pub reached-AreChanges : (w : Split) (past undone : List Splice) → w ≡ d → past ≡ first_reached text at old → undone ≡ gone → AreChanges w past undone typing
    reached-AreChanges w past undone g e k =
        let P : List Splice → Type 0 = λ l. AllFit text l in
        let Q : List ℕ → Type 0 = λ t. AllFit t past in
        let back : AllFit text past =
        subst P (ended-reached text at old ∙ sym e) (grown-AllFit text text at at refl refl (omega arith) u u place old ends fit) in
        let E : List Splice → Type 0 = λ l. EndsBy at l in
        let N : ℕ → Type 0 = λ n. EndsBy n past in
        let reach : EndsBy (bytes_before d) past =
        subst N here (subst E (ended-reached text at old ∙ sym e) (ends-grown text at at at old (omega arith))) in
        let D : Split → Type 0 = λ x. AreChanges x past undone typing in
        let G : List Splice → Type 0 = λ l. AreChanges d past l typing in
        subst D (sym g) (subst G (sym k) (record { back = subst Q text-bytes back; forth = f.forth; typed = λ _. reach }))

    pub seen_reached : (w : Split) (past undone : List Splice) → w ≡ d → past ≡ first_reached text at old → undone ≡ gone → (s : DraftState) → seen d old gone typing ≡ s
        → seen w past undone typing ≡ s
    seen_reached w past undone g e k s is =
        let lines : lines_by text past ≡ lines_by text old =
        ap (lines_by text) (e ∙ sym (ended-reached text at old)) ∙ grown-lines text text at at refl refl (omega arith) u u place old ends fit in
        let lines-d : lines_by (line_bytes d) past ≡ lines_by (line_bytes d) old =
        ap (λ t. lines_by t past) (sym text-bytes) ∙ lines ∙ ap (λ t. lines_by t old) text-bytes in
        ap (λ (x : Split). seen x past undone typing) g ∙ ap (λ l. seen d past l typing) k
        ∙ ap (λ (l : List Split). record { line = d; past = l; undone = lines_by (line_bytes d) gone; typing = typing }) lines-d ∙ is

    module _ (e : line_bytes w ≡ insert_slice (line_bytes d) (bytes_before d) with) (g : end ≡ bytes_before d + length with) where
      new-is : line_bytes w ≡ (take at text ++ with) ++ drop at text
      new-is =
          e ∙ ap (λ t. insert_slice t (bytes_before d) with) (sym text-bytes) ∙ ap (λ n. insert_slice text n with) (sym here)

      width : length (take at text) ≡ at
      width = length-take-le at text place.0

      both : length (take at text ++ with) ≡ end
      both = omega (arith, length-append (take at text) with, width, here, g)

      front : take at (line_bytes w) ≡ take at text
      front =
          ap (take at) (new-is ∙ append_assoc (take at text) with (drop at text)) ∙ take_at (take at text) (with ++ drop at text) at width

      last : drop end (line_bytes w) ≡ drop at text
      last = ap (drop end) new-is ∙ drop_at (take at text ++ with) (drop at text) end both

      on : at ≤ end
      on = omega (arith, here, g)

      new-utf8 : IsUtf8 (line_bytes w)
      new-utf8 =
          subst IsUtf8 (sym new-is) (IsUtf8-append (take at text ++ with) (drop at text) (IsUtf8-append (take at text) with (IsUtf8-take text at u place) v) (IsUtf8-drop text at u place))

      new-boundary : IsCharBoundary (line_bytes w) end
      new-boundary =
          let P : ℕ → Type 0 = λ n. IsCharBoundary (line_bytes w) n in
          subst P both (IsCharBoundary-at_seam (line_bytes w) (take at text ++ with) (drop at text) new-is (IsUtf8-drop text at u place))

      pub grown-AreChanges : (past undone : List Splice) → past ≡ first_ended end (first_reached text at old) → undone ≡ [] → end ≤ bytes_before w
          → AreChanges w past undone typing
      grown-AreChanges past undone k n le =
          let P : List Splice → Type 0 = λ l. AllFit (line_bytes w) l in
          let Q : List Splice → Type 0 = λ l. EndsBy (bytes_before w) l in
          record {
            back = subst P (sym k) (grown-AllFit text (line_bytes w) at end front last on u new-utf8 new-boundary old ends fit);
            forth = subst P (sym n) tt;
            typed = λ _. subst Q (sym k) (ends-grown text at end (bytes_before w) old le);
          }

      pub seen_grown : (past undone : List Splice) → past ≡ first_ended end (first_reached text at old) → undone ≡ [] → (s : DraftState) → seen d old gone typing ≡ s
          → w ≡ inserted (chars with) d → seen w past undone typing ≡ record s { line = inserted (chars with) s.line; undone = [] }
      seen_grown past undone k n s is made =
          let lines : lines_by (line_bytes w) past ≡ lines_by (line_bytes d) old =
          ap (lines_by (line_bytes w)) k ∙ grown-lines text (line_bytes w) at end front last on u new-utf8 new-boundary old ends fit
          ∙ ap (λ t. lines_by t old) text-bytes in
          ap (λ l. seen w past l typing) n ∙ ap (λ (l : List Split). record { line = w; past = l; undone = []; typing = typing }) lines
          ∙ ap (λ (x : Split). record { line = x; past = lines_by (line_bytes d) old; undone = []; typing = typing }) made
          ∙ ap (λ (x : DraftState). record x { line = inserted (chars with) x.line; undone = [] }) is

pub typed_more : (steps : ℕ) (d : Split) (s : DraftState) → s.typing ≡ true → record s { line = d; undone = [] } ≡ draft_typed steps d s
typed_more steps d s sure = rw sure refl

nil-from_length : {X : Type 0} (items : List X) → length items ≡ 0 → items ≡ []
nil-from_length [] none = refl
nil-from_length (x ∷ items) none = absurd (omega (arith, none))

-- Undo and redo.
module _ (d : Split) (old gone : List Splice) (typing : Bool) (s : DraftState) (is : seen d old gone typing ≡ s) where
  pub undone_none : length old ≡ 0 → s ≡ draft_undone s.past s
  undone_none none =
      let nothing : old ≡ [] = nil-from_length old none in
      let e : s.past ≡ [] = ap (λ (x : DraftState). x.past) (sym is) ∙ ap (lines_by (line_bytes d)) nothing in
      sym (ap (λ (l : List Split). draft_undone l s) e)

  pub redone_none : length gone ≡ 0 → s ≡ draft_redone s.undone s
  redone_none none =
      let nothing : gone ≡ [] = nil-from_length gone none in
      let e : s.undone ≡ [] = ap (λ (x : DraftState). x.undone) (sym is) ∙ ap (lines_by (line_bytes d)) nothing in
      sym (ap (λ (l : List Split). draft_redone l s) e)

undone_parts : (c : Splice) (changes : List Splice) (d : Split) (gone : List Splice) (typing : Bool) (w : Split) (past undone : List Split)
    → w ≡ first_or d (lines_by (line_bytes d) (c ∷ changes)) → past ≡ rest_of (lines_by (line_bytes d) (c ∷ changes))
    → undone ≡ pushed_if (lines_by (line_bytes d) (c ∷ changes)) d (lines_by (line_bytes d) gone)
    → record { line = w; past = past; undone = undone; typing = false } ≡ draft_undone (lines_by (line_bytes d) (c ∷ changes)) (seen d (c ∷ changes) gone typing)
undone_parts c changes d gone typing w past undone e f g = rw (e, f, g) refl

pub seen_undone : (d : Split) (old gone : List Splice) (typing : Bool) (s : DraftState) → seen d old gone typing ≡ s → (length old ≡ 0 → ⊥)
    → (w : Split) (past undone : List Splice) → w ≡ first_or d (lines_by (line_bytes d) old) → lines_by (line_bytes w) past ≡ rest_of (lines_by (line_bytes d) old)
    → lines_by (line_bytes w) undone ≡ pushed_if (lines_by (line_bytes d) old) d (lines_by (line_bytes d) gone)
    → seen w past undone false ≡ draft_undone s.past s
seen_undone d [] gone typing s is some w past undone e f g = absurd (some refl)
seen_undone d (c ∷ changes) gone typing s is some w past undone e f g =
    undone_parts c changes d gone typing w _ _ e f g ∙ ap (λ (x : DraftState). draft_undone x.past x) is

redone_parts : (c : Splice) (changes : List Splice) (d : Split) (old : List Splice) (typing : Bool) (w : Split) (past undone : List Split)
    → w ≡ first_or d (lines_by (line_bytes d) (c ∷ changes)) → undone ≡ rest_of (lines_by (line_bytes d) (c ∷ changes))
    → past ≡ pushed_if (lines_by (line_bytes d) (c ∷ changes)) d (lines_by (line_bytes d) old)
    → record { line = w; past = past; undone = undone; typing = false } ≡ draft_redone (lines_by (line_bytes d) (c ∷ changes)) (seen d old (c ∷ changes) typing)
redone_parts c changes d old typing w past undone e f g = rw (e, f, g) refl

pub seen_redone : (d : Split) (old gone : List Splice) (typing : Bool) (s : DraftState) → seen d old gone typing ≡ s → (length gone ≡ 0 → ⊥)
    → (w : Split) (past undone : List Splice) → w ≡ first_or d (lines_by (line_bytes d) gone) → lines_by (line_bytes w) undone ≡ rest_of (lines_by (line_bytes d) gone)
    → lines_by (line_bytes w) past ≡ pushed_if (lines_by (line_bytes d) gone) d (lines_by (line_bytes d) old)
    → seen w past undone false ≡ draft_redone s.undone s
seen_redone d old [] typing s is some w past undone e f g = absurd (some refl)
seen_redone d old (c ∷ changes) typing s is some w past undone e f g =
    redone_parts c changes d old typing w _ _ e f g ∙ ap (λ (x : DraftState). draft_redone x.undone x) is

pub stepped-AreChanges : (w : Split) (past undone : List Splice) → AllFit (line_bytes w) past → AllFit (line_bytes w) undone → AreChanges w past undone false
stepped-AreChanges w past undone f g = record { back = f; forth = g; typed = λ off. absurd (false≢true off) }

-- What is so anyhow is so on an error.
pub on_err : {T E Q : Type 0} (r : Result T E) → Q → OnErr r Q
on_err (Ok a) q = tt
on_err (Err e) q = q
