-- Edits of lines that are held give lines that are held.
use Rattle.std.proofs.Common.{◌≡◌, ℕ, ◌+◌, ◌-◌, ◌≤◌, List, [], ◌∷◌, ◌++◌, length, reverse, take, drop, refl, sym, subst, ap, ◌∙◌, inl, inr, arith, append-nil, append_assoc, length-append}
use Rattle.std.proofs.lemmas.Bool.{cases_Bool}
use Rattle.std.proofs.lemmas.List.{reverse-append, reverse-reverse}
use Rattle.std.proofs.lemmas.Str.{encodes-append}
use Rattle.std.specs.Prelude.{Option, Some, None, IfSome, encode_utf8_all, slice_get, suc, zero}
use Rattle.std.specs.List.{AllByRecursion}
use Rattle.std.specs.Option.{option_and_then}
use Rattle.std.specs.Str.{bytes_eq}
use Rattle.line_editor.specs.declared.last.Last.{Last}
use Rattle.line_editor.specs.declared.last.Last.TheVariants.{Killed, Other, Seeking, Took, Walked, Yanked}
use Rattle.line_editor.specs.declared.limits.Limits.{Limits}
use Rattle.line_editor.specs.declared.places.Stop.TheVariants.{Cluster, Edge}
use Rattle.line_editor.specs.declared.places.Target.{Target}
use Rattle.line_editor.specs.declared.places.Target.TheVariants.{Back, Forward}
use Rattle.line_editor.specs.Bounded.{IsHeld, IsKept}
use Rattle.line_editor.specs.Bounds.{size}
use Rattle.line_editor.specs.Edits.{cut_text, reach_end, erased, from_to, inserted, line_with, meeting, settled, start_of, transposed}
use Rattle.line_editor.specs.Places.{target_place, stops}
use Rattle.line_editor.specs.Shown.{AreIn}
use Rattle.line_editor.specs.Splits.{Split, ahead, line_text}
use Rattle.line_editor.specs.States.{before_yanked, first_with, found_line, last_with, other_rest, rest_at, rest_or}
use Rattle.line_editor.proofs.Keeping.{cuts_out, ends-IsFrom, from_to-IsFrom, keeps_text, text_of-IsFrom, text_of-joined, writes_at}
use Rattle.line_editor.proofs.Ringing.{behind-front, some-weaker}
use Rattle.line_editor.proofs.Showing.{shown-append, shown-back, shown-front}

pub size-append : (a b : List ℕ) → size (a ++ b) ≡ size a + size b
size-append a b = ap length (encodes-append a b) ∙ length-append (encode_utf8_all a) (encode_utf8_all b)

-- A text that is held.
abbrev pub Holds : Limits → List ℕ → Type 0
Holds limits text = AreIn limits.multiline text × (size text ≤ limits.bytes)

module _ (limits : Limits) where
  pub held-same : (a b : List ℕ) → a ≡ b → Holds limits b → Holds limits a
  held-same a b e h = subst (Holds limits) (sym e) h

  pub held-moved : (target : Target) (d : Split) → IsHeld limits d → IsHeld limits (target_place target d)
  held-moved target d h = held-same (line_text (target_place target d)) (line_text d) (keeps_text target d) h

  pub held-inserted : (text : List ℕ) (d : Split) → IsHeld limits d → AreIn limits.multiline text → size text ≤ limits.bytes - size (line_text d) → IsHeld limits (inserted text d)
  held-inserted text d h k few =
      let front = reverse d.before in
      held-same (line_text (inserted text d)) (front ++ (text ++ d.after)) (writes_at text d) (
        shown-append limits.multiline front (text ++ d.after) (shown-front limits.multiline front d.after h.0) (shown-append limits.multiline text d.after k (shown-back limits.multiline front d.after h.0)),
        omega (arith, few, h.1, size-append front (text ++ d.after), size-append text d.after, size-append front d.after),
      )

  pub held-erased : (target : Target) (d : Split) → IsHeld limits d → IsHeld limits (erased target d)
  held-erased target d h =
      let front = reverse (start_of target d).before in
      let back = (reach_end target d).after in
      let piece = cut_text target d in
      let out = cuts_out target d in
      let all : Holds limits (front ++ (piece ++ back)) = held-same (front ++ (piece ++ back)) (line_text d) (sym out.was) h in
      held-same (line_text (erased target d)) (front ++ back) out.stays (
        shown-append limits.multiline front back (shown-front limits.multiline front (piece ++ back) all.0) (shown-back limits.multiline piece back (shown-back limits.multiline front (piece ++ back) all.0)),
        omega (arith, all.1, size-append front (piece ++ back), size-append piece back, size-append front back),
      )

  pub cut-shown : (target : Target) (d : Split) → IsHeld limits d → AreIn limits.multiline (cut_text target d)
  cut-shown target d h =
      let front = reverse (start_of target d).before in
      let back = (reach_end target d).after in
      let piece = cut_text target d in
      let all : Holds limits (front ++ (piece ++ back)) = held-same (front ++ (piece ++ back)) (line_text d) (sym (cuts_out target d).was) h in
      shown-front limits.multiline piece back (shown-back limits.multiline front (piece ++ back) all.0)

  meeting-text : (before after : List ℕ) → line_text (meeting before after) ≡ reverse before ++ after
  meeting-text before [] = keeps_text (Back Cluster) (record { before = before; after = [] })
  meeting-text before (c ∷ after) = refl

  pub held-transposed : (d : Split) → IsHeld limits d → IsHeld limits (transposed d)
  held-transposed d h =
      let m = meeting d.before d.after in
      let p = target_place (Back Cluster) m in
      let q = target_place (Forward Cluster) m in
      let left = ends-IsFrom (Back Cluster) m in
      let right = ends-IsFrom (Forward Cluster) m in
      let x = from_to p m in
      let y = from_to m q in
      let front = reverse p.before in
      let first : x ≡ left.0 = from_to-IsFrom p m left.0 left.1 in
      let second : y ≡ right.0 = from_to-IsFrom m q right.0 right.1 in
      let text : line_text m ≡ front ++ (x ++ (y ++ q.after)) =
      text_of-IsFrom p m left.0 left.1
      ∙ ap (λ t. front ++ t) (left.1.after ∙ ap (λ t. t ++ m.after) (sym first))
      ∙ ap (λ t. front ++ (x ++ t)) (right.1.after ∙ ap (λ t. t ++ q.after) (sym second)) in
      let all : Holds limits (front ++ (x ++ (y ++ q.after))) =
      held-same (front ++ (x ++ (y ++ q.after))) (line_text d) (sym text ∙ meeting-text d.before d.after) h in
      let behind = shown-back limits.multiline front (x ++ (y ++ q.after)) all.0 in
      let later = shown-back limits.multiline x (y ++ q.after) behind in
      held-same (line_text (transposed d)) (front ++ ((y ++ x) ++ q.after)) (text_of-joined p (y ++ x) q) (
        shown-append limits.multiline front ((y ++ x) ++ q.after) (shown-front limits.multiline front (x ++ (y ++ q.after)) all.0)
            (shown-append limits.multiline (y ++ x) q.after (shown-append limits.multiline y x (shown-front limits.multiline y q.after later) (shown-front limits.multiline x (y ++ q.after) behind)) (shown-back limits.multiline y q.after later)),
        omega (
          arith,
          all.1,
          size-append front (x ++ (y ++ q.after)),
          size-append x (y ++ q.after),
          size-append y q.after,
          size-append front ((y ++ x) ++ q.after),
          size-append (y ++ x) q.after,
          size-append y x,
        ),
      )

  -- Another text in place of the one before the cursor.
  pub held-replaced : (d : Split) (before old new : List ℕ) → IsHeld limits d → d.before ≡ reverse old ++ before → AreIn limits.multiline new
      → size new - size old ≤ limits.bytes - size (line_text d) → IsHeld limits (line_with (record { before = before; after = [] }) new d)
  held-replaced d before old new h e k few =
      let front = reverse before in
      let back = d.after in
      let parts : line_text d ≡ front ++ (old ++ back) =
      ap (λ t. reverse t ++ back) e ∙ ap (λ t. t ++ back) (reverse-append (reverse old) before ∙ ap (λ t. front ++ t) (reverse-reverse old))
      ∙ append_assoc front old back in
      let all : Holds limits (front ++ (old ++ back)) = held-same (front ++ (old ++ back)) (line_text d) (sym parts) h in
      held-same (line_text (line_with (record { before = before; after = [] }) new d)) (front ++ (new ++ back)) (text_of-joined (record { before = before; after = [] }) new d) (
        shown-append limits.multiline front (new ++ back) (shown-front limits.multiline front (old ++ back) all.0) (shown-append limits.multiline new back k (shown-back limits.multiline old back (shown-back limits.multiline front (old ++ back) all.0))),
        omega (arith, few, h.1, ap size parts, size-append front (old ++ back), size-append old back, size-append front (new ++ back), size-append new back),
      )

  -- ---- lists

  pub all-take : (P : Split → Type 0) (n : ℕ) (lines : List Split) → AllByRecursion P lines → AllByRecursion P (take n lines)
  all-take P zero lines h = tt
  all-take P (suc n) [] h = tt
  all-take P (suc n) (d ∷ lines) h = (h.0, all-take P n lines h.1)

  pub all-get : (lines : List Split) (at : ℕ) → AllByRecursion (IsKept limits) lines → IfSome (slice_get lines at) (IsHeld limits)
  all-get [] at h = tt
  all-get (d ∷ lines) zero h = h.0.0
  all-get (d ∷ lines) (suc at) h = all-get lines at h.1

  pub all-drop : (lines : List Split) (at : ℕ) → AllByRecursion (IsKept limits) lines → AllByRecursion (IsKept limits) (drop at lines)
  all-drop lines zero h = h
  all-drop [] (suc at) h = tt
  all-drop (d ∷ lines) (suc at) h = all-drop lines at h.1

  -- ---- a search

  -- A front and what was found behind it.
  abbrev pub Found : List ℕ → ℕ × List ℕ → Type 0
  Found front found = Holds limits (front ++ found.1)

  or-else : (front : List ℕ) (o : Option (List ℕ)) (n : ℕ) (other : Option (ℕ × List ℕ)) → IfSome o (λ rest. Holds limits (front ++ rest))
      → IfSome other (Found front) → IfSome (rest_or o n other) (Found front)
  or-else front (Some rest) n other h k = h
  or-else front None n other h k = k

  other-rest : (front shown text : List ℕ) → IfSome (other_rest front shown text) (λ rest. text ≡ front ++ rest)
  other-rest front shown text = elim (cases_Bool (bytes_eq text shown)) [ inl same ↦ rw same tt | inr other ↦ rw other (behind-front front text) ]

  pub found-held : (front shown : List ℕ) (passed : ℕ) (lines : List Split) → AllByRecursion (IsKept limits) lines
      → IfSome (first_with front shown passed lines) (Found front)
  found-held front shown passed [] h = tt
  found-held front shown passed (d ∷ lines) h =
      or-else front (other_rest front shown (line_text d)) (passed + 1) (first_with front shown (passed + 1) lines)
      (some-weaker (λ rest. line_text d ≡ front ++ rest) (λ rest. Holds limits (front ++ rest)) (other_rest front shown (line_text d))
      (λ rest e. held-same (front ++ rest) (line_text d) (sym e) h.0.0) (other-rest front shown (line_text d)))
      (found-held front shown (passed + 1) lines h.1)

  of-held : (front shown : List ℕ) (o : Option Split) → IfSome o (IsHeld limits)
      → IfSome (option_and_then (λ (d : Split). other_rest front shown (line_text d)) o) (λ rest. Holds limits (front ++ rest))
  of-held front shown None h = tt
  of-held front shown (Some d) h =
      some-weaker (λ rest. line_text d ≡ front ++ rest) (λ rest. Holds limits (front ++ rest)) (other_rest front shown (line_text d))
      (λ rest e. held-same (front ++ rest) (line_text d) (sym e) h) (other-rest front shown (line_text d))

  pub last-held : (front shown : List ℕ) (n : ℕ) (lines : List Split) → AllByRecursion (IsKept limits) lines → IfSome (last_with front shown n lines) (Found front)
  last-held front shown zero lines h = tt
  last-held front shown (suc n) lines h =
      or-else front (rest_at front shown n lines) (n + 1) (last_with front shown n lines) (of-held front shown (slice_get lines n) (all-get lines n h))
      (last-held front shown n lines h)

  held-settled : (before after : List ℕ) → Holds limits (reverse before ++ after) → IsHeld limits (settled (record { before = before; after = after }))
  held-settled before after h =
      let p : Split = record { before = before; after = [] } in
      let q : Split = record { before = []; after = after } in
      held-same (line_text (settled (record { before = before; after = after }))) (reverse before ++ after) (text_of-joined p [] q) h

  pub held-found : (front rest : List ℕ) → Holds limits (front ++ rest) → IsHeld limits (found_line front rest)
  held-found [] rest h = held-same (reverse (reverse rest) ++ []) rest (append-nil (reverse (reverse rest)) ∙ reverse-reverse rest) h
  held-found (c ∷ front) rest h =
      held-settled (reverse (c ∷ front)) rest (held-same (reverse (reverse (c ∷ front)) ++ rest) ((c ∷ front) ++ rest) (ap (λ t. t ++ rest) (reverse-reverse (c ∷ front))) h)

-- What is before a text that was yanked last.
pub yank-before : (last : Last) (text before : List ℕ) → IfSome (before_yanked last text before) (λ rest. before ≡ reverse text ++ rest)
yank-before Yanked text before = behind-front (reverse text) before
yank-before Other text before = tt
yank-before Walked text before = tt
yank-before Killed text before = tt
yank-before (Took at) text before = tt
yank-before (Seeking s) text before = tt

-- The end of a line has nothing behind it.
pub edge-end : (before after : List ℕ) → (ahead (stops Edge) before after).after ≡ []
edge-end before [] = refl
edge-end before (c ∷ after) = edge-end (c ∷ before) after

pub end-after : (d : Split) → (target_place (Forward Edge) d).after ≡ []
end-after d = by d.before d.after
  where
    by : (before after : List ℕ) → (target_place (Forward Edge) (record { before = before; after = after })).after ≡ []
    by before [] = refl
    by before (c ∷ after) = edge-end (c ∷ before) after
