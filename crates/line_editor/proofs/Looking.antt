-- What an incremental search comes to.
use Rattle.std.proofs.Common.{◌≡◌, ℕ, ◌-◌, true, false, List, [], ◌∷◌, refl, ap, ◌∙◌, inl, inr}
use Rattle.std.proofs.lemmas.Bool.{cases_Bool}
use Rattle.std.specs.Prelude.{Bool, Option, Some, None, is_some, ◌&&◌, ◌==◌, slice_get}
use Rattle.line_editor.specs.Edits.{inserted}
use Rattle.line_editor.specs.Seeking.{brought, contains, found_here, has_found, is_ahead, is_more, rings_more, rings_with, sought_more, sought_on, sought_with}
use Rattle.line_editor.specs.Splits.{Split, line_text}
use Rattle.line_editor.specs.States.{EditorState, behind_front, brought_to, gone_to}

pub contains_here : (pattern text : List ℕ) → is_some (behind_front pattern text) ≡ true → contains pattern text ≡ true
contains_here pattern [] h = h
contains_here pattern (c ∷ text) h = rw h refl

module _ (w : EditorState) where
  pub brought_there : (number : ℕ) → (has_found w.last && w.back == number) ≡ true → w ≡ brought number w
  brought_there number there = rw there refl

  pub brought_new : (number : ℕ) → (has_found w.last && w.back == number) ≡ false → gone_to number (slice_get w.history (number - 1)) w ≡ brought number w
  brought_new number new = rw new refl

  -- A search keeps what was looked for.
  search-brought_to : (place : ℕ) (d : Split) → (brought_to place d w).search ≡ w.search
  search-brought_to place d = elim (cases_Bool (place == w.back)) [ inl here ↦ rw here refl | inr other ↦ rw other refl ]

  search-gone : (place : ℕ) (o : Option Split) → (gone_to place o w).search ≡ w.search
  search-gone place None = refl
  search-gone place (Some d) = search-brought_to place d

  search-brought : (number : ℕ) → (brought number w).search ≡ w.search
  search-brought number =
      elim (cases_Bool (has_found w.last && w.back == number)) [
        | inl there ↦ rw there refl
        | inr new ↦ rw new (search-gone number (slice_get w.history (number - 1)))
      ]

  search-sought : (ahead : Bool) (o : Option ℕ) → (sought_on ahead o w).search ≡ w.search
  search-sought ahead None = refl
  search-sought ahead (Some number) = search-brought number

  -- It goes on with another pattern.
  pub sought_with_as : (v : EditorState) (pattern : Split) (text : List ℕ) (found : Option ℕ) (ahead : Bool) → text ≡ line_text pattern → ahead ≡ is_ahead w.last
      → found ≡ found_here text (is_ahead w.last) w → v ≡ sought_on ahead found w
      → record v { search = record v.search { pattern = pattern } } ≡ sought_with pattern w
  sought_with_as v pattern text found ahead is way here g =
      let to = is_ahead w.last in
      let all = found_here (line_text pattern) to w in
      ap (λ (x : EditorState). record x { search = record x.search { pattern = pattern } })
      (g ∙ ap (λ b. sought_on b found w) way ∙ ap (λ o. sought_on to o w) (here ∙ ap (λ t. found_here t to w) is))
      ∙ ap (λ s. record (sought_on to all w) { search = record s { pattern = pattern } }) (search-sought to all)

  module _ (c : ℕ) (more : is_more c w ≡ true) where
    pub more_some : sought_with (inserted (c ∷ []) w.search.pattern) w ≡ sought_more c w
    more_some = rw more refl

    pub more_rings : rings_with (line_text (inserted (c ∷ []) w.search.pattern)) w ≡ rings_more c w
    more_rings = rw more refl
