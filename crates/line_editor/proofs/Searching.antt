-- A search through lines, one after another.
use Rattle.std.proofs.Common.{◌≡◌, ℕ, ◌+◌, List, [], ◌∷◌, ◌++◌, reverse, drop, refl, sym, ap, ◌∙◌, add-one, append-nil, arith}
use Rattle.std.proofs.lemmas.Slice.Eq.{bytes_eq-Decides}
use Rattle.std.proofs.lemmas.Str.{encodes-chars}
use Rattle.std.specs.Prelude.{Bool, Option, ◌-◌, ◌<◌, true, false, Some, None, zero, suc, encode_utf8_all, slice_get}
use Rattle.std.specs.Option.{option_and_then, option_map}
use Rattle.std.specs.Str.{bytes_eq, chars, IsUtf8}
use Rattle.line_editor.specs.declared.last.Last.TheVariants.{Other, Seeking, Took, Walked, Yanked}
use Rattle.line_editor.specs.declared.last.Seek.{Seek}
use Rattle.line_editor.specs.Splits.{Split, split_at, line_text}
use Rattle.line_editor.specs.Edits.{line_with, settled}
use Rattle.line_editor.specs.Kills.{kept_by}
use Rattle.line_editor.specs.States.{EditorState, first_with, found_line, found_newer, last_with, newer_from, other_rest, rest_at, rest_or, searched_forward, searched_to, sought}
use Rattle.line_editor.proofs.Stepping.{chars_before-start}

-- The lines from one on: its own text, and the lines behind it.
pub from_line : (xs : List Split) (at : ℕ) (t : List ℕ) → Some t ≡ option_map line_text (slice_get xs at)
    → (d : Split) × (drop at xs ≡ d ∷ drop (suc at) xs) × (line_text d ≡ t)
from_line [] at t e = cc
from_line (x ∷ xs) zero t e = (x, refl, sym (some_same t (line_text x) e))
  where
    some_same : (a b : List ℕ) → Some a ≡ Some b → a ≡ b
    some_same a b e = cc
from_line (x ∷ xs) (suc at) t e = from_line xs at t e

pub past_lines : (xs : List Split) (at : ℕ) → None ≡ option_map line_text (slice_get xs at) → (drop at xs ≡ []) × (drop (suc at) xs ≡ [])
past_lines [] zero e = (refl, refl)
past_lines [] (suc at) e = (refl, refl)
past_lines (x ∷ xs) zero e = cc
past_lines (x ∷ xs) (suc at) e = past_lines xs at e

pub search_step : (front shown : List ℕ) (xs : List Split) (at : ℕ) (t : List ℕ) → Some t ≡ option_map line_text (slice_get xs at)
    → first_with front shown at (drop at xs) ≡ rest_or (other_rest front shown t) (at + 1) (first_with front shown (at + 1) (drop (at + 1) xs))
search_step front shown xs at t e =
    let line = from_line xs at t e in
    let next : suc at ≡ at + 1 = sym (add-one at) in
    ap (first_with front shown at) line.1
    ∙ ap (λ s. rest_or (other_rest front shown s) (at + 1) (first_with front shown (at + 1) (drop (suc at) xs))) line.2
    ∙ ap (λ n. rest_or (other_rest front shown t) (at + 1) (first_with front shown (at + 1) (drop n xs))) next

pub search_past : (front shown : List ℕ) (xs : List Split) (at : ℕ) → None ≡ option_map line_text (slice_get xs at)
    → first_with front shown at (drop at xs) ≡ first_with front shown (at + 1) (drop (at + 1) xs)
search_past front shown xs at e =
    let none = past_lines xs at e in
    let next : suc at ≡ at + 1 = sym (add-one at) in
    ap (first_with front shown at) none.0 ∙ ap (first_with front shown (at + 1)) (sym none.1 ∙ ap (λ n. drop n xs) next)

-- A line and those that are newer, from one on.
rest_of_line : (front shown : List ℕ) (o : Option Split) (t : List ℕ) → Some t ≡ option_map line_text o
    → option_and_then (λ (d : Split). other_rest front shown (line_text d)) o ≡ other_rest front shown t
rest_of_line front shown (Some d) t e = ap (other_rest front shown) (sym (some_same t (line_text d) e))
  where
    some_same : (a b : List ℕ) → Some a ≡ Some b → a ≡ b
    some_same a b e = cc
rest_of_line front shown None t e = cc

no_rest : (front shown : List ℕ) (o : Option Split) → None ≡ option_map line_text o → option_and_then (λ (d : Split). other_rest front shown (line_text d)) o ≡ None
no_rest front shown (Some d) e = cc
no_rest front shown None e = refl

last_step : (front shown : List ℕ) (xs : List Split) (n : ℕ) → 0 < n
    → last_with front shown n xs ≡ rest_or (rest_at front shown (n - 1) xs) n (last_with front shown (n - 1) xs)
last_step front shown xs zero some = absurd (omega (arith, some))
last_step front shown xs (suc n) some =
    let e : suc n - 1 ≡ n = omega arith in
    rw e (ap (λ k. rest_or (rest_at front shown n xs) k (last_with front shown n xs)) (add-one n))

pub newer_step : (front shown : List ℕ) (xs : List Split) (n : ℕ) (t : List ℕ) → 0 < n → Some t ≡ option_map line_text (slice_get xs (n - 1))
    → last_with front shown n xs ≡ rest_or (other_rest front shown t) n (last_with front shown (n - 1) xs)
newer_step front shown xs n t some e =
    last_step front shown xs n some
    ∙ ap (λ o. rest_or o n (last_with front shown (n - 1) xs)) (rest_of_line front shown (slice_get xs (n - 1)) t e)

pub newer_past : (front shown : List ℕ) (xs : List Split) (n : ℕ) → 0 < n → None ≡ option_map line_text (slice_get xs (n - 1))
    → last_with front shown n xs ≡ last_with front shown (n - 1) xs
newer_past front shown xs n some e =
    last_step front shown xs n some
    ∙ ap (λ o. rest_or o n (last_with front shown (n - 1) xs)) (no_rest front shown (slice_get xs (n - 1)) e)

-- A search forward, with nothing to look for and with a text.
module _ (w : EditorState) (text : List ℕ) (e : text ≡ sought w) where
  pub forward_none : text ≡ [] → newer_from w.back w ≡ searched_forward (sought w) w
  forward_none none = sym (ap (λ t. searched_forward t w) (sym e ∙ none))

  pub forward_some : (c : ℕ) (rest : List ℕ) → text ≡ c ∷ rest → searched_to (found_newer w) w ≡ searched_forward (sought w) w
  forward_some c rest some = sym (ap (λ t. searched_forward t w) (sym e ∙ some))

-- A line of two texts.
pub parts_as : (before after : List ℕ) → line_with (split_at after 0) (chars before) (split_at after 0) ≡ settled (record { before = reverse (chars before); after = chars after })
parts_as before after =
    ap (λ t. settled (record { before = reverse (chars before) ++ t; after = chars after })) (chars_before-start after)
    ∙ ap (λ t. settled (record { before = t; after = chars after })) (append-nil (reverse (chars before)))

-- A line that was found, if nothing was looked for.
pub found-any : (front rest none : List ℕ) → front ≡ [] → none ≡ [] → settled (record { before = reverse rest; after = none }) ≡ found_line front rest
found-any front rest none e f = ap (λ t. settled (record { before = reverse rest; after = t })) f ∙ ap (λ t. found_line t rest) (sym e)

-- A search that goes on for any line.
pub sought-any : (w : EditorState) → w.last ≡ Walked → [] ≡ sought w
sought-any w on = rw on refl

-- Nothing to join the text of a kill to.
pub kept-other : (w : EditorState) → w.last ≡ Other → [] ≡ kept_by w.last w.kills
kept-other w is = rw is refl

pub kept-walked : (w : EditorState) → w.last ≡ Walked → [] ≡ kept_by w.last w.kills
kept-walked w is = rw is refl

pub kept-seeking : (w : EditorState) (s : Seek) → w.last ≡ Seeking s → [] ≡ kept_by w.last w.kills
kept-seeking w s is = rw is refl

pub kept-yanked : (w : EditorState) → w.last ≡ Yanked → [] ≡ kept_by w.last w.kills
kept-yanked w is = rw is refl

pub kept-took : (w : EditorState) (at : ℕ) → w.last ≡ Took at → [] ≡ kept_by w.last w.kills
kept-took w at is = rw is refl

-- Two texts are the same if their characters are.
pub same-chars : (x y : List ℕ) → IsUtf8 x → IsUtf8 y → bytes_eq x y ≡ bytes_eq (chars x) (chars y)
same-chars x y u v =
    let bytes = bytes_eq-Decides x y in
    let all = bytes_eq-Decides (chars x) (chars y) in
    both-so (bytes_eq x y) (bytes_eq (chars x) (chars y)) (λ h. all.1 (ap chars (bytes.0 h)))
    (λ h. bytes.1 (sym (encodes-chars x u) ∙ ap encode_utf8_all (all.0 h) ∙ encodes-chars y v))
  where
    both-so : (a b : Bool) → (a ≡ true → b ≡ true) → (b ≡ true → a ≡ true) → a ≡ b
    both-so true b f g = sym (f refl)
    both-so false true f g = g refl
    both-so false false f g = refl
