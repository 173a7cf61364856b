-- Events, one after another.
use Rattle.std.proofs.Common.{◌≡◌, ◌∙◌, ℕ, ◌+◌, ◌<◌, false, List, [], ◌∷◌, ◌++◌, length, map, take, drop, get_or, refl, sym, ap, append_assoc, append-nil}
use Rattle.std.proofs.lemmas.List.{map-append, take-append-drop, take_more}
use Rattle.crossterm_types.specs.Seen.{Seen}
use Rattle.line_editor.specs.Bounds.{is_too_long}
use Rattle.line_editor.specs.States.{EditorState}
use Rattle.line_editor.specs.Turns.{AreTaken, after_events, answer, event_more, lines_in, lines_of_events, task_of, turned}

-- Of a list that is looked at item by item: one item more, and what is left.
module _ {X Y : Type 0} (f : X → Y) (xs : List X) (i : ℕ) (x : X) (l : i < length xs) (is : x ≡ get_or xs i x) where
  pub seen_more : map f (take (i + 1) xs) ≡ map f (take i xs) ++ f x ∷ []
  seen_more =
      ap (map f) (take_more xs i x l) ∙ map-append f (take i xs) (get_or xs i x ∷ []) ∙ ap (λ y. map f (take i xs) ++ f y ∷ []) (sym is)

  pub seen_parts : map f xs ≡ map f (take i xs) ++ f x ∷ map f (drop (i + 1) xs)
  seen_parts =
      ap (map f) (sym (take-append-drop (i + 1) xs)) ∙ map-append f (take (i + 1) xs) (drop (i + 1) xs)
      ∙ ap (λ t. t ++ map f (drop (i + 1) xs)) seen_more ∙ append_assoc (map f (take i xs)) (f x ∷ []) (map f (drop (i + 1) xs))

-- One event more.
pub made_end : (events : List Seen) (e : Seen) (w : EditorState) → after_events (events ++ e ∷ []) w ≡ turned e (after_events events w)
made_end [] e w = refl
made_end (x ∷ events) e w = made_end events e (turned x w)

pub taken_end : (events : List Seen) (e : Seen) (w : EditorState) → AreTaken events w
    → is_too_long (event_more e (after_events events w)) (after_events events w) ≡ false → AreTaken (events ++ e ∷ []) w
taken_end [] e w all last = (last, tt)
taken_end (x ∷ events) e w all last = (all.0, taken_end events e (turned x w) all.1 last)

pub lines_end : (events : List Seen) (e : Seen) (w : EditorState)
    → lines_of_events (events ++ e ∷ []) w ≡ lines_of_events events w ++ lines_in (answer (task_of e (after_events events w)) (after_events events w))
lines_end [] e w = append-nil (lines_in (answer (task_of e w) w))
lines_end (x ∷ events) e w =
    let first = lines_in (answer (task_of x w) w) in
    ap (λ t. first ++ t) (lines_end events e (turned x w))
    ∙ sym (append_assoc first (lines_of_events events (turned x w)) (lines_in (answer (task_of e (after_events events (turned x w))) (after_events events (turned x w)))))
