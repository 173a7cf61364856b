use Rattle.std.proofs.Common.{◌≡◌, ◌≤◌, ◌<◌, ◌+◌, ◌-◌, ◌++◌, ◌∷◌, [], List, ℕ, Bool, option_to_list, take, drop, length, arith, refl, inr, ◌∙◌, ap, sym, length-drop}
use Rattle.std.proofs.lemmas.List.{length-take-le}
use Rattle.std.specs.Option.{option_map}
use Rattle.crossterm_types.specs.Seen.{Seen, seen}
use Rattle.crossterm_parse.specs.Marked.{marked}
use Rattle.crossterm_read.specs.Answers.{Failed}
use Rattle.crossterm_read.specs.Sources.{without_event}
use Rattle.crossterm_read.proofs.Turning.{hands_next, gives_some, gives_none, left_after, none_left, some_left, without_some}
use Rattle.crossterm_read.proofs.source.DeviceSource.hand.Goals as goal

-- what is left once a front was taken
after_front : (from n end : ℕ) (buffer : List ℕ) (more raw : Bool) → from ≤ end → end ≤ length buffer → n ≤ length (take (end - from) (drop from buffer))
    → marked (take (end - (from + n)) (drop (from + n) buffer)) more raw ≡ marked (drop n (take (end - from) (drop from buffer))) more raw
after_front from n end buffer more raw f h t =
    let e : length (take (end - from) (drop from buffer)) ≡ end - from = length-take-le (end - from) (drop from buffer) (omega (arith, length-drop from buffer)) in
    ap (λ (l : List ℕ). marked l more raw) (left_after from n end buffer (omega arith))

-- the end is above the beginning of the rest
end_above : (from n end : ℕ) (buffer : List ℕ) → from ≤ end → end ≤ length buffer → n ≤ length (take (end - from) (drop from buffer)) → (from + n ≡ end → ⊥) → from + n < end
end_above from n end buffer f h t ne =
    let e : length (take (end - from) (drop from buffer)) ≡ end - from = length-take-le (end - from) (drop from buffer) (omega (arith, length-drop from buffer)) in
    omega (arith, ne)

not_none : (e : Seen) (es : List Seen) → e ∷ es ≡ [] → ⊥
not_none e es h = cc

pub returns-in-Some-clause-hands : goal.returns-in-Some-clause-hands
returns-in-Some-clause-hands g c =
    let new = c.take_first-event.new.self in
    let t = c.take_first-event.ensures.first in
    let empty : c.self.inside.parser.waiting ≡ [] = ap (λ s. s.parser.waiting) c.self.view_is ∙ c.requires in
    let given : t.mid.waiting ≡ seen c.in-Some.event ∷ new.waiting = t.given ∙ ap (λ e. option_to_list (option_map seen e) ++ new.waiting) c.in-Some.is in
    hands_next _ _ t.mid new _ c.self.inside.device c.take_first-event.result.1 _ _ _ _ c.self.view_is c.requires refl t.within
    (after_front _ _ _ _ _ _ (omega arith) (omega arith) t.within) t.divided (λ quiet. t.quiet empty quiet) (t.stops (inr empty)) (λ none. absurd (not_none _ _ (sym given ∙ none))) t.represents
    (λ after. gives_some t.mid.waiting new.waiting _ _ after new.room given)

pub returns-then-self-clause-hands : goal.returns-then-self-clause-hands
returns-then-self-clause-hands g c =
    let new = c.take_first-event.new.self in
    let t = c.take_first-event.ensures.first in
    let empty : c.self.inside.parser.waiting ≡ [] = ap (λ s. s.parser.waiting) c.self.view_is ∙ c.requires in
    let none : new.waiting ≡ [] = t.none (ap (λ e. option_map seen e) c.in_default.is) in
    let first : t.mid.waiting ≡ [] = t.given ∙ ap (λ e. option_to_list (option_map seen e) ++ new.waiting) c.in_default.is ∙ none in
    hands_next _ _ t.mid new _ c.self.inside.device c.take_first-event.result.1 _ _ _ _ c.self.view_is c.requires refl t.within
    (after_front _ _ _ _ _ _ (omega arith) (omega arith) t.within) t.divided (λ quiet. t.quiet empty quiet) (t.stops (inr empty)) (λ e. t.full (ap (λ e. option_map seen e) c.in_default.is)) t.represents
    (λ after. gives_none t.mid.waiting new.waiting _ _ after new.room first none (sym (ap without_event (none_left _ _ _ _ _ c.if-self.true))))

pub returns-clause-hands : goal.returns-clause-hands
returns-clause-hands g c =
    let new = c.take_first-event.new.self in
    let t = c.take_first-event.ensures.first in
    let empty : c.self.inside.parser.waiting ≡ [] = ap (λ s. s.parser.waiting) c.self.view_is ∙ c.requires in
    let none : new.waiting ≡ [] = t.none (ap (λ e. option_map seen e) c.in_default.is) in
    let first : t.mid.waiting ≡ [] = t.given ∙ ap (λ e. option_to_list (option_map seen e) ++ new.waiting) c.in_default.is ∙ none in
    hands_next _ _ t.mid new _ c.self.inside.device c.take_first-event.result.1 _ _ _ _ c.self.view_is c.requires refl t.within
    (after_front _ _ _ _ _ _ (omega arith) (omega arith) t.within) t.divided (λ quiet. t.quiet empty quiet) (t.stops (inr empty)) (λ e. t.full (ap (λ e. option_map seen e) c.in_default.is)) t.represents
    (λ after. gives_none t.mid.waiting new.waiting _ _ after new.room first none
    (ap Failed c.from.ensures ∙ sym (without_some _ (some_left (c.self.inside.from + c.take_first-event.result.1) c.self.inside.end c.self.inside.buffer _ _ (end_above _ _ _ _ (omega arith) (omega arith) t.within c.if-self.false) (omega arith)))))
