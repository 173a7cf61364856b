-- The first event of a piece.
use Rattle.std.proofs.Common.{◌≡◌, ◌≢◌, ◌≤◌, ◌<◌, inl, inr, ℕ, ◌+◌, Bool, List, [], ◌∷◌, ◌++◌, length, take, drop, Option, Some, None, IfNone, IfSome, ap, sym, ◌∙◌, arith, refl}
use Rattle.std.proofs.lemmas.List.{length-drop}
use Rattle.std.specs.Option.{option_map}
use Rattle.crossterm_types.specs.Seen.{Seen}
use Rattle.crossterm_parse.specs.Marked.{marked}
use Rattle.crossterm_parse.specs.View.{AdvancesOver, EndsNoEvent, OpensNoPaste, ParserView, RepresentsSame, TakesFirst, capacity}
use Rattle.crossterm_parse.proofs.ViewLaws.{advance_none, some_ends}

-- an event that waits
pub first_waits : {X : Type 0} (see : X → Seen) (old new : ParserView) (piece : List ℕ) (more raw : Bool) (r : Option X) → old.waiting ≢ [] → IfNone r (old.waiting ≡ []) → IfSome r (λ x. old.waiting ≡ see x ∷ new.waiting)
    → RepresentsSame old new → old.room ≤ new.room → TakesFirst old new piece more raw (option_map see r) 0
first_waits see old new piece more raw None some none first same room = absurd (some none)
first_waits see old new piece more raw (Some x) some none first same room = record {
  within = omega arith;
  mid = old;
  divided = advance_none old;
  given = first;
  represents = same;
  waits = λ some. refl;
  none = λ e. absurd (cc);
  quiet = λ e q. absurd (some e);
  stops = λ e l. elim e [ inl none ↦ absurd (cc) | inr empty ↦ absurd (some empty) ];
  full = λ e l. absurd (cc);
  room = omega (arith, room);
}

-- one that comes alone, which isn't kept
pub first_in_front : (old : ParserView) (piece : List ℕ) (more raw : Bool) (e : Seen) (n : ℕ) → old.waiting ≡ [] → n ≡ length piece → AdvancesOver old (record old { waiting = old.waiting ++ e ∷ [] }) (take n (marked piece more raw))
    → TakesFirst old old piece more raw (Some e) n
first_in_front old piece more raw e n empty whole over = record {
  within = omega arith;
  mid = record old { waiting = old.waiting ++ e ∷ [] };
  divided = over;
  given = ap (λ (es : List Seen). es ++ e ∷ []) empty ∙ ap (λ (es : List Seen). e ∷ es) (sym empty);
  represents = λ before represents. represents;
  waits = λ some. absurd (some empty);
  none = λ e. absurd (cc);
  quiet = λ none q. absurd (some_ends old e n (marked piece more raw) over q);
  stops = λ e l. absurd (omega (arith, whole, l));
  full = λ e l. absurd (cc);
  room = omega arith;
}

-- the first one of those that are kept
pub first_kept : {X : Type 0} (see : X → Seen) (old mid new : ParserView) (piece : List ℕ) (more raw : Bool) (n : ℕ) (r : Option X) → old.waiting ≡ [] → n ≤ length piece → AdvancesOver old mid (take n (marked piece more raw))
    → (EndsNoEvent old (marked piece more raw) → n ≡ length piece) → (n < length piece → ¬ EndsNoEvent mid (take 1 (drop n (marked piece more raw))))
    → (n < length piece → OpensNoPaste mid (take 1 (drop n (marked piece more raw))) → mid.room ≡ 0) → old.room ≤ mid.room + n
    → IfNone r ((mid.waiting ≡ []) × (new.waiting ≡ [])) → IfSome r (λ x. mid.waiting ≡ see x ∷ new.waiting) → RepresentsSame mid new → capacity new ≡ capacity mid → mid.room ≤ new.room
    → TakesFirst old new piece more raw (option_map see r) n
first_kept see old mid new piece more raw n None empty within over quiet stops full room none some same keeps grows = record {
  within = within;
  mid = mid;
  divided = over;
  given = none.0 ∙ sym none.1;
  represents = same;
  waits = λ some. absurd (some empty);
  none = λ e. none.1;
  quiet = λ e. quiet;
  stops = λ e. stops;
  full = λ e l opens. omega (arith, keeps, full l opens, ap length none.0, ap length none.1, length-drop mid.typed mid.waiting, length-drop new.typed new.waiting);
  room = omega (arith, room, grows);
}
first_kept see old mid new piece more raw n (Some x) empty within over quiet stops full room none some same keeps grows = record {
  within = within;
  mid = mid;
  divided = over;
  given = some;
  represents = same;
  waits = λ some. absurd (some empty);
  none = λ e. absurd (cc);
  quiet = λ e. quiet;
  stops = λ e. stops;
  full = λ e l. absurd (cc);
  room = omega (arith, room, grows);
}
