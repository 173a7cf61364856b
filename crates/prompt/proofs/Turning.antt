-- What comes of one more event, and of a question.
use Rattle.std.proofs.Common.{◌≡◌, inl, inr, ℕ, Bool, false, List, Option, Some, Result, refl, sym, subst}
use Rattle.std.specs.declared.io.Error.{Error}
use Rattle.std.specs.declared.io.ErrorKind.{ErrorKind}
use Rattle.std.specs.declared.io.ErrorKind.TheVariants.{OutOfMemory}
use Rattle.std.specs.declared.time.Duration.{Duration}
use Rattle.crossterm_types.specs.Seen.{Seen}
use Rattle.crossterm_types.specs.declared.event.filter.AnyFilter.TheVariants as filters
use Rattle.crossterm_read.specs.Answers.{SourceAnswer}
use Rattle.crossterm_read.specs.Entries.{AsksPosition, Polls, Reads}
use Rattle.crossterm_read.specs.History.{Known}
use Rattle.crossterm_read.specs.Replies.{Came}
use Rattle.crossterm.specs.Asking.{InRawMode, InTwoSeconds, Queries, raw_already, not_on, not_off, on_and_off}
use Rattle.crossterm.specs.Modes.{ModeCall, Modes}
use Rattle.line_editor.specs.Bounds.{is_too_long}
use Rattle.line_editor.specs.States.{EditorState}
use Rattle.line_editor.specs.Turns.{Answer, IsGoing, event_more}
use Rattle.prompt.specs.Asking.{AsksPlace, GoesOn, StopsAsking, Waits, unread, further, placed, refused}
use Rattle.prompt.specs.inside.Turning.{MayAsk, TakesAs}

module _ {S : Type 0} (drawn : S → List SourceAnswer → S → Type 0) (asked : S → List (Option Duration)) where
  -- A question after which nothing else was asked, of a pass that was as it is here.
  pub asked_since : (p q r : Known S) → q ≡ p → MayAsk drawn asked q r → MayAsk drawn asked p r
  asked_since p q r same may = subst (λ (x : Known S). MayAsk drawn asked x r) same may

  asks_place : (begins : ℕ → Type 0) (after : ℕ) (p q : Known S) (r : Result (ℕ × ℕ) Error) → InTwoSeconds (λ limit. AsksPosition drawn asked limit begins after p q r)
      → AsksPlace drawn asked p q
  asks_place begins after p q r (limit, two, (start, begun, rest)) = (start, after, r, (limit, two, (start, refl, rest)))

  -- A poll, whatever came of it.
  pub waits : (limit : Duration) (begins : ℕ → Type 0) (after : ℕ) (p q : Known S) (r : Result Bool Error) → Polls drawn asked filters.Event (Some limit) begins after p q r → Waits drawn asked p q
  waits limit begins after p q r (start, begun, rest) = (limit, start, after, r, (start, refl, rest))

  -- A query that was made, or that couldn't be written.
  queried : (old new : Option (List ℕ)) (text : List ℕ) (begins : ℕ → Type 0) (after : ℕ) (p q : Known S) (r : Result (ℕ × ℕ) Error)
      → Queries old new text (q ≡ p) (λ x. InTwoSeconds (λ limit. AsksPosition drawn asked limit begins after p q x)) r → MayAsk drawn asked p q
  queried old new text begins after p q r (inl unasked) = inr unasked.1
  queried old new text begins after p q r (inr made) = inl (asks_place begins after p q r made.1)

  -- A question for the cursor's place, whatever raw mode did.
  pub asks : {D M : Type 0} (current : D → M) (answered : D → ModeCall M → D → Type 0) (failed : D → ℕ) (before after_it : Modes D M) (old new : Option (List ℕ)) (text : List ℕ)
      (begins : ℕ → Type 0) (after : ℕ) (p q : Known S) (r : Result (ℕ × ℕ) Error)
      → InRawMode current answered failed before after_it ((new ≡ old) × (q ≡ p)) (Queries old new text (q ≡ p) (λ x. InTwoSeconds (λ limit. AsksPosition drawn asked limit begins after p q x))) r
      → MayAsk drawn asked p q
  asks current answered failed before after_it old new text begins after p q r (raw_already raw same made) = queried old new text begins after p q r made
  asks current answered failed before after_it old new text begins after p q r (not_on e none switched nothing is why) = inr nothing.1
  asks current answered failed before after_it old new text begins after p q r (not_off e raw x none on made off kept is why) = queried old new text begins after p q x made
  asks current answered failed before after_it old new text begins after p q r (on_and_off raw none on made off mode) = queried old new text begins after p q r made

module _ {S : Type 0} (drawn : S → List SourceAnswer → S → Type 0) (asked : S → List (Option Duration)) (given : EditorState → Seen → Seen) (v : Known S) (w : EditorState) where
  -- Nothing was read.
  pub not_yet : (u : Known S) → u ≡ v → GoesOn drawn asked given v w u w
  not_yet u same = subst (λ (x : Known S). GoesOn drawn asked given v w x w) (sym same) unread

  -- One more event was read, and the line goes on.
  pub goes_further : (p q : Known S) (k z : EditorState) (e : Seen) → GoesOn drawn asked given v w p k → Reads drawn asked filters.Event p q (Came (Some e))
      → (a : Answer) → IsGoing a → TakesAs a (given k e) k z → GoesOn drawn asked given v w q z
  goes_further p q k z e goes reads a going takes =
      subst (λ (x : EditorState). GoesOn drawn asked given v w q x) (sym takes.1) (further p q k e goes reads (subst IsGoing (sym takes.0) going))

  -- Then the terminal may be asked for the cursor's place.
  pub goes_on_asked : (p u : Known S) (k : EditorState) → GoesOn drawn asked given v w p k → MayAsk drawn asked p u → GoesOn drawn asked given v w u k
  goes_on_asked p u k goes (inl asks) = placed p u k goes asks
  goes_on_asked p u k goes (inr same) = subst (λ (x : Known S). GoesOn drawn asked given v w x k) (sym same) goes

  -- Memory was refused for one more event.
  pub refuses : (p q : Known S) (k z : EditorState) (e : Seen) (kind : ErrorKind) → GoesOn drawn asked given v w p k → Reads drawn asked filters.Event p q (Came (Some e))
      → is_too_long (event_more (given k e) k) k ≡ false → z ≡ k → kind ≡ OutOfMemory → StopsAsking drawn asked given v w kind q z
  refuses p q k z e kind goes reads room same is =
      subst (λ (x : EditorState). StopsAsking drawn asked given v w kind q x) (sym same) (refused p e goes reads room is)
