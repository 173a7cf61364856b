-- One more piece, and one more event, in the list of what was written.
use Rattle.std.proofs.Common.{◌≡◌, inl, inr, ℕ, ◌≤◌, ◌++◌, ◌&&◌, Bool, true, false, cond, List, [], ◌∷◌, Option, Some, None, is_some, Result, Ok, Err, OnErr, OnOk, refl, sym, subst, ap, ◌∙◌, append_assoc, append-nil}
use Rattle.std.proofs.lemmas.List.{reverse-append}
use Rattle.std.proofs.KnownBytes.{Appends-nil, Appends-trans}
use Rattle.std.specs.Io.KnownBytes.{Appends}
use Rattle.std.specs.declared.io.ErrorKind.{ErrorKind}
use Rattle.std.specs.declared.io.ErrorKind.TheVariants.{OutOfMemory}
use Rattle.std.specs.declared.time.Duration.{Duration}
use Rattle.crossterm_types.specs.Seen.{Seen}
use Rattle.crossterm_types.specs.declared.event.filter.AnyFilter.TheVariants as filters
use Rattle.crossterm_read.specs.Answers.{SourceAnswer}
use Rattle.crossterm_read.specs.Entries.{Reads}
use Rattle.crossterm_read.specs.History.{Known}
use Rattle.crossterm_read.specs.Replies.{Came}
use Rattle.crossterm_command.specs.Writing.{AppendsFront}
use Rattle.line_editor.specs.States.{EditorState}
use Rattle.line_editor.specs.Turns.{Answer, Going, Clear, Ring, IsGoing}
use Rattle.prompt.specs.Asking.{GoesOn, Waits, unread, further, placed, waited, stopped, refused, after_event, answer_to}
use Rattle.prompt.specs.Drawing.{clearing}
use Rattle.line_editor.specs.declared.masks.Mask.{Mask}
use Rattle.prompt.specs.Completing.{as_read, is_tab}
use Rattle.prompt.specs.Frames.{Area, Draws, DrawsFront, IsLineFrame, IsNewArea, bell, erasure, in_lines, leaving_area, resized_area, unseen}
use Rattle.prompt.specs.Lines.{going_on_events}
use Rattle.prompt.specs.Shown.{PromptRun, runs_of}
use Rattle.prompt.specs.declared.asking.Prompt.{Prompt}
use Rattle.prompt.specs.Written.{GoesOnShown, IsNewPrompt, look_of, plain_look, HasWritten, HasWrittenFront, LineEndsShown, PromptView, Stage, Shows, Due, Clears, Resized, StopsShown, Pieces, nothing_yet, shown, moved_on, missed, overflowed, rung, let_clear, cleared, resized, asked, erased, printed, begins_with_tab, begins_with_tabs, ends_in_tab, ends_in_tabs, resizes, overflows, shown_for}
use Rattle.prompt.specs.inside.Turning.{MayAsk, MayQuery, TakesAs, stage_after}
use Rattle.prompt.proofs.Drawn.{new_area, new_is}

-- Whether the last event is Tab, once one more was read, and whether the last two are.
pub ends_so : (es : List Seen) (e : Seen) → ends_in_tab (es ++ e ∷ []) ≡ is_tab e
ends_so es e = ap begins_with_tab (reverse-append es (e ∷ []))

pub lists_so : (es : List Seen) (e : Seen) (tab tabbed lists : Bool) → tab ≡ is_tab e → ends_in_tab es ≡ tabbed → lists ≡ (tab && tabbed) → ends_in_tabs (es ++ e ∷ []) ≡ lists
lists_so es e tab tabbed lists is was both =
    ap begins_with_tabs (reverse-append es (e ∷ [])) ∙ ap (λ b. b && ends_in_tab es) (sym is) ∙ ap (λ b. tab && b) was ∙ sym both

-- A prompt as it is at first.
pub new_look : {H : Type 0} (text : List ℕ) (p : Prompt H) → IsNewPrompt (runs_of text []) p → look_of as_read (λ _. []) (λ _ _. []) p ≡ plain_look text
new_look text p (runs, mask, asks, wraps, prints) =
    let prints_so : Bool = is_some p.printer in
    ap (λ (x : List PromptRun). record { given = as_read; prompt = x; hints = λ _. []; candidates = λ _ _. []; mask = p.mask; asks = p.asks; wraps = p.wraps; prints = prints_so }) runs
    ∙ ap (λ (x : Option Mask). record { given = as_read; prompt = runs_of text []; hints = λ _. []; candidates = λ _ _. []; mask = x; asks = p.asks; wraps = p.wraps; prints = prints_so }) mask
    ∙ ap (λ (x : Bool). record { given = as_read; prompt = runs_of text []; hints = λ _. []; candidates = λ _ _. []; mask = None; asks = x; wraps = p.wraps; prints = prints_so }) asks
    ∙ ap (λ (x : Bool). record { given = as_read; prompt = runs_of text []; hints = λ _. []; candidates = λ _ _. []; mask = None; asks = true; wraps = x; prints = prints_so }) wraps
    ∙ ap (λ (x : Bool). record { given = as_read; prompt = runs_of text []; hints = λ _. []; candidates = λ _ _. []; mask = None; asks = true; wraps = true; prints = x }) prints

-- Bytes that grew by a text whole or, at an error, by a beginning of it.
pub either_way : {X E : Type 0} (r : Result X E) (old new : Option (List ℕ)) (text : List ℕ) → OnOk r (Appends old new text) → OnErr r (AppendsFront old new text) → AppendsFront old new text
either_way (Ok x) old new text whole front = record { front = text; rest = []; split = sym (append-nil text); grown = whole }
either_way (Err e) old new text whole front = front

module _ (look : PromptView) (w : EditorState) where
  -- Other bytes that are the same, and nothing more.
  pub still : (es : List Seen) (k : EditorState) (stage : Stage) (out old new : Option (List ℕ)) → HasWritten look w es k stage out old → Appends old new [] → HasWritten look w es k stage out new
  still es k stage out old new h grown = record {
    bytes = h.bytes;
    appended = subst (Appends out new) (append-nil h.bytes) (Appends-trans out old new h.bytes [] h.appended grown);
    writes = h.writes;
  }

  -- A writer that is the same.
  pub moved : {W : Type 0} (contents : W → Option (List ℕ)) (es : List Seen) (k : EditorState) (stage : Stage) (out : Option (List ℕ)) (x y : W) → y ≡ x
      → HasWritten look w es k stage out (contents x) → HasWritten look w es k stage out (contents y)
  moved contents es k stage out x y is h = subst (λ v. HasWritten look w es k stage out (contents v)) (sym is) h

  -- Nothing was written yet.
  pub starts : (a : Area) (old : Option (List ℕ)) → IsNewArea look.wraps a → HasWritten look w [] w (Due a false) old old
  starts a old fresh = record { bytes = []; appended = Appends-nil old; writes = nothing_yet a fresh }

  -- All of it is a beginning.
  pub all_of : (es : List Seen) (k : EditorState) (stage : Stage) (out new : Option (List ℕ)) → HasWritten look w es k stage out new → HasWrittenFront look w es k out new
  all_of es k stage out new h = record {
    bytes = h.bytes;
    rest = [];
    stage = stage;
    appended = h.appended;
    writes = subst (Pieces look w es k stage) (sym (append-nil h.bytes)) h.writes;
  }

  -- A beginning of one more piece.
  more_front : (es : List Seen) (k : EditorState) (stage : Stage) (out old new : Option (List ℕ)) (before front rest : List ℕ) → Appends out old before → Appends old new front
      → Pieces look w es k stage (before ++ (front ++ rest)) → HasWrittenFront look w es k out new
  more_front es k stage out old new before front rest grown more writes = record {
    bytes = before ++ front;
    rest = rest;
    stage = stage;
    appended = Appends-trans out old new before front grown more;
    writes = subst (Pieces look w es k stage) (sym (append_assoc before front rest)) writes;
  }

  -- A text of which a beginning was written.
  part_of : (es : List Seen) (k : EditorState) (stage : Stage) (out old new : Option (List ℕ)) (before text : List ℕ) → Appends out old before → AppendsFront old new text
      → Pieces look w es k stage (before ++ text) → HasWrittenFront look w es k out new
  part_of es k stage out old new before text grown more writes =
      more_front es k stage out old new before more.front more.rest grown more.grown (subst (λ t. Pieces look w es k stage (before ++ t)) more.split writes)

  -- A frame.
  pub shows : (es : List Seen) (k : EditorState) (a b : Area) (rings lists : Bool) (out old new : Option (List ℕ)) → ends_in_tabs es ≡ lists → HasWritten look w es k (Due a rings) out old
      → Draws (shown_for look lists k) a b old new → HasWritten look w es k (Shows b rings) out new
  shows es k a b rings lists out old new tabs h (bytes, grown, frame) = record {
    bytes = h.bytes ++ bytes;
    appended = Appends-trans out old new h.bytes bytes h.appended grown;
    writes = shown es k a b rings h.bytes bytes h.writes (subst (λ (l : Bool). IsLineFrame (shown_for look l k) a b bytes) (sym tabs) frame);
  }

  pub shows_front : (es : List Seen) (k : EditorState) (a : Area) (rings lists : Bool) (out old new : Option (List ℕ)) → ends_in_tabs es ≡ lists → HasWritten look w es k (Due a rings) out old
      → DrawsFront (shown_for look lists k) a old new → HasWrittenFront look w es k out new
  shows_front es k a rings lists out old new tabs h (b, front, rest, grown, inl none) = all_of es k (Due a rings) out new (still es k (Due a rings) out old new h (subst (Appends old new) none grown))
  shows_front es k a rings lists out old new tabs h (b, front, rest, grown, inr frame) =
      let whole = subst (λ (l : Bool). IsLineFrame (shown_for look l k) a b (front ++ rest)) (sym tabs) frame in
      more_front es k (Shows b rings) out old new h.bytes front rest h.appended grown (shown es k a b rings h.bytes (front ++ rest) h.writes whole)

  -- The bell.
  pub rings : (es : List Seen) (k : EditorState) (a : Area) (out old new : Option (List ℕ)) → HasWritten look w es k (Shows a true) out old → Appends old new bell
      → HasWritten look w es k (Shows a false) out new
  rings es k a out old new h grown = record {
    bytes = h.bytes ++ bell;
    appended = Appends-trans out old new h.bytes bell h.appended grown;
    writes = rung es k a h.bytes h.writes;
  }

  pub rings_front : (es : List Seen) (k : EditorState) (a : Area) (out old new : Option (List ℕ)) → HasWritten look w es k (Shows a true) out old → AppendsFront old new bell
      → HasWrittenFront look w es k out new
  rings_front es k a out old new h part = part_of es k (Shows a false) out old new h.bytes bell h.appended part (rung es k a h.bytes h.writes)

  -- A clearing.
  pub empties : (es : List Seen) (k : EditorState) (a : Area) (room : ℕ) (out old new : Option (List ℕ)) → HasWritten look w es k (Clears a) out old → Appends old new clearing
      → HasWritten look w es k (Due (unseen room a) false) out new
  empties es k a room out old new h grown = record {
    bytes = h.bytes ++ clearing;
    appended = Appends-trans out old new h.bytes clearing h.appended grown;
    writes = cleared es k a room h.bytes h.writes;
  }

  pub empties_front : (es : List Seen) (k : EditorState) (a : Area) (out old new : Option (List ℕ)) → HasWritten look w es k (Clears a) out old → AppendsFront old new clearing
      → HasWrittenFront look w es k out new
  empties_front es k a out old new h part = part_of es k (Due (unseen 0 a) false) out old new h.bytes clearing h.appended part (cleared es k a 0 h.bytes h.writes)

  -- One more event that was taken.
  takes_as : (b : Bool) (es : List Seen) (k : EditorState) (a : Area) (e : Seen) (out old : Option (List ℕ)) → HasWritten look w es k (Shows a false) out old → overflows look k e ≡ false
      → answer_to (look.given k e) k ≡ Going → resizes e ≡ b → HasWritten look w (es ++ e ∷ []) (after_event (look.given k e) k) (cond b (Resized a false) (Due a false)) out old
  takes_as true es k a e out old h room on is = record { bytes = h.bytes; appended = h.appended; writes = resized es k a h.bytes e h.writes room on is }
  takes_as false es k a e out old h room on is = record { bytes = h.bytes; appended = h.appended; writes = moved_on es k a h.bytes e h.writes room on is }

  pub takes : (es : List Seen) (k z : EditorState) (a : Area) (e : Seen) (out old : Option (List ℕ)) → HasWritten look w es k (Shows a false) out old → overflows look k e ≡ false
      → TakesAs Going (look.given k e) k z → HasWritten look w (es ++ e ∷ []) z (stage_after e a) out old
  takes es k z a e out old h room (on, is) =
      subst (λ (x : EditorState). HasWritten look w (es ++ e ∷ []) x (stage_after e a) out old) (sym is) (takes_as (resizes e) es k a e out old h room on refl)

  -- One for which the bell is to ring.
  pub misses : (es : List Seen) (k z : EditorState) (a : Area) (e : Seen) (out old : Option (List ℕ)) → HasWritten look w es k (Shows a false) out old
      → TakesAs Ring (look.given k e) k z → HasWritten look w (es ++ e ∷ []) z (Due a true) out old
  misses es k z a e out old h (on, is) =
      subst (λ (x : EditorState). HasWritten look w (es ++ e ∷ []) x (Due a true) out old) (sym is) (record { bytes = h.bytes; appended = h.appended; writes = missed es k a h.bytes e h.writes on })

  -- One whose text is too long.
  pub overruns : (es : List Seen) (k z : EditorState) (a : Area) (e : Seen) (out old : Option (List ℕ)) → HasWritten look w es k (Shows a false) out old → overflows look k e ≡ true
      → TakesAs Going (look.given k e) k z → HasWritten look w (es ++ e ∷ []) z (Shows a true) out old
  overruns es k z a e out old h long (on, is) =
      subst (λ (x : EditorState). HasWritten look w (es ++ e ∷ []) x (Shows a true) out old) (sym is) (record { bytes = h.bytes; appended = h.appended; writes = overflowed es k a h.bytes e h.writes long })

  -- One that clears the window.
  pub lets_clear : (es : List Seen) (k z : EditorState) (a : Area) (e : Seen) (out old : Option (List ℕ)) → HasWritten look w es k (Shows a false) out old
      → TakesAs Clear (look.given k e) k z → HasWritten look w (es ++ e ∷ []) z (Clears a) out old
  lets_clear es k z a e out old h (on, is) =
      subst (λ (x : EditorState). HasWritten look w (es ++ e ∷ []) x (Clears a) out old) (sym is) (record { bytes = h.bytes; appended = h.appended; writes = let_clear es k a h.bytes e h.writes on })

  -- The query, if it was made.
  pub queried : (asks : Bool) (es : List Seen) (k : EditorState) (a : Area) (out old new : Option (List ℕ)) → HasWritten look w es k (Resized a false) out old → (asks ≡ true → look.asks ≡ true)
      → MayQuery asks old new → (was : Bool) × HasWritten look w es k (Resized a was) out new
  queried asks es k a out old new h may (inl (is, part)) = (
    true,
    record {
      bytes = h.bytes ++ part.front;
      appended = Appends-trans out old new h.bytes part.front h.appended part.grown;
      writes = asked es k a h.bytes part.front part.rest h.writes (may is) part.split;
    },
  )
  queried asks es k a out old new h may (inr nothing) = (false, still es k (Resized a false) out old new h nothing)

  -- An erasure.
  pub erases : (es : List Seen) (k : EditorState) (rows width most room : ℕ) (a : Area) (out old new : Option (List ℕ)) → ((was : Bool) × HasWritten look w es k (Resized a was) out old)
      → a.block.row ≤ rows → Appends old new (erasure rows) → HasWritten look w es k (Due (resized_area width most room a) false) out new
  erases es k rows width most room a out old new (was, h) above grown = record {
    bytes = h.bytes ++ erasure rows;
    appended = Appends-trans out old new h.bytes (erasure rows) h.appended grown;
    writes = erased es k a h.bytes was rows width most room h.writes above;
  }

  pub erases_front : (es : List Seen) (k : EditorState) (rows : ℕ) (a : Area) (out old new : Option (List ℕ)) → ((was : Bool) × HasWritten look w es k (Resized a was) out old)
      → a.block.row ≤ rows → AppendsFront old new (erasure rows) → HasWrittenFront look w es k out new
  erases_front es k rows a out old new (was, h) above part =
      part_of es k (Due (resized_area 0 0 0 a) false) out old new h.bytes (erasure rows) h.appended part (erased es k a h.bytes was rows 0 0 0 h.writes above)

  -- A text of another thread.
  pub prints : (es : List Seen) (k : EditorState) (a : Area) (room : ℕ) (of : List ℕ) (out old new : Option (List ℕ)) → look.prints ≡ true → HasWritten look w es k (Shows a false) out old
      → Appends old new (erasure a.block.row ++ in_lines of) → HasWritten look w es k (Due (unseen room a) false) out new
  prints es k a room of out old new may h grown =
      let text : List ℕ = erasure a.block.row ++ in_lines of in
      record {
        bytes = h.bytes ++ text;
        appended = Appends-trans out old new h.bytes text h.appended grown;
        writes = printed es k a room h.bytes of h.writes may;
      }

  pub prints_front : (es : List Seen) (k : EditorState) (a : Area) (of : List ℕ) (out old new : Option (List ℕ)) → look.prints ≡ true → HasWritten look w es k (Shows a false) out old
      → AppendsFront old new (erasure a.block.row ++ in_lines of) → HasWrittenFront look w es k out new
  prints_front es k a of out old new may h part =
      part_of es k (Due (unseen 0 a) false) out old new h.bytes (erasure a.block.row ++ in_lines of) h.appended part (printed es k a 0 h.bytes of h.writes may)

  -- All that was written until a question.
  pub all_queried : (es : List Seen) (k : EditorState) (a : Area) (out new : Option (List ℕ)) → ((was : Bool) × HasWritten look w es k (Resized a was) out new) → HasWrittenFront look w es k out new
  all_queried es k a out new (was, h) = all_of es k (Resized a was) out new h

module _ {S : Type 0} (drawn : S → List SourceAnswer → S → Type 0) (ask : S → List (Option Duration)) (look : PromptView) (v : Known S) (w : EditorState) where
  -- A line goes on, and these events were read.
  abbrev pub WentOn : Known S → EditorState → List Seen → Type 0
  WentOn u z es = (goes : GoesOn drawn ask look.given v w u z) × (going_on_events goes ≡ es)

  -- Nothing was read.
  pub not_yet : (u : Known S) → u ≡ v → WentOn u w []
  not_yet u same = subst (λ (x : Known S). WentOn x w []) (sym same) (unread, refl)

  -- One more event was read, and perhaps a question was asked.
  pub went_on : (p q u : Known S) (k z : EditorState) (e : Seen) (goes : GoesOn drawn ask look.given v w p k) → Reads drawn ask filters.Event p q (Came (Some e))
      → (a : Answer) → IsGoing a → TakesAs a (look.given k e) k z → MayAsk drawn ask q u → WentOn u z (going_on_events goes ++ e ∷ [])
  went_on p q u k z e goes reads a going takes (inl asks) =
      subst (λ (x : EditorState). WentOn u x (going_on_events goes ++ e ∷ [])) (sym takes.1)
      (placed q u (after_event (look.given k e) k) (further p q k e goes reads (subst IsGoing (sym takes.0) going)) asks, refl)
  went_on p q u k z e goes reads a going takes (inr same) =
      subst (λ (x : EditorState). WentOn u x (going_on_events goes ++ e ∷ [])) (sym takes.1)
      (subst (λ (y : Known S). WentOn y (after_event (look.given k e) k) (going_on_events goes ++ e ∷ [])) (sym same) (further p q k e goes reads (subst IsGoing (sym takes.0) going), refl))

  -- An error before anything was done.
  pub not_begun : (kind : ErrorKind) (old : Option (List ℕ)) → StopsShown drawn ask look v w kind v w old old
  not_begun kind old = record { stops = stopped unread; written = all_of look w [] w (Due (new_area look.wraps) false) old old (starts look w (new_area look.wraps) old (new_is look.wraps)) }

  pub goes_shown : (u : Known S) (z : EditorState) (es : List Seen) (a : Area) (tab lists : Bool) (out new : Option (List ℕ)) → WentOn u z es → ends_in_tab es ≡ tab
      → ends_in_tabs es ≡ lists → HasWritten look w es z (Shows a false) out new → GoesOnShown drawn ask look v w u z a tab lists out new
  goes_shown u z es a tab lists out new (goes, is) tabs listed h = record {
    goes = goes;
    tabs = ap ends_in_tab is ∙ tabs;
    listed = ap ends_in_tabs is ∙ listed;
    written = subst (λ t. HasWritten look w t z (Shows a false) out new) (sym is) h;
  }

  pub stops_shown : (kind : ErrorKind) (u : Known S) (z : EditorState) (es : List Seen) (out new : Option (List ℕ)) → WentOn u z es → HasWrittenFront look w es z out new
      → StopsShown drawn ask look v w kind u z out new
  stops_shown kind u z es out new (goes, is) h = record { stops = stopped goes; written = subst (λ t. HasWrittenFront look w t z out new) (sym is) h }

  -- The line ended, and its area was left.
  pub ends_shown : (p u : Known S) (k z : EditorState) (e : Seen) (a : Answer) (x : Area) (tab lists : Bool) (out old new : Option (List ℕ)) → GoesOnShown drawn ask look v w p k x tab lists out old
      → Reads drawn ask filters.Event p u (Came (Some e)) → TakesAs a (look.given k e) k z → AppendsFront old new (leaving_area x) → LineEndsShown drawn ask look v w a u z out new
  ends_shown p u k z e a x tab lists out old new g reads takes part = record {
    ends = record { before = p; line = k; event = e; goes = g.goes; reads = reads; ends = takes.0; left = takes.1 };
    area = x;
    bytes = g.written.bytes;
    front = part.front;
    rest = part.rest;
    writes = g.written.writes;
    leaves = part.split;
    appended = Appends-trans out old new g.written.bytes part.front g.written.appended part.grown;
  }

  -- Memory was refused for the event that was read next.
  pub refused_shown : (p q : Known S) (k z : EditorState) (e : Seen) (x : Area) (tab lists : Bool) (kind : ErrorKind) (out new : Option (List ℕ)) → GoesOnShown drawn ask look v w p k x tab lists out new
      → Reads drawn ask filters.Event p q (Came (Some e)) → overflows look k e ≡ false → z ≡ k → kind ≡ OutOfMemory → StopsShown drawn ask look v w kind q z out new
  refused_shown p q k z e x tab lists kind out new g reads room same is =
      subst (λ (y : EditorState). StopsShown drawn ask look v w kind q y out new) (sym same) record {
        stops = refused p e g.goes reads room is;
        written = all_of look w (going_on_events g.goes) k (Shows x false) out new g.written;
      }

  -- An event was waited for.
  pub waits_shown : (p q : Known S) (k : EditorState) (x : Area) (tab lists : Bool) (out new : Option (List ℕ)) → Waits drawn ask p q → GoesOnShown drawn ask look v w p k x tab lists out new
      → GoesOnShown drawn ask look v w q k x tab lists out new
  waits_shown p q k x tab lists out new waits g = record { goes = waited p q k g.goes waits; tabs = g.tabs; listed = g.listed; written = g.written }

  -- More was written while no event was taken.
  pub goes_written : (p : Known S) (k : EditorState) (x y : Area) (tab lists : Bool) (out old new : Option (List ℕ)) → GoesOnShown drawn ask look v w p k x tab lists out old
      → ((es : List Seen) → ends_in_tabs es ≡ lists → HasWritten look w es k (Shows x false) out old → HasWritten look w es k (Shows y false) out new)
      → GoesOnShown drawn ask look v w p k y tab lists out new
  goes_written p k x y tab lists out old new g more = record { goes = g.goes; tabs = g.tabs; listed = g.listed; written = more (going_on_events g.goes) g.listed g.written }

  -- All of what was written is a beginning.
  pub goes_stopped : (p : Known S) (k : EditorState) (x : Area) (tab lists : Bool) (kind : ErrorKind) (out new : Option (List ℕ)) → GoesOnShown drawn ask look v w p k x tab lists out new
      → StopsShown drawn ask look v w kind p k out new
  goes_stopped p k x tab lists kind out new g = record { stops = stopped g.goes; written = all_of look w (going_on_events g.goes) k (Shows x false) out new g.written }

  -- A beginning of more was written.
  pub goes_cut : (p : Known S) (k : EditorState) (x : Area) (tab lists : Bool) (kind : ErrorKind) (out old new : Option (List ℕ)) → GoesOnShown drawn ask look v w p k x tab lists out old
      → ((es : List Seen) → ends_in_tabs es ≡ lists → HasWritten look w es k (Shows x false) out old → HasWrittenFront look w es k out new)
      → StopsShown drawn ask look v w kind p k out new
  goes_cut p k x tab lists kind out old new g more = record { stops = stopped g.goes; written = more (going_on_events g.goes) g.listed g.written }
