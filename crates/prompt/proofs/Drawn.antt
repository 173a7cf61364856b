-- The bytes of a frame.
use Rattle.std.proofs.Common.{◌≡◌, inl, inr, ℕ, ◌<◌, Bool, false, List, [], Option, None, refl, sym, subst, ap, ◌∙◌, append-nil, length}
use Rattle.std.proofs.KnownBytes.{Appends-kept, Appends-nil}
use Rattle.std.specs.Io.KnownBytes.{Appends, Keeps}
use Rattle.crossterm.specs.Functions.{AppendsReading}
use Rattle.crossterm_command.specs.Tokens.{Token}
use Rattle.crossterm_command.specs.declared.color_output.ColorOutput.TheVariants.{Enabled}
use Rattle.screen.specs.declared.faults.DrawFault.{DrawFault}
use Rattle.screen.specs.declared.faults.DrawFault.TheVariants.{Size, Cursor, Memory, Command}
use Rattle.screen.specs.Blocks.{BlockNotDrawn, BlockView, FitsBlock, IsBlockFrame, with_rows}
use Rattle.screen.specs.Buffers.{Picture}
use Rattle.prompt.specs.Frames.{Area, Draws, DrawsFront, IsLineFrame, IsNewArea, IsLinePicture, drawn, narrow}
use Rattle.prompt.specs.Shown.{Shown}

-- Bytes that stayed are bytes to which none were added.
pub kept : (old new : Option (List ℕ)) → Keeps old new → Appends old new []
kept old new k = Appends-kept old old new [] (Appends-nil old) k

pub same : (old new : Option (List ℕ)) → new ≡ old → Appends old new []
same old new is = subst (λ x. Appends old x []) (sym is) (Appends-nil old)

-- An area at first.
abbrev pub new_area : Bool → Area
new_area wraps = record {
  block = record { width = 0; colors = Enabled; rows = []; row = 0; column = None; room = 0 };
  wraps = wraps;
  most = 0;
  has_hint = false;
  has_candidates = false;
  last = 0;
}

pub new_is : (wraps : Bool) → IsNewArea wraps (new_area wraps)
new_is wraps = ((refl, refl, refl), refl, refl, refl, refl, refl)

module _ (s : Shown) (a : Area) where
  -- Nothing was written.
  pub none : (old new : Option (List ℕ)) → Appends old new [] → DrawsFront s a old new
  none old new grown = (a, [], [], grown, inl refl)

  -- All of a frame is a beginning of it.
  pub whole : (b : Area) (old new : Option (List ℕ)) → Draws s a b old new → DrawsFront s a old new
  whole b old new (bytes, grown, frame) = (b, bytes, [], grown, inr (subst (IsLineFrame s a b) (sym (append-nil bytes)) frame))

  -- A window of one column.
  pub in_none : (old new : Option (List ℕ)) → a.block.width ≡ 0 → Keeps old new → Draws s a a old new
  in_none old new is k = ([], kept old new k, narrow is refl refl)

  -- A frame that was flushed.
  pub in_rows : (t : BlockView) (h lists : Bool) (last : ℕ) (p : Picture) (column row : ℕ) (old mid new : Option (List ℕ)) → 0 < a.block.width → FitsBlock a.block p
      → IsLinePicture a.wraps a.most (length a.block.rows) a.block.width s p column row h lists last → t ≡ record (with_rows a.block p column row) { room = t.room }
      → (ts : List Token) × AppendsReading old mid ts × IsBlockFrame a.block p column row ts → Keeps mid new
      → Draws s a (record a { block = t; has_hint = h; has_candidates = lists; last = last }) old new
  in_rows t h lists last p column row old mid new wide fits shows is (ts, (bytes, grown, reads, only), frame) k = (
    bytes,
    Appends-kept old mid new bytes grown k,
    drawn p column row t.room ts wide fits shows (ap (λ (x : BlockView). record a { block = x; has_hint = h; has_candidates = lists; last = last }) is) reads.1 frame,
  )

  -- A frame that wasn't drawn.
  pub cut : (fault : DrawFault) (t : BlockView) (h lists : Bool) (last : ℕ) (p : Picture) (column row : ℕ) (old new : Option (List ℕ)) → 0 < a.block.width
      → IsLinePicture a.wraps a.most (length a.block.rows) a.block.width s p column row h lists last → BlockNotDrawn fault a.block t p column row old new
      → DrawsFront s a old new
  cut Size t h lists last p column row old new wide shows (size, block, is) = none old new (same old new is)
  cut Cursor t h lists last p column row old new wide shows (size, place, block, is) = none old new (same old new is)
  cut Memory t h lists last p column row old new wide shows (size, place, room, block, is) = none old new (same old new is)
  cut (Command fault) t h lists last p column row old new wide shows (size, place, block, ts, frame, part) = (
    record a { block = with_rows a.block p column row; has_hint = h; has_candidates = lists; last = last },
    part.front,
    part.rest,
    part.grown,
    inr (drawn p column row a.block.room ts wide size shows refl part.split frame),
  )

  -- The same of an area that was filled before: its block, its rows and their number are those of the one before.
  pub drawn_from : (b : Area) (t : BlockView) (p : Picture) (column row : ℕ) (old mid new : Option (List ℕ)) → 0 < a.block.width → b.block ≡ a.block → b.wraps ≡ a.wraps → b.most ≡ a.most
      → IsLinePicture a.wraps a.most (length a.block.rows) a.block.width s p column row b.has_hint b.has_candidates b.last → FitsBlock b.block p
      → t ≡ record (with_rows b.block p column row) { room = t.room } → (ts : List Token) × AppendsReading old mid ts × IsBlockFrame b.block p column row ts → Keeps mid new
      → Draws s a (record b { block = t }) old new
  drawn_from b t p column row old mid new wide block wraps most shows fits is frame k =
      let by_block = in_rows t b.has_hint b.has_candidates b.last p column row old mid new wide (subst (λ (x : BlockView). FitsBlock x p) block fits) shows
      (is ∙ ap (λ (x : BlockView). record (with_rows x p column row) { room = t.room }) block)
      (subst (λ (x : BlockView). (ts : List Token) × AppendsReading old mid ts × IsBlockFrame x p column row ts) block frame) k in
      subst (λ (w : Bool). Draws s a (record { block = t; wraps = w; most = b.most; has_hint = b.has_hint; has_candidates = b.has_candidates; last = b.last }) old new) (sym wraps)
      (subst (λ (m : ℕ). Draws s a (record { block = t; wraps = a.wraps; most = m; has_hint = b.has_hint; has_candidates = b.has_candidates; last = b.last }) old new) (sym most) by_block)

  pub not_drawn_from : (b : Area) (fault : DrawFault) (t : BlockView) (p : Picture) (column row : ℕ) (old new : Option (List ℕ)) → 0 < a.block.width → b.block ≡ a.block
      → IsLinePicture a.wraps a.most (length a.block.rows) a.block.width s p column row b.has_hint b.has_candidates b.last → BlockNotDrawn fault b.block t p column row old new
      → DrawsFront s a old new
  not_drawn_from b fault t p column row old new wide block shows refused =
      cut fault t b.has_hint b.has_candidates b.last p column row old new wide shows (subst (λ (x : BlockView). BlockNotDrawn fault x t p column row old new) block refused)
