-- One entry that goes to a writer.
use Rattle.std.proofs.Common.{◌≡◌, ◌≤◌, ◌+◌, ℕ, List, [], ◌∷◌, ◌++◌, length, Option, Some, None, arith, ap, refl, subst, sym, ◌∙◌}
use Rattle.std.proofs.KnownBytes.{Appends-nil}
use Rattle.crossterm_command.specs.Writing.{AppendsFront}
use Rattle.crossterm_read.specs.Device.{DeviceAnswer}
use Rattle.recorder.specs.Answering.{length_on, writes_none}
use Rattle.recorder.specs.Lines.{text}
use Rattle.recorder.specs.Recording.{Cuts, WritesPrefix, HasRoomFor, IsPossible, Recording, Records, Uses, WritesEntries, millis, recorded}
use Rattle.recorder.specs.inside.Said.{Notes}
use Rattle.recorder.specs.declared.recorder.Stop.{Stop}

no_room : (room : Option ℕ) → HasRoomFor room 0
no_room None = tt
no_room (Some n) = omega arith

-- Nothing was written, since there was no memory for the lines.
pub nothing_written : (contents : Option (List ℕ)) (room : Option ℕ) (bytes : List ℕ) → WritesPrefix contents contents room bytes
nothing_written contents room bytes = record {
  written = record { front = []; rest = bytes; split = refl; grown = Appends-nil contents };
  fits = no_room room;
}

-- Nothing was written, since the entry has no room.
pub cut_before : (contents : Option (List ℕ)) (room : Option ℕ) (e : ℕ × DeviceAnswer) (n : ℕ) → n ≡ length (text (e ∷ [])) → (HasRoomFor room n → ⊥) → Cuts contents contents room (e ∷ [])
cut_before contents room e n is full = record {
  kept = [];
  next = e;
  rest = [];
  split = refl;
  written = Appends-nil contents;
  full = λ f. full (subst (λ (m : ℕ). HasRoomFor room m) (sym is) f);
}

fits_before : (room after : Option ℕ) (n m : ℕ) → Uses room n after → m ≤ n → HasRoomFor room m
fits_before None after n m u l = tt
fits_before (Some r) after n m u l = within u.2
  where
    within : u.0 + n ≡ r → m ≤ r
    within e = omega (arith, e, l)

front_within : (bytes front rest : List ℕ) → bytes ≡ front ++ rest → length front ≤ length bytes
front_within bytes front rest e = omega (arith, ap length e, length_on front rest)

-- The writer failed within the entry.
pub part_written : (old new : Option (List ℕ)) (room after : Option ℕ) (bytes : List ℕ) (n : ℕ) → n ≡ length bytes → Uses room n after → AppendsFront old new bytes → WritesPrefix old new room bytes
part_written old new room after bytes n is uses f = record {
  written = f;
  fits = fits_before room after n (length f.front) uses (omega (arith, is, front_within bytes f.front f.rest f.split));
}

-- ---- an answer

pub noted : {W : Type 0} (contents : W → Option (List ℕ)) (clock later : ℕ) (stop stopped : Option Stop) (room left : Option ℕ) (writer after : W) (ws : List DeviceAnswer) (w : DeviceAnswer) (time : ℕ)
    → ws ≡ w ∷ [] → stop ≡ None → time ≡ millis later → millis clock ≤ millis later → WritesEntries contents None room writer ((time, w) ∷ []) stopped left after
    → Notes contents clock stop room writer ws later stopped left after
noted contents clock later stop stopped room left writer after ws w time one goes is rises written = record {
  entries = (time, w) ∷ [];
  says = sym one;
  rises = (omega (arith, is, rises), omega (arith, is));
  written = subst (λ (f : Option Stop). WritesEntries contents f room writer ((time, w) ∷ []) stopped left after) (sym goes) written;
}

stays : {W : Type 0} (contents : W → Option (List ℕ)) (f : Option Stop) (room : Option ℕ) (writer : W) (es : List (ℕ × DeviceAnswer)) → (f ≡ None → ⊥) → WritesEntries contents f room writer es f room writer
stays contents None room writer es some = absurd (some refl)
stays contents (Some why) room writer es some = (refl, refl)

-- After a stop an answer has the last time, and nothing is written.
pub not_noted : {W : Type 0} (contents : W → Option (List ℕ)) (clock : ℕ) (stop : Option Stop) (room : Option ℕ) (writer : W) (ws : List DeviceAnswer) (w : DeviceAnswer)
    → ws ≡ w ∷ [] → (stop ≡ None → ⊥) → Notes contents clock stop room writer ws clock stop room writer
not_noted contents clock stop room writer ws w one some = record {
  entries = (millis clock, w) ∷ [];
  says = sym one;
  rises = (omega arith, omega arith);
  written = stays contents stop room writer _ some;
}

pub nothing_noted : {W : Type 0} (contents : W → Option (List ℕ)) (clock : ℕ) (stop : Option Stop) (room : Option ℕ) (writer : W) (ws : List DeviceAnswer)
    → ws ≡ [] → Notes contents clock stop room writer ws clock stop room writer
nothing_noted contents clock stop room writer ws none = record { entries = []; says = sym none; rises = omega arith; written = writes_none contents stop room writer }

-- What a device gave was noted.
pub gave : {D W : Type 0} (contents : W → Option (List ℕ)) (answered : D → List DeviceAnswer → D → Type 0) (s t : Recording D W) (w : DeviceAnswer) (said : List DeviceAnswer)
    → answered s.device (w ∷ []) t.device → said ≡ recorded (w ∷ []) → Notes contents s.clock s.stop s.room s.writer said t.clock t.stop t.room t.writer → IsPossible w
    → Records contents answered s (w ∷ []) t
gave contents answered s t w said given is notes fits = record {
  given = given;
  entries = notes.entries;
  says = notes.says ∙ is;
  rises = notes.rises;
  written = notes.written;
  are_answers = (fits, tt);
}
