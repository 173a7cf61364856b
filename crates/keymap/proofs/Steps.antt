-- What a step does to a matcher.
use Rattle.std.proofs.Common.{◌≡◌, Bool, List, [], ◌∷◌, ◌++◌, Option, Some, None, refl, sym, ◌∙◌}
use Rattle.crossterm_types.specs.Seen.{Seen}
use Rattle.crossterm_types.specs.declared.event.key.KeyEvent.{KeyEvent}
use Rattle.keymap.specs.Bindings.{Binding, bound_of}
use Rattle.keymap.specs.Cut.{cut_keys}
use Rattle.keymap.specs.Matching.{Matching, TakesOutcome}
use Rattle.keymap.specs.Taking.{IsFollowed}
use Rattle.keymap.specs.Outcomes.{SeenOutcome, Event}
use Rattle.keymap.specs.inside.Giving.{TakesFirstOf}
use Rattle.keymap.proofs.Giving.{flushed}

pub followed : (m n : Matching) (x : Seen) → n.keymap ≡ m.keymap → n.passes ≡ m.passes → n.waiting ≡ (m.waiting ++ cut_keys (bound_of m.keymap) m.undecided) ++ Event x ∷ [] → n.undecided ≡ [] → IsFollowed m x n
followed m n x same alike w u =
    let f : Matching = record { keymap = m.keymap; passes = m.passes; undecided = []; waiting = m.waiting ++ cut_keys (bound_of m.keymap) m.undecided } in
    record {
      flushed = f;
      flushes = flushed m f refl refl refl refl;
      follows = λ i. record { keymap = same i; passes = alike i; undecided = u i; waiting = w i };
    }

pub takes : (keymap : List Binding) (passes : Bool) (keys : List KeyEvent) (old new : List SeenOutcome) (o : Option SeenOutcome) → TakesFirstOf old o new
    → TakesOutcome (record { keymap = keymap; passes = passes; undecided = keys; waiting = old }) o (record { keymap = keymap; passes = passes; undecided = keys; waiting = new })
takes keymap passes keys old new None t = (t.0, λ i. record { keymap = keymap; passes = passes; undecided = keys; waiting = (t.1 ∙ sym t.0) i })
takes keymap passes keys old new (Some x) t = (t, refl)
