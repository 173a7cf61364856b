-- The class of an event by its numbers.
use Rattle.std.proofs.Common.{◌≡◌, ℕ, ◌==◌, ◌&&◌, if◌then◌else◌, Bool, true, false, List, [], Option, Some, None, refl, ap, ◌∙◌}
use Rattle.std.specs.Option.{option_map}
use Rattle.crossterm_types.specs.Admitting.{is_of}
use Rattle.crossterm_types.specs.Seen.{Seen}
use Rattle.crossterm_types.specs.Seen as seen
use Rattle.crossterm_types.specs.declared.event.filter.Classes.{Classes}
use Rattle.crossterm_types.specs.declared.event.key.KeyEvent.{KeyEvent}
use Rattle.crossterm_types.specs.declared.event.mouse.MouseEvent.{MouseEvent}
use Rattle.numbers.specs.Event.{event_at, is_bare, key_known, mouse_known, no_code, no_flags, no_place, no_press, only_if, or_resize}
use Rattle.numbers.specs.declared.event.GelvanhEvent.{GelvanhEvent}

-- The event of a reply with no number but its own.
pub cursor_is : (cs : Classes) (e : GelvanhEvent) → e.kind ≡ 6 → (no_code e && (no_press e && no_flags e)) ≡ true → is_of cs (event_at [] e) ≡ cs.cursor
cursor_is cs e k s =
    ap (λ (x : GelvanhEvent). is_of cs (event_at [] x)) (λ i. record e { kind = k i })
    ∙ ap (λ (b : Bool). is_of cs (or_resize (only_if b (Some (seen.CursorPosition e.column e.row))))) s

pub flags_are : (cs : Classes) (e : GelvanhEvent) → e.kind ≡ 7 → (no_code e && (no_press e && no_place e)) ≡ true → is_of cs (event_at [] e) ≡ cs.flags
flags_are cs e k s =
    ap (λ (x : GelvanhEvent). is_of cs (event_at [] x)) (λ i. record e { kind = k i })
    ∙ ap (λ (b : Bool). is_of cs (or_resize (only_if b (Some (seen.KeyboardFlags (record { 0 = e.flags })))))) s

pub attributes_are : (cs : Classes) (e : GelvanhEvent) → e.kind ≡ 8 → is_bare e ≡ true → is_of cs (event_at [] e) ≡ cs.attributes
attributes_are cs e k s =
    ap (λ (x : GelvanhEvent). is_of cs (event_at [] x)) (λ i. record e { kind = k i })
    ∙ ap (λ (b : Bool). is_of cs (or_resize (only_if b (Some seen.PrimaryDeviceAttributes)))) s

module _ (cs : Classes) where
  -- What a user brought about, or no event.
  abbrev IsUsers : Option Seen → Type 0
  IsUsers it = is_of cs (or_resize it) ≡ cs.event

  either : (b : Bool) (x y : Option Seen) → IsUsers x → IsUsers y → IsUsers (if b then x else y)
  either true x y p q = p
  either false x y p q = q

  one : (b : Bool) (x : Seen) → is_of cs x ≡ cs.event → IsUsers (only_if b (Some x))
  one true x p = p
  one false x p = refl

  -- A reply with other numbers is none.
  none : (b s : Bool) (x : Seen) (y : Option Seen) → (b && s) ≡ false → IsUsers y → IsUsers (if b then only_if s (Some x) else y)
  none true s x y p q = ap (λ (t : Bool). is_of cs (or_resize (only_if t (Some x)))) p
  none false s x y p q = q

  key : (it : Option KeyEvent) → IsUsers (option_map seen.Key it)
  key (Some k) = refl
  key None = refl

  mouse : (it : Option MouseEvent) → IsUsers (option_map seen.Mouse it)
  mouse (Some m) = refl
  mouse None = refl

  -- All other events are what a user brought about.
  pub users_are : (kept : List ℕ) (e : GelvanhEvent) → (e.kind == 6 && (no_code e && (no_press e && no_flags e))) ≡ false → (e.kind == 7 && (no_code e && (no_press e && no_place e))) ≡ false
      → (e.kind == 8 && is_bare e) ≡ false → is_of cs (event_at kept e) ≡ cs.event
  users_are kept e cursor flags attributes =
      either (e.kind == 1) _ _ (one (is_bare e) _ refl)
      (either (e.kind == 2) _ _ (one (is_bare e) _ refl)
      (either (e.kind == 3) _ _ (key (key_known e))
      (either (e.kind == 4) _ _ (mouse (mouse_known e))
      (either (e.kind == 5) _ _ (one (is_bare e) _ refl)
      (none (e.kind == 6) _ _ _ cursor
      (none (e.kind == 7) _ _ _ flags
      (none (e.kind == 8) _ _ _ attributes
      (either (e.kind == 9) _ _ (one (no_code e && (no_press e && no_flags e)) _ refl) refl))))))))

  -- A paste is what a user brought about, whatever its text is.
  paste : (b s : Bool) (x y : List ℕ) (rest : Option Seen) → is_of cs (or_resize (if b then only_if s (Some (seen.Paste x)) else rest)) ≡ is_of cs (or_resize (if b then only_if s (Some (seen.Paste y)) else rest))
  paste true true x y rest = refl
  paste true false x y rest = refl
  paste false s x y rest = refl

  first : (b : Bool) (x y z : Option Seen) → is_of cs (or_resize y) ≡ is_of cs (or_resize z) → is_of cs (or_resize (if b then x else y)) ≡ is_of cs (or_resize (if b then x else z))
  first true x y z p = refl
  first false x y z p = p

  pub class_of_numbers : (kept : List ℕ) (e : GelvanhEvent) → is_of cs (event_at kept e) ≡ is_of cs (event_at [] e)
  class_of_numbers kept e =
      first (e.kind == 1) _ _ _ (first (e.kind == 2) _ _ _ (first (e.kind == 3) _ _ _ (first (e.kind == 4) _ _ _ (paste (e.kind == 5) (is_bare e) _ _ _))))
