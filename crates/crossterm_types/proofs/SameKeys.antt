-- Keys that are equal have one normal form.
use Rattle.std.proofs.Common.{◌≡◌, ℕ, true, ◌==◌, List, [], ◌∷◌, ◌↔◌, IsTrue, sym, ap, subst, ◌∙◌}
use Rattle.std.specs.Cmp.{first_so, second_so, unsigned_Decides, Equal-is}
use Rattle.std.specs.Ordering.{is_eq}
use Rattle.std.specs.declared.cmp.Ordering.TheVariants.{Equal}
use denote.Enum.Bare.{sameb, same_true}
use denote.Struct.Field.{Field, u8-field}
use denote.Text.{char-field}
use Rattle.crossterm_flags.specs.contracts.modifiers.KeyModifiersPartialEq.TheImpl as modifiers
use Rattle.crossterm_flags.specs.contracts.state.KeyEventStatePartialEq.TheImpl as state
use Rattle.crossterm_flags.specs.declared.modifiers.KeyModifiers.{KeyModifiers}
use Rattle.crossterm_flags.specs.declared.state.KeyEventState.{KeyEventState}
use Rattle.crossterm_types.specs.Compared.{key_fields, compared, key_eq, key_cmp}
use Rattle.crossterm_types.specs.Normal.{normal}
use Rattle.crossterm_types.specs.contracts.event.key.KeyCode as key_code
use Rattle.crossterm_types.specs.contracts.event.key.KeyCodePartialEq.TheImpl as code
use Rattle.crossterm_types.specs.contracts.event.key.KeyEventKind as key_kind
use Rattle.crossterm_types.specs.contracts.event.key.KeyEventKindPartialEq.TheImpl as kind
use Rattle.crossterm_types.specs.contracts.event.key.MediaKeyCode as media
use Rattle.crossterm_types.specs.contracts.event.key.ModifierKeyCode as modifier
use Rattle.crossterm_types.specs.contracts.event.key.normal_key.NormalKeyEq.TheImpl.Laws as equal_laws
use Rattle.crossterm_types.specs.contracts.event.key.normal_key.NormalKeyOrd.TheImpl.Laws as order_laws
use Rattle.crossterm_types.specs.contracts.event.key.normal_key.NormalKeyPartialEq.TheImpl as normal_key
use Rattle.crossterm_types.specs.declared.event.key.KeyCode.{KeyCode}
use Rattle.crossterm_types.specs.declared.event.key.KeyEvent.{KeyEvent}
use Rattle.crossterm_types.specs.declared.event.key.KeyEventKind.{KeyEventKind}
use Rattle.crossterm_types.specs.declared.event.key.MediaKeyCode.{MediaKeyCode}
use Rattle.crossterm_types.specs.declared.event.key.ModifierKeyCode.{ModifierKeyCode}
use Rattle.crossterm_types.specs.declared.event.key.normal_key.NormalKey.{NormalKey}
use Rattle.crossterm_types.proofs.NormalForm.{normal-normal}
use Rattle.crossterm_types.proofs.Variants.{Tests, after_bare, bare_tests, one, same_value}

same_number : (a b : ℕ) → (a == b) ≡ true → a ≡ b
same_number a b = (unsigned_Decides a b).0

same_media : (a b : MediaKeyCode) → sameb media.the_type a b ≡ true → a ≡ b
same_media = same_true media.the_type tt

same_modifier : (a b : ModifierKeyCode) → sameb modifier.the_type a b ≡ true → a ≡ b
same_modifier = same_true modifier.the_type tt

same_kind : (a b : KeyEventKind) → kind.ghosts.eq a b ≡ true → a ≡ b
same_kind = same_true key_kind.the_type tt

-- The fields of a key code's variants from Media on, and from F on; and their tests. 14 variants without fields are before them, and 9 between.
abbrev media_on : List (List Field)
media_on = (media.the_field ∷ []) ∷ (modifier.the_field ∷ []) ∷ []

abbrev media_tests : Tests media_on
media_tests = (one media.the_field (sameb media.the_type) same_media, (one modifier.the_field (sameb modifier.the_type) same_modifier, tt))

abbrev number_on : List (List Field)
number_on = (u8-field ∷ []) ∷ (char-field ∷ []) ∷ after_bare 9 media_on

abbrev number_tests : Tests number_on
number_tests = (one u8-field ◌==◌ same_number, (one char-field ◌==◌ same_number, bare_tests 9 media_on media_tests))

same_code : (a b : KeyCode) → code.ghosts.eq a b ≡ true → a ≡ b
same_code a b h = same_value key_code.enum (bare_tests 14 number_on number_tests) a b h

same_modifiers : (a b : KeyModifiers) → modifiers.ghosts.eq a b ≡ true → a ≡ b
same_modifiers a b h i = record { 0 = same_number a.0 b.0 h i }

same_state : (a b : KeyEventState) → state.ghosts.eq a b ≡ true → a ≡ b
same_state a b h i = record { 0 = same_number a.0 b.0 h i }

same_fields : (a b : NormalKey) → normal_key.ghosts.eq a b ≡ true → a ≡ b
same_fields a b h =
    let later = second_so (code.ghosts.eq a.code b.code) _ h in
    let last = second_so (modifiers.ghosts.eq a.modifiers b.modifiers) _ later in
    λ i. record {
      code = same_code a.code b.code (first_so (code.ghosts.eq a.code b.code) _ h) i;
      modifiers = same_modifiers a.modifiers b.modifiers (first_so (modifiers.ghosts.eq a.modifiers b.modifiers) _ later) i;
      kind = same_kind a.kind b.kind (first_so (kind.ghosts.eq a.kind b.kind) _ last) i;
      state = same_state a.state b.state (second_so (kind.ghosts.eq a.kind b.kind) _ last) i;
    }

-- The key of some fields.
abbrev key_of : NormalKey → KeyEvent
key_of key = record { code = key.code; modifiers = key.modifiers; kind = key.kind; state = key.state }

-- Keys are equal if and only if their normal forms are the same.
pub equal-normal : (a b : KeyEvent) → IsTrue (key_eq a b) ↔ (normal a ≡ normal b)
equal-normal a b = (
  λ h. ap key_of (same_fields (compared a) (compared b) h),
  λ e. let Equal : KeyEvent → Type 0 = λ key. normal_key.ghosts.eq (compared a) (key_fields key) ≡ true in subst Equal e (equal_laws.laws-law.refl (compared a)),
)

-- A key equals its normal form.
pub equal-itself : (key : KeyEvent) → IsTrue (key_eq (normal key) key)
equal-itself key = (equal-normal (normal key) key).1 (normal-normal key)

-- Keys are equal if and only if their order says so.
pub equal-ordered : (a b : KeyEvent) → IsTrue (key_eq a b) ↔ (key_cmp a b ≡ Equal)
equal-ordered a b =
    let ties : key_eq a b ≡ is_eq (key_cmp a b) = order_laws.matches_eq-law (compared a) (compared b) in
    (λ h. (Equal-is _).0 (sym ties ∙ h), λ e. ties ∙ (Equal-is _).1 e)
