-- Commands as numbers, and their texts. The numbers are those of `bindings/c/gelvanh.h`. A command's kind is its
-- place in the list of all commands, and a variant of an enum is its place in declared order.
use Rattle.std.specs.Prelude.{◌≡◌, ◌<◌, ◌==◌, ℕ, ◌+◌, nat_le, nat_lt, if◌then◌else◌, ⊤, Bool, List, [], ◌∷◌, ◌++◌, length, take, drop, codes, slice_get, Option, Some, None}
use Rattle.std.specs.Str.{IsUtf8}
use Rattle.std.specs.Option.{option_map}
use Rattle.crossterm_command.specs.Controls.{control, private, reset, set}
use Rattle.base64.specs.Engines.{standard}
use Rattle.base64.specs.GeneralPurpose.{encode_of}
use Rattle.crossterm_command.specs.Tokens.{Token, text_of}
use Rattle.crossterm_command.specs.Tokens.OscEnd.{St}
use Rattle.crossterm_command.specs.Tokens.Token.{Osc}
use Rattle.crossterm_command.specs.declared.color_output.ColorOutput.{ColorOutput}
use Rattle.crossterm_command.specs.declared.color_output.ColorOutput.TheVariants.{Enabled, Disabled}
use Rattle.crossterm_style.specs.Acts.{attribute_acts, style_acts}
use Rattle.crossterm_style.specs.Styles.{attribute_functions, color_functions, colors_functions, reset_functions, styled_text, act_tokens}
use Rattle.crossterm_style.specs.declared.content_style.ContentStyle.{ContentStyle}
use Rattle.crossterm_style.specs.declared.types.color.Color.{Color}
use Rattle.crossterm_style.specs.declared.types.colored.Colored.TheVariants.{ForegroundColor, BackgroundColor, UnderlineColor}
use Rattle.crossterm_style.specs.declared.types.colors.Colors.{Colors}
use Rattle.crossterm.specs.Sequences.{all_shapes, by, clear, cursor_style, disable_mouse, enable_mouse, move_to, push_flags, scroll, set_size}
use Rattle.crossterm.specs.declared.cursor.SetCursorStyle.{SetCursorStyle}
use Rattle.crossterm.specs.declared.terminal.ClearType.{ClearType}
use Rattle.crossterm_flags.specs.Variants.{all}
use Rattle.crossterm.specs.Values.{clears}
use Rattle.numbers.specs.Style.{attribute_at, attributes_at, color_of_kind, style_at, there_at}
use Rattle.crossterm_c.specs.declared.command.GelvanhCommand.{GelvanhCommand}
use Rattle.crossterm_c.specs.declared.outlet.Outcome.{Outcome}
use Rattle.crossterm_c.specs.declared.outlet.Outcome.TheVariants.{Written, TooSmall, NamesNothing, Failed}

-- The cursor's shape at a place in declared order, or `None` if there is none.
abbrev pub shape_at : ℕ → Option SetCursorStyle
shape_at n = slice_get all_shapes n

-- What is cleared, by its place in declared order, or `None` if there is none.
abbrev pub cleared_at : ℕ → Option ClearType
cleared_at n = slice_get (all clears) n

-- The style of a command's three colours and attributes, or `None` if one of them isn't valid.
abbrev pub command_style : GelvanhCommand → Option ContentStyle
command_style c = style_at (record { foreground = c.foreground; background = c.background; underline = c.underline; attributes = c.attributes })

-- The text of a command of the cursor, which has a kind from 0 to 15. Other kinds and unknown shapes give `None`.
abbrev pub cursor_text : GelvanhCommand → Option (List ℕ)
cursor_text c =
    if c.kind == 0 then Some (text_of (move_to c.first c.second)) else
    if c.kind == 1 then Some (text_of (by (c.first + 1) "G")) else
    if c.kind == 2 then Some (text_of (by (c.first + 1) "d")) else
    if c.kind == 3 then Some (text_of (by c.first "E")) else
    if c.kind == 4 then Some (text_of (by c.first "F")) else
    if c.kind == 5 then Some (text_of (by c.first "A")) else
    if c.kind == 6 then Some (text_of (by c.first "B")) else
    if c.kind == 7 then Some (text_of (by c.first "C")) else
    if c.kind == 8 then Some (text_of (by c.first "D")) else
    if c.kind == 9 then Some (text_of (private "7")) else
    if c.kind == 10 then Some (text_of (private "8")) else
    if c.kind == 11 then Some (text_of (reset "25")) else
    if c.kind == 12 then Some (text_of (set "25")) else
    if c.kind == 13 then Some (text_of (set "12")) else
    if c.kind == 14 then Some (text_of (reset "12")) else
    if c.kind == 15 then option_map (λ s. text_of (cursor_style s)) (shape_at c.first) else
    None

-- The text of a command of the terminal, which has a kind from 16 to 26, but for 24. Other kinds, and unknown
-- clearings, give `None`.
abbrev pub terminal_text : GelvanhCommand → Option (List ℕ)
terminal_text c =
    if c.kind == 16 then Some (text_of (reset "7")) else
    if c.kind == 17 then Some (text_of (set "7")) else
    if c.kind == 18 then Some (text_of (set "1049")) else
    if c.kind == 19 then Some (text_of (reset "1049")) else
    if c.kind == 20 then option_map (λ s. text_of (clear s)) (cleared_at c.first) else
    if c.kind == 21 then Some (text_of (scroll c.first "S")) else
    if c.kind == 22 then Some (text_of (scroll c.first "T")) else
    if c.kind == 23 then Some (text_of (set_size c.first c.second)) else
    if c.kind == 25 then Some (text_of (set "2026")) else
    if c.kind == 26 then Some (text_of (reset "2026")) else
    None

-- The text of a command that chooses which events a terminal reports, of a kind from 27 to 34. Other kinds, and flags
-- above 255, give `None`.
abbrev pub report_text : GelvanhCommand → Option (List ℕ)
report_text c =
    if c.kind == 27 then Some (text_of enable_mouse) else
    if c.kind == 28 then Some (text_of disable_mouse) else
    if c.kind == 29 then Some (text_of (set "1004")) else
    if c.kind == 30 then Some (text_of (reset "1004")) else
    if c.kind == 31 then Some (text_of (set "2004")) else
    if c.kind == 32 then Some (text_of (reset "2004")) else
    if c.kind == 33 then (if nat_le c.first 255 then Some (text_of (push_flags c.first)) else None) else
    if c.kind == 34 then Some (text_of (control (codes "<1") "u")) else
    None

-- A foreground and a background, each of which may be missing, or `None` if one isn't valid.
abbrev colors_by : Option (Option Color) → Option (Option Color) → Option Colors
colors_by (Some f) (Some b) = Some (record { foreground = f; background = b })
colors_by _ _ = None

-- The foreground and the background of a command, each of which may be missing, or `None` if one isn't valid.
abbrev pub colors_at : GelvanhCommand → Option Colors
colors_at c = colors_by (there_at c.foreground) (there_at c.background)

-- The text of a command of colours, attributes or a style, of a kind from 35 to 43, but for 42. Other kinds and
-- invalid parts give `None`.
abbrev pub style_text : ColorOutput → GelvanhCommand → Option (List ℕ)
style_text colors c =
    if c.kind == 35 then option_map (λ s. text_of (color_functions colors (ForegroundColor s))) (color_of_kind c.foreground) else
    if c.kind == 36 then option_map (λ s. text_of (color_functions colors (BackgroundColor s))) (color_of_kind c.background) else
    if c.kind == 37 then option_map (λ s. text_of (color_functions colors (UnderlineColor s))) (color_of_kind c.underline) else
    if c.kind == 38 then option_map (λ s. text_of (colors_functions colors s.foreground s.background)) (colors_at c) else
    if c.kind == 39 then option_map (λ s. text_of (attribute_functions s)) (attribute_at c.first) else
    if c.kind == 40 then option_map (λ s. text_of (act_tokens colors (attribute_acts s.0))) (attributes_at c.attributes) else
    if c.kind == 41 then option_map (λ s. text_of (act_tokens colors (style_acts s))) (command_style c) else
    if c.kind == 43 then Some (text_of reset_functions) else
    None

-- The text of a command that needs no text from its caller, or `None` if the numbers name none.
abbrev pub command_text : ColorOutput → GelvanhCommand → Option (List ℕ)
command_text colors c =
    if nat_lt c.kind 16 then cursor_text c else
    if nat_lt c.kind 27 then terminal_text c else
    if nat_lt c.kind 35 then report_text c else
    style_text colors c

-- A text in a style, or `None` if there is no style.
abbrev printed_by : ColorOutput → Option ContentStyle → List ℕ → Option (List ℕ)
printed_by colors (Some style) text = styled_text colors style (Some text)
printed_by colors None text = None

-- A text in the style of a command, or `None` if the style isn't valid.
abbrev pub printed : ColorOutput → GelvanhCommand → List ℕ → Option (List ℕ)
printed colors c text = printed_by colors (command_style c) text

-- The operating system command 52, which copies bytes in base64 to the places of these letters.
abbrev pub copied : List ℕ → List ℕ → List Token
copied content places = Osc (codes "52;" ++ (places ++ (codes ";" ++ encode_of standard content))) St ∷ []

-- What a call answers that writes a text into a slice.
-- `Written`: the text is at the front of the slice, the rest of it is unchanged, and `n` is the text's length.
-- `TooSmall`: the slice is shorter than the text and unchanged, and `n` is the text's length.
-- `Failed`: `n` is 0, and the slice may have any bytes. `NamesNothing` isn't answered.
abbrev pub AnswersSlice : List ℕ → List ℕ → List ℕ → ℕ → Outcome → Type 0
AnswersSlice text old new n Written = (n ≡ length text) × (take n new ≡ text) × (drop n new ≡ drop n old)
AnswersSlice text old new n TooSmall = (n ≡ length text) × (length old < n) × (new ≡ old)
AnswersSlice text old new n NamesNothing = ⊥
AnswersSlice text old new n Failed = n ≡ 0

-- What a call answers if the numbers may name nothing. Exactly then it answers `NamesNothing`, nothing was written,
-- and `n` is 0.
abbrev pub AnswersTo : Option (List ℕ) → List ℕ → List ℕ → ℕ → Outcome → Type 0
AnswersTo (Some text) old new n outcome = AnswersSlice text old new n outcome
AnswersTo None old new n outcome = (outcome ≡ NamesNothing) × (n ≡ 0) × (new ≡ old)

-- What a call answers if a text has to be UTF-8. A text that isn't UTF-8 names nothing.
abbrev pub AnswersText : List ℕ → Option (List ℕ) → List ℕ → List ℕ → ℕ → Outcome → Type 0
AnswersText utf8 text old new n outcome = (IsUtf8 utf8 → AnswersTo text old new n outcome) × (¬ IsUtf8 utf8 → AnswersTo None old new n outcome)

-- The choice of colours: `Enabled` if they are written, otherwise `Disabled`.
abbrev pub output_of : Bool → ColorOutput
output_of colors = if colors then Enabled else Disabled

-- The outcome at a place in declared order, or `None` if there is none.
abbrev pub outcome_at : ℕ → Option Outcome
outcome_at n = slice_get (Written ∷ TooSmall ∷ NamesNothing ∷ Failed ∷ []) n

-- The outcome isn't `Failed`.
abbrev pub HasNotFailed : Outcome → Type 0
HasNotFailed Written = ⊤
HasNotFailed TooSmall = ⊤
HasNotFailed NamesNothing = ⊤
HasNotFailed Failed = ⊥
