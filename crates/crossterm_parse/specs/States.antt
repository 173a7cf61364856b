-- Which bytes of an open sequence a state represents.
use Rattle.std.specs.Prelude.{◌≡◌, ℕ, ◌++◌, if◌then◌else◌, Bool, true, false, List, [], ◌∷◌, ◌<◌, drop}
use Rattle.std.specs.Str.{byte}
use Rattle.std.specs.List.{AllByRecursion}
use Rattle.crossterm_parse.specs.Bytes.{ESC}
use Rattle.crossterm_parse.specs.Grammar.{begins, IsLead, IsContinuing, IsDigit, EndsNumbered, EndsNoMouse, HasNoEnd, paste_mark, paste_start}
use Rattle.crossterm_parse.specs.Recognizer.{ends_paste, further_after}
use Rattle.crossterm_parse.specs.declared.character.Begun.{Begun}
use Rattle.crossterm_parse.specs.declared.character.Begun.TheVariants.{One, Two, Three}
use Rattle.crossterm_parse.specs.declared.mouse.X10Report.{X10Report}
use Rattle.crossterm_parse.specs.declared.number.Number.{Number}
use Rattle.crossterm_parse.specs.declared.numbered.Parameters.{Parameters}
use Rattle.crossterm_parse.specs.declared.paste.Met.{Met}
use Rattle.crossterm_parse.specs.declared.paste.Opening.{Opening}
use Rattle.crossterm_parse.specs.declared.state.State.{State}
use Rattle.crossterm_parse.specs.declared.state.State.TheVariants.{Ground, Escape, Ss3, Csi, LinuxKey, X10, Sgr, Private, Reply, Numbered, Paste, Utf8}
use Rattle.crossterm_parse.specs.Tracking.{Tracks, begun_bytes, KeptAgrees}
use Rattle.crossterm_parse.specs.declared.mouse.X10Report.TheVariants as x10
use Rattle.crossterm_parse.specs.declared.paste.Met.TheVariants as met
use Rattle.crossterm_parse.specs.declared.paste.Opening.TheVariants as opening

-- True if a paste is open.
abbrev pub is_paste : State → Bool
is_paste (Paste m) = true
is_paste _ = false

-- The bytes of an open report that came after `ESC [ M`.
abbrev pub x10_bytes : X10Report → List ℕ
x10_bytes x10.Empty = []
x10_bytes (x10.Code a) = a ∷ []
x10_bytes (x10.Column a b) = a ∷ b ∷ []

-- The bytes of a paste's end that were met.
abbrev pub met_bytes : Met → List ℕ
met_bytes met.Nothing = []
met_bytes met.Escape = ESC ∷ []
met_bytes met.Bracket = ESC ∷ byte "[" ∷ []
met_bytes met.Two = ESC ∷ byte "[" ∷ byte "2" ∷ []
met_bytes met.Zero = ESC ∷ byte "[" ∷ byte "2" ∷ byte "0" ∷ []
met_bytes met.One = ESC ∷ byte "[" ∷ byte "2" ∷ byte "0" ∷ byte "1" ∷ []

-- The bytes, with an ESC in front if `escaped`.
abbrev pub prefixed : Bool → List ℕ → List ℕ
prefixed escaped bytes = if escaped then ESC ∷ bytes else bytes

-- The bytes begin a character that needs more of them.
abbrev pub IsBegun : Begun → Type 0
IsBegun (One a) = IsLead a
IsBegun (Two a b) = IsLead a × IsContinuing b × (0 < further_after a)
IsBegun (Three a b c) = IsLead a × IsContinuing b × IsContinuing c × (1 < further_after a)

-- A reply that is open: its bytes after `?`, of which none ends it, and the number that they are so far.
pub record OpenReply (n : Number) (bytes : List ℕ) : Type 0 where
  pub first : ℕ
  pub more : List ℕ
  pub is : bytes ≡ ESC ∷ byte "[" ∷ byte "?" ∷ first ∷ more
  pub no_end : HasNoEnd (first ∷ more)
  pub tracks : Tracks (first ∷ more) n

-- A mouse report that is open: its bytes after `ESC [ <`, of which none ends it.
pub record OpenMouse (d : Parameters) (bytes : List ℕ) : Type 0 where
  pub more : List ℕ
  pub is : bytes ≡ ESC ∷ byte "[" ∷ byte "<" ∷ more
  pub no_end : AllByRecursion EndsNoMouse more
  pub kept : KeptAgrees d more

-- How much of `200~` a text is; `Not` says that neither it nor any longer text begins with that.
abbrev pub IsOpening : Opening → List ℕ → Type 0
IsOpening opening.Two text = text ≡ byte "2" ∷ []
IsOpening opening.Zero text = text ≡ byte "2" ∷ byte "0" ∷ []
IsOpening opening.Zeros text = text ≡ byte "2" ∷ byte "0" ∷ byte "0" ∷ []
IsOpening opening.Not text = (more : List ℕ) → begins paste_mark (text ++ more) ≡ false

-- A paste that is open. Which bytes end it depends only on how much of its end was met.
pub record OpenPaste (m : Met) (bytes : List ℕ) : Type 0 where
  -- The bytes that came after `ESC [ 200~`.
  pub text : List ℕ
  pub is : bytes ≡ paste_start ++ text
  -- They end with the part of `ESC [ 201~` that was met.
  pub before : List ℕ
  pub ends : text ≡ before ++ met_bytes m
  -- Whatever comes next, it ends the paste exactly if it ends one that begins with that part alone.
  pub alike : (more : List ℕ) → ends_paste (text ++ more) ≡ ends_paste (met_bytes m ++ more)

-- A numbered sequence that is open: a digit after `ESC [`, and bytes behind it of which none is final.
pub record OpenNumber (d : Parameters) (o : Opening) (bytes : List ℕ) : Type 0 where
  pub digit : ℕ
  pub more : List ℕ
  pub is : bytes ≡ ESC ∷ byte "[" ∷ digit ∷ more
  pub is_digit : IsDigit digit
  pub no_final : AllByRecursion (λ b. ¬ EndsNumbered b) more
  pub kept : KeptAgrees d (digit ∷ more)
  pub opens : IsOpening o (digit ∷ more)

-- A state represents these bytes of an open sequence; in the ground state there are none.
abbrev pub StateRepresents : State → List ℕ → Type 0
StateRepresents Ground bytes = bytes ≡ []
StateRepresents Escape bytes = bytes ≡ ESC ∷ []
StateRepresents Ss3 bytes = bytes ≡ ESC ∷ byte "O" ∷ []
StateRepresents Csi bytes = bytes ≡ ESC ∷ byte "[" ∷ []
StateRepresents LinuxKey bytes = bytes ≡ ESC ∷ byte "[" ∷ byte "[" ∷ []
StateRepresents (X10 c) bytes = bytes ≡ ESC ∷ byte "[" ∷ byte "M" ∷ x10_bytes c
StateRepresents (Sgr d) bytes = OpenMouse d bytes
StateRepresents Private bytes = bytes ≡ ESC ∷ byte "[" ∷ byte "?" ∷ []
StateRepresents (Reply n) bytes = OpenReply n bytes
StateRepresents (Numbered d o) bytes = OpenNumber d o bytes
StateRepresents (Paste m) bytes = OpenPaste m bytes
StateRepresents (Utf8 c) bytes = (bytes ≡ prefixed c.escaped (begun_bytes c.begun)) × IsBegun c.begun

-- The text of an open paste: what came after its start. It is empty if no paste is open.
abbrev pub kept_text : State → List ℕ → List ℕ
kept_text state bytes = if is_paste state then drop 6 bytes else []
